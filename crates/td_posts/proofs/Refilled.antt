-- Buffers that are filled one after the other. Cited by other crates.
use Rattle.std.proofs.Common.{◌≡◌, ℕ, zero, suc, ◌<◌, ◌≤◌, List, [], ◌∷◌, length, take, refl, sym, ap, ◌∙◌, subst, arith, slice_index_or, slice_set}
use Rattle.td_stream.specs.Copies.{BufferView, held_by, rooms_of}
use Rattle.td_posts.specs.Posts.{HaveRoom}

-- the first k hold what the first of the others hold, and the rest are as they were
abbrev pub refilled : ℕ → List BufferView → List BufferView → List BufferView
refilled zero others buffers = buffers
refilled (suc k) [] buffers = buffers
refilled (suc k) (h ∷ others) [] = []
refilled (suc k) (h ∷ others) (b ∷ buffers) = record { held = h.held; room = b.room } ∷ refilled k others buffers

pub refilled_next : (others buffers : List BufferView) (k : ℕ) (d e v : BufferView) → k < length buffers → k < length others → v.held ≡ (slice_index_or others k e).held → v.room ≡ (slice_index_or (refilled k others buffers) k d).room
    → slice_set (refilled k others buffers) k v ≡ refilled (suc k) others buffers
refilled_next others [] k d e v lt le h r = absurd (omega (arith, lt))
refilled_next [] (b ∷ bs) k d e v lt le h r = absurd (omega (arith, le))
refilled_next (o ∷ os) (b ∷ bs) zero d e v lt le h r = λ i. record { held = h i; room = r i } ∷ bs
refilled_next (o ∷ os) (b ∷ bs) (suc k) d e v lt le h r = ap (λ xs. record { held = o.held; room = b.room } ∷ xs) (refilled_next os bs k d e v (omega (arith, lt)) (omega (arith, le)) h r)

pub refilled_room : (others buffers : List BufferView) (k j : ℕ) (d : BufferView) → (slice_index_or (refilled k others buffers) j d).room ≡ (slice_index_or buffers j d).room
refilled_room others buffers zero j d = refl
refilled_room [] buffers (suc k) j d = refl
refilled_room (o ∷ os) [] (suc k) j d = refl
refilled_room (o ∷ os) (b ∷ bs) (suc k) zero d = refl
refilled_room (o ∷ os) (b ∷ bs) (suc k) (suc j) d = refilled_room os bs k j d

pub refilled_count : (others buffers : List BufferView) (k : ℕ) → length (refilled k others buffers) ≡ length buffers
refilled_count others buffers zero = refl
refilled_count [] buffers (suc k) = refl
refilled_count (o ∷ os) [] (suc k) = refl
refilled_count (o ∷ os) (b ∷ bs) (suc k) = ap suc (refilled_count os bs k)

pub refilled_rooms : (others buffers : List BufferView) (k : ℕ) → rooms_of (refilled k others buffers) ≡ rooms_of buffers
refilled_rooms others buffers zero = refl
refilled_rooms [] buffers (suc k) = refl
refilled_rooms (o ∷ os) [] (suc k) = refl
refilled_rooms (o ∷ os) (b ∷ bs) (suc k) = ap (λ xs. b.room ∷ xs) (refilled_rooms os bs k)

pub refilled_all : (others buffers : List BufferView) (k : ℕ) → k ≡ length buffers → length buffers ≤ length others → held_by (refilled k others buffers) ≡ held_by (take (length buffers) others)
refilled_all others [] zero e le = refl
refilled_all others [] (suc k) e le = absurd (omega (arith, e))
refilled_all [] (b ∷ bs) k e le = absurd (omega (arith, le))
refilled_all (o ∷ os) (b ∷ bs) zero e le = absurd (omega (arith, e))
refilled_all (o ∷ os) (b ∷ bs) (suc k) e le = ap (λ xs. o.held ∷ xs) (refilled_all os bs k (omega (arith, e)) (omega (arith, le)))

-- ---- room

-- there are as many to fill as are held
pub room_count : (rooms : List ℕ) (held : List (List ℕ)) → HaveRoom rooms held → length held ≡ length rooms
room_count [] [] h = refl
room_count [] (c ∷ cs) h = absurd h
room_count (r ∷ rs) [] h = absurd h
room_count (r ∷ rs) (c ∷ cs) h = ap suc (room_count rs cs h.1)

-- so many of the others there are
pub enough : (others buffers : List BufferView) → HaveRoom (rooms_of buffers) (held_by (take (length buffers) others)) → length buffers ≤ length others
enough others [] h = omega arith
enough [] (b ∷ bs) h = absurd h
enough (o ∷ os) (b ∷ bs) h = let rest = enough os bs h.1 in omega (arith, rest)

-- each of which has room
pub room_at : (others buffers : List BufferView) (k : ℕ) (d e : BufferView) → HaveRoom (rooms_of buffers) (held_by (take (length buffers) others)) → k < length buffers
    → length (slice_index_or others k e).held ≤ (slice_index_or buffers k d).room
room_at others [] k d e h lt = absurd (omega (arith, lt))
room_at [] (b ∷ bs) k d e h lt = absurd h
room_at (o ∷ os) (b ∷ bs) zero d e h lt = h.0
room_at (o ∷ os) (b ∷ bs) (suc k) d e h lt = room_at os bs k d e h.1 (omega (arith, lt))

-- the first so many, where so many are there
pub take_count : (k n : ℕ) (others : List BufferView) → length (take k others) ≡ n → take n others ≡ take k others
take_count zero zero others e = refl
take_count zero (suc n) others e = absurd (omega (arith, e))
take_count (suc k) zero [] e = refl
take_count (suc k) (suc n) [] e = absurd (omega (arith, e))
take_count (suc k) zero (o ∷ os) e = absurd (omega (arith, e))
take_count (suc k) (suc n) (o ∷ os) e = ap (λ xs. o ∷ xs) (take_count k n os (omega (arith, e)))

held_count : (buffers : List BufferView) → length (held_by buffers) ≡ length buffers
held_count [] = refl
held_count (b ∷ bs) = ap suc (held_count bs)

pub rooms_count : (buffers : List BufferView) → length (rooms_of buffers) ≡ length buffers
rooms_count [] = refl
rooms_count (b ∷ bs) = ap suc (rooms_count bs)

-- where what the first k of the others hold fits these rooms, it is what is put into buffers with these rooms
pub first_same : (rooms : List ℕ) (k : ℕ) (others buffers : List BufferView) → rooms_of buffers ≡ rooms → HaveRoom rooms (held_by (take k others)) → take (length buffers) others ≡ take k others
first_same rooms k others buffers e h =
    take_count k (length buffers) others
    (sym (held_count (take k others)) ∙ room_count rooms (held_by (take k others)) h ∙ sym (ap length e) ∙ rooms_count buffers)

pub first_fits : (rooms : List ℕ) (k : ℕ) (others buffers : List BufferView) → rooms_of buffers ≡ rooms → HaveRoom rooms (held_by (take k others))
    → HaveRoom (rooms_of buffers) (held_by (take (length buffers) others))
first_fits rooms k others buffers e h =
    subst (λ (x : List ℕ × List BufferView). HaveRoom x.0 (held_by x.1)) (λ i. (sym e i, sym (first_same rooms k others buffers e h) i)) h
