-- The room of chains of calls.
use Rattle.std.proofs.Common.{◌≡◌, ℕ, zero, suc, ◌+◌, ◌-◌, ◌*◌, ◌<◌, ◌≤◌, max, List, [], ◌∷◌, ◌++◌, length, map, slice_index, ⊎_elim, sym, refl, ap, ◌∙◌, subst, arith, take}
use Rattle.std.proofs.lemmas.Bool.{cases_lt}
use Rattle.std.proofs.lemmas.List.{take-take, take-append-le, get_or-map, length-map, map-append}
use Rattle.std.proofs.Math.ListN.{get_or-append}
use Rattle.std.proofs.Math.Seq.{get_or-append_seam}
use Rattle.td_num.specs.Numbers.{places_from}
use Rattle.td_vm.specs.Imports.{Entry, Parts, Shape, Straight, Jump, Branch, Call, Return, Fail, While, Again, Open, Close, TraceRoom, CodeView}
use Rattle.td_stream.specs.Copies.{BufferView, rooms_of}
use Rattle.td_ir.specs.Tables.{routine_of, entry_of, lengths_of, begin, first_of, end_of as end_at}
use Rattle.td_ir.specs.Entries.{Fits}
use Rattle.td_verify.specs.Shape.{shapes_of}
use Rattle.td_verify.specs.Brackets.{shape_at}
use Rattle.td_verify.specs.Rules.{CallsWell}
use Rattle.td_verify.specs.Verify.{IsIn, depths}
use Rattle.td_vm.specs.Need.{called, greatest, need, room_below, most, greatest_of, entry_cells, entry_rooms, most_entry_cells, most_buffers, most_room, most_rooms, registers, cells, level}
use Rattle.td_vm.specs.Frames.{FrameView, AreBegins, IsArmed}
use Rattle.td_verify_runs.specs.Stretches.{IsRunnable}
use Rattle.td_vm.specs.Machine.{HasEntryRoom, AreRoomy}
use Rattle.td_vm.proofs.Calls.{own_need}
use Rattle.td_vm.proofs.Places.{own_place, own_snoc, length_places}

greatest_same : (s : List Shape) (f g : ℕ → ℕ) (from n : ℕ) → ((k : ℕ) → k < n → called f (shape_at s (from + k)) ≡ called g (shape_at s (from + k))) → greatest s f from n ≡ greatest s g from n
greatest_same s f g from zero h = refl
greatest_same s f g from (suc n) h =
    ap (λ x. max x (called f (shape_at s (from + n)))) (greatest_same s f g from n (λ k l. h k (omega (arith, l)))) ∙ ap (max (greatest s g from n)) (h n (omega arith))

called_same : (f g : ℕ → ℕ) (n : ℕ) (ds : List ℕ) (j : Shape) → ((m : ℕ) → m < n → f m ≡ g m) → CallsWell ds n j → called f j ≡ called g j
called_same f g n ds (Call m) h w = h m w.0
called_same f g n ds (Straight b w') h w = refl
called_same f g n ds (Jump t) h w = refl
called_same f g n ds (Branch t) h w = refl
called_same f g n ds Return h w = refl
called_same f g n ds Fail h w = refl
called_same f g n ds (While t) h w = refl
called_same f g n ds (Again t) h w = refl
called_same f g n ds (Open k) h w = refl
called_same f g n ds Close h w = refl

-- by a table of the routines so far
pub room_told : (f : ℕ → ℕ) (c : Parts) (n from to : ℕ) (needs : List ℕ) → IsRunnable c → n < length c.routines → ((m : ℕ) → m < n → slice_index needs m ≡ f m + room_below f c m) → from ≡ first_of c n → to ≡ end_at c n → greatest (shapes_of c) (λ m. slice_index needs m) from (to - from) ≡ room_below f c n
room_told f c n from to needs r l h e d =
    let S = shapes_of c in
    let F = need f S (lengths_of c) n in
    let count : to - from ≡ slice_index (lengths_of c) n = omega (arith, e, d) in
    ap (λ x. greatest S (λ m. slice_index needs m) x (to - from)) e
    ∙ ap (greatest S (λ m. slice_index needs m) (begin (lengths_of c) n)) count
    ∙ greatest_same S (λ m. slice_index needs m) F (begin (lengths_of c) n) (slice_index (lengths_of c) n) (λ k q.
    let i : IsIn c n (begin (lengths_of c) n + k) = record { routine = l; from = omega arith; to = omega (arith, q) } in
    called_same (λ m. slice_index needs m) F n (depths S (lengths_of c) n) (shape_at S (begin (lengths_of c) n + k)) (λ m z. h m z ∙ sym (own_need f c n m z)) (r.safe.each n (begin (lengths_of c) n + k) i).calls)

-- a table with one more entry
pub told_more : (F : ℕ → ℕ) (xs : List ℕ) (n x : ℕ) → length xs ≡ n → ((m : ℕ) → m < n → slice_index xs m ≡ F m) → x ≡ F n → (m : ℕ) → m < n + 1 → slice_index (xs ++ x ∷ []) m ≡ F m
told_more F xs n x e h k m l = ⊎_elim
    (λ (q : m < n). get_or-append xs (x ∷ []) 0 m (omega (arith, q, e)) ∙ h m q)
    (λ q. let z : m ≡ n = omega (arith, l, q) in ap (slice_index (xs ++ x ∷ [])) (z ∙ sym e) ∙ get_or-append_seam xs x [] 0 ∙ k ∙ ap F (sym z))
    (cases_lt m n)

nothing_past : (xs : List ℕ) (m : ℕ) → length xs ≤ m → slice_index xs m ≡ 0
nothing_past [] m h = refl
nothing_past (x ∷ xs) zero h = absurd (omega arith)
nothing_past (x ∷ xs) (suc m) h = nothing_past xs m (omega (arith, h))

-- entries of a table of needs are small, those that it hasn't too
pub told_small : (xs : List ℕ) (n bound : ℕ) → length xs ≡ n → ((m : ℕ) → m < n → slice_index xs m ≤ 196605 * (m + 1)) → (m : ℕ) → (m < n → 196605 * (m + 1) ≤ bound) → slice_index xs m ≤ bound
told_small xs n bound e h m l = ⊎_elim
    (λ (q : m < n). let a = h m q in let b = l q in omega (arith, a, b))
    (λ q. let a = nothing_past xs m (omega (arith, q, e)) in omega (arith, a))
    (cases_lt m n)

pub small_more : (xs : List ℕ) (n x : ℕ) → length xs ≡ n → ((m : ℕ) → m < n → slice_index xs m ≤ 196605 * (m + 1)) → x ≤ 196605 * (n + 1) → (m : ℕ) → m < n + 1 → slice_index (xs ++ x ∷ []) m ≤ 196605 * (m + 1)
small_more xs n x e h k m l = ⊎_elim
    (λ (q : m < n). let a = get_or-append xs (x ∷ []) 0 m (omega (arith, q, e)) in let b = h m q in omega (arith, a, b))
    (λ q.
    let z : m ≡ n = omega (arith, l, q) in
    let a : slice_index (xs ++ x ∷ []) m ≡ x = ap (slice_index (xs ++ x ∷ [])) (z ∙ sym e) ∙ get_or-append_seam xs x [] 0 in
    omega (arith, a, k, z))
    (cases_lt m n)

-- the greatest need is one of each
most_at : (f : ℕ → ℕ) (c : Parts) (n k : ℕ) → k < n → f k + room_below f c k ≤ most f c n
most_at f c zero k h = absurd (omega arith)
most_at f c (suc n) k h = ⊎_elim
    (λ (q : k < n). let a = most_at f c n k q in omega (arith, a))
    (λ q. let z : k ≡ n = omega (arith, h, q) in let a = ap (λ m. f m + room_below f c m) z in omega (arith, a))
    (cases_lt k n)

-- a frame that was armed for code has room for each of its entry points
pub entry_ready : (e : CodeView) (f : FrameView) (entry : Entry) (args places spare : List ℕ) (t : TraceRoom) → IsRunnable e.parts.now → IsArmed e.parts.now f → Fits e.parts.now entry args f.cells → e.begins.now ≡ f.begins → length places ≡ f.place_room → length spare ≡ f.register_room → length t.frames.items ≡ f.trace_room → HasEntryRoom e (entry_of e.parts.now entry.number).routine places spare t
entry_ready e f entry args places spare t r a h b p s l =
    let c = e.parts.now in
    let n = (entry_of c entry.number).routine in
    let there : n < length c.routines = (r.code.entries entry.number h.there).there in
    let x = most_at (cells c) c (length c.routines) n there in
    let y = most_at (registers c) c (length c.routines) n there in
    let z = most_at level c (length c.routines) n there in
    record {
      runnable = r;
      begins = subst (AreBegins c) (sym b) a.begins;
      routine = there;
      place_room = omega (arith, x, p, a.place_room);
      register_room = omega (arith, y, s, a.register_room);
      trace_room = omega (arith, z, l, a.trace_room);
    }

-- the front of a list of which the front was changed
pub front_kept : {X : Type 0} (k n : ℕ) (xs ys : List X) → k ≤ n → k ≤ length xs → take k (take n (xs ++ ys)) ≡ take k xs
front_kept k n xs ys h l = take-take k n (xs ++ ys) h ∙ take-append-le k xs ys l

-- the greatest is no less than what is said of each
greatest_at : (f : ℕ → ℕ) (n k : ℕ) → k < n → f k ≤ greatest_of f n
greatest_at f zero k h = absurd (omega arith)
greatest_at f (suc n) k h = ⊎_elim
    (λ (q : k < n). let a = greatest_at f n k q in omega (arith, a))
    (λ q. let z : k ≡ n = omega (arith, h, q) in let a = ap f z in omega (arith, a))
    (cases_lt k n)

pub entry_fits : (c : Parts) (k : ℕ) → k < length c.entries → entry_cells c k ≤ most_entry_cells c
entry_fits c k h = greatest_at (entry_cells c) (length c.entries) k h

-- cells that fit an entry point
pub fitting_cells : (c : Parts) (entry : Entry) (args cells : List ℕ) → Fits c entry args cells → length cells ≤ most_entry_cells c
fitting_cells c entry args cells h = let a = entry_fits c entry.number h.there in omega (arith, a, h.cell_count)

-- the greatest rooms are room for each entry point's buffers
pub entry_roomy : (c : Parts) (k : ℕ) → k < length c.entries → AreRoomy (entry_rooms c k) (most_rooms c)
entry_roomy c k h =
    let all = places_from 0 (most_buffers c) in
    let count : length (most_rooms c) ≡ most_buffers c = length-map all (most_room c) ∙ length_places (most_buffers c) 0 in
    let most = greatest_at (λ n. length (entry_rooms c n)) (length c.entries) k h in
    record {
      count = omega (arith, most, count);
      each = λ j l.
          let there : j < length all = (let e = length_places (most_buffers c) 0 in omega (arith, l, most, e)) in
          let place : slice_index all j ≡ j = (let e = own_place (most_buffers c) 0 j (omega (arith, l, most)) in omega (arith, e)) in
          let is : slice_index (most_rooms c) j ≡ most_room c j = get_or-map (most_room c) all j 0 0 there ∙ ap (most_room c) place in
          let a = greatest_at (λ n. slice_index (entry_rooms c n) j) (length c.entries) k h in
          omega (arith, a, is);
    }

-- buffers of these rooms are no fewer than an entry point's
pub entry_few : (c : Parts) (k : ℕ) (copies : List BufferView) → k < length c.entries → rooms_of copies ≡ most_rooms c → length (entry_rooms c k) ≤ length copies
entry_few c k copies h e =
    let few = (entry_roomy c k h).count in
    let many = length-map copies (λ (v : BufferView). v.room) in
    let long = ap length e in
    omega (arith, few, many, long)

-- the same of an entry point's routine
pub entry_lends : (c : Parts) (k n : ℕ) (copies : List BufferView) → k < length c.entries → rooms_of copies ≡ most_rooms c → (entry_of c k).routine ≡ n → length (routine_of c n).buffers ≤ length copies
entry_lends c k n copies h e is = subst (λ (m : ℕ). length (routine_of c m).buffers ≤ length copies) is (entry_few c k copies h e)

-- rooms that are listed one after the other
pub rooms_more : (f : ℕ → ℕ) (xs : List ℕ) (n x : ℕ) → xs ≡ map f (places_from 0 n) → x ≡ f n → xs ++ x ∷ [] ≡ map f (places_from 0 (n + 1))
rooms_more f xs n x h e =
    let z : n ≡ 0 + n = omega arith in
    let s : n + 1 ≡ suc n = omega arith in
    ap (λ ys. ys ++ x ∷ []) h
    ∙ ap (λ y. map f (places_from 0 n) ++ y ∷ []) (e ∙ ap f z)
    ∙ sym (map-append f (places_from 0 n) ((0 + n) ∷ []))
    ∙ ap (map f) (sym (own_snoc n 0) ∙ ap (places_from 0) (sym s))
