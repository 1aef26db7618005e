-- What copy buffers hold at the end fits their rooms.
use Rattle.std.proofs.Common.{◌≡◌, ℕ, zero, suc, ◌+◌, ◌*◌, ◌<◌, ◌≤◌, List, [], ◌∷◌, ◌++◌, length, map, take, drop, replicate, length-append, refl, sym, ap, ◌∙◌, subst, arith, Some}
use Rattle.std.specs.Prelude.{slice_get, slice_index}
use Rattle.std.proofs.lemmas.List.{get_or-drop, length-map, length-drop, length-replicate, get_or-append-add}
use Rattle.td_num.specs.Numbers.{places_from}
use Rattle.td_num.proofs.Lists.{index_places, index_zeros}
use Rattle.td_meaning.specs.Imports.{Buffer, Module, Entry}
use Rattle.td_core.specs.Outcome.{Behavior, Ending, Accepted, Rejected, bytes_at, copies_by, outcome_of}
use Rattle.td_core.specs.Entries.{entry_definition}
use Rattle.td_core.proofs.Found.{entry_found}
use Rattle.td_meaning.specs.Meaning.{entry_place, meaning}
use Rattle.td_meaning.specs.Words64.{below}
use Rattle.td_meaning.specs.Copies.{buffers_at, opened, outcome, IsSoundOn, cells_of, IsOpened}
use Rattle.td_meaning.proofs.Meaning64.{meaning_is}
use Rattle.td_meaning.proofs.Meaning64 as words64
use Rattle.td_meaning.proofs.CopiesKept.{count_in}
use Rattle.td_meaning.proofs.CopiesWhole.{all_whole, opened_small}
use Rattle.td_meaning.specs.Endings.{AreCells, IsEndingWithin, EndingsAreWithin, FitRooms, CopiesAreWithin}
use Rattle.td_meaning.proofs.RoomsKept.{Roomy, Kept, Stands, StandsAt, below_kept}

-- Modules

room_at : (bs : List Buffer) (k : ℕ) (b : Buffer) → slice_get bs k ≡ Some b → slice_index (map (λ (x : Buffer). x.room) bs) k ≡ b.room
room_at [] k b e = absurd (cc)
room_at (x ∷ bs) zero b e = let own : x ≡ b = cc in ap (λ (y : Buffer). y.room) own
room_at (x ∷ bs) (suc k) b e = room_at bs k b e

there_within : (bs : List Buffer) (n : ℕ) (b : Buffer) → slice_get bs n ≡ Some b → n < length bs
there_within [] n b e = absurd (cc)
there_within (x ∷ bs) zero b e = omega arith
there_within (x ∷ bs) (suc n) b e = let rest = there_within bs n b e in omega (arith, rest)

abbrev rooms_of : List Buffer → List ℕ
rooms_of bs = map (λ (x : Buffer). x.room) bs

entry_stands : (cells : ℕ) (bs : List Buffer) → Stands cells (rooms_of bs) cells bs (places_from 0 (cells + 2 * length bs))
entry_stands cells bs = record {
  own = λ c lt. (let e : slice_index (places_from 0 (cells + 2 * length bs)) c ≡ c = index_places (cells + 2 * length bs) c 0 (omega (arith, lt)) ∙ omega arith in subst (λ x. x < cells) (sym e) lt);
  pairs = λ n b there.
      let lt = there_within bs n b there in (
        n,
        (
          index_places (cells + 2 * length bs) (cells + 2 * n) 0 (omega (arith, lt)) ∙ omega arith,
          (index_places (cells + 2 * length bs) (cells + 2 * n + 1) 0 (omega (arith, lt)) ∙ omega arith, sym (room_at bs n b there)),
        ),
      );
}

module _ (m : Module) (entry : Entry) (args cells message : List ℕ) (o : IsOpened m entry cells) where
  entered : entry_definition m entry.number ≡ Some o.definition
  entered = entry_found m entry.number o.place o.definition o.there o.is

  long : length (opened m entry cells) ≡ length cells + 2 * length o.definition.buffers
  long = length-append cells (replicate (2 * buffers_at (entry_definition m entry.number)) 0)
      ∙ ap (λ k. length cells + k) (length-replicate (2 * buffers_at (entry_definition m entry.number)) 0 ∙ ap (λ x. 2 * buffers_at x) entered)

  abbrev rooms : List ℕ
  rooms = rooms_of o.definition.buffers

  stands : StandsAt (length cells) rooms (slice_get m.definitions o.place) (places_from 0 (length (opened m entry cells)))
  stands = subst (λ x. StandsAt (length cells) rooms x (places_from 0 (length (opened m entry cells)))) (sym o.is)
      (subst (λ k. Stands (length cells) rooms k o.definition.buffers (places_from 0 (length (opened m entry cells)))) o.count
      (subst (λ k. Stands (length cells) rooms (length cells) o.definition.buffers (places_from 0 k)) (sym long) (entry_stands (length cells) o.definition.buffers)))

  begun : Roomy (length cells) rooms (opened m entry cells)
  begun k inside =
      let zeros = replicate (2 * buffers_at (entry_definition m entry.number)) 0 in
      let none : count_in (length cells) k (opened m entry cells) ≡ 0 =
      ap (slice_index (cells ++ zeros)) (let e : length cells + 2 * k + 1 ≡ length cells + (2 * k + 1) = omega arith in e)
      ∙ get_or-append-add cells zeros (2 * k + 1) 0 ∙ index_zeros (2 * buffers_at (entry_definition m entry.number)) (2 * k + 1) in
      omega (arith, none)

  computed_kept : Kept (length cells) rooms (words64.meaning m entry args (opened m entry cells) message)
  computed_kept =
      subst (λ p. Kept (length cells) rooms (below m.listed m.definitions (length m.definitions) (entry_place p (length m.definitions)) args (places_from 0 (length (opened m entry cells))) (opened m entry cells) message 0 (length message))) (sym o.there)
      ((below_kept (length cells) rooms message m.listed m.definitions (all_whole m o.formed o.copying) (length m.definitions)).by o.place args (places_from 0 (length (opened m entry cells))) (opened m entry cells) 0 (length message) stands begun)

  ends_kept : IsSoundOn m entry args cells message → Kept (length cells) rooms (meaning m entry args (opened m entry cells) message)
  ends_kept sound = subst (Kept (length cells) rooms) (meaning_is m entry args (opened m entry cells) message sound) computed_kept

-- ---- copies by their cells

count_places : (from n : ℕ) → length (places_from from n) ≡ n
count_places from zero = refl
count_places from (suc n) = ap suc (count_places (from + 1) n)

-- each count is at most the room, and so is what is held
fit_by : (bs : List Buffer) (message cells : List ℕ) → length cells ≡ 2 * length bs → ((k : ℕ) (b : Buffer) → slice_get bs k ≡ Some b → slice_index cells (2 * k + 1) ≤ b.room) → FitRooms bs (copies_by message cells)
fit_by [] message [] e each = tt
fit_by [] message (x ∷ cells) e each = absurd (omega (arith, e))
fit_by (b ∷ bs) message [] e each = absurd (omega (arith, e))
fit_by (b ∷ bs) message (x ∷ []) e each = absurd (omega (arith, e))
fit_by (b ∷ bs) message (place ∷ count ∷ cells) e each =
    let one : 2 * 0 + 1 ≡ 1 = omega arith in
    let first : count ≤ b.room = subst (λ i. slice_index (place ∷ count ∷ cells) i ≤ b.room) one (each 0 b refl) in
    let long : length (bytes_at message (places_from place count)) ≡ count = length-map (places_from place count) (slice_index message) ∙ count_places place count in (
      omega (arith, first, long),
      fit_by bs message cells (omega (arith, e)) (λ k d at.
          subst (λ i. slice_index (place ∷ count ∷ cells) i ≤ d.room) (let next : 2 * suc k + 1 ≡ suc (suc (2 * k + 1)) = omega arith in next) (each (suc k) d at)),
    )

behind_at : (n : ℕ) (xs : List ℕ) (k : ℕ) → slice_index (drop n xs) (2 * k + 1) ≡ count_in n k xs
behind_at n xs k = get_or-drop n xs (2 * k + 1) 0 ∙ ap (slice_index xs) (let e : n + (2 * k + 1) ≡ n + 2 * k + 1 = omega arith in e)

copies_at : (n : ℕ) (message : List ℕ) (o : Ending) → (outcome_of n message o).copies ≡ copies_by message (drop n (cells_of o))
copies_at n message (Accepted q cells) = refl
copies_at n message (Rejected reason q trace cells) = refl

cells_count : (end count : ℕ) (o : Ending) → IsEndingWithin end count o → length (cells_of o) ≡ count
cells_count end count (Accepted q cells) h = h.1.0
cells_count end count (Rejected reason q trace cells) h = h.1.1.0

pub copies_are_within : EndingsAreWithin → CopiesAreWithin
copies_are_within within m entry args cells message o sound short small =
    let bs = o.definition.buffers in
    let ending = (meaning m entry args (opened m entry cells) message).ending in
    let ends = within m entry args (opened m entry cells) message sound short (opened_small m entry cells small) in
    let all = cells_count (length message) (length (opened m entry cells)) ending ends ∙ long m entry args cells message o in
    let behind = drop (length cells) (cells_of ending) in
    let many : length behind ≡ 2 * length bs = omega (arith, all, length-drop (length cells) (cells_of ending)) in
    let kept = ends_kept m entry args cells message o sound in
    subst (FitRooms bs) (sym (copies_at (length cells) message ending))
    (fit_by bs message behind many (λ k b there.
    let inside : k < length (rooms_of bs) = (let lt = there_within bs k b there in let n = length-map bs (λ (x : Buffer). x.room) in omega (arith, lt, n)) in
    let held = kept.roomy k inside in
    let at = behind_at (length cells) (cells_of ending) k in
    let room = room_at bs k b there in
    omega (arith, held, at, room)))
