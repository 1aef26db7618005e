-- What a copy buffer holds at the end was read.
use Rattle.std.proofs.Common.{◌≡◌, inl, inr, ℕ, suc, ◌+◌, ◌*◌, ◌<◌, List, [], ◌∷◌, ◌++◌, length, take, drop, replicate, length-append, refl, sym, ap, ◌∙◌, subst, arith, Some}
use Rattle.std.specs.Prelude.{slice_get, slice_index}
use Rattle.std.proofs.lemmas.List.{get_or-drop, length-replicate, get_or-append-add}
use Rattle.td_num.specs.Numbers.{places_from}
use Rattle.td_num.specs.Lists.{Each}
use Rattle.td_num.proofs.Lists.{index_places, index_zeros}
use Rattle.td_meaning.specs.Imports.{Module, Entry, Accept, Reject}
use Rattle.td_core.specs.Outcome.{Behavior, Ending, Accepted, Rejected, bytes_at, copies_by, outcome_of}
use Rattle.td_core.specs.Entries.{entry_definition}
use Rattle.td_core.proofs.Found.{entry_found}
use Rattle.td_meaning.specs.Meaning.{below, entry_place, meaning}
use Rattle.td_meaning.specs.Copies.{buffers_at, opened, cells_of, IsOpened, CopiesAreRead, OutcomesAreDecided}
use Rattle.td_meaning.specs.Deciding.{SameAt}
use Rattle.td_meaning.specs.Forward.{IsAt}
use Rattle.td_meaning.proofs.Deciding.{reads_decide}
use Rattle.td_meaning.proofs.CopiesKept.{place_in, count_in, Kept, Stands, StandsAt, below_kept}
use Rattle.td_meaning.proofs.CopiesWhole.{all_whole}

-- Modules

entry_stands : (cells : ℕ) (buffers : ℕ) → Stands cells cells buffers (places_from 0 (cells + 2 * buffers))
entry_stands cells buffers = record {
  own = λ c lt. (let e : slice_index (places_from 0 (cells + 2 * buffers)) c ≡ c = index_places (cells + 2 * buffers) c 0 (omega (arith, lt)) ∙ omega arith in subst (λ x. x < cells) (sym e) lt);
  pairs = λ n lt. (
    n,
    (
      index_places (cells + 2 * buffers) (cells + 2 * n) 0 (omega (arith, lt)) ∙ omega arith,
      index_places (cells + 2 * buffers) (cells + 2 * n + 1) 0 (omega (arith, lt)) ∙ omega arith,
    ),
  );
}

module _ (m : Module) (entry : Entry) (args cells message : List ℕ) (o : IsOpened m entry cells) where
  entered : entry_definition m entry.number ≡ Some o.definition
  entered = entry_found m entry.number o.place o.definition o.there o.is

  long : length (opened m entry cells) ≡ length cells + 2 * length o.definition.buffers
  long = length-append cells (replicate (2 * buffers_at (entry_definition m entry.number)) 0)
      ∙ ap (λ k. length cells + k) (length-replicate (2 * buffers_at (entry_definition m entry.number)) 0 ∙ ap (λ x. 2 * buffers_at x) entered)

  stands : StandsAt (length cells) (slice_get m.definitions o.place) (places_from 0 (length (opened m entry cells)))
  stands = subst (λ x. StandsAt (length cells) x (places_from 0 (length (opened m entry cells)))) (sym o.is)
      (subst (λ k. Stands (length cells) k (length o.definition.buffers) (places_from 0 (length (opened m entry cells)))) o.count
      (subst (λ k. Stands (length cells) (length cells) (length o.definition.buffers) (places_from 0 k)) (sym long) (entry_stands (length cells) (length o.definition.buffers))))

  ends_kept : Kept (length cells) (opened m entry cells) (meaning m entry args (opened m entry cells) message)
  ends_kept =
      subst (λ p. Kept (length cells) (opened m entry cells) (below m.listed m.definitions (length m.definitions) (entry_place p (length m.definitions)) args (places_from 0 (length (opened m entry cells))) (opened m entry cells) message 0 (length message))) (sym o.there)
      ((below_kept (length cells) message m.listed m.definitions (all_whole m o.formed o.copying) (length m.definitions)).by o.place args (places_from 0 (length (opened m entry cells))) (opened m entry cells) 0 (length message) stands)

  begun : (k : ℕ) → count_in (length cells) k (opened m entry cells) ≡ 0
  begun k =
      let zeros = replicate (2 * buffers_at (entry_definition m entry.number)) 0 in
      ap (slice_index (cells ++ zeros)) (let e : length cells + 2 * k + 1 ≡ length cells + (2 * k + 1) = omega arith in e)
      ∙ get_or-append-add cells zeros (2 * k + 1) 0 ∙ index_zeros (2 * buffers_at (entry_definition m entry.number)) (2 * k + 1)

  held_read : (k : ℕ) → Each (λ q. IsAt q (meaning m entry args (opened m entry cells) message).reads)
      (places_from (place_in (length cells) k (cells_of (meaning m entry args (opened m entry cells) message).ending)) (count_in (length cells) k (cells_of (meaning m entry args (opened m entry cells) message).ending)))
  held_read k = elim (ends_kept.covered k) [
    | inl same ↦ subst (λ c. Each (λ q. IsAt q (meaning m entry args (opened m entry cells) message).reads) (places_from (place_in (length cells) k (cells_of (meaning m entry args (opened m entry cells) message).ending)) c)) (sym (same.1 ∙ begun k)) tt
    | inr read ↦ read
  ]

behind_at : (n : ℕ) (xs : List ℕ) (k : ℕ) → (slice_index (drop n xs) (2 * k) ≡ place_in n k xs) × (slice_index (drop n xs) (2 * k + 1) ≡ count_in n k xs)
behind_at n xs k = (
  get_or-drop n xs (2 * k) 0,
  get_or-drop n xs (2 * k + 1) 0 ∙ ap (slice_index xs) (let e : n + (2 * k + 1) ≡ n + 2 * k + 1 = omega arith in e),
)

pub copies_are_read : CopiesAreRead
copies_are_read m entry args cells message k o =
    let t = meaning m entry args (opened m entry cells) message in
    let at = behind_at (length cells) (cells_of t.ending) k in
    subst (λ (x : ℕ × ℕ). Each (λ q. IsAt q t.reads) (places_from x.0 x.1)) (λ i. (sym at.0 i, sym at.1 i)) (held_read m entry args cells message o k)

same_there : (reads b c : List ℕ) (q : ℕ) → SameAt reads b c → IsAt q reads → slice_index b q ≡ slice_index c q
same_there [] b c q h at = absurd at
same_there (r ∷ reads) b c q h (inl e) = ap (slice_index b) e ∙ h.0 ∙ ap (slice_index c) (sym e)
same_there (r ∷ reads) b c q h (inr at) = same_there reads b c q h.1 at

same_bytes : (reads b c places : List ℕ) → SameAt reads b c → Each (λ q. IsAt q reads) places → bytes_at b places ≡ bytes_at c places
same_bytes reads b c [] h at = refl
same_bytes reads b c (p ∷ ps) h at = λ i. same_there reads b c p h at.0 i ∷ same_bytes reads b c ps h at.1 i

same_copies : (b c xs : List ℕ) → ((k : ℕ) → bytes_at b (places_from (slice_index xs (2 * k)) (slice_index xs (2 * k + 1))) ≡ bytes_at c (places_from (slice_index xs (2 * k)) (slice_index xs (2 * k + 1)))) → copies_by b xs ≡ copies_by c xs
same_copies b c [] h = refl
same_copies b c (x ∷ []) h = refl
same_copies b c (x ∷ y ∷ xs) h = λ i. h 0 i ∷ same_copies b c xs (λ k.
    let even : 2 * suc k ≡ suc (suc (2 * k)) = omega arith in
    let next : 2 * suc k + 1 ≡ suc (suc (2 * k + 1)) = omega arith in
    subst (λ (z : ℕ × ℕ). bytes_at b (places_from (slice_index (x ∷ y ∷ xs) z.0) (slice_index (x ∷ y ∷ xs) z.1)) ≡ bytes_at c (places_from (slice_index (x ∷ y ∷ xs) z.0) (slice_index (x ∷ y ∷ xs) z.1))) (λ j. (even j, next j)) (h (suc k))) i

outcome_same : (n : ℕ) (b c : List ℕ) (e : Ending) → copies_by b (drop n (cells_of e)) ≡ copies_by c (drop n (cells_of e)) → outcome_of n b e ≡ outcome_of n c e
outcome_same n b c (Accepted q cells) h = λ i. record { verdict = Accept q; trace = []; cells = take n cells; copies = h i }
outcome_same n b c (Rejected reason q trace cells) h = λ i. record { verdict = Reject reason q; trace = trace; cells = take n cells; copies = h i }

pub outcomes_are_decided : OutcomesAreDecided
outcomes_are_decided m entry args cells b c o long same =
    let t = meaning m entry args (opened m entry cells) b in
    outcome_same (length cells) b c t.ending
    (same_copies b c (drop (length cells) (cells_of t.ending)) (λ k. same_bytes t.reads b c _ same (copies_are_read m entry args cells b k o)))
    ∙ ap (λ (x : Behavior). outcome_of (length cells) c x.ending) (reads_decide m entry args (opened m entry cells) b c long same)
