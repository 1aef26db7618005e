-- The greatest numbers of cell maps, one further.
use Rattle.std.proofs.Common.{◌≡◌, ℕ, ◌+◌, ◌<◌, ◌≤◌, ⊎_elim, ◌↔◌, List, [], ◌∷◌, ◌++◌, sym, ap, subst, ◌∙◌, arith, slice_index}
use Rattle.std.proofs.lemmas.Bool.{cases_lt}
use Rattle.std.proofs.lemmas.List.{length-append}
use Rattle.std.proofs.Math.ListN.{get_or-append}
use Rattle.std.proofs.Math.Seq.{get_or-append_seam}
use Rattle.td_ir.specs.declared.tables.Parts.{Parts}
use Rattle.td_ir.specs.Tables.{map_of}
use Rattle.td_verify.specs.Operands.{AreBelow}
use Rattle.td_verify.specs.Findings.{AreTops}

pub tops_next : (c : Parts) (ts : List ℕ) (t n : ℕ) → AreTops c ts n → ((m : ℕ) → AreBelow m (map_of c n) ↔ (t ≤ m)) → AreTops c (ts ++ t ∷ []) (n + 1)
tops_next c ts t n a h = record {
  count = length-append ts (t ∷ []) ∙ (let s = a.count in omega (arith, s));
  each = λ k m l. ⊎_elim
      (λ (lt : k < n).
      let size = a.count in
      let same : slice_index (ts ++ t ∷ []) k ≡ slice_index ts k = get_or-append ts (t ∷ []) 0 k (omega (arith, lt, size)) in
      subst (λ x. AreBelow m (map_of c k) ↔ (x ≤ m)) (sym same) (a.each k m lt))
      (λ (le : n ≤ k).
      let here : k ≡ n = omega (arith, l, le) in
      let seam : slice_index (ts ++ t ∷ []) k ≡ t = ap (slice_index (ts ++ t ∷ [])) (here ∙ sym a.count) ∙ get_or-append_seam ts t [] 0 in
      subst (λ x. AreBelow m (map_of c k) ↔ (x ≤ m)) (sym seam) (subst (λ x. AreBelow m (map_of c x) ↔ (t ≤ m)) (sym here) (h m)))
      (cases_lt k n);
}

-- one more number of a map
pub top_more : (map : List ℕ) (j top next : ℕ) → ((n : ℕ) → ((i : ℕ) → i < j → slice_index map i < n) ↔ (top ≤ n)) → ((n : ℕ) → (next ≤ n) ↔ ((top ≤ n) × (slice_index map j < n)))
    → (n : ℕ) → ((i : ℕ) → i < j + 1 → slice_index map i < n) ↔ (next ≤ n)
top_more map j top next h k n = (
  λ all. (k n).1 ((h n).0 (λ i l. all i (omega (arith, l))), all j (omega arith)),
  λ le i l. ⊎_elim
      (λ (lt : i < j). (h n).1 ((k n).0 le).0 i lt)
      (λ (ge : j ≤ i). let same : i ≡ j = omega (arith, l, ge) in subst (λ x. slice_index map x < n) (sym same) ((k n).0 le).1)
      (cases_lt i j),
)
