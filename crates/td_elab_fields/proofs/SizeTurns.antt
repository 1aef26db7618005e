-- One turn of the loop over the leading fields.
use Rattle.std.proofs.Common.{◌≡◌, ℕ, ◌+◌, ◌<◌, List, length, get_or, drop, Option, Some, None, sym, ap, ◌∙◌, arith}
use Rattle.td_ast.specs.declared.fields.FieldTree.{FieldTree}
use Rattle.td_elab_rules.specs.declared.fields.UnitRoom.{UnitRoom}
use Rattle.td_elab_rules.specs.declared.known.Known.{Known}
use Rattle.td_elab_rules.specs.declared.known.Scope.{Scope}
use Rattle.td_elab_rules.specs.Fields.{with_field}
use Rattle.td_elab_rules.specs.Leading.{Leading, leading_field, leading_size}
use Rattle.td_num.proofs.Lists.{drop_next as next}

abbrev with_rest : Known → Scope → FieldTree → List FieldTree → Leading → ℕ
with_rest k s f fs o = elim o [
  | None ↦ 0
  | Some (n, after) ↦ n + leading_size k (with_field k s f) after fs
]

-- a leading field's size is added, and what is left of the fields decides
pub size_next : (k : Known) (s u : Scope) (room after : Option UnitRoom) (fs : List FieldTree) (i : ℕ) (f : FieldTree) (total size more whole : ℕ) → i < length fs → f ≡ get_or fs i f
    → Some (size, after) ≡ leading_field k s room f → u ≡ with_field k s f → more ≡ total + size → total + leading_size k s room (drop i fs) ≡ whole
    → more + leading_size k u after (drop (i + 1) fs) ≡ whole
size_next k s u room after fs i f total size more whole low is found brought sum before =
    let rest = drop (i + 1) fs in
    let here : leading_size k s room (drop i fs) ≡ size + leading_size k (with_field k s f) after rest = ap (leading_size k s room) (next fs i f low is) ∙ ap (with_rest k s f rest) (sym found) in
    let later : leading_size k u after rest ≡ leading_size k (with_field k s f) after rest = ap (λ v. leading_size k v after rest) brought in
    omega (arith, here, later, sum, before)
