-- The element and the width of a type are narrow.
use Rattle.std.proofs.Common.{◌≡◌, ℕ, Option, Some, None, subst, sym}
use Rattle.td_num.specs.declared.number.NumberType.{NumberType}
use Rattle.td_ast.specs.declared.fields.TypeTree.{TypeTree}
use Rattle.td_ast.specs.declared.fields.ExtentTree.{ExtentTree}
use Rattle.td_core.specs.declared.module.Element.{Element}
use Rattle.td_elab_rules.specs.declared.known.Known.{Known}
use Rattle.td_elab_rules.specs.declared.known.Scope.{Scope}
use Rattle.td_elab_rules.specs.BitFields.{bit_field}
use Rattle.td_elab_rules.specs.Extents.{bit_width}
use Rattle.td_elab_rules.specs.Types.{element_of}
use Rattle.td_elab_rules.proofs.FieldsFound as found
use Rattle.td_elab_fields.specs.Narrow.{IsWithin}

within : (o : Option (NumberType × ℕ)) → found.IsNarrow o → IsWithin o
within None h = tt
within (Some (t, w)) h = h.1

pub element_narrow : (k : Known) (s : Scope) (t : TypeTree) (x : Option ExtentTree) (e : Element) (w : Option ℕ) → e ≡ element_of k s t → w ≡ bit_width k s t x → IsWithin (bit_field e w)
element_narrow k s t x e w he hw =
    subst (λ v. IsWithin (bit_field e v)) (sym hw)
    (subst (λ y. IsWithin (bit_field y (bit_width k s t x))) (sym he)
    (within (bit_field (element_of k s t) (bit_width k s t x)) (found.extent_narrow k s t x)))
