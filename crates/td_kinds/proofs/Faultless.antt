-- Where there is no fault of kinds, there is none of a part. Cited by other crates.
use Rattle.std.proofs.Common.{◌≡◌, ℕ, zero, suc, Bool, true, false, List, [], ◌∷◌, refl, subst, Some, slice_get}
use Rattle.std.proofs.lemmas.Option.{none-some, same_Some}
use Rattle.td_num.proofs.Lists.{left_none, right_none}
use Rattle.td_core.specs.declared.kind.Kind.{Kind}
use Rattle.td_core.specs.declared.module.TypeDef.{TypeDef}
use Rattle.td_kinds.specs.declared.error.KindFault.{KindFault}
use Rattle.td_kinds.specs.KindRules.{fault_if, body_faults, definitions_faults}

pub no_fault : (b : Bool) (f : KindFault) → fault_if b f ≡ [] → b ≡ false
no_fault true f e = absurd (cc)
no_fault false f e = refl

pub faults_at : (kinds : ℕ → Kind) (ds : List TypeDef) (n : ℕ) (d : TypeDef) → definitions_faults kinds ds ≡ [] → slice_get ds n ≡ Some d → body_faults kinds d.body ≡ []
faults_at kinds [] n d h e = absurd (none-some d e)
faults_at kinds (x ∷ ds) zero d h e = subst (λ x. body_faults kinds x.body ≡ []) (same_Some x d e) (left_none (body_faults kinds x.body) (definitions_faults kinds ds) h)
faults_at kinds (x ∷ ds) (suc n) d h e = faults_at kinds ds n d (right_none (body_faults kinds x.body) (definitions_faults kinds ds) h) e
