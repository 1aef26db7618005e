-- The fields of a case are formed and safe as its list says. Cited by other crates.
use Rattle.std.proofs.Common.{◌≡◌, ℕ, Bool, true, false, cond, List, [], ◌∷◌, Option, Some, None, nat_eq}
use Rattle.td_arith.specs.Imports.{Field, Case, TypeDef}
use Rattle.td_core.specs.Formed.{Bound, AreCasesFormed, IsDefaultFormed}
use Rattle.td_core.specs.WellFormed.{OfSome}
use Rattle.td_expr.specs.Facts.{Fact}
use Rattle.td_expr.proofs.Admitting.{neither}
use Rattle.td_meaning.specs.Meaning.{case_for}
use Rattle.td_arith.specs.SafeModule.{fields_unsafe, cases_unsafe, default_unsafe}
use Rattle.td_arith.proofs.Copies.{CopiesStand, CasesStand}

pub record Chosen (ds : List TypeDef) (n : ℕ) (bounds scope : List Bound) (level : ℕ) (facts : List Fact) (fs : Option (List Field)) : Type 0 where
  pub formed : IsDefaultFormed ds n bounds scope fs
  pub stands : OfSome (CopiesStand bounds) fs
  pub safe : default_unsafe level facts fs ≡ None

pub choose : (ds : List TypeDef) (n : ℕ) (bounds scope : List Bound) (level : ℕ) (facts : List Fact) (v : ℕ) (cases : List Case) (default : Option (List Field)) → AreCasesFormed ds n bounds scope cases → IsDefaultFormed ds n bounds scope default
    → CasesStand bounds cases → OfSome (CopiesStand bounds) default → cases_unsafe level facts cases ≡ None → default_unsafe level facts default ≡ None → Chosen ds n bounds scope level facts (case_for v cases default)
choose ds n bounds scope level facts v [] default form other cs last u w = record { formed = other; stands = last; safe = w }
choose ds n bounds scope level facts v (c ∷ cases) default form other cs last u w =
    let h = neither (fields_unsafe level facts c.fields) (cases_unsafe level facts cases) u in
    by (nat_eq c.value v) (record { formed = form.0; stands = cs.0; safe = h.0 }) (choose ds n bounds scope level facts v cases default form.1 other cs.1 last h.1 w)
  where
    by : (b : Bool) → Chosen ds n bounds scope level facts (Some c.fields) → Chosen ds n bounds scope level facts (case_for v cases default) → Chosen ds n bounds scope level facts (cond b (Some c.fields) (case_for v cases default))
    by true x y = x
    by false x y = y
