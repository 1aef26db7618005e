-- The first of two lists. Cited by other crates.
use Rattle.std.proofs.Common.{◌≡◌, List, [], ◌∷◌, ◌++◌, Option, refl}
use Rattle.td_elab_rules.specs.declared.breach.Breach.{Breach}
use Rattle.td_elab_rules.specs.Breach.{first_of, sooner}

pub first_append : (o : Option Breach) (bs cs : List Breach) → first_of o (bs ++ cs) ≡ first_of (first_of o bs) cs
first_append o [] cs = refl
first_append o (b ∷ bs) cs = first_append (sooner o b) bs cs
