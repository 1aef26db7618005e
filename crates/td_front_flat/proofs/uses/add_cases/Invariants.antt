use Rattle.std.proofs.Common.{◌≡◌, ◌++◌, drop, flat_map}
use Rattle.td_front_flat.specs.Uses.{case_uses}
use Rattle.td_front_flat.proofs.uses.add_cases.Given as goal

abbrev pub invariant-loop-one : goal.invariant-loop-one
invariant-loop-one l = l.uses ++ flat_map case_uses (drop l.one-index l.cases) ≡ l.fn.uses ++ flat_map case_uses l.cases
