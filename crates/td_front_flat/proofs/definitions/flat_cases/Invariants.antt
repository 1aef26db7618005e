use Rattle.std.proofs.Common.{◌≡◌, ◌++◌, drop, map}
use Rattle.td_front_flat.specs.Definitions.{flat_case}
use Rattle.td_front_flat.proofs.definitions.flat_cases.Given as goal

abbrev pub invariant-loop-one : goal.invariant-loop-one
invariant-loop-one l = (l.flat ++ map (flat_case l.own l.params l.fn.scope) (drop l.one-index l.cases) ≡ map (flat_case l.own l.params l.fn.scope) l.cases) × (l.scope ≡ l.fn.scope)
