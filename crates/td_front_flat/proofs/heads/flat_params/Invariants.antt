use Rattle.std.proofs.Common.{◌≡◌, ◌++◌, drop}
use Rattle.td_front_flat.specs.Definitions.{flat_params, with_params}
use Rattle.td_front_flat.proofs.heads.flat_params.Given as goal

abbrev pub invariant-loop-param : goal.invariant-loop-param
invariant-loop-param l = (l.flat ++ flat_params l.own l.scope (drop l.param-index l.params) ≡ flat_params l.own l.fn.scope l.params) × (with_params l.scope (drop l.param-index l.params) ≡ with_params l.fn.scope l.params)
