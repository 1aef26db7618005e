use Rattle.std.proofs.Common.{◌≡◌, ◌++◌, drop, flat_map}
use Rattle.td_front_flat.specs.Uses.{param_uses}
use Rattle.td_front_flat.proofs.uses.add_params.Given as goal

abbrev pub invariant-loop-param : goal.invariant-loop-param
invariant-loop-param l = l.uses ++ flat_map param_uses (drop l.param-index l.params) ≡ l.fn.uses ++ flat_map param_uses l.params
