use Rattle.std.proofs.Common.{◌≡◌, [], drop}
use Rattle.td_limits.specs.Excesses.{first_excess}
use Rattle.td_limits.specs.Sizes.{size_excesses}
use Rattle.td_limits.proofs.sizes.sizes_passed.Given as goal

-- what is left of the definitions decides
abbrev pub invariant-loop-definition : goal.invariant-loop-definition
invariant-loop-definition l = first_excess (size_excesses l.known (drop l.definition-index l.definitions)) ≡ first_excess (size_excesses [] l.definitions)
