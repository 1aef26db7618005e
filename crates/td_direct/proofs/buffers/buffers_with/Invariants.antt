use Rattle.std.proofs.Common.{◌≡◌, ◌++◌, drop, map}
use Rattle.td_direct.specs.Copies.{empty_for}
use Rattle.td_direct.proofs.buffers.buffers_with.Given as goal

-- what was made, and what is left
abbrev pub invariant-loop-parameter : goal.invariant-loop-parameter
invariant-loop-parameter l = l.buffers.items ++ map empty_for (drop l.parameter-index l.parameters) ≡ map empty_for l.parameters
