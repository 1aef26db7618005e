use Rattle.std.proofs.Common.{◌≡◌, length}
use Rattle.td_test_tool.proofs.gates.gates_at.Given as goal

-- a gate was made at each turn
abbrev pub invariant-loop : goal.invariant-loop
invariant-loop g l = length l.gates.items ≡ l.counter
