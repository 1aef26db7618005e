use Rattle.std.proofs.Common.{◌≡◌, length}
use Rattle.td.proofs.open_gates.Given as goal

-- a gate was made at each turn
abbrev pub invariant-loop : goal.invariant-loop
invariant-loop l = length l.gates.items ≡ l.counter
