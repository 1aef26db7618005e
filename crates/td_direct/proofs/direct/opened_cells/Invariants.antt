use Rattle.std.proofs.Common.{◌≡◌, ◌*◌, ◌++◌}
use Rattle.td_direct.proofs.Placed.{zeros}
use Rattle.td_direct.proofs.direct.opened_cells.Given as goal

abbrev pub invariant-loop-k : goal.invariant-loop-k
invariant-loop-k l = l.all.items ≡ l.cells ++ zeros (2 * l.k)
