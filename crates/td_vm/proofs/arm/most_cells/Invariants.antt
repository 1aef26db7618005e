use Rattle.std.proofs.Common.{◌≡◌}
use Rattle.td_vm.specs.Need.{greatest_of, entry_cells}
use Rattle.td_vm.proofs.arm.most_cells.Given as goal

abbrev pub invariant-loop-k : goal.invariant-loop-k
invariant-loop-k l = l.most ≡ greatest_of (entry_cells l.parts) l.k
