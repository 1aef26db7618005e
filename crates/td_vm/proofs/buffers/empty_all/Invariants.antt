use Rattle.std.proofs.Common.{◌≡◌}
use Rattle.td_vm.proofs.Emptying.{emptied}
use Rattle.td_vm.proofs.buffers.empty_all.Given as goal

abbrev pub invariant-loop-k : goal.invariant-loop-k
invariant-loop-k l = l.buffers ≡ emptied l.k l.fn.buffers
