use Rattle.std.proofs.Common.{◌≡◌, length}
use Rattle.td_vm.specs.Need.{greatest_of, entry_rooms}
use Rattle.td_vm.proofs.arm.most_buffers_of.Given as goal

abbrev pub invariant-loop-k : goal.invariant-loop-k
invariant-loop-k l = l.most ≡ greatest_of (λ n. length (entry_rooms l.parts n)) l.k
