use Rattle.std.proofs.Common.{◌≡◌, slice_index}
use Rattle.td_vm.specs.Need.{greatest_of, entry_rooms}
use Rattle.td_vm.proofs.arm.room_at.Given as goal

abbrev pub invariant-loop-k : goal.invariant-loop-k
invariant-loop-k l = l.most ≡ greatest_of (λ n. slice_index (entry_rooms l.parts n) l.place) l.k
