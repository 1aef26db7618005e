use Rattle.std.proofs.Common.{◌≡◌, map}
use Rattle.td_num.specs.Numbers.{places_from}
use Rattle.td_vm.specs.Need.{most_room}
use Rattle.td_vm.proofs.arm.rooms_for.Given as goal

abbrev pub invariant-loop-place : goal.invariant-loop-place
invariant-loop-place l = l.rooms.items ≡ map (most_room l.parts) (places_from 0 l.place)
