use Rattle.std.proofs.Common.{◌∙◌}
use Rattle.td_vm.specs.Need.{most_room}
use Rattle.td_vm.proofs.Rooms.{rooms_more}
use Rattle.td_vm.proofs.arm.rooms_for.Goals as goal

pub loop-place-preserved : goal.loop-place-preserved
loop-place-preserved c = c.in_ok-push.ensures.items ∙ rooms_more (most_room c.args.parts.now) c.loop-place.rooms.items c.loop-place.place c.room_at.result c.loop-place.invariant c.room_at.ensures
