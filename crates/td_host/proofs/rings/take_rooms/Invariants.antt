use Rattle.std.proofs.Common.{◌≡◌, length}
use Rattle.std.specs.List.{All}
use Rattle.td_takes.specs.Takes.{AreRooms}
use Rattle.td_host_actors.specs.Acting.{IsTakeRoom}
use Rattle.td_host.proofs.rings.take_rooms.Given as goal

abbrev pub invariant-loop-take : goal.invariant-loop-take
invariant-loop-take l = record {
  rooms : AreRooms l.job l.frames l.desc_frames l.ring.most l.rooms.items;
  as_many : length l.rooms.items ≡ l._take;
  memory : All (IsTakeRoom l.frames l.desc_frames l.job) l.rooms.items;
}
