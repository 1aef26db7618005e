use Rattle.std.proofs.Common.{◌≡◌, ◌+◌, ◌≤◌, length, map, drop}
use Rattle.std.specs.List.{All}
use Rattle.td_host_actors.specs.Acting.{first_frames}
use Rattle.td_host_actors.specs.Actors.{service_at}
use Rattle.td_host.specs.Gathered.{reader_frames, HasTakeRooms}
use Rattle.td_host.proofs.Arms.{Ringing}
use Rattle.td_host.proofs.rings.seat_takers.Given as goal

abbrev pub invariant-loop-descr : goal.invariant-loop-descr
invariant-loop-descr g l = record {
  ringing : Ringing l.desk.shared (service_at l.desk) l.desk.job l.fn.descrs.items l.initial.actors.items l.n l.heads.seat l.actors.items;
  rest : drop l.n l.fn.descrs.items ≡ l.descr-iterator.rest.items;
  counted : l.n + length l.descr-iterator.rest.items ≡ length l.fn.descrs.items;
  few : length l.fn.descrs.items ≤ 16;
  posts : l.heads.posts ≡ l.initial.heads.posts;
  takes : l.heads.takes ≡ l.initial.heads.takes;
  drawer : l.heads.drawer ≡ l.initial.heads.drawer;
  memory : All (HasTakeRooms (first_frames l.desk.codes.codes) (map reader_frames l.fn.descrs.items) l.desk.job) l.initial.actors.items
      → All (HasTakeRooms (first_frames l.desk.codes.codes) (map reader_frames l.fn.descrs.items) l.desk.job) l.actors.items;
}
