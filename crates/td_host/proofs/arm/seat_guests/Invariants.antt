use Rattle.std.proofs.Common.{◌≡◌, ◌+◌, length}
use Rattle.td_host.proofs.Arms.{Seating}
use Rattle.td_host.proofs.arm.seat_guests.Given as goal

abbrev pub invariant-loop-gate : goal.invariant-loop-gate
invariant-loop-gate g l = record {
  seating : Seating g.J.Naming.names l.desk.shared l.desk.ring l.desk.job l.initial.actors.items l.n l.heads.seat l.heads.posts l.actors.items;
  counted : l.n + length l.gate-iterator.rest.items ≡ length l.desk.job.guests;
  takes : l.heads.takes ≡ l.initial.heads.takes;
  drawer : l.heads.drawer ≡ l.initial.heads.drawer;
}
