use Rattle.std.proofs.Common.{◌≡◌, ◌-◌, ◌≤◌, length, vec_capacity}
use Rattle.std.specs.List.{All}
use Rattle.td_swap.specs.Seats.{IsOwn}
use Rattle.td_host_actors.specs.Acting.{AreArmed, IsInRoom}
use Rattle.td_host_actors.proofs.Works.{RunningWorker}
use Rattle.td_host_actors.proofs.worker.run_worker.Given as goal

abbrev pub invariant-loop-seat : goal.invariant-loop-seat
invariant-loop-seat g l = record {
  seat : l.seat.table ≡ l.initial.seat.table;
  pass : l.pass.queue ≡ l.initial.pass.queue;
  drawer : l.drawer.table ≡ l.initial.drawer.table;
  swap : IsOwn l.desk.codes l.swap;
  armed : AreArmed l.desk.codes.codes l.frames;
  room : length l.mails ≤ vec_capacity l.replies;
  memory : All (IsInRoom l.desk.codes.codes l.desk.job) l.replies.items;
  done : RunningWorker l.desk.job (length l.mails) l.initial.seat l.seat l.initial.pass l.pass l.initial.drawer l.drawer l.initial.swap l.swap l.replies.items;
}

abbrev pub decreases-loop-seat : goal.decreases-loop-seat
decreases-loop-seat g l = length l.mails - length l.replies.items
