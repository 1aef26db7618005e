use Rattle.std.proofs.Common.{drop}
use Rattle.td_host_actors.proofs.Plays.{RunningScript}
use Rattle.td_host_actors.proofs.guest.run_script.Given as goal

abbrev pub invariant-loop-step : goal.invariant-loop-step
invariant-loop-step g l =
    RunningScript g.J.Naming.names l.guest_number l.desk.shared.count (drop l.step-index l.script) l.script l.initial.seat l.seat l.initial.pass l.pass l.rooms.items l.number l.made
