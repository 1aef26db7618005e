use Rattle.std.proofs.Common.{◌≡◌}
use Rattle.td_host_actors.proofs.worker.take.Given as goal

abbrev pub invariant-loop : goal.invariant-loop
invariant-loop g l = l.pass ≡ l.initial.pass
