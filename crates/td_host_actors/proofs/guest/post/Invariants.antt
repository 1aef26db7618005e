use Rattle.std.proofs.Common.{◌≡◌}
use Rattle.td_host_actors.proofs.guest.post.Given as goal

abbrev pub invariant-loop : goal.invariant-loop
invariant-loop g l = (l.pass ≡ l.initial.pass) × (l.waiting ≡ l.fn.post)
