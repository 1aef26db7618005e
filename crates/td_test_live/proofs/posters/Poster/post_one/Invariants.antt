use Rattle.std.proofs.Common.{◌≡◌}
use Rattle.td_test_live.proofs.posters.Poster.post_one.Given as goal

abbrev pub invariant-loop : goal.invariant-loop
invariant-loop g l = l.waiting ≡ l.fn.post
