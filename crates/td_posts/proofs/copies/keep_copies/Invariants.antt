use Rattle.std.proofs.Common.{◌≡◌}
use Rattle.td_posts.proofs.Refilled.{refilled}
use Rattle.td_posts.proofs.copies.keep_copies.Given as goal

abbrev pub invariant-loop-k : goal.invariant-loop-k
invariant-loop-k l = l.copies ≡ refilled l.k l.buffers l.fn.copies
