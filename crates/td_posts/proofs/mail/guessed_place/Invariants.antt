use Rattle.std.proofs.Common.{◌-◌, ◌≤◌, length}
use Rattle.td_posts.proofs.mail.guessed_place.Given as goal

abbrev pub invariant-loop-low : goal.invariant-loop-low
invariant-loop-low l = l.high ≤ length l.mails

abbrev pub decreases-loop-low : goal.decreases-loop-low
decreases-loop-low l = l.high - l.low
