use Rattle.std.proofs.Common.{◌≡◌, ◌+◌, ◌++◌, drop}
use Rattle.td_posts.specs.Posts.{all_mails}
use Rattle.td_host.proofs.arm.mails_of_all.Given as goal

abbrev pub invariant-loop-i : goal.invariant-loop-i
invariant-loop-i l = l.mails.items ++ all_mails (l.i + 1) (drop l.i l.guests) ≡ all_mails 1 l.guests
