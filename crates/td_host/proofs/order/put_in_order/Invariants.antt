use Rattle.std.proofs.Common.{◌≤◌, length, vec_capacity}
use Rattle.td_host.proofs.Orders.{Ordering}
use Rattle.td_host.proofs.order.put_in_order.Given as goal

abbrev pub invariant-loop-mail : goal.invariant-loop-mail
invariant-loop-mail l = record {
  ordering : Ordering l.mails l.fn.found.items l.mail-index l.replies.items l.left.items;
  room : length l.mails ≤ vec_capacity l.replies;
}
