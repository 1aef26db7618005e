use Rattle.std.proofs.Common.{◌≡◌}
use Rattle.td_ring.specs.Heads.{HasHead}
use Rattle.td_test_live.proofs.posters.hands.Given as goal

abbrev pub invariant-loop-number : goal.invariant-loop-number
invariant-loop-number l = record {
  seat : l.host.table ≡ l.shared.table;
  own : (l.posts.queue ≡ l.ring.queue) × (l.takes.queue ≡ l.ring.queue);
  heads : HasHead l.posts.view.put_head × HasHead l.takes.view.take_head;
}
