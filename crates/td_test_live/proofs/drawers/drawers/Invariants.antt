use Rattle.std.proofs.Common.{◌≡◌}
use Rattle.td_ring.specs.Heads.{HasHead}
use Rattle.td_test_live.proofs.drawers.drawers.Given as goal

abbrev pub invariant-loop : goal.invariant-loop
invariant-loop l = (l.first.table ≡ l.tickets) × HasHead l.first.view.head
