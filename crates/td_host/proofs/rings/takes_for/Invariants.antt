use Rattle.td_host.proofs.Takers.{Counting}
use Rattle.td_host.proofs.rings.takes_for.Given as goal

abbrev pub invariant-loop-ring : goal.invariant-loop-ring
invariant-loop-ring l = Counting l.rings l.ring-index l.count
