use Rattle.std.proofs.Common.{◌≡◌, ◌-◌, length}
use Rattle.td_prog_text.specs.Names.{fresh}
use Rattle.td_prog_emit.proofs.distinct.fresh.Given as goal

abbrev pub invariant-loop-k : goal.invariant-loop-k
invariant-loop-k l = fresh (length l.taken - l.k) l.taken l.made.items ≡ fresh (length l.taken) l.taken l.fn.name.items
