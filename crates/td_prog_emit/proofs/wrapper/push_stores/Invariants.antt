use Rattle.std.proofs.Common.{Ok, take}
use Rattle.td_prog_emit.specs.Written.{Wrote}
use Rattle.td_prog_text.specs.Entries.{indexed, lines, stored}
use Rattle.td_prog_emit.proofs.wrapper.push_stores.Given as goal

abbrev pub invariant-loop-k : goal.invariant-loop-k
invariant-loop-k l = Wrote (Ok tt) l.fn.out.items l.out.items (lines (indexed (stored l.entry l.names l.members) 0 (take l.k l.entry.cells)))
