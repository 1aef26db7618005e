use Rattle.std.proofs.Common.{Ok, take}
use Rattle.td_prog_emit.specs.Written.{Wrote}
use Rattle.td_prog_text.specs.Entries.{indexed, lines, initial}
use Rattle.td_prog_emit.proofs.wrapper.push_initials.Given as goal

abbrev pub invariant-loop-k : goal.invariant-loop-k
invariant-loop-k l = Wrote (Ok tt) l.fn.out.items l.out.items (lines (indexed (initial l.entry l.names l.members) 0 (take l.k l.entry.cells)))
