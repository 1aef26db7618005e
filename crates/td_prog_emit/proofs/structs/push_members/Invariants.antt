use Rattle.std.proofs.Common.{Ok, take}
use Rattle.td_prog_emit.specs.Written.{Wrote}
use Rattle.td_prog_text.specs.Entries.{indexed, lines, member}
use Rattle.td_prog_emit.proofs.structs.push_members.Given as goal

abbrev pub invariant-loop-k : goal.invariant-loop-k
invariant-loop-k l = Wrote (Ok tt) l.fn.out.items l.out.items (lines (indexed (member l.entry l.names l.members l.name) 0 (take l.k l.entry.cells)))
