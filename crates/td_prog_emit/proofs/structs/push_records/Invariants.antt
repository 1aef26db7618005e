use Rattle.std.proofs.Common.{Ok, take}
use Rattle.td_prog_emit.specs.Written.{Wrote}
use Rattle.td_prog_text.specs.Entries.{indexed, lines, record_structs}
use Rattle.td_prog_emit.proofs.structs.push_records.Given as goal

abbrev pub invariant-loop-k : goal.invariant-loop-k
invariant-loop-k l = Wrote (Ok tt) l.fn.out.items l.out.items (lines (indexed (record_structs l.parts l.prefix l.entry l.names l.members) 0 (take l.k l.entry.cells)))
