use Rattle.std.proofs.Common.{Ok, take}
use Rattle.td_ir.specs.Tables.{routine_of}
use Rattle.td_prog_emit.specs.Written.{Wrote}
use Rattle.td_prog_text.specs.Entries.{buffer_struct, indexed, lines}
use Rattle.td_prog_emit.proofs.structs.push_copies.Given as goal

abbrev pub invariant-loop-k : goal.invariant-loop-k
invariant-loop-k l = Wrote (Ok tt) l.fn.out.items l.out.items (lines (indexed (buffer_struct l.parts l.prefix l.entry l.names) 0 (take l.k (routine_of l.parts l.entry.routine).buffers)))
