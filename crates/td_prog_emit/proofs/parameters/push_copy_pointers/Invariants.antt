use Rattle.std.proofs.Common.{Ok, take}
use Rattle.td_prog_emit.specs.Written.{Wrote}
use Rattle.td_prog_text.specs.Entries.{indexed, lines, buffer_parameter}
use Rattle.td_prog_emit.proofs.parameters.push_copy_pointers.Given as goal

abbrev pub invariant-loop-k : goal.invariant-loop-k
invariant-loop-k l = Wrote (Ok tt) l.fn.out.items l.out.items (lines (indexed (buffer_parameter l.parts l.prefix l.entry l.names) 0 (take l.k l.entry.buffers)))
