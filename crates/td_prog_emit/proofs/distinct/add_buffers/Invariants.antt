use Rattle.std.proofs.Common.{◌≡◌, map, take}
use Rattle.td_prog_text.specs.Entries.{own}
use Rattle.td_prog_text.specs.Names.{distinct}
use Rattle.td_prog_emit.proofs.distinct.add_buffers.Given as goal

abbrev pub invariant-loop-k : goal.invariant-loop-k
invariant-loop-k l = l.out.items ≡ distinct l.fn.out.items (map (own l.parts) (take l.k l.entry.buffers))
