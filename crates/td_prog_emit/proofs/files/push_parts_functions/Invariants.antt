use Rattle.std.proofs.Common.{Ok, flat_map, take}
use Rattle.td_prog_emit.specs.Written.{Wrote}
use Rattle.td_prog_text.specs.PartsEntries.{parts_function}
use Rattle.td_prog_emit.proofs.files.push_parts_functions.Given as goal

abbrev pub invariant-loop-k : goal.invariant-loop-k
invariant-loop-k l = Wrote (Ok tt) l.fn.out.items l.out.items (flat_map (parts_function l.parts l.prefix) (take l.k l.parts.entries))
