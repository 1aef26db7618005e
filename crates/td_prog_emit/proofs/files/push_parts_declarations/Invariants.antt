use Rattle.std.proofs.Common.{Ok, flat_map, take}
use Rattle.td_prog_emit.specs.Written.{Wrote}
use Rattle.td_prog_text.specs.PartsEntries.{parts_declaration}
use Rattle.td_prog_emit.proofs.files.push_parts_declarations.Given as goal

abbrev pub invariant-loop-k : goal.invariant-loop-k
invariant-loop-k l = Wrote (Ok tt) l.fn.out.items l.out.items (flat_map (parts_declaration l.parts l.prefix) (take l.k l.parts.entries))
