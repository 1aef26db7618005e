use Rattle.std.proofs.Common.{◌≡◌, map, take}
use Rattle.td_core.specs.declared.module.Cell.{Cell}
use Rattle.td_prog_text.specs.Entries.{own}
use Rattle.td_prog_text.specs.Names.{distinct}
use Rattle.td_prog_emit.proofs.distinct.add_cells.Given as goal

abbrev pub invariant-loop-k : goal.invariant-loop-k
invariant-loop-k l = l.out.items ≡ distinct l.fn.out.items (map (λ (cell : Cell). own l.parts cell.name) (take l.k l.entry.cells))
