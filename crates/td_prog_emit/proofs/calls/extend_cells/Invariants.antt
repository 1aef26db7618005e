use Rattle.std.proofs.Common.{◌≡◌, ◌++◌, flat_map, take}
use Rattle.td_prog_emit.specs.Written.{cell_text}
use Rattle.td_prog_emit.proofs.calls.extend_cells.Given as goal

abbrev pub invariant-loop-cell : goal.invariant-loop-cell
invariant-loop-cell l = l.out.items ≡ l.fn.out.items ++ flat_map cell_text (take l.cell-index l.cells)
