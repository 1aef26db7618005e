use Rattle.std.proofs.Common.{◌≡◌, ◌++◌, drop}
use Rattle.td_elab_rules.specs.Types.{buffer_cells}
use Rattle.td_elab_types.proofs.buffers.add_pairs.Given as goal

-- the cells of what is left are still to come
abbrev pub invariant-loop-buffer : goal.invariant-loop-buffer
invariant-loop-buffer l = l.cells ++ buffer_cells l.count (drop l.buffer-index l.buffers) ≡ l.fn.cells ++ buffer_cells l.count l.buffers
