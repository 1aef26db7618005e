-- A head with more cells.
use Rattle.std.specs.Prelude.{List, [], ◌∷◌, ◌++◌}
use Rattle.td_core.specs.declared.module.Cell.{Cell}
use Rattle.td_elab_rules.specs.declared.parameters.Head.{Head}
use Rattle.td_elab_rules.specs.Known.{with_cells}
use Rattle.td_elab_rules.specs.Parameters.{kinds_of}

-- so many more
abbrev pub with_all_cells : Head → List Cell → Head
with_all_cells h cells = record h { scope = with_cells h.scope (h.scope.cells ++ kinds_of cells); cells = h.cells ++ cells }

-- one more
abbrev pub with_cell : Head → Cell → Head
with_cell h c = with_all_cells h (c ∷ [])
