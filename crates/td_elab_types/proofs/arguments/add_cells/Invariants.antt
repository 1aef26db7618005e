use Rattle.std.proofs.Common.{◌≡◌, ◌++◌, drop}
use Rattle.td_elab_rules.specs.Types.{args_cells}
use Rattle.td_elab_types.proofs.arguments.add_cells.Given as goal

abbrev pub invariant-loop-i : goal.invariant-loop-i
invariant-loop-i l = l.cells ++ args_cells l.known l.scope (drop l.i l.parameters) (drop l.i l.args) ≡ l.fn.cells ++ args_cells l.known l.scope l.parameters l.args
