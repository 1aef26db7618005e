use Rattle.std.proofs.Common.{◌≡◌, drop, length}
use Rattle.td_elab_rules.specs.Types.{fits_cells}
use Rattle.td_elab_types.proofs.arguments.fits_cells.Given as goal

abbrev pub invariant-loop-i : goal.invariant-loop-i
invariant-loop-i l = record {
  same : length l.cells ≡ length l.places;
  rest : fits_cells l.own (drop l.i l.cells) (drop l.i l.places) ≡ fits_cells l.own l.cells l.places;
}
