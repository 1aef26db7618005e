use Rattle.td_elab_types.proofs.Sides.{unlike_cells}
use Rattle.td_elab_types.proofs.arguments.fits_cells.Goals as goal

pub returns-then-cells-places : goal.returns-then-cells-places
returns-then-cells-places c = unlike_cells c.args.own.now c.args.cells.now c.args.places.now c.if-cells-places.true
