use Rattle.td_descr.proofs.Shaped.{shape_fits}
use Rattle.td_descr.proofs.laws.shape_fits.Goals as goal

pub returns : goal.returns
returns c = shape_fits
