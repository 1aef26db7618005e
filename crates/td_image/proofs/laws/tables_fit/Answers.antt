use Rattle.td_image.proofs.Fitting.{tables_fit}
use Rattle.td_image.proofs.laws.tables_fit.Goals as goal

pub returns : goal.returns
returns c = tables_fit
