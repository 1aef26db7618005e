use Rattle.td_lower_means.proofs.Fitting.{arguments_fit}
use Rattle.td_lower_means.proofs.laws.arguments_fit.Goals as goal

pub returns : goal.returns
returns c = arguments_fit
