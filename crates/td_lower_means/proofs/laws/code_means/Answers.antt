use Rattle.td_lower_means.proofs.CodeRuns.{code_means}
use Rattle.td_lower_means.proofs.laws.code_means.Goals as goal

pub returns : goal.returns
returns c = code_means
