use Rattle.td_code_means.proofs.Means.{code_does_as_meant}
use Rattle.td_code_means.proofs.laws.code_does_as_meant.Goals as goal

pub returns : goal.returns
returns c = code_does_as_meant
