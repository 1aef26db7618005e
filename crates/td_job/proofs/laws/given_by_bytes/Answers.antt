use Rattle.std.proofs.Common.{ap}
use Rattle.td_job.specs.Jobs.{given_by}
use Rattle.td_job.proofs.laws.given_by_bytes.Goals as goal

pub returns : goal.returns
returns c = λ m entry job none. ap (λ o. given_by o m entry job) none
