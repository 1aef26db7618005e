use Rattle.td_host_actors.proofs.Versions.{one_version}
use Rattle.td_host_actors.proofs.laws.jobs_without_swaps_have_one_version.Goals as goal

pub returns : goal.returns
returns c = one_version
