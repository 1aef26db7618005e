use Rattle.td_image_upgrade.proofs.Runs.{same_run}
use Rattle.td_image_upgrade.proofs.laws.same_run.Goals as goal

pub returns : goal.returns
returns c = same_run
