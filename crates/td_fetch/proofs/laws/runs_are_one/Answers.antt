use Rattle.td_fetch.proofs.Runs.{runs_are_one}
use Rattle.td_fetch.proofs.laws.runs_are_one.Goals as goal

pub returns : goal.returns
returns c = runs_are_one
