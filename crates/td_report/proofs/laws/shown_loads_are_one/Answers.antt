use Rattle.td_report.proofs.Shown.{same_loads}
use Rattle.td_report.proofs.laws.shown_loads_are_one.Goals as goal

pub returns : goal.returns
returns c = same_loads
