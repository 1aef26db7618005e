use Rattle.td_report_facts.proofs.Runs.{loads_are_reportable}
use Rattle.td_report_facts.proofs.laws.loads_are_reportable.Goals as goal

pub returns : goal.returns
returns c = loads_are_reportable
