use Rattle.td_report_facts.proofs.Runs.{runs_are_reportable}
use Rattle.td_report_facts.proofs.laws.runs_are_reportable.Goals as goal

pub returns : goal.returns
returns c = runs_are_reportable c.outcomes_are_reportable.ensures
