use Rattle.td_report.proofs.Determining.{reports_determine_outcomes}
use Rattle.td_report.proofs.laws.reports_determine_outcomes.Goals as goal

pub returns : goal.returns
returns c = reports_determine_outcomes
