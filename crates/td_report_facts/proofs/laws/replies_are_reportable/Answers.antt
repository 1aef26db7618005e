use Rattle.td_report_facts.proofs.Hosts.{replies_are_reportable}
use Rattle.td_report_facts.proofs.laws.replies_are_reportable.Goals as goal

pub returns : goal.returns
returns c = replies_are_reportable c.outcomes_are_reportable.ensures
