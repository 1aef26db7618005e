use Rattle.td_cli_host.proofs.Answered.{host_reports_determine_served}
use Rattle.td_cli_host.proofs.laws.host_reports_determine_served.Goals as goal

pub returns : goal.returns
returns c = host_reports_determine_served c.one_answer_each.ensures.one_module c.served_are_reportable.ensures c.host_reports_determine_replies.ensures
