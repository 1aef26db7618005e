use Rattle.td_report_host.proofs.Hosts.{host_reports_determine_replies}
use Rattle.td_report_host.proofs.laws.host_reports_determine_replies.Goals as goal

pub returns : goal.returns
returns c = host_reports_determine_replies
