use Rattle.td_report.proofs.Composing.{writes_both, writes_stopped}
use Rattle.td_report_host.specs.Report.{version_line}
use Rattle.td_report_host.proofs.report.write_heading.Goals as goal

pub returns-in_err-write_reply_line : goal.returns-in_err-write_reply_line
returns-in_err-write_reply_line g c = writes_stopped (version_line c.args.versions c.args.version) c.from_residual.result c.from_residual.ensures.0 c.in_err-write_reply_line.ensures

pub returns : goal.returns
returns g c = writes_both c.in_ok-write_reply_line.ensures c.write_version_line.ensures
