use Rattle.std.proofs.Common.{Bor, option_map, flat_map}
use Rattle.td_report_host.specs.Imports.{Module, Entry}
use Rattle.td_report.proofs.Composing.{writes_both, writes_stopped}
use Rattle.td_report_host.specs.Report.{take_report}
use Rattle.td_report_host.proofs.report.host_report.Goals as goal

pub returns-in_err-write_replies : goal.returns-in_err-write_replies
returns-in_err-write_replies g c =
    let ring = option_map (λ (r : Bor Module × Entry). (r.0.now, r.1)) c.args.ring in
    writes_stopped (flat_map (take_report c.args.formats.now c.args.entries.now ring) c.args.takes.now) c.from_residual.result c.from_residual.ensures.0 c.in_err-write_replies.ensures

pub returns : goal.returns
returns g c = writes_both c.in_ok-write_replies.ensures c.write_takes.ensures
