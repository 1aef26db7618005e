use Rattle.td_report.proofs.Composing.{writes_both, writes_stopped}
use Rattle.td_report_host.specs.Report.{message_report}
use Rattle.td_report_host.proofs.takes.write_accepted.Goals as goal

pub returns-in_err-write_message_line : goal.returns-in_err-write_message_line
returns-in_err-write_message_line g c =
    let failed = c.from_residual-in_err-write_message_line in
    writes_stopped (message_report c.args.formats.now c.args.entries.now c.args.take.now.message) failed.result failed.ensures.0
    (writes_both c.in_ok-write_descr.ensures c.in_err-write_message_line.ensures)

pub returns : goal.returns
returns g c = writes_both (writes_both c.in_ok-write_descr.ensures c.in_ok-write_message_line.ensures) c.write_message.ensures
