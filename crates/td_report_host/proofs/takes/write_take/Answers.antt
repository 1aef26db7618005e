use Rattle.std.proofs.Common.{Bor, option_map}
use Rattle.td_report_host.specs.Imports.{Module, Entry}
use Rattle.td_report.proofs.Composing.{writes_both, writes_stopped}
use Rattle.td_report_host.specs.Report.{answer_report, take_report}
use Rattle.td_report_host.proofs.takes.write_take.Goals as goal

pub returns-in_err-write_head_line : goal.returns-in_err-write_head_line
unfolding take_report
returns-in_err-write_head_line g c =
    let failed = c.from_residual-in_err-write_head_line in
    let t = c.args.take.now in
    let ring = option_map (λ (r : Bor Module × Entry). (r.0.now, r.1)) c.args.ring in
    writes_stopped (answer_report c.args.formats.now c.args.entries.now ring t.next t.descr t.message) failed.result failed.ensures.0
    (writes_both c.in_ok-write_ring_line.ensures c.in_err-write_head_line.ensures)

pub returns : goal.returns
unfolding take_report
returns g c = writes_both (writes_both c.in_ok-write_ring_line.ensures c.in_ok-write_head_line.ensures) c.write_answer.ensures
