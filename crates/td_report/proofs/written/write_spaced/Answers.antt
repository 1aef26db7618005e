use Rattle.std.proofs.Common.{sym}
use Rattle.td_report.specs.Report.{byte_digits}
use Rattle.td_report.proofs.Composing.{writes_both, writes_stopped, writes_as}
use Rattle.td_report.proofs.written.write_spaced.Goals as goal

pub returns-in_err-write_all : goal.returns-in_err-write_all
returns-in_err-write_all g c =
    writes_as (sym c.space_before.ensures) (writes_stopped (byte_digits c.args.bytes.now) c.from_residual.result c.from_residual.ensures.0 c.in_err-write_all.ensures)

pub returns : goal.returns
returns g c = writes_as (sym c.space_before.ensures) (writes_both c.in_ok-write_all.ensures c.write_digits.ensures)
