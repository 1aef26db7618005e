use Rattle.std.proofs.Common.{◌++◌, codes}
use Rattle.td_report.specs.ErrorLine.{after_space}
use Rattle.td_report.specs.Report.{byte_digits}
use Rattle.td_report.proofs.Composing.{writes_both, writes_stopped, writes_as}
use Rattle.td_report.proofs.Named.{copy_pieces}
use Rattle.td_report.proofs.copies.write_copy.Goals as goal

pub returns-in_err-write_pieces : goal.returns-in_err-write_pieces
returns-in_err-write_pieces g c =
    writes_as (copy_pieces c.args.m.now c.args.buffer c.args.bytes.now c.name_pieces-name.result.part.now c.name_pieces-name.result.dot.now c.name_pieces-name.result.own.now c.name_pieces-name.ensures)
    (writes_stopped (after_space (byte_digits c.args.bytes.now) ++ codes "\n") c.from_residual.result c.from_residual.ensures.0 c.in_err-write_pieces.ensures)

pub returns-in_err-write_spaced : goal.returns-in_err-write_spaced
returns-in_err-write_spaced g c =
    writes_as (copy_pieces c.args.m.now c.args.buffer c.args.bytes.now c.name_pieces-name.result.part.now c.name_pieces-name.result.dot.now c.name_pieces-name.result.own.now c.name_pieces-name.ensures)
    (writes_both c.in_ok-write_pieces.ensures
    (writes_stopped (codes "\n") c.from_residual-in_err-write_spaced.result c.from_residual-in_err-write_spaced.ensures.0 c.in_err-write_spaced.ensures))

pub returns : goal.returns
returns g c = writes_as (copy_pieces c.args.m.now c.args.buffer c.args.bytes.now c.name_pieces-name.result.part.now c.name_pieces-name.result.dot.now c.name_pieces-name.result.own.now c.name_pieces-name.ensures) (writes_both c.in_ok-write_pieces.ensures (writes_both c.in_ok-write_spaced.ensures c.write_pieces-2.ensures))
