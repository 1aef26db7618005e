use Rattle.std.proofs.Common.{◌++◌, [], None, codes}
use Rattle.td_core.specs.Paths.{indexed}
use Rattle.td_report.specs.ErrorLine.{after_space}
use Rattle.td_report.proofs.Composing.{writes_both, writes_stopped, writes_as}
use Rattle.td_report.proofs.Parts.{error_line_parts}
use Rattle.td_report.proofs.path_line.path_line.Goals as goal

pub returns-in_err-write_code : goal.returns-in_err-write_code
returns-in_err-write_code g c =
    let words = indexed c.args.name.now c.args.index in
    writes_as (error_line_parts [] None c.args.code.now words) (writes_stopped (after_space words ++ codes "\n") c.from_residual.result c.from_residual.ensures.0 c.in_err-write_code.ensures)

pub returns-in_err-write_path : goal.returns-in_err-write_path
returns-in_err-write_path g c =
    let words = indexed c.args.name.now c.args.index in
    writes_as (error_line_parts [] None c.args.code.now words) (writes_both c.in_ok-write_code.ensures (writes_stopped (codes "\n") c.from_residual-in_err-write_path.result c.from_residual-in_err-write_path.ensures.0 c.in_err-write_path.ensures))

pub returns : goal.returns
returns g c =
    let words = indexed c.args.name.now c.args.index in
    writes_as (error_line_parts [] None c.args.code.now words) (writes_both c.in_ok-write_code.ensures (writes_both c.in_ok-write_path.ensures c.write_pieces.ensures))
