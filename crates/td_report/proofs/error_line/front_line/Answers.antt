use Rattle.std.proofs.Common.{◌++◌, codes}
use Rattle.td_report.specs.ErrorLine.{place_words, after_space}
use Rattle.td_report.proofs.Composing.{writes_both, writes_stopped, writes_as}
use Rattle.td_report.proofs.Parts.{error_line_parts}
use Rattle.td_report.proofs.error_line.front_line.Goals as goal

pub returns-in_err-write_code : goal.returns-in_err-write_code
returns-in_err-write_code g c =
    let rest = place_words c.args.text.now c.args.at ++ (after_space c.args.words.now ++ codes "\n") in
    writes_as (error_line_parts c.args.text.now c.args.at c.args.code.now c.args.words.now) (writes_stopped rest c.from_residual.result c.from_residual.ensures.0 c.in_err-write_code.ensures)

pub returns-in_err-write_place : goal.returns-in_err-write_place
returns-in_err-write_place g c =
    let rest = after_space c.args.words.now ++ codes "\n" in
    writes_as (error_line_parts c.args.text.now c.args.at c.args.code.now c.args.words.now) (writes_both c.in_ok-write_code.ensures (writes_stopped rest c.from_residual-in_err-write_place.result c.from_residual-in_err-write_place.ensures.0 c.in_err-write_place.ensures))

pub returns-in_err-write_words : goal.returns-in_err-write_words
returns-in_err-write_words g c =
    writes_as (error_line_parts c.args.text.now c.args.at c.args.code.now c.args.words.now) (writes_both c.in_ok-write_code.ensures (writes_both c.in_ok-write_place.ensures (writes_stopped (codes "\n") c.from_residual-in_err-write_words.result c.from_residual-in_err-write_words.ensures.0 c.in_err-write_words.ensures)))

pub returns : goal.returns
returns g c =
    writes_as (error_line_parts c.args.text.now c.args.at c.args.code.now c.args.words.now) (writes_both c.in_ok-write_code.ensures (writes_both c.in_ok-write_place.ensures (writes_both c.in_ok-write_words.ensures c.write_pieces.ensures)))
