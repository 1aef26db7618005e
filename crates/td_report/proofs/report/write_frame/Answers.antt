use Rattle.std.proofs.Common.{◌∙◌}
use Rattle.td_report.proofs.Composing.{writes_as}
use Rattle.td_report.proofs.Named.{frame_pieces}
use Rattle.td_report.proofs.report.write_frame.Goals as goal

pub returns : goal.returns
returns g c =
    let ty = c.name_pieces-ty.result in
    let field = c.spot_of-field.result in
    writes_as (frame_pieces c.args.m.now c.args.frame ty.part.now ty.dot.now ty.own.now field.part.now field.dot.now field.own.now c.as_bytes-start.result.now
    c.name_pieces-ty.ensures c.spot_of-field.ensures (c.as_bytes-start.ensures.value ∙ c.format.ensures.text)) c.write_pieces.ensures
