use Rattle.std.proofs.Common.{◌∙◌}
use Rattle.td_report.specs.Report.{cell_value}
use Rattle.td_report.proofs.Composing.{writes_as}
use Rattle.td_report.proofs.Named.{cell_pieces, field_pieces}
use Rattle.td_report.proofs.report.write_cell.Goals as goal

pub returns-in-None : goal.returns-in-None
returns-in-None g c =
    let name = c.name_pieces-name.result in
    writes_as (cell_pieces c.args.m.now (cell_value c.args.cell c.args.value) name.part.now name.dot.now name.own.now c.as_bytes-value.result.now
    c.in-None.is c.name_pieces-name.ensures (c.as_bytes-value.ensures.value ∙ c.format.ensures.text)) c.write_pieces.ensures

pub returns-in-Some : goal.returns-in-Some
returns-in-Some g c =
    let name = c.name_pieces-name.result in
    let field = c.name_pieces-field.result in
    writes_as (field_pieces c.args.m.now (cell_value c.args.cell c.args.value) c.in-Some.field name.part.now name.dot.now name.own.now field.part.now field.dot.now field.own.now c.as_bytes-value.result.now
    c.in-Some.is c.name_pieces-name.ensures c.name_pieces-field.ensures (c.as_bytes-value.ensures.value ∙ c.format.ensures.text)) c.write_pieces-in-Some.ensures
