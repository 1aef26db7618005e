use Rattle.std.proofs.Common.{arith}
use Rattle.td_code.specs.Compile.{IsImageOf}
use Rattle.td_cli.proofs.Inputs.{text_made, text_refused, text_unmade}
use Rattle.td_cli.proofs.pack.pack_input.Goals as goal

pub returns-in-Ok-packed_image : goal.returns-in-Ok-packed_image
returns-in-Ok-packed_image c =
    let input = c.args.input.now in
    let is : IsImageOf input c.in-Ok-packed_image.image = (c.in-Ok.«module», c.in-Ok.ensures.stands, c.in-Ok-packed_image.ensures.packed c.args.input.now (let r = c.requires in omega (arith, r)) c.in-Ok.ensures.stands) in
    text_made (IsImageOf input) input c.in-Ok-packed_image.image is c.in-Ok.ensures.exact

pub returns : goal.returns
returns c = text_unmade (IsImageOf c.args.input.now) c.args.input.now

pub returns-in-Err : goal.returns-in-Err
returns-in-Err c =
    text_refused (IsImageOf c.args.input.now) c.args.input.now c.in-Err.error c.of_module.result c.of_module.ensures c.in-Err.ensures.refused c.in-Err.ensures.complete
