use Rattle.td_cli.specs.Answers.{IsListingOf}
use Rattle.td_cli.proofs.Inputs.{text_made, text_refused, text_unmade}
use Rattle.td_cli.proofs.code.code_input.Goals as goal

pub returns-in-Ok-code_listing : goal.returns-in-Ok-code_listing
returns-in-Ok-code_listing c =
    let input = c.args.input.now in
    let is : IsListingOf input c.in-Ok-code_listing.text = (c.in-Ok.«module», c.in-Ok.ensures.stands, c.in-Ok-code_listing.ensures) in
    text_made (IsListingOf input) input c.in-Ok-code_listing.text is c.in-Ok.ensures.exact

pub returns : goal.returns
returns c = text_unmade (IsListingOf c.args.input.now) c.args.input.now

pub returns-in-Err : goal.returns-in-Err
returns-in-Err c =
    text_refused (IsListingOf c.args.input.now) c.args.input.now c.in-Err.error c.of_module.result c.of_module.ensures c.in-Err.ensures.refused c.in-Err.ensures.complete
