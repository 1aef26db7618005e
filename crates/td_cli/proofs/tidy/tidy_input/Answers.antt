use Rattle.std.proofs.Common.{sym, ap, ◌∙◌}
use Rattle.td_print_layout.specs.Definitions.{canonical_text}
use Rattle.td_cli.specs.Answers.{IsTidy}
use Rattle.td_cli.proofs.Inputs.{text_made, text_refused, text_unmade}
use Rattle.td_cli.proofs.tidy.tidy_input.Goals as goal

pub returns-in-Ok-print : goal.returns-in-Ok-print
returns-in-Ok-print c =
    let input = c.args.input.now in
    let stands = c.in-Ok.ensures.stands in
    let is : IsTidy input c.in-Ok-print.text = (c.in-Ok.checked.module, stands.0, c.in-Ok-print.ensures.text ∙ ap canonical_text (sym stands.1)) in
    text_made (IsTidy input) input c.in-Ok-print.text is c.in-Ok.ensures.exact

pub returns : goal.returns
returns c = text_unmade (IsTidy c.args.input.now) c.args.input.now

pub returns-in-Err : goal.returns-in-Err
returns-in-Err c =
    text_refused (IsTidy c.args.input.now) c.args.input.now c.in-Err.error c.of_module.result c.of_module.ensures c.in-Err.ensures.refused c.in-Err.ensures.complete
