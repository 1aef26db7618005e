use Rattle.td_front.specs.ModuleText.{IsModuleText}
use Rattle.td_cli.proofs.Inputs.{text_made, text_refused}
use Rattle.td_cli.proofs.check.module_of_input.Goals as goal

pub returns-in-Ok : goal.returns-in-Ok
returns-in-Ok c = text_made (IsModuleText c.args.input.now) c.args.input.now c.in-Ok.«module» c.in-Ok.ensures.stands c.in-Ok.ensures.exact

pub returns-in-Err : goal.returns-in-Err
returns-in-Err c =
    text_refused (IsModuleText c.args.input.now) c.args.input.now c.in-Err.error c.of_module.result c.of_module.ensures c.in-Err.ensures.refused c.in-Err.ensures.complete
