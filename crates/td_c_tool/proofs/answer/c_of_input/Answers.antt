use Rattle.std.proofs.Common.{arith}
use Rattle.td_c_tool.specs.Answers.{IsFile}
use Rattle.td_c_tool.proofs.Answered.{module_answers, text_refused}
use Rattle.td_c_tool.proofs.answer.c_of_input.Goals as goal

pub returns-in-Ok : goal.returns-in-Ok
returns-in-Ok c =
    let input = c.args.input.now in
    let is = c.file_with_entry.ensures input (let r = c.requires in omega (arith, r)) c.in-Ok.ensures.stands in
    module_answers (IsFile c.args.command.now.file c.args.command.now.prefix) c.one_answer_each.ensures.never_both c.one_answer_each.ensures.one_module input c.in-Ok.«module» c.in-Ok.ensures.stands c.file_with_entry.result is

pub returns-in-Err : goal.returns-in-Err
returns-in-Err c =
    text_refused (IsFile c.args.command.now.file c.args.command.now.prefix) c.args.input.now c.in-Err.error c.of_module.result c.of_module.ensures c.in-Err.ensures.refused c.in-Err.ensures.complete
