use Rattle.td_cli.proofs.tool.answer_input.Goals as goal

pub returns-in-Check : goal.returns-in-Check
returns-in-Check g c = rw c.in-Check.is c.answer_check.ensures

pub returns-in-Tidy : goal.returns-in-Tidy
returns-in-Tidy g c = rw c.in-Tidy.is c.answer_tidy.ensures

pub returns-in-Code : goal.returns-in-Code
returns-in-Code g c = rw c.in-Code.is c.answer_code.ensures

pub returns-in-Pack : goal.returns-in-Pack
returns-in-Pack g c = rw c.in-Pack.is c.answer_pack.ensures

pub returns-in-Run : goal.returns-in-Run
returns-in-Run g c = rw c.in-Run.is c.answer_run.ensures
