use Rattle.std.proofs.Common.{refl}
use Rattle.td_front.specs.ModuleText.{IsModuleText}
use Rattle.td_report.specs.Summary.{summary}
use Rattle.td_cli_command.specs.declared.command.Command.TheVariants.{Read}
use Rattle.td_cli_command.specs.declared.command.Reading.TheVariants.{Check}
use Rattle.td_cli.specs.CallEnds.{passage}
use Rattle.td_cli.proofs.Texts.{of_check, text_answers, text_unanswered}
use Rattle.td_cli.proofs.check.answer_check.Goals as goal

pub returns-in-Ok : goal.returns-in-Ok
returns-in-Ok g c =
    let input = c.args.input.now in
    let m = c.in-Ok.m in
    text_answers (Read Check) of_check (IsModuleText input) input (summary m) m (passage g.O.Sink.state c.args.out.now c.finish_summary-status.new.out) (passage g.E.Sink.state c.args.err.now c.args.err.now) c.finish_summary-status.result c.requires c.in-Ok.ensures
    (c.requires, (m, c.in-Ok.ensures.stands, refl)) c.finish_summary-status.ensures refl

pub returns-in-Err : goal.returns-in-Err
returns-in-Err g c =
    let input = c.args.input.now in
    text_unanswered (Read Check) of_check (IsModuleText input) input c.in-Err.error (passage g.O.Sink.state c.args.out.now c.args.out.now) (passage g.E.Sink.state c.args.err.now c.finish_unanswered-status.new.err) c.finish_unanswered-status.result c.requires c.in-Err.ensures c.finish_unanswered-status.ensures refl
