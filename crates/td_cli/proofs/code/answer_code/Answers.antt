use Rattle.std.proofs.Common.{refl, sym, subst}
use Rattle.td_cli_command.specs.declared.command.Command.TheVariants.{Read}
use Rattle.td_cli_command.specs.declared.command.Reading.TheVariants.{Code}
use Rattle.td_cli.specs.Answers.{IsListingOf}
use Rattle.td_cli.specs.CallEnds.{passage}
use Rattle.td_cli.proofs.Texts.{of_code, text_answers, text_unanswered}
use Rattle.td_cli.proofs.code.answer_code.Goals as goal

pub returns-in-Ok : goal.returns-in-Ok
returns-in-Ok g c =
    let input = c.args.input.now in
    text_answers (Read Code) of_code (IsListingOf input) input c.as_slice.result.now c.in-Ok.text (passage g.O.Sink.state c.args.out.now c.finish_bytes.new.out) (passage g.E.Sink.state c.args.err.now c.args.err.now) c.finish_bytes.result c.requires c.in-Ok.ensures
    (c.requires, subst (IsListingOf input) (sym c.as_slice.ensures) c.in-Ok.ensures.stands) c.finish_bytes.ensures refl

pub returns-in-Err : goal.returns-in-Err
returns-in-Err g c =
    let input = c.args.input.now in
    text_unanswered (Read Code) of_code (IsListingOf input) input c.in-Err.error (passage g.O.Sink.state c.args.out.now c.args.out.now) (passage g.E.Sink.state c.args.err.now c.finish_unanswered-status.new.err) c.finish_unanswered-status.result c.requires c.in-Err.ensures c.finish_unanswered-status.ensures refl
