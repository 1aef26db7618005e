use Rattle.std.proofs.Common.{refl}
use Rattle.td_c_ends.specs.Passages.{passage}
use Rattle.td_c_tool.proofs.Answered.{file_answers, error_answers}
use Rattle.td_c_tool.proofs.answer.answer_input.Goals as goal

pub returns-in-Ok : goal.returns-in-Ok
returns-in-Ok g c =
    file_answers c.args.command.now c.args.input.now c.in-Ok.text c.as_slice.result.now (passage g.O.Sink.state c.args.out.now c.finish_bytes.new.out) (passage g.E.Sink.state c.args.err.now c.args.err.now) c.finish_bytes.result
    c.requires.named c.requires.short c.in-Ok.ensures c.as_slice.ensures c.finish_bytes.ensures refl

pub returns-in-Err : goal.returns-in-Err
returns-in-Err g c =
    error_answers c.args.command.now c.args.input.now c.in-Err.error (passage g.O.Sink.state c.args.out.now c.args.out.now) (passage g.E.Sink.state c.args.err.now c.finish_unanswered-status.new.err) c.finish_unanswered-status.result
    c.requires.short c.in-Err.ensures c.finish_unanswered-status.ensures refl
