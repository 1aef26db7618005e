use Rattle.std.proofs.Common.{refl}
use Rattle.std.proofs.lemmas.Bool.{false≢true}
use Rattle.td_cli.specs.CallEnds.{passage}
use Rattle.td_cli.proofs.Hosts.{host_answers, host_unanswered}
use Rattle.td_cli.proofs.host.answer_host.Goals as goal

pub returns-in-Ok : goal.returns-in-Ok
returns-in-Ok g c =
    host_answers c.args.input.now c.in-Ok.served (passage g.O.Sink.state c.args.out.now c.finish_served-status.new.out) (passage g.E.Sink.state c.args.err.now c.args.err.now) c.finish_served-status.result c.requires.short c.in-Ok.ensures.served
    (λ refusal h. false≢true (c.in-Ok.ensures.refused refusal h)) c.finish_served-status.ensures refl

pub returns-in-Err : goal.returns-in-Err
returns-in-Err g c =
    host_unanswered c.args.input.now c.in-Err.error (passage g.O.Sink.state c.args.out.now c.args.out.now) (passage g.E.Sink.state c.args.err.now c.finish_unanswered-status.new.err) c.finish_unanswered-status.result c.requires.short c.in-Err.ensures.cause c.in-Err.ensures.complete c.in-Err.ensures.no_job c.finish_unanswered-status.ensures refl
