use Rattle.std.proofs.Common.{refl}
use Rattle.std.proofs.lemmas.Bool.{false≢true}
use Rattle.td_report_facts.proofs.Words.{numbered}
use Rattle.td_cli.specs.CallEnds.{passage}
use Rattle.td_cli.proofs.Runs.{run_answers, run_unanswered}
use Rattle.td_cli.proofs.run.answer_counted.Goals as goal

pub finish_report-status-requires : goal.finish_report-status-requires
finish_report-status-requires g c = numbered c.in-Ok.finished.input.job.length c.in-Ok.finished.input.job.layout c.in-Ok.finished.loads.list c.in-Ok.ensures.run.fetched.inside

pub returns-in-Ok : goal.returns-in-Ok
returns-in-Ok g c =
    run_answers c.args.input.now c.in-Ok.finished (passage g.O.Sink.state c.args.out.now c.finish_report-status.new.out) (passage g.E.Sink.state c.args.err.now c.args.err.now) c.finish_report-status.result c.requires.limit c.in-Ok.ensures.input c.in-Ok.ensures.run
    (λ refusal h. false≢true (c.in-Ok.ensures.refused refusal h)) c.finish_report-status.ensures refl

pub returns : goal.returns
returns g c =
    run_unanswered c.args.input.now c.in-Err.error (passage g.O.Sink.state c.args.out.now c.args.out.now) (passage g.E.Sink.state c.args.err.now c.finish_unanswered-status.new.err) c.finish_unanswered-status.result c.requires.limit c.in-Err.ensures.cause c.in-Err.ensures.complete c.in-Err.ensures.no_job c.finish_unanswered-status.ensures refl
