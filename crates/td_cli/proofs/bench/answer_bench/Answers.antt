use Rattle.std.proofs.Common.{refl}
use Rattle.td_cli.specs.CallEnds.{passage}
use Rattle.td_cli.proofs.Benches.{never_refused, bench_answers, bench_unanswered}
use Rattle.td_cli.proofs.bench.answer_bench.Goals as goal

pub returns-in-Ok : goal.returns-in-Ok
returns-in-Ok g c =
    let never = never_refused c.one_answer_each.ensures.one_module c.one_answer_each.ensures.never_both c.one_message_each.ensures c.one_named_answer_each.ensures.never_both c.args.n in
    bench_answers c.args.n c.in-Ok.totals (passage g.O.Sink.state c.args.out.now c.finish_totals.new.out) (passage g.E.Sink.state c.args.err.now c.args.err.now) c.finish_totals.result never c.in-Ok.ensures.totals c.finish_totals.ensures refl

pub returns-in-Err : goal.returns-in-Err
returns-in-Err g c =
    let never = never_refused c.one_answer_each.ensures.one_module c.one_answer_each.ensures.never_both c.one_message_each.ensures c.one_named_answer_each.ensures.never_both c.args.n in
    bench_unanswered c.args.n c.in-Err.error (passage g.O.Sink.state c.args.out.now c.args.out.now) (passage g.E.Sink.state c.args.err.now c.finish_unanswered.new.err) c.finish_unanswered.result never c.in-Err.ensures.cause c.finish_unanswered.ensures refl
