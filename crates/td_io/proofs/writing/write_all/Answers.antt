use Rattle.std.proofs.Common.{◌+◌, arith, ap, ◌∙◌, length, length-drop, length-take}
use Rattle.td_io.specs.declared.faults.Faults.{Faults}
use Rattle.td_io.proofs.Growth.{appends_more}
use Rattle.td_io.proofs.writing.write_all.Goals as goal

pub loop-done-preserved : goal.loop-done-preserved
loop-done-preserved g c = record {
  within = omega (arith, c.in_ok-done.ensures.bound, ap length c.rest_at.ensures, length-drop c.loop-done.done c.args.text.now);
  taken = record {
    written = appends_more (g.O.Sink.state c.args.out.now).written (g.O.Sink.state c.loop-done.out).written (g.O.Sink.state c.write.new.self).written c.args.text.now c.loop-done.done c.in_ok-done.field-0 c.rest_at.result.now c.rest_at.ensures c.loop-done.invariant.taken.written c.in_ok-done.ensures.bytes;
    faults = ap (λ (f : Faults). f.count) c.in_ok-done.ensures.cause.worked ∙ c.loop-done.invariant.taken.faults;
    nothing = λ none. absurd (omega (arith, ap length none, length-take (c.loop-done.done + c.in_ok-done.field-0) c.args.text.now, c.loop-done-test.true, c.in_ok-done.ensures.some, ap length c.rest_at.ensures, length-drop c.loop-done.done c.args.text.now));
  };
}
