use Rattle.std.proofs.Common.{◌≡◌, ◌+◌, refl, ap, ◌∙◌, length, arith}
use Rattle.std.proofs.lemmas.Result.{err_from_is_err_and}
use Rattle.td_cli.specs.declared.totals.Totals.{Totals}
use Rattle.td_cli.specs.Bench.{MessageRun}
use Rattle.td_cli.specs.Benching.{totals_with}
use Rattle.td_cli.proofs.Benches.{no_totals, totals_next, message_cause}
use Rattle.td_cli.proofs.bench.run_messages.Goals as goal

pub loop-k-init : goal.loop-k-init
loop-k-init c = record {
  modules = c.requires.modules;
  totals = no_totals c.args.modules.now (record { messages = 0; accepted = 0; rejected = 0; bytes = 0; loads = 0 }) c.requires.modules refl;
  messages = refl;
  verdicts = refl;
  bytes = omega arith;
  loads = omega arith;
}

pub returns-in_err-run-clause-cause : goal.returns-in_err-run-clause-cause
returns-in_err-run-clause-cause c =
    let p = err_from_is_err_and c.from_residual.result c.from_residual.ensures.1 in
    rw (p.1, p.2) (message_cause c.args.n c.loop-k.k c.loop-k.totals c.in_err-run.field-0.0 c.loop-k-test.true c.loop-k.invariant.totals c.in_err-run.ensures.cause)

pub loop-k-preserved : goal.loop-k-preserved
loop-k-preserved c =
    let h = c.in_ok-run.ensures.run in
    let run : MessageRun = record { outcome = record { verdict = c.in_ok-run.run'.verdict; trace = h.trace; cells = h.cells; copies = h.copies }; loads = c.in_ok-run.run'.loads.list } in
    let totals : c.with_run-totals.result ≡ totals_with c.loop-k.totals run = c.with_run-totals.ensures.totals h.trace h.cells h.copies in
    let loads : c.with_run-totals.result.loads ≡ c.loop-k.totals.loads + length run.loads = ap (λ (t : Totals). t.loads) totals in
    record {
      modules = c.run_one.ensures.prepared;
      totals = totals_next c.loop-k.k c.loop-k.totals c.with_run-totals.result run c.loop-k.invariant.totals h.is totals;
      messages = ap (λ (t : Totals). t.messages) totals ∙ ap (λ n. n + 1) c.loop-k.invariant.messages;
      verdicts = omega (arith, c.with_run-totals.ensures.verdicts, c.loop-k.invariant.verdicts);
      bytes = omega (arith, c.with_run-totals.ensures.bytes, c.loop-k.invariant.bytes);
      loads = omega (arith, loads, c.in_ok-run.ensures.few, c.loop-k.invariant.loads);
    }
