use Rattle.std.specs.Prelude.{List, Option, option_map}
use Rattle.td_stream.specs.declared.stretch.Stretch.{Stretch}
use Rattle.std.proofs.lemmas.Result.{IfOk-weaker}
use Rattle.td_run.specs.Runs.{IsRunBy}
use Rattle.td_try_bodies.specs.Meant.{IsJobMeant}
use Rattle.td_code.proofs.Means.{lowerable}
use Rattle.td_report_facts.proofs.Words.{ends_with, over_with}
use Rattle.td_try_bodies.proofs.Jobs.{job_fits, input_by, run_is_meant}
use Rattle.td_try_bodies.proofs.bodies.run_compiled.Goals as goal

pub lower-requires : goal.lower-requires
lower-requires c = lowerable c.args.m.now c.requires.checked

pub run_planned-requires-clause-fits : goal.run_planned-requires-clause-fits
run_planned-requires-clause-fits c =
    job_fits c.arguments_fit.ensures c.in_ok-code.code c.args.m.now c.args.job.now c.as_slice-args.result.now c.as_slice-cells.result.now c.in_ok-code.ensures.code c.requires.entry c.requires.values c.as_slice-args.ensures c.as_slice-cells.ensures

pub run_planned-requires-clause-room : goal.run_planned-requires-clause-room
run_planned-requires-clause-room c =
    ends_with c.args.job.now (option_map (λ l. l.now) c.as_ref-layout.result) c.as_slice-words.result.now c.as_ref-layout.ensures.value c.as_slice-words.ensures c.requires.room

pub run_planned-requires-clause-over : goal.run_planned-requires-clause-over
run_planned-requires-clause-over c =
    over_with c.args.job.now (option_map (λ l. l.now) c.as_ref-layout.result) c.as_slice-words.result.now c.as_ref-layout.ensures.value c.as_slice-words.ensures c.requires.room

pub returns : goal.returns
returns c =
    let code = c.in_ok-code.code in
    let job = c.args.job.now in
    let args = c.as_slice-args.result.now in
    let cells = c.as_slice-cells.result.now in
    let words = c.as_slice-words.result.now in
    let stores = c.as_slice-stores.result.now in
    let layout : Option (List Stretch) = option_map (λ l. l.now) c.as_ref-layout.result in
    IfOk-weaker c.run_planned.result
    (λ run. IsRunBy code (input_by job args cells words stores layout) run.outcome run.loads.list)
    (λ run. IsJobMeant c.args.m.now job run.outcome run.loads.list)
    (λ run h.
    run_is_meant code c.args.m.now job run.outcome run.loads.list args cells words stores layout c.in_ok-code.ensures.code c.requires.sound c.requires.room
    c.as_slice-args.ensures c.as_slice-cells.ensures c.as_ref-layout.ensures.value h)
    c.run_planned.ensures
