use Rattle.std.specs.Prelude.{◌≤◌, length, List, Option, option_map}
use Rattle.std.proofs.Common.{◌∙◌, sym, subst}
use Rattle.td_core.specs.declared.outcome.Outcome.{Outcome}
use Rattle.td_stream.specs.declared.stretch.Stretch.{Stretch}
use Rattle.td_stream.specs.Layouts.{count_in, loadable, layout_or_plain}
use Rattle.td_ir.specs.Entries.{buffers_of}
use Rattle.td_vm.specs.Frames.{outcome_in}
use Rattle.td_cli.specs.Run.{IsRunOf}
use Rattle.td_cli.proofs.Compiled.{job_fits, fits_with, run_with, run_of}
use Rattle.td_report_facts.proofs.Words.{ends_with}
use Rattle.td_cli.proofs.run.run_ready.Goals as goal

pub run_counted-ran-requires-clause-fits : goal.run_counted-ran-requires-clause-fits
run_counted-ran-requires-clause-fits g c =
    let job = c.args.input.now.job in
    fits_with c.args.ready.code job.entry job.args c.as_slice-args.result.now job.cells c.as_slice-cells.result.now c.as_slice-args.ensures c.as_slice-cells.ensures
    (job_fits c.arguments_fit.ensures c.args.ready.code c.args.input.now.«module» job c.requires.code c.requires.entry c.requires.values)

pub run_counted-ran-requires-clause-same : goal.run_counted-ran-requires-clause-same
run_counted-ran-requires-clause-same g c = c.requires.layout ∙ sym c.as_ref-layout.ensures.value

pub run_counted-ran-requires-clause-room : goal.run_counted-ran-requires-clause-room
run_counted-ran-requires-clause-room g c =
    let job = c.args.input.now.job in
    let words = c.args.ready.prepared.words.opening in
    let layout : Option (List Stretch) = option_map (λ l. l.now) c.as_ref-layout.result in
    subst (λ (o : Option (List Stretch)). count_in (layout_or_plain job.length layout) ≤ loadable o (length words)) (sym (c.requires.layout ∙ sym c.as_ref-layout.ensures.value))
    (ends_with job layout words c.as_ref-layout.ensures.value c.requires.opening c.requires.room)

pub returns-clause-run : goal.returns-clause-run
returns-clause-run g c =
    let code = c.args.ready.code in
    let m = c.args.input.now.«module» in
    let job = c.args.input.now.job in
    let p = c.args.ready.prepared in
    let loads = c.run_counted-ran.result.loads.list in
    let outcome : Outcome = outcome_in c.run_counted-ran.new.frame (buffers_of code job.entry) c.run_counted-ran.result.verdict in
    subst (λ (o : Outcome). IsRunOf m job o loads) (sym c.into_outcome-outcome.ensures)
    (run_of code m job outcome loads c.requires.code c.requires.sound c.requires.room
    (run_with code job outcome loads c.as_slice-args.result.now c.as_slice-cells.result.now p.words.opening p.words.stores p.words.layout c.as_slice-args.ensures c.as_slice-cells.ensures c.requires.opening c.requires.stores c.requires.layout c.run_counted-ran.ensures.run))
