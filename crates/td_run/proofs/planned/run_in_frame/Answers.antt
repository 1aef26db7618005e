use Rattle.std.proofs.Common.{ℕ, ◌≤◌, Option, List, length, sym, ap, ◌∙◌, subst}
use Rattle.td_run.specs.Imports.{Outcome, Stretch, PlannedStore}
use Rattle.td_stream.specs.Layouts.{count_in, loadable, layout_or_plain}
use Rattle.td_ir.specs.Entries.{buffers_of}
use Rattle.td_vm.specs.Frames.{outcome_in}
use Rattle.td_run.specs.Runs.{IsRunBy}
use Rattle.td_run.proofs.planned.run_in_frame.Goals as goal

pub run_prepared-requires-clause-room : goal.run_prepared-requires-clause-room
run_prepared-requires-clause-room c =
    let e = c.in_ok-prepared.ensures in
    let at = c.message_in-message.ensures c.args.length c.plain-plain.ensures.layout in
    subst (λ (x : List Stretch × Option (List Stretch) × List ℕ). count_in x.0 ≤ loadable x.1 (length x.2)) (λ i. (sym at i, sym e.layout i, sym e.opening i)) c.requires.room

pub returns-clause-run : goal.returns-clause-run
returns-clause-run c =
    let start = c.args.start.now in
    let e = c.in_ok-prepared.ensures in
    let at = c.message_in-message.ensures c.args.length c.plain-plain.ensures.layout in
    let done = c.run_prepared.ensures.run c.args.length (at ∙ ap (layout_or_plain c.args.length) (sym e.layout)) in
    let outcome : Outcome = outcome_in c.run_prepared.new.frame (buffers_of c.args.code.now start.entry) c.run_prepared.result.verdict in
    subst (λ (x : List ℕ × List PlannedStore × Option (List Stretch)). IsRunBy c.args.code.now (record { entry = start.entry; args = start.args.now; cells = start.cells.now; length = c.args.length; layout = x.2; words = x.0; stores = x.1 }) outcome c.run_prepared.result.loads.list)
    (λ i. (e.opening i, e.stores i, e.layout i)) done
