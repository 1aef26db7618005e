use Rattle.std.proofs.Common.{◌≡◌, ℕ, Option, Some, None, List, [], refl, ap, subst, ◌∙◌}
use Rattle.td_run.specs.Imports.{Load, Stretch, PlannedStore, Entry, Outcome, Parts}
use Rattle.td_stream.specs.Layouts.{layout_or_plain}
use Rattle.td_stream.specs.Loads.{buffered}
use Rattle.td_sched.specs.Plan.{ArePlanned}
use Rattle.td_sched.specs.View.{PlannedView, PlannedReaches}
use Rattle.td_ir.specs.Entries.{buffers_of}
use Rattle.td_vm.specs.Frames.{outcome_in}
use Rattle.td_run.specs.Runs.{IsRunBy}
use Rattle.td_run.specs.Validation.{IsValidation}
use Rattle.td_run.proofs.planned.run_prepared.Goals as goal

-- memory that was opened on a plan gave loads of that plan
held : (v w : PlannedView) (loads : List Load) → PlannedReaches v w → v.loads ≡ [] → w.loads ≡ loads → ArePlanned v.opening v.stores 0 (buffered v.layout loads)
held v w loads plays fresh recorded =
    let none : buffered v.layout v.loads ≡ [] = ap (buffered v.layout) fresh ∙ nothing v.layout in
    let start : ArePlanned v.opening v.stores 0 (buffered v.layout v.loads) = rw none tt in
    let end = plays.planned start in
    subst (λ (x : List ℕ × List PlannedStore × Option (List Stretch) × List Load). ArePlanned x.0 x.1 0 (buffered x.2 x.3)) (λ i. (plays.opening i, plays.stores i, plays.layout i, recorded i)) end
  where
    nothing : (o : Option (List Stretch)) → buffered o [] ≡ []
    nothing None = refl
    nothing (Some layout) = refl

-- the same validation, of cells that were set and of a layout by another name
moved : (p : Parts) (entry : Entry) (args : List ℕ) (n : ℕ) (o : Option (List Stretch)) (words : List ℕ) (stores : List PlannedStore) (loads : List Load) (outcome : Outcome) (cells cells' : List ℕ) (layout : List Stretch) → cells' ≡ cells → layout ≡ layout_or_plain n o
    → ArePlanned words stores 0 (buffered o loads) → IsValidation p entry args cells' layout loads outcome
    → IsRunBy p (record { entry = entry; args = args; cells = cells; length = n; layout = o; words = words; stores = stores }) outcome loads
moved p entry args n o words stores loads outcome cells cells' layout same at planned validated =
    record { validated = subst (λ (x : List ℕ × List Stretch). IsValidation p entry args x.0 x.1 loads outcome) (λ i. (same i, at i)) validated; held = planned }

pub returns-clause-run : goal.returns-clause-run
returns-clause-run c = λ n at.
    let done = c.validate_recorded-verdict.ensures in
    let p = c.args.prepared in
    let start = c.args.start.now in
    let loads = c.validate_recorded-verdict.new.loads.list in
    moved c.args.code.now start.entry start.args.now n p.words.layout p.words.opening p.words.stores loads
    (outcome_in c.validate_recorded-verdict.new.frame (buffers_of c.args.code.now start.entry) c.validate_recorded-verdict.result)
    start.cells.now c.set_cells.new.self.cells c.args.message.now c.set_cells.ensures.cells at
    (held p.words c.validate_recorded-verdict.new.words loads done.reaches p.fresh done.loads) done.validated
