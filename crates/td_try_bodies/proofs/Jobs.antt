-- A job that is run by its module's code.
use Rattle.std.proofs.Common.{◌≡◌, ℕ, suc, ◌<◌, ◌≤◌, List, [], ◌∷◌, length, map, refl, arith, ap, ◌∙◌, subst, sym, Option, Some, None}
use Rattle.td_core.specs.declared.module.Module.{Module}
use Rattle.td_core.specs.declared.outcome.Outcome.{Outcome}
use Rattle.td_core.specs.Entries.{entry_definition}
use Rattle.td_core.specs.Formed.{Bound, AllFit, cell_bound, cells_at}
use Rattle.td_core.specs.declared.module.Buffer.{Buffer}
use Rattle.td_core.specs.declared.module.TypeDef.{TypeDef}
use Rattle.td_direct.specs.Copies.{AreBuffersFor, AreOfDefinition, AreOfEntry, empty_for, empty_of}
use Rattle.td_stream.specs.Copies.{BufferView}
use Rattle.std.proofs.lemmas.List.{length-map}
use Rattle.td_stream.specs.declared.load.Load.{Load}
use Rattle.td_front.specs.Checked.{IsChecked}
use Rattle.td_job.specs.declared.run_job.RunJob.{RunJob}
use Rattle.td_job.specs.Jobs.{HasRoom, HasValues}
use Rattle.td_cli_input.specs.Inputs.{IsSoundJob}
use Rattle.td_sched.specs.declared.store.PlannedStore.{PlannedStore}
use Rattle.td_ir.specs.declared.tables.Parts.{Parts}
use Rattle.td_ir.specs.Entries.{Fits}
use Rattle.td_lower.specs.Code.{IsLowerable}
use Rattle.td_lower_means.specs.CodeRun.{IsCodeOf, ArgumentsFit}
use Rattle.td_run.specs.Runs.{Input, IsRunBy}
use Rattle.td_core.specs.declared.outcome.Verdict.{Verdict}
use Rattle.td_core.specs.declared.outcome.TraceFrame.{TraceFrame}
use Rattle.std.specs.List.{All}
use Rattle.std.proofs.lemmas.List.Elements.{All-weaker}
use Rattle.td_stream.specs.declared.stretch.Stretch.{Stretch}
use Rattle.td_stream.specs.Layouts.{count_in, loadable, layout_or_plain, plain, IsNumberOf, IsOver}
use Rattle.td_stream.specs.Loads.{IsRising, Inside, Carries}
use Rattle.td_meaning.specs.Copies.{IsSoundOn}
use Rattle.td_fetch.specs.Outcomes.{IsMeant}
use Rattle.td_try_bodies.specs.Meant.{IsJobMeant}

-- a job's values, and lists that are alike, fit its entry point's code
pub job_fits : ArgumentsFit → (c : Parts) (m : Module) (job : RunJob) (args cells : List ℕ) → IsCodeOf c m → job.entry.number < length m.entries → HasValues m job
    → args ≡ job.args → cells ≡ job.cells → Fits c job.entry args cells
job_fits law c m job args cells of inside values p q =
    let o = entry_definition m job.entry.number in
    let h : Fits c job.entry job.args job.cells = law c m job.entry job.args job.cells of inside values.args values.cells in
    subst (λ x. Fits c job.entry args x) (sym q) (subst (λ x. Fits c job.entry x job.cells) (sym p) h)

abbrev pub input_by : RunJob → List ℕ → List ℕ → List ℕ → List PlannedStore → Option (List Stretch) → Input
input_by job args cells words stores layout = record { entry = job.entry; args = args; cells = cells; length = job.length; layout = layout; words = words; stores = stores }

-- a run by a module's code is meant
pub run_is_meant : (c : Parts) (m : Module) (job : RunJob) (outcome : Outcome) (loads : List Load) (args cells words : List ℕ) (stores : List PlannedStore) (layout : Option (List Stretch)) → IsCodeOf c m → IsSoundJob m job → HasRoom job
    → args ≡ job.args → cells ≡ job.cells → layout ≡ job.layout → IsRunBy c (input_by job args cells words stores layout) outcome loads → IsJobMeant m job outcome loads
run_is_meant c m job outcome loads args cells words stores layout of sound room p q r run =
    let R : List ℕ → List ℕ → Option (List Stretch) → Type 0 = λ a z l. IsRunBy c (input_by job a z words stores l) outcome loads in
    let h : R job.args job.cells job.layout = subst (λ l. R job.args job.cells l) r (subst (λ z. R job.args z layout) q (subst (λ a. R a cells layout) p run)) in
    let v = h.validated in
    record { rising = v.rising; inside = v.inside; holds = λ b carried bytes. (v.holds b carried).meant m of (sound b bytes (carried.size ∙ room.long)) }

-- a run whose outcome is the meaning's, from lists that are alike, is meant
pub outcome_is_meant : (m : Module) (job : RunJob) (loads : List Load) (args start left cells : List ℕ) (held copies : List (List ℕ)) (verdict : Verdict) (trace : List TraceFrame) (layout : List Stretch) → IsSoundJob m job → HasRoom job
    → layout ≡ layout_or_plain job.length job.layout → args ≡ job.args → start ≡ job.cells → cells ≡ left → copies ≡ held → IsRising loads → Inside layout loads
    → ((b : List ℕ) → Carries layout b loads → IsSoundOn m job.entry args start b → IsMeant layout m job.entry args start b loads (record { verdict = verdict; trace = trace; cells = left; copies = held }))
    → IsJobMeant m job (record { verdict = verdict; trace = trace; cells = cells; copies = copies }) loads
outcome_is_meant m job loads args start left cells held copies verdict trace layout sound room o p q r same rising inside told =
    let R : List (List ℕ) → List ℕ → List ℕ → List ℕ → List Stretch → Type 0 = λ w a s z l. (b : List ℕ) → Carries l b loads → IsSoundOn m job.entry a s b → IsMeant l m job.entry a s b loads (record { verdict = verdict; trace = trace; cells = z; copies = w }) in
    let h : R copies job.args job.cells cells (layout_or_plain job.length job.layout) =
    subst (λ w. R w job.args job.cells cells (layout_or_plain job.length job.layout)) (sym same)
    (subst (λ l. R held job.args job.cells cells l) o (subst (λ z. R held job.args job.cells z layout) (sym r) (subst (λ s. R held job.args s left layout) q (subst (λ a. R held a start left layout) p told)))) in
    record { rising = rising; inside = subst (λ l. Inside l loads) o inside; holds = λ b carried bytes. h b carried (sound b bytes (carried.size ∙ room.long)) }

-- ---- empty buffers are an entry point's
all_long : (bs : List Bound) (vs : List ℕ) → AllFit bs vs → length vs ≡ length bs
all_long [] [] h = refl
all_long [] (v ∷ vs) h = absurd h
all_long (b ∷ bs) [] h = absurd h
all_long (b ∷ bs) (v ∷ vs) h = ap suc (all_long bs vs h.1)

each_empty : (bs : List Buffer) → AreBuffersFor bs (map empty_for bs)
each_empty [] = tt
each_empty (b ∷ bs) = (refl, (omega arith, each_empty bs))

empty_fit : (o : Option TypeDef) (cells : List ℕ) → AllFit (cells_at o) cells → AreOfDefinition o (length cells) (empty_of o)
empty_fit None cells h = refl
empty_fit (Some d) cells h = (all_long (cells_at (Some d)) cells h ∙ length-map d.cells (λ x. cell_bound x.kind), each_empty d.buffers)

pub buffers_fit : (m : Module) (job : RunJob) (cells : List ℕ) (buffers : List BufferView) → HasValues m job → cells ≡ job.cells → buffers ≡ empty_of (entry_definition m job.entry.number) → AreOfEntry m job.entry (length cells) buffers
buffers_fit m job cells buffers values e same =
    let o = entry_definition m job.entry.number in
    let fits : AllFit (cells_at o) job.cells = values.cells in
    subst (λ vs. AreOfEntry m job.entry (length cells) vs) (sym same) (subst (λ xs. AreOfEntry m job.entry (length xs) (empty_of o)) (sym e) (empty_fit o job.cells fits))
