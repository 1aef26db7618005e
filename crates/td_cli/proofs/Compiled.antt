-- A job that is run by its module's code.
use Rattle.std.proofs.Common.{◌≡◌, ℕ, ◌<◌, List, length, ◌∙◌, subst, sym, Option}
use Rattle.td_core.specs.declared.module.Module.{Module}
use Rattle.td_core.specs.declared.module.Entry.{Entry}
use Rattle.td_core.specs.declared.outcome.Outcome.{Outcome}
use Rattle.td_core.specs.Entries.{entry_definition}
use Rattle.td_stream.specs.declared.load.Load.{Load}
use Rattle.td_sched.specs.declared.store.PlannedStore.{PlannedStore}
use Rattle.td_job.specs.declared.run_job.RunJob.{RunJob}
use Rattle.td_stream.specs.declared.stretch.Stretch.{Stretch}
use Rattle.td_job.specs.Jobs.{HasRoom, HasValues}
use Rattle.td_cli_input.specs.Inputs.{IsSoundJob}
use Rattle.td_ir.specs.declared.tables.Parts.{Parts}
use Rattle.td_ir.specs.Entries.{Fits}
use Rattle.td_lower_means.specs.CodeRun.{IsCodeOf, ArgumentsFit}
use Rattle.td_run.specs.Runs.{Input, IsRunBy}
use Rattle.td_core.specs.declared.outcome.Verdict.{Verdict}
use Rattle.td_core.specs.declared.outcome.TraceFrame.{TraceFrame}
use Rattle.td_front.specs.ModuleText.{IsModuleText}
use Rattle.td_job.specs.declared.named.NamedJob.{NamedJob}
use Rattle.td_job.specs.Named.{IsNamedJob}
use Rattle.td_formats.specs.Format.{text_of}
use Rattle.td_gen.specs.Message.{format_of, IsMessage}
use Rattle.td_cli.specs.Benching.{HasRun}
use Rattle.td_cli.proofs.Benches.{message_run}
use Rattle.td_cli.specs.Run.{IsRunOf}

-- a job's values fit its entry point's code
pub job_fits : ArgumentsFit → (c : Parts) (m : Module) (job : RunJob) → IsCodeOf c m → job.entry.number < length m.entries → HasValues m job → Fits c job.entry job.args job.cells
job_fits law c m job of inside values =
    let o = entry_definition m job.entry.number in
    law c m job.entry job.args job.cells of inside values.args values.cells

abbrev pub input_of : RunJob → Input
input_of job = record { entry = job.entry; args = job.args; cells = job.cells; length = job.length; layout = job.layout; words = job.words; stores = job.stores }

-- a run by a module's code is a run of the job
pub run_of : (c : Parts) (m : Module) (job : RunJob) (outcome : Outcome) (loads : List Load) → IsCodeOf c m → IsSoundJob m job → HasRoom job → IsRunBy c (input_of job) outcome loads → IsRunOf m job outcome loads
run_of c m job outcome loads of sound room run = record {
  fetched = record {
    rising = run.validated.rising;
    inside = run.validated.inside;
    holds = λ b carried bytes. (run.validated.holds b carried).meant m of (sound b bytes (carried.size ∙ room.long));
  };
  held = run.held;
}

-- the same of lists that are the job's
pub fits_with : (c : Parts) (entry : Entry) (args args' cells cells' : List ℕ) → args' ≡ args → cells' ≡ cells → Fits c entry args cells → Fits c entry args' cells'
fits_with c entry args args' cells cells' p q h = subst (λ x. Fits c entry args' x) (sym q) (subst (λ x. Fits c entry x cells) (sym p) h)

pub run_with : (c : Parts) (job : RunJob) (outcome : Outcome) (loads : List Load) (args cells words : List ℕ) (stores : List PlannedStore) (layout : Option (List Stretch)) → args ≡ job.args → cells ≡ job.cells → words ≡ job.words → stores ≡ job.stores → layout ≡ job.layout
    → IsRunBy c (record { entry = job.entry; args = args; cells = cells; length = job.length; layout = layout; words = words; stores = stores }) outcome loads → IsRunBy c (input_of job) outcome loads
run_with c job outcome loads args cells words stores layout p q r t u h =
    let make : List ℕ → List ℕ → List ℕ → List PlannedStore → Option (List Stretch) → Input = λ a b w z l. record { entry = job.entry; args = a; cells = b; length = job.length; layout = l; words = w; stores = z } in
    subst (λ z. IsRunBy c (make job.args job.cells job.words job.stores z) outcome loads) u
    (subst (λ z. IsRunBy c (make job.args job.cells job.words z layout) outcome loads) t
    (subst (λ z. IsRunBy c (make job.args job.cells z stores layout) outcome loads) r
    (subst (λ z. IsRunBy c (make job.args z words stores layout) outcome loads) q
    (subst (λ z. IsRunBy c (make z cells words stores layout) outcome loads) p h))))

-- a run by the code of a message's module is a run of the message
pub has_run : (k : ℕ) (c : Parts) (m : Module) (message : NamedJob) (job : RunJob) (verdict : Verdict) (trace : List TraceFrame) (cells : List ℕ) (copies : List (List ℕ)) (loads : List Load)
    → IsModuleText (text_of (format_of k)) m → IsMessage k message → IsNamedJob m message job → IsCodeOf c m → IsSoundJob m job → HasRoom job
    → IsRunBy c (input_of job) (record { verdict = verdict; trace = trace; cells = cells; copies = copies }) loads → HasRun k verdict loads
has_run k c m message job verdict trace cells copies loads text made is of sound room run = record {
  trace = trace;
  cells = cells;
  copies = copies;
  is = message_run k m message job (record { outcome = record { verdict = verdict; trace = trace; cells = cells; copies = copies }; loads = loads }) text made is (run_of c m job (record { verdict = verdict; trace = trace; cells = cells; copies = copies }) loads of sound room run);
}
