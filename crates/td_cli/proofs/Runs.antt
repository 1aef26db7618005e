-- How the input of `run` is answered, from how its run finished.
use Rattle.std.proofs.Common.{◌≡◌, ℕ, ◌≤◌, List, length, Result, Err, IsErrOf, refl, arith}
use Rattle.td_io.specs.States.{SinkState}
use Rattle.td_core.specs.declared.module.Module.{Module}
use Rattle.td_job.specs.declared.run_job.RunJob.{RunJob}
use Rattle.td_report.specs.Report.{report}
use Rattle.td_cli_command.specs.declared.command.Command.TheVariants.{Read}
use Rattle.td_cli_command.specs.declared.command.Reading.TheVariants.{Run}
use Rattle.td_cli_input.specs.declared.refusal.Refusal.{Refusal}
use Rattle.td_cli_input.specs.declared.refusal.Refusal.TheVariants.{TooLong, NoJob, BadModule, BadJob, NoRing}
use Rattle.td_cli_input.specs.declared.refusal.InputError.{InputError}
use Rattle.td_cli_input.specs.declared.refusal.InputError.TheVariants.{Refused, NoMemory}
use Rattle.td_cli.specs.declared.run.FinishedRun.{FinishedRun}
use Rattle.td_cli.specs.declared.status.Status.{Status}
use Rattle.td_cli.specs.declared.status.Status.TheVariants as at
use Rattle.td_cli.specs.declared.tool.TheConstants.{INPUT_LIMIT}
use Rattle.td_cli.specs.Answers.{Refuses}
use Rattle.td_cli_input.specs.Inputs.{IsRunInput, RefusesRun}
use Rattle.td_cli.specs.Errors.{unanswered_status, unanswered_line}
use Rattle.td_cli_input.specs.Causes.{HasCause}
use Rattle.td_cli_input.specs.Marker.{IsMarker}
use Rattle.td_cli.specs.Run.{IsRunOf}
use Rattle.td_cli.specs.CallEnds.{Passage}
use Rattle.td_cli.specs.InputEnds.{EndsWith, AnswersInput}
use Rattle.td_cli_input.proofs.Markers.{marker_there}
use Rattle.td_cli.proofs.Answered.{output_answers, refusal_answers, memory_answers}

refuses_short : (input : List ℕ) (refusal : Refusal) → length input ≤ INPUT_LIMIT → RefusesRun input refusal → Refuses (Read Run) input refusal
refuses_short input TooLong short h = absurd h
refuses_short input NoJob short h = (short, h)
refuses_short input (BadModule e) short h = (short, h)
refuses_short input (BadJob e) short h = (short, h)
refuses_short input NoRing short h = absurd h

refuses_run : (input : List ℕ) (refusal : Refusal) → length input ≤ INPUT_LIMIT → Refuses (Read Run) input refusal → RefusesRun input refusal
refuses_run input TooLong short h = absurd (omega arith)
refuses_run input NoJob short h = h.1
refuses_run input (BadModule e) short h = h.1
refuses_run input (BadJob e) short h = h.1
refuses_run input NoRing short h = h.1

-- the report of a run that finished goes out
pub run_answers : (input : List ℕ) (run : FinishedRun) (out err : Passage SinkState) (result : Status)
    → length input ≤ INPUT_LIMIT → IsRunInput input run.input.module run.input.job → IsRunOf run.input.module run.input.job run.outcome run.loads.list
    → ((refusal : Refusal) → RefusesRun input refusal → ⊥)
    → EndsWith at.Done (report run.outcome run.input.module run.input.job.entry run.loads.list run.input.job.layout run.input.job.written) out result → err.Untouched
    → AnswersInput (Read Run) input out err result
run_answers input run out err result short given ran never h free =
    let text = report run.outcome run.input.module run.input.job.entry run.loads.list run.input.job.layout run.input.job.written in
    output_answers (Read Run) input text out err result
    (short, record { m = run.input.module; job = run.input.job; outcome = run.outcome; loads = run.loads.list; input_is = given; run = ran; text_is = refl })
    (λ refusal refuses. never refusal (refuses_run input refusal short refuses)) h free

-- why there was none goes out
pub run_unanswered : (input : List ℕ) (e : InputError) (out err : Passage SinkState) (result : Status)
    → length input ≤ INPUT_LIMIT → HasCause (RefusesRun input) e → ((m : Module) (job : RunJob) → IsRunInput input m job → e ≡ NoMemory)
    → (((n : ℕ) → IsMarker input n → ⊥) → (let r : Result FinishedRun InputError = Err e in IsErrOf r (Refused NoJob)))
    → EndsWith (unanswered_status e) (unanswered_line input e) err result → out.Untouched → AnswersInput (Read Run) input out err result
run_unanswered input (Refused refusal) out err result short cause only none h free =
    refusal_answers (Read Run) input refusal out err result (refuses_short input refusal short cause) (λ admits. let no : Refused refusal ≡ NoMemory = only admits.1 admits.2 admits.3 in cc) h free
run_unanswered input NoMemory out err result short cause only none h free =
    memory_answers (Read Run) input out err result (marker_there input (λ never. let same = none never in absurd (cc same))) h free
