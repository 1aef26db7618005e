-- How the input of `host` is answered, from how its job was served.
use Rattle.std.proofs.Common.{◌≡◌, ℕ, ◌≤◌, List, length, Result, Err, IsErrOf, refl, arith}
use Rattle.td_io.specs.States.{SinkState}
use Rattle.td_core.specs.declared.module.Module.{Module}
use Rattle.td_posts.specs.declared.job.HostJob.{HostJob}
use Rattle.td_report_host.specs.Report.{host_report}
use Rattle.td_cli_input.specs.declared.refusal.Refusal.{Refusal}
use Rattle.td_cli_input.specs.declared.refusal.Refusal.TheVariants.{TooLong, NoJob, BadModule, BadJob, NoRing}
use Rattle.td_cli_input.specs.declared.refusal.InputError.{InputError}
use Rattle.td_cli_input.specs.declared.refusal.InputError.TheVariants.{Refused, NoMemory}
use Rattle.td_cli_input.specs.Causes.{HasCause}
use Rattle.td_cli_input.specs.Marker.{IsMarker}
use Rattle.td_cli_input.specs.Inputs.{IsHostInput}
use Rattle.td_cli_host.specs.declared.served_input.ServedInput.{ServedInput}
use Rattle.td_cli_host.specs.Rings.{RingsAreRead, descriptor_entry}
use Rattle.td_cli_host.specs.ServedInput.{IsServedInput, RefusesServing}
use Rattle.td_cli_command.specs.declared.command.Command.TheVariants.{Host}
use Rattle.td_cli.specs.declared.status.Status.{Status}
use Rattle.td_cli.specs.declared.status.Status.TheVariants as at
use Rattle.td_cli.specs.declared.tool.TheConstants.{INPUT_LIMIT}
use Rattle.td_cli.specs.Answers.{Refuses}
use Rattle.td_cli.specs.Errors.{unanswered_status, unanswered_line}
use Rattle.td_cli.specs.CallEnds.{Passage}
use Rattle.td_cli.specs.InputEnds.{EndsWith, AnswersInput}
use Rattle.td_cli_input.proofs.Markers.{marker_there}
use Rattle.td_cli.proofs.Answered.{output_answers, refusal_answers, memory_answers}

refuses_short : (input : List ℕ) (refusal : Refusal) → length input ≤ INPUT_LIMIT → RefusesServing input refusal → Refuses Host input refusal
refuses_short input TooLong short h = absurd h
refuses_short input NoJob short h = (short, h)
refuses_short input (BadModule e) short h = (short, h)
refuses_short input (BadJob e) short h = (short, h)
refuses_short input NoRing short h = (short, h)

refuses_host : (input : List ℕ) (refusal : Refusal) → length input ≤ INPUT_LIMIT → Refuses Host input refusal → RefusesServing input refusal
refuses_host input TooLong short h = absurd (omega arith)
refuses_host input NoJob short h = h.1
refuses_host input (BadModule e) short h = h.1
refuses_host input (BadJob e) short h = h.1
refuses_host input NoRing short h = h.1

-- the report of the replies and takes goes out
pub host_answers : (input : List ℕ) (s : ServedInput) (out err : Passage SinkState) (result : Status)
    → length input ≤ INPUT_LIMIT → IsServedInput input s.formats s.entries s.replies s.ring s.takes → ((refusal : Refusal) → RefusesServing input refusal → ⊥)
    → EndsWith at.Done (host_report s.formats s.entries s.replies (descriptor_entry s.ring) s.takes) out result → err.Untouched → AnswersInput Host input out err result
host_answers input s out err result short is never h free =
    output_answers Host input (host_report s.formats s.entries s.replies (descriptor_entry s.ring) s.takes) out err result
    (short, record { formats = s.formats; entries = s.entries; replies = s.replies; ring = s.ring; takes = s.takes; served = is; text_is = refl })
    (λ refusal refuses. never refusal (refuses_host input refusal short refuses)) h free

-- why there is none goes out
pub host_unanswered : (input : List ℕ) (e : InputError) (out err : Passage SinkState) (result : Status)
    → length input ≤ INPUT_LIMIT → HasCause (RefusesServing input) e → ((m : Module) (job : HostJob) → IsHostInput input m job → RingsAreRead job.rings → e ≡ NoMemory)
    → (((n : ℕ) → IsMarker input n → ⊥) → (let r : Result ServedInput InputError = Err e in IsErrOf r (Refused NoJob)))
    → EndsWith (unanswered_status e) (unanswered_line input e) err result → out.Untouched → AnswersInput Host input out err result
host_unanswered input (Refused refusal) out err result short cause only none h free =
    refusal_answers Host input refusal out err result (refuses_short input refusal short cause) (λ admits. let no : Refused refusal ≡ NoMemory = only admits.1 admits.2 admits.3 admits.4 in cc) h free
host_unanswered input NoMemory out err result short cause only none h free =
    memory_answers Host input out err result (marker_there input (λ never. let same = none never in absurd (cc same))) h free
