-- How an input that was read, and a line that is written, end a call.
use Rattle.std.specs.Prelude.{◌≡◌, ◌≢◌, ◌⊎◌, ℕ, List}
use Rattle.td_io.specs.States.{SinkState}
use Rattle.td_cli.specs.declared.status.Status.{Status}
use Rattle.td_cli.specs.declared.status.Status.TheVariants as at
use Rattle.td_cli_command.specs.declared.command.Command.{Command}
use Rattle.td_cli_command.specs.declared.command.Command.TheVariants.{Read, Host}
use Rattle.td_cli_command.specs.declared.command.Reading.TheVariants.{Run}
use Rattle.td_cli_input.specs.declared.refusal.Refusal.{Refusal}
use Rattle.td_cli_input.specs.Marker.{IsFirstMarker}
use Rattle.td_cli.specs.Answers.{Answers, Admits, Refuses}
use Rattle.td_cli.specs.Lines.{memory_line, refusal_line}
use Rattle.td_cli.specs.CallEnds.{Passage, Takes, WriteFails}

-- the sink took the text, and the call ends as it was to end; or a write of it failed
abbrev pub EndsWith : Status → List ℕ → Passage SinkState → Status → Type 0
EndsWith status text sink result = ((result ≡ status) × Takes sink text) ⊎ ((result ≡ at.WriteFault) × WriteFails sink text)

-- the output goes to `out`, and `err` is untouched
abbrev pub EndsWithOutput : List ℕ → Passage SinkState → Passage SinkState → Status → Type 0
EndsWithOutput output out err result = EndsWith at.Done output out result × err.Untouched

-- the line goes to `err`, and `out` is untouched
abbrev pub EndsWithLine : Status → List ℕ → Passage SinkState → Passage SinkState → Status → Type 0
EndsWithLine status line out err result = EndsWith status line err result × out.Untouched

-- for such an input the command takes memory: `run` and `host` look for the marker first, and take none for that
abbrev pub NeedsMemory : Command → List ℕ → Type 0
NeedsMemory (Read Run) input = (n : ℕ) × IsFirstMarker input n
NeedsMemory Host input = (n : ℕ) × IsFirstMarker input n
NeedsMemory command input = Unit {0}

-- an input that was read is answered: the command's output goes to `out`; or a line goes to `err`, which says why the
-- command refuses the input, or that there was no memory for what it needs
abbrev pub InputEnds : Command → List ℕ → Passage SinkState → Passage SinkState → Status → Type 0
InputEnds command input out err result =
    ((output : List ℕ) × Answers command input output × EndsWithOutput output out err result)
    ⊎ (((refusal : Refusal) × Refuses command input refusal × EndsWithLine at.Refused (refusal_line input refusal) out err result)
    ⊎ (NeedsMemory command input × EndsWithLine at.NoMemory memory_line out err result))

-- how a command answers an input that was read: so the call ends; an input that the command admits isn't refused, and one that it
-- refuses isn't answered
pub record AnswersInput (command : Command) (input : List ℕ) (out err : Passage SinkState) (result : Status) : Type 0 where
  pub ends : InputEnds command input out err result
  pub good : Admits command input → result ≢ at.Refused
  pub bad : (refusal : Refusal) → Refuses command input refusal → result ≢ at.Done
