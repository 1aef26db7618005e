-- How an input that was read ends a call, whose name can begin names of C.
use Rattle.std.specs.Prelude.{◌≢◌, ◌⊎◌, ℕ, List}
use Rattle.td_io.specs.States.{SinkState}
use Rattle.td_c_tool.specs.Imports.{Command, Refusal, Status}
use Rattle.td_c_ends.specs.declared.status.Status.TheVariants as at
use Rattle.td_c_ends.specs.Lines.{memory_line, refusal_line}
use Rattle.td_c_ends.specs.Passages.{Passage, EndsWithOutput, EndsWithLine}
use Rattle.td_c_tool.specs.Answers.{Answers, Admits, Refuses}

-- the command's output goes to `out`; or a line goes to `err`, which says why the input is refused, or that there was no memory
abbrev pub InputEnds : Command → List ℕ → Passage SinkState → Passage SinkState → Status → Type 0
InputEnds command input out err result =
    ((output : List ℕ) × Answers command input output × EndsWithOutput output out err result)
    ⊎ (((refusal : Refusal) × Refuses input refusal × EndsWithLine at.Refused (refusal_line input refusal) out err result)
    ⊎ EndsWithLine at.NoMemory memory_line out err result)

-- so the call ends; an input that is admitted isn't refused, and one that is refused isn't answered
pub record AnswersInput (command : Command) (input : List ℕ) (out err : Passage SinkState) (result : Status) : Type 0 where
  pub ends : InputEnds command input out err result
  pub good : Admits command input → result ≢ at.Refused
  pub bad : (refusal : Refusal) → Refuses input refusal → result ≢ at.Done
