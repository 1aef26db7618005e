-- How a command answers an input that was read, from what was made of it.
use Rattle.std.proofs.Common.{inl, inr, ℕ, List}
use Rattle.td_io.specs.States.{SinkState}
use Rattle.td_cli_command.specs.declared.command.Command.{Command}
use Rattle.td_cli_input.specs.declared.refusal.Refusal.{Refusal}
use Rattle.td_cli.specs.declared.status.Status.{Status}
use Rattle.td_cli.specs.declared.status.Status.TheVariants as at
use Rattle.td_cli.specs.Answers.{Answers, Admits, Refuses}
use Rattle.td_cli.specs.Lines.{memory_line, refusal_line}
use Rattle.td_cli.specs.CallEnds.{Passage}
use Rattle.td_cli.specs.InputEnds.{EndsWith, NeedsMemory, AnswersInput}
use Rattle.td_cli.proofs.Calls.{ends_or_fails}

-- an output that answers the input goes to `out`, where nothing refuses the input
pub output_answers : (command : Command) (input output : List ℕ) (out err : Passage SinkState) (result : Status)
    → Answers command input output → ((refusal : Refusal) → Refuses command input refusal → ⊥)
    → EndsWith at.Done output out result → err.Untouched → AnswersInput command input out err result
output_answers command input output out err result is never h free = record {
  ends = inl (output, is, (h, free));
  good = λ admits. ends_or_fails at.Done output out result at.Refused h (λ e. cc) (λ e. cc);
  bad = λ refusal refuses. absurd (never refusal refuses);
}

-- the line of its refusal goes to `err`, where the command doesn't admit it
pub refusal_answers : (command : Command) (input : List ℕ) (refusal : Refusal) (out err : Passage SinkState) (result : Status)
    → Refuses command input refusal → (Admits command input → ⊥)
    → EndsWith at.Refused (refusal_line input refusal) err result → out.Untouched → AnswersInput command input out err result
refusal_answers command input refusal out err result refuses never h free = record {
  ends = inr (inl (refusal, refuses, (h, free)));
  good = λ admits. absurd (never admits);
  bad = λ other bad. ends_or_fails at.Refused (refusal_line input refusal) err result at.Done h (λ e. cc) (λ e. cc);
}

-- or the line that says that there was no memory
pub memory_answers : (command : Command) (input : List ℕ) (out err : Passage SinkState) (result : Status)
    → NeedsMemory command input → EndsWith at.NoMemory memory_line err result → out.Untouched → AnswersInput command input out err result
memory_answers command input out err result needs h free = record {
  ends = inr (inr (needs, (h, free)));
  good = λ admits. ends_or_fails at.NoMemory memory_line err result at.Refused h (λ e. cc) (λ e. cc);
  bad = λ refusal refuses. ends_or_fails at.NoMemory memory_line err result at.Done h (λ e. cc) (λ e. cc);
}
