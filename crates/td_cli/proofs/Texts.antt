-- How the inputs of `check`, `tidy`, `code` and `pack` are answered: by what a module text is, or why they are none.
use Rattle.std.proofs.Common.{◌≡◌, ℕ, ◌<◌, ◌≤◌, List, length, Result, Ok, Err, arith}
use Rattle.std.proofs.lemmas.Bool.{false≢true}
use Rattle.td_io.specs.States.{SinkState}
use Rattle.td_core.specs.declared.module.Module.{Module}
use Rattle.td_front.specs.declared.error.FrontError.{FrontError}
use Rattle.td_front.specs.ModuleText.{IsModuleText, RefusedBy}
use Rattle.td_job.specs.declared.error.JobError.{JobError}
use Rattle.td_cli_command.specs.declared.command.Command.{Command}
use Rattle.td_cli_command.specs.declared.command.Command.TheVariants.{Read}
use Rattle.td_cli_command.specs.declared.command.Reading.TheVariants.{Check, Tidy, Code, Pack}
use Rattle.td_cli_input.specs.declared.refusal.Refusal.{Refusal}
use Rattle.td_cli_input.specs.declared.refusal.Refusal.TheVariants.{TooLong, NoJob, BadModule, BadJob, NoRing}
use Rattle.td_cli_input.specs.declared.refusal.InputError.{InputError}
use Rattle.td_cli_input.specs.declared.refusal.InputError.TheVariants.{Refused, NoMemory}
use Rattle.td_cli.specs.declared.status.Status.{Status}
use Rattle.td_cli.specs.declared.status.Status.TheVariants as at
use Rattle.td_cli.specs.declared.tool.TheConstants.{INPUT_LIMIT}
use Rattle.td_cli.specs.Answers.{Answers, Admits, Refuses, RefusesCheck}
use Rattle.td_cli.specs.Errors.{unanswered_status, unanswered_line}
use Rattle.td_cli.specs.Texts.{AnswersText}
use Rattle.td_cli.specs.CallEnds.{Passage}
use Rattle.td_cli.specs.InputEnds.{EndsWith, NeedsMemory, AnswersInput}
use Rattle.td_cli.proofs.Answered.{output_answers, refusal_answers, memory_answers}

-- the command's input is a module text: it refuses what is none and what is too long, and nothing else
pub record IsOfTexts (command : Command) : Type 0 where
  pub refuses : (input : List ℕ) (e : FrontError) → length input ≤ INPUT_LIMIT → RefusedBy input e → Refuses command input (BadModule e)
  pub too_long : (input : List ℕ) → Refuses command input TooLong → INPUT_LIMIT < length input
  pub no_job : (input : List ℕ) → Refuses command input NoJob → ⊥
  pub bad_module : (input : List ℕ) (e : FrontError) → Refuses command input (BadModule e) → RefusedBy input e
  pub bad_job : (input : List ℕ) (e : JobError) → Refuses command input (BadJob e) → ⊥
  pub no_ring : (input : List ℕ) → Refuses command input NoRing → ⊥
  pub admits : (input : List ℕ) → Admits command input → (m : Module) × IsModuleText input m
  pub needs : (input : List ℕ) → NeedsMemory command input

pub of_check : IsOfTexts (Read Check)
of_check = record {
  refuses = λ input e short h. (short, h);
  too_long = λ input h. h;
  no_job = λ input h. h.1;
  bad_module = λ input e h. h.1;
  bad_job = λ input e h. h.1;
  no_ring = λ input h. h.1;
  admits = λ input h. (h.1, h.2);
  needs = λ input. tt;
}

pub of_tidy : IsOfTexts (Read Tidy)
of_tidy = record {
  refuses = λ input e short h. (short, h);
  too_long = λ input h. h;
  no_job = λ input h. h.1;
  bad_module = λ input e h. h.1;
  bad_job = λ input e h. h.1;
  no_ring = λ input h. h.1;
  admits = λ input h. (h.1, h.2);
  needs = λ input. tt;
}

pub of_code : IsOfTexts (Read Code)
of_code = record {
  refuses = λ input e short h. (short, h);
  too_long = λ input h. h;
  no_job = λ input h. h.1;
  bad_module = λ input e h. h.1;
  bad_job = λ input e h. h.1;
  no_ring = λ input h. h.1;
  admits = λ input h. (h.1, h.2);
  needs = λ input. tt;
}

pub of_pack : IsOfTexts (Read Pack)
of_pack = record {
  refuses = λ input e short h. (short, h);
  too_long = λ input h. h;
  no_job = λ input h. h.1;
  bad_module = λ input e h. h.1;
  bad_job = λ input e h. h.1;
  no_ring = λ input h. h.1;
  admits = λ input h. (h.1, h.2);
  needs = λ input. tt;
}

refuses_text : (command : Command) → IsOfTexts command → (input : List ℕ) (refusal : Refusal) → length input ≤ INPUT_LIMIT → RefusesCheck input refusal → Refuses command input refusal
refuses_text command kind input TooLong short h = absurd h
refuses_text command kind input NoJob short h = absurd h
refuses_text command kind input (BadModule e) short h = kind.refuses input e short h
refuses_text command kind input (BadJob e) short h = absurd h
refuses_text command kind input NoRing short h = absurd h

never_refused : (command : Command) → IsOfTexts command → (input : List ℕ) → length input ≤ INPUT_LIMIT → ((e : FrontError) → RefusedBy input e → ⊥)
    → (refusal : Refusal) → Refuses command input refusal → ⊥
never_refused command kind input short never TooLong h = let long : INPUT_LIMIT < length input = kind.too_long input h in omega arith
never_refused command kind input short never NoJob h = kind.no_job input h
never_refused command kind input short never (BadModule e) h = never e (kind.bad_module input e h)
never_refused command kind input short never (BadJob e) h = kind.bad_job input e h
never_refused command kind input short never NoRing h = kind.no_ring input h

-- what was made of a module text goes out
pub text_answers : {A : Type 0} (command : Command) → IsOfTexts command → (Is : A → Type 0) (input output : List ℕ) (a : A) (out err : Passage SinkState) (result : Status)
    → length input ≤ INPUT_LIMIT → (let r : Result A InputError = Ok a in AnswersText Is input r) → Answers command input output
    → EndsWith at.Done output out result → err.Untouched → AnswersInput command input out err result
text_answers command kind Is input output a out err result short made is h free =
    output_answers command input output out err result is (never_refused command kind input short (λ e refused. false≢true (made.refused (BadModule e) refused))) h free

-- why an input is no module text goes out
pub text_unanswered : {A : Type 0} (command : Command) → IsOfTexts command → (Is : A → Type 0) (input : List ℕ) (e : InputError) (out err : Passage SinkState) (result : Status)
    → length input ≤ INPUT_LIMIT → (let r : Result A InputError = Err e in AnswersText Is input r)
    → EndsWith (unanswered_status e) (unanswered_line input e) err result → out.Untouched → AnswersInput command input out err result
text_unanswered command kind Is input (Refused refusal) out err result short made h free =
    refusal_answers command input refusal out err result (refuses_text command kind input refusal short made.cause)
    (λ admits. let is = kind.admits input admits in let no : Refused refusal ≡ NoMemory = made.complete is.0 is.1 in cc) h free
text_unanswered command kind Is input NoMemory out err result short made h free = memory_answers command input out err result (kind.needs input) h free
