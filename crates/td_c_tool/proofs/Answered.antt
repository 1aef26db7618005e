-- How an input that was read is answered: by what a module text is, or why it is none.
use Rattle.std.proofs.Common.{◌≡◌, ◌⊎◌, inl, inr, ℕ, ◌<◌, ◌≤◌, List, length, Result, Ok, Err, refl, subst, sym, ap, ◌∙◌, arith}
use Rattle.std.proofs.lemmas.Bool.{false≢true}
use Rattle.td_io.specs.States.{SinkState}
use Rattle.td_c_tool.specs.Imports.{Module, Command, Refusal, BadName, TooLong, BadModule, NoEntry, InputError, Refused, NoMemory, Status}
use Rattle.td_front.specs.declared.error.FrontError.{FrontError}
use Rattle.td_front.specs.declared.error.FrontError.TheVariants as front
use Rattle.td_front.specs.ModuleText.{IsModuleText, RefusedBy}
use Rattle.td_front.specs.Laws.{OneModuleEach, NeverBoth}
use Rattle.td_c_command.specs.Prefix.{IsPrefix}
use Rattle.td_c_ends.specs.declared.status.Status.TheVariants as at
use Rattle.td_c_ends.specs.Causes.{HasCause, of_module}
use Rattle.td_c_ends.specs.Errors.{unanswered_status, unanswered_line}
use Rattle.td_c_ends.specs.Lines.{memory_line, refusal_line}
use Rattle.td_c_ends.specs.Passages.{Passage, EndsWith}
use Rattle.td_c_tool.specs.declared.tool.TheConstants.{INPUT_LIMIT}
use Rattle.td_c_tool.specs.Answers.{Refuses, RefusesText, HasEntry, IsFile}
use Rattle.td_c_tool.specs.Files.{AnswersText, AnswersModule}
use Rattle.td_c_tool.specs.InputEnds.{AnswersInput}
use Rattle.td_c_tool.proofs.Calls.{ends_or_fails}

-- ---- what is made of an input

-- nothing but the lack of an entry point refuses a text that stands for a module
pub not_refused : NeverBoth → OneModuleEach → (input : List ℕ) (m : Module) → IsModuleText input m → HasEntry m → (refusal : Refusal) → RefusesText input refusal → ⊥
not_refused never one input m stands has BadName h = h
not_refused never one input m stands has TooLong h = h
not_refused never one input m stands has (BadModule e) h = never input m e stands h
not_refused never one input m stands has NoEntry h = has (ap (λ (x : Module). x.entries) (one input m h.0 stands h.1) ∙ h.2)

-- of the module for which the input stands
pub module_answers : {A : Type 0} (Is : Module → A → Type 0) → NeverBoth → OneModuleEach → (input : List ℕ) (m : Module) → IsModuleText input m
    → (r : Result A InputError) → AnswersModule (Is m) m r → AnswersText Is input r
module_answers Is never one input m stands (Ok a) h = record {
  stands = (m, stands, h.0, h.1);
  cause = tt;
  complete = λ n text has. tt;
  refused = λ refusal refuses. absurd (not_refused never one input m stands h.0 refusal refuses);
}
module_answers Is never one input m stands (Err NoMemory) h = record { stands = tt; cause = tt; complete = λ n text has. refl; refused = λ refusal refuses. refl }
module_answers Is never one input m stands (Err (Refused NoEntry)) h = record {
  stands = tt;
  cause = (m, stands, h);
  complete = λ n text has. absurd (has (ap (λ (x : Module). x.entries) (one input n m text stands) ∙ h));
  refused = λ refusal refuses. refl;
}
module_answers Is never one input m stands (Err (Refused BadName)) h = absurd h
module_answers Is never one input m stands (Err (Refused TooLong)) h = absurd h
module_answers Is never one input m stands (Err (Refused (BadModule e))) h = absurd h

-- an error of a module text says that there was no memory, or it is its refusal
module_cause : (input : List ℕ) (e : FrontError) → (e ≡ front.NoMemory) ⊎ RefusedBy input e → HasCause (RefusesText input) (of_module e)
module_cause input e (inl none) = let P : FrontError → Type 0 = λ x. HasCause (RefusesText input) (of_module x) in subst P (sym none) tt
module_cause input front.NoMemory (inr refused) = tt
module_cause input (front.BadByte at) (inr refused) = refused
module_cause input (front.OpenComment at) (inr refused) = refused
module_cause input (front.BigNumber at) (inr refused) = refused
module_cause input (front.Unexpected token at) (inr refused) = refused
module_cause input (front.Deep token at) (inr refused) = refused
module_cause input (front.Limit limit span) (inr refused) = refused
module_cause input (front.Broken rule span) (inr refused) = refused
module_cause input (front.Cycle span) (inr refused) = refused
module_cause input (front.ZeroElement span) (inr refused) = refused
module_cause input (front.RestNotLast span) (inr refused) = refused
module_cause input (front.Unsafe span op) (inr refused) = refused
module_cause input (front.Room span) (inr refused) = refused
module_cause input (front.Value span) (inr refused) = refused

-- the input stands for no module, or there was no memory to look at it
pub text_refused : {A : Type 0} (Is : Module → A → Type 0) (input : List ℕ) (e : FrontError) (told : InputError) → told ≡ of_module e → (e ≡ front.NoMemory) ⊎ RefusedBy input e
    → ((m : Module) → IsModuleText input m → e ≡ front.NoMemory) → (let r : Result A InputError = Err told in AnswersText Is input r)
text_refused Is input e told same cause only = record {
  stands = tt;
  cause = subst (HasCause (RefusesText input)) (sym same) (module_cause input e cause);
  complete = λ m text has. same ∙ ap of_module (only m text);
  refused = λ refusal h. refl;
}

-- ---- how that ends a call

refuses_of : (input : List ℕ) (refusal : Refusal) → length input ≤ INPUT_LIMIT → RefusesText input refusal → Refuses input refusal
refuses_of input BadName short h = absurd h
refuses_of input TooLong short h = absurd h
refuses_of input (BadModule e) short h = (short, h)
refuses_of input NoEntry short h = (short, h)

pub text_of : (input : List ℕ) (refusal : Refusal) → length input ≤ INPUT_LIMIT → Refuses input refusal → RefusesText input refusal
text_of input BadName short h = h.1
text_of input TooLong short h = let long : INPUT_LIMIT < length input = h in omega (arith, long, short)
text_of input (BadModule e) short h = h.1
text_of input NoEntry short h = h.1

-- the file goes out
pub file_answers : (command : Command) (input file output : List ℕ) (out err : Passage SinkState) (result : Status) → IsPrefix command.prefix → length input ≤ INPUT_LIMIT
    → (let r : Result (List ℕ) InputError = Ok file in AnswersText (IsFile command.file command.prefix) input r) → output ≡ file
    → EndsWith at.Done output out result → err.Untouched → AnswersInput command input out err result
file_answers command input file output out err result named short made same h free = record {
  ends = inl (output, record { named = named; short = short; m = made.stands.0; stands = made.stands.1; has_entry = made.stands.2; file = subst (IsFile command.file command.prefix made.stands.0) (sym same) made.stands.3 }, (h, free));
  good = λ admits. ends_or_fails at.Done output out result at.Refused h (λ e. cc) (λ e. cc);
  bad = λ refusal refuses. absurd (false≢true (made.refused refusal (text_of input refusal short refuses)));
}

-- the line that says why there is none goes out
pub error_answers : (command : Command) (input : List ℕ) (e : InputError) (out err : Passage SinkState) (result : Status) → length input ≤ INPUT_LIMIT
    → (let r : Result (List ℕ) InputError = Err e in AnswersText (IsFile command.file command.prefix) input r)
    → EndsWith (unanswered_status e) (unanswered_line input e) err result → out.Untouched → AnswersInput command input out err result
error_answers command input (Refused refusal) out err result short made h free = record {
  ends = inr (inl (refusal, refuses_of input refusal short made.cause, (h, free)));
  good = λ admits. let no : Refused refusal ≡ NoMemory = made.complete admits.2 admits.3 admits.4 in absurd (cc);
  bad = λ other bad. ends_or_fails at.Refused (refusal_line input refusal) err result at.Done h (λ e. cc) (λ e. cc);
}
error_answers command input NoMemory out err result short made h free = record {
  ends = inr (inr (h, free));
  good = λ admits. ends_or_fails at.NoMemory memory_line err result at.Refused h (λ e. cc) (λ e. cc);
  bad = λ refusal refuses. ends_or_fails at.NoMemory memory_line err result at.Done h (λ e. cc) (λ e. cc);
}
