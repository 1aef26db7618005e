-- What is made of an input that is a module text, and of one that is none.
use Rattle.std.proofs.Common.{◌≡◌, ◌⊎◌, List, ℕ, Result, Ok, Err, refl, subst, sym, ap, ◌∙◌}
use Rattle.td_core.specs.declared.module.Module.{Module}
use Rattle.td_front.specs.declared.error.FrontError.{FrontError}
use Rattle.td_front.specs.declared.error.FrontError.TheVariants as front
use Rattle.td_front.specs.ModuleText.{IsModuleText, RefusedBy}
use Rattle.td_cli_input.specs.declared.refusal.Refusal.{Refusal}
use Rattle.td_cli_input.specs.declared.refusal.Refusal.TheVariants.{TooLong, NoJob, BadModule, BadJob, NoRing}
use Rattle.td_cli_input.specs.declared.refusal.InputError.{InputError}
use Rattle.td_cli_input.specs.declared.refusal.InputError.TheVariants.{NoMemory}
use Rattle.td_cli_input.specs.Causes.{HasCause, of_module}
use Rattle.td_cli_input.proofs.Inputs.{module_cause}
use Rattle.td_cli.specs.Answers.{RefusesCheck}
use Rattle.td_cli.specs.Texts.{AnswersText}

-- nothing refuses a text that stands for a module
checked_not_refused : (input : List ℕ) → ((e : FrontError) → RefusedBy input e → ⊥) → (refusal : Refusal) → RefusesCheck input refusal → ⊥
checked_not_refused input never TooLong h = h
checked_not_refused input never NoJob h = h
checked_not_refused input never (BadModule e) h = never e h
checked_not_refused input never (BadJob e) h = h
checked_not_refused input never NoRing h = h

-- what is asked of a module text was made
pub text_made : {A : Type 0} (Is : A → Type 0) (input : List ℕ) (a : A) → Is a → ((e : FrontError) → RefusedBy input e → ⊥) → (let r : Result A InputError = Ok a in AnswersText Is input r)
text_made Is input a is never = record {
  stands = is;
  cause = tt;
  complete = λ m text. tt;
  refused = λ refusal h. absurd (checked_not_refused input never refusal h);
}

-- the text is refused, or there was no memory to look at it
pub text_refused : {A : Type 0} (Is : A → Type 0) (input : List ℕ) (e : FrontError) (told : InputError) → told ≡ of_module e → (e ≡ front.NoMemory) ⊎ RefusedBy input e
    → ((m : Module) → IsModuleText input m → e ≡ front.NoMemory) → (let r : Result A InputError = Err told in AnswersText Is input r)
text_refused Is input e told same cause only = record {
  stands = tt;
  cause = subst (HasCause (RefusesCheck input)) (sym same) (module_cause (RefusesCheck input) e cause);
  complete = λ m text. same ∙ ap of_module (only m text);
  refused = λ refusal h. refl;
}

-- there was no memory for what is asked
pub text_unmade : {A : Type 0} (Is : A → Type 0) (input : List ℕ) → (let r : Result A InputError = Err NoMemory in AnswersText Is input r)
text_unmade Is input = record { stands = tt; cause = tt; complete = λ m text. refl; refused = λ refusal h. refl }
