-- What `check`, `tidy`, `code` and `pack` make of an input, before it goes out.
use Rattle.std.specs.Prelude.{◌≡◌, ℕ, List, Result, IfOk, IfErr, IsErr}
use Rattle.td_core.specs.declared.module.Module.{Module}
use Rattle.td_front.specs.ModuleText.{IsModuleText}
use Rattle.td_cli_input.specs.declared.refusal.Refusal.{Refusal}
use Rattle.td_cli_input.specs.declared.refusal.InputError.{InputError}
use Rattle.td_cli_input.specs.declared.refusal.InputError.TheVariants.{NoMemory}
use Rattle.td_cli_input.specs.Causes.{HasCause}
use Rattle.td_cli.specs.Answers.{RefusesCheck}

-- an answer is what is asked of the input, and an error has its cause; a module text has no answer only where there was no memory,
-- and an input that is refused has none
pub record AnswersText {A : Type 0} (Is : A → Type 0) (input : List ℕ) (answer : Result A InputError) : Type 0 where
  pub stands : IfOk answer Is
  pub cause : IfErr answer (HasCause (RefusesCheck input))
  pub complete : (m : Module) → IsModuleText input m → IfErr answer (λ e. e ≡ NoMemory)
  pub refused : (refusal : Refusal) → RefusesCheck input refusal → IsErr answer
