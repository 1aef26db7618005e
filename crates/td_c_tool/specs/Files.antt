-- What is made of an input, before it goes out.
use Rattle.std.specs.Prelude.{◌≡◌, ℕ, List, [], Result, Ok, Err, IfOk, IfErr, IsErr}
use Rattle.td_c_tool.specs.Imports.{Module, Refusal, InputError, NoEntry, Refused, NoMemory}
use Rattle.td_front.specs.ModuleText.{IsModuleText}
use Rattle.td_c_ends.specs.Causes.{HasCause}
use Rattle.td_c_tool.specs.Answers.{HasEntry, RefusesText}

-- an answer is what is asked of the input, and an error has its cause; a module text with an entry point has no answer only where there was
-- no memory, and an input that is refused has none
pub record AnswersText {A : Type 0} (Is : Module → A → Type 0) (input : List ℕ) (answer : Result A InputError) : Type 0 where
  pub stands : IfOk answer (λ a. (m : Module) × IsModuleText input m × HasEntry m × Is m a)
  pub cause : IfErr answer (HasCause (RefusesText input))
  pub complete : (m : Module) → IsModuleText input m → HasEntry m → IfErr answer (λ e. e ≡ NoMemory)
  pub refused : (refusal : Refusal) → RefusesText input refusal → IsErr answer

-- an answer is what is asked of a module, which has an entry point; it is refused for the one reason that it has none, or there was no memory
abbrev pub AnswersModule : {A : Type 0} (Is : A → Type 0) (m : Module) → Result A InputError → Type 0
AnswersModule Is m (Ok a) = HasEntry m × Is a
AnswersModule Is m (Err NoMemory) = HasEntry m
AnswersModule Is m (Err (Refused NoEntry)) = m.entries ≡ []
AnswersModule Is m (Err (Refused other)) = ⊥
