-- What holds of answers and refusals.
use Rattle.std.specs.Prelude.{◌≡◌, ◌⊎◌, ℕ, List}
use Rattle.td_c_command.specs.Prefix.{IsPrefix}
use Rattle.td_c_tool.specs.Imports.{Command, Refusal}
use Rattle.td_c_tool.specs.Answers.{Answers, Admits, Refuses}

-- a command answers an input with at most one output
abbrev pub OneAnswer : Type 0
OneAnswer = (command : Command) (input a b : List ℕ) → Answers command input a → Answers command input b → a ≡ b

-- what a command admits it doesn't refuse
abbrev pub NeverBoth : Type 0
NeverBoth = (command : Command) (input : List ℕ) (refusal : Refusal) → Admits command input → Refuses input refusal → ⊥

-- each input of a command whose name can begin names of C is admitted, or it is refused
abbrev pub AlwaysOne : Type 0
AlwaysOne = (command : Command) (input : List ℕ) → IsPrefix command.prefix → Admits command input ⊎ ((refusal : Refusal) × Refuses input refusal)
