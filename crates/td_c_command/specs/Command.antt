-- Command lines of `tdc` (own rule): what `clap` takes for a program with commands, one of which must be given.
use Rattle.std.specs.Prelude.{◌≡◌, ℕ, List, [], ◌∷◌, codes, true, Option, Some, None}
use Rattle.clap.specs.Simple.{App, Shape, new_app, new_shape, new_rule, with_subcommand, on_top, subcommand_of}
use Rattle.clap.specs.Walk.{Row, first_of}
use Rattle.clap.specs.declared.builder.action.ArgAction.TheVariants.{Set}
use Rattle.clap.specs.Faults.{fault_of}
use Rattle.td_c_command.specs.declared.command.CFile.{CFile}
use Rattle.td_c_command.specs.declared.command.CFile.TheVariants.{Source, Header, Parts}
use Rattle.td_c_command.specs.declared.command.Command.{Command}

-- the word that asks for a file
abbrev pub word_of : CFile → List ℕ
word_of Source = codes "c"
word_of Header = codes "header"
word_of Parts = codes "parts"

-- what `clap` found: a command's word, and the values of its arguments
abbrev pub Found : Type 0
Found = Option (List ℕ × List Row)

-- a word, and the name behind it where one stands there, are those of this command
abbrev pub Fits : List ℕ → Option (List ℕ) → Command → Type 0
Fits word name command = (word ≡ word_of command.file) × (name ≡ Some command.prefix)

-- `clap` found this command
abbrev pub Is : Found → Command → Type 0
Is None command = ⊥
Is (Some found) command = Fits found.0 (first_of (codes "NAME") found.1) command

-- the one command of which this holds, where there is one
abbrev pub IsThe : (Command → Type 0) → Option Command → Type 0
IsThe Holds None = (command : Command) → ¬ Holds command
IsThe Holds (Some command) = Holds command

-- a command of one argument, which must be given
unfoldable pub named_shape : List ℕ → Shape
named_shape word = record (new_shape word) { rules = record (new_rule (codes "NAME")) { required = true; action = Some Set } ∷ [] }

-- the program and its commands
unfoldable pub command_app : App
command_app = on_top (λ top. record top { subcommand_required = true }) (with_subcommand (with_subcommand (with_subcommand (new_app (codes "tdc")) (named_shape (codes "c"))) (named_shape (codes "header"))) (named_shape (codes "parts")))

-- `clap` takes the words, of which the first is the program's name, and finds this command in them. `--help`, `help`,
-- `--version` and a further word are faults of the words, as is a word that names no command
abbrev pub Means : List (List ℕ) → Command → Type 0
Means words command = (fault_of command_app words ≡ []) × Is (subcommand_of command_app words) command

-- they mean no command
abbrev pub MeansNone : List (List ℕ) → Type 0
MeansNone words = (command : Command) → ¬ Means words command
