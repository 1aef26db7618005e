-- Command lines (own rule): what `clap` takes for a program with commands, one of which must be given.
use Rattle.std.specs.Prelude.{◌≡◌, ℕ, ◌≤◌, List, [], ◌∷◌, length, codes, decimal, true, option_map, option_and_then, Option, Some, None}
use Rattle.clap.specs.Simple.{App, Shape, new_app, new_shape, new_rule, with_subcommand, on_top, subcommand_of}
use Rattle.clap.specs.Walk.{Row, first_of}
use Rattle.clap.specs.declared.builder.action.ArgAction.TheVariants.{Set}
use Rattle.clap.specs.Faults.{fault_of}
use Rattle.td_cli_command.specs.declared.command.Command.{Command}
use Rattle.td_cli_command.specs.declared.command.Command.TheVariants.{Read, Host, Bench}
use Rattle.td_cli_command.specs.declared.command.Reading.TheVariants.{Check, Tidy, Run, Code, Pack}
use Rattle.td_cli_command.specs.declared.command.TheConstants.{MOST_MESSAGES}

abbrev pub name_of : Command → List ℕ
name_of (Read Check) = codes "check"
name_of (Read Tidy) = codes "tidy"
name_of (Read Run) = codes "run"
name_of Host = codes "host"
name_of (Read Code) = codes "code"
name_of (Read Pack) = codes "pack"
name_of (Bench n) = codes "bench"

-- what `clap` found: a command's name, and the values of its arguments
abbrev pub Found : Type 0
Found = Option (List ℕ × List Row)

-- the number of `bench` is at most 10,000
abbrev pub IsInRange : Command → Type 0
IsInRange (Bench n) = n ≤ MOST_MESSAGES
IsInRange command = Unit {0}

-- the number of `bench` is 1 to 10,000, in decimal digits without a sign or a leading zero, and no further word stands there,
-- not even `--`. Other commands have no argument
abbrev pub HasNumber : ℕ → Found → Command → Type 0
HasNumber count found (Bench n) = (count ≡ 3) × (option_and_then (λ f. first_of (codes "N") f.1) found ≡ Some (decimal n)) × (1 ≤ n) × (n ≤ MOST_MESSAGES)
HasNumber count found command = Unit {0}

-- so many words in which `clap` found this mean the command
abbrev pub Is : ℕ → Found → Command → Type 0
Is count found command = (option_map (λ f. f.0) found ≡ Some (name_of command)) × HasNumber count found command

-- the command of this name with this number, where there is one
abbrev pub Fits : Option (List ℕ) → Option ℕ → Command → Type 0
Fits name number (Bench n) = (name ≡ Some (codes "bench")) × (number ≡ Some n)
Fits name number command = name ≡ Some (name_of command)

abbrev pub IsNamed : Option (List ℕ) → Option ℕ → Option Command → Type 0
IsNamed name number None = (command : Command) → ¬ Fits name number command
IsNamed name number (Some command) = Fits name number command

-- the command `bench`, of which one argument must be given
unfoldable pub bench : Shape
bench = record (new_shape (codes "bench")) { rules = record (new_rule (codes "N")) { required = true; action = Some Set } ∷ [] }

-- the program and its commands
unfoldable pub command_app : App
command_app = on_top (λ top. record top { subcommand_required = true }) (with_subcommand (with_subcommand (with_subcommand (with_subcommand (with_subcommand (with_subcommand (with_subcommand (new_app (codes "td")) (new_shape (codes "check"))) (new_shape (codes "tidy"))) (new_shape (codes "run"))) (new_shape (codes "host"))) (new_shape (codes "code"))) (new_shape (codes "pack"))) bench)

-- `clap` takes the words, of which the first is the program's name, and finds this command in them. `--help`, `help`,
-- `--version` and a further word are faults of the words, as is a word that names no command
abbrev pub Means : List (List ℕ) → Command → Type 0
Means words command = (fault_of command_app words ≡ []) × Is (length words) (subcommand_of command_app words) command

-- they mean no command
abbrev pub MeansNone : List (List ℕ) → Type 0
MeansNone words = (command : Command) → ¬ Means words command
