-- What a parse of the words says of their command.
use Rattle.std.proofs.Common.{◌≡◌, ℕ, List, [], ◌∷◌, codes, length, Option, Some, None, Result, Ok, Err, IfOk, MatchResult, option_map, true, refl, sym, subst, MatchOption}
use Rattle.clap.specs.Faults.{fault_of, is_simple_and_free}
use Rattle.clap.specs.Simple.{is_simple, subcommand_of, subcommand_rows, subcommand_rows_of}
use Rattle.clap.specs.Matches.{subcommand_name_of}
use Rattle.clap.specs.declared.parser.matches.ArgMatches.{ArgMatches}
use Rattle.clap.specs.declared.parser.matches.ArgMatches.TheViews.{out-ArgMatches, out-SubCommand}
use Rattle.std.specs.Box.{box_value}
use Rattle.clap.specs.declared.error.kind.ErrorKind.TheVariants as kinds
use Rattle.clap.proofs.OnLiterals.{clap_on_literals}
use Rattle.td_cli_command.specs.declared.command.Command.{Command}
use Rattle.td_cli_command.specs.Command.{command_app, bench, Found, Is, Means, MeansNone}

-- the command that so many words mean in which `clap` found this, where they mean one
abbrev pub IsFound : ℕ → Found → Option Command → Type 0
IsFound count found None = (command : Command) → ¬ Is count found command
IsFound count found (Some command) = Is count found command

-- the command line is one of those of which `clap` says all
pub is_simple_tool : is_simple command_app ≡ true
unfolding clap_on_literals command_app bench
is_simple_tool = refl

pub is_free_tool : is_simple_and_free command_app ≡ true
unfolding clap_on_literals command_app bench
is_free_tool = refl

-- what no command is: no word, a name alone, a call for help, a further word
none : fault_of command_app [] ≡ kinds.MissingSubcommand ∷ []
unfolding clap_on_literals command_app bench
none = refl

alone : fault_of command_app (codes "td" ∷ []) ≡ kinds.MissingSubcommand ∷ []
unfolding clap_on_literals command_app bench
alone = refl

help : fault_of command_app (codes "td" ∷ codes "--help" ∷ []) ≡ kinds.DisplayHelp ∷ []
unfolding clap_on_literals command_app bench
help = refl

version : fault_of command_app (codes "td" ∷ codes "--version" ∷ []) ≡ kinds.UnknownArgument ∷ []
unfolding clap_on_literals command_app bench
version = refl

further : fault_of command_app (codes "td" ∷ codes "run" ∷ codes "x" ∷ []) ≡ kinds.UnknownArgument ∷ []
unfolding clap_on_literals command_app bench
further = refl

eight : fault_of command_app (codes "td" ∷ codes "bench" ∷ codes "8" ∷ []) ≡ []
unfolding clap_on_literals command_app bench
eight = refl

no_number : fault_of command_app (codes "td" ∷ codes "bench" ∷ []) ≡ kinds.MissingRequiredArgument ∷ []
unfolding clap_on_literals command_app bench
no_number = refl

two_numbers : fault_of command_app (codes "td" ∷ codes "bench" ∷ codes "8" ∷ codes "8" ∷ []) ≡ kinds.UnknownArgument ∷ []
unfolding clap_on_literals command_app bench
two_numbers = refl

-- the name that a parse found is the first part of what it entered
pub name_entered : (m : ArgMatches) → option_map (λ found. found.0) (subcommand_rows_of m) ≡ subcommand_name_of m
name_entered m =
    elim (out-ArgMatches m).subcommand as (λ s. option_map (λ found. found.0) (subcommand_rows s) ≡ option_map (λ b. (out-SubCommand (box_value b)).name.now) s) [ None ↦ refl | Some b ↦ refl ]

-- the command that was found is the one that the words mean
pub found_means : (words : List (List ℕ)) (rows : Found) (found : Option Command) → fault_of command_app words ≡ [] → subcommand_of command_app words ≡ rows → IsFound (length words) rows found → MatchOption found (MeansNone words) (Means words)
found_means words rows None free is h =
    λ command means.
    let P : Found → Type 0 = λ r. Is (length words) r command in
    h command (subst P is means.1)
found_means words rows (Some command) free is h =
    let P : Found → Type 0 = λ r. Is (length words) r command in
    (free, subst P (sym is) h)

-- an error that doesn't say that there was no memory says that the words mean no command
pub none_meant : {E : Type 0} (words : List (List ℕ)) (r : Result (Option Command) E) (Memory : Type 0)
    → MatchResult r (λ found. (found ≡ None) × (Memory → ⊥)) (λ e. Memory)
    → ((Memory → ⊥) → MeansNone words) → IfOk r (λ found. MatchOption found (MeansNone words) (Means words))
none_meant words (Ok None) Memory h otherwise = otherwise h.1
none_meant words (Ok (Some command)) Memory h otherwise = absurd (cc)
none_meant words (Err e) Memory h otherwise = tt
