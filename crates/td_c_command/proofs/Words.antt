-- What a parse of the words says of their command. Cited by other crates.
use Rattle.std.proofs.Common.{◌≡◌, ℕ, List, [], ◌∷◌, codes, Option, Some, None, Result, Ok, Err, Bool, ◌||◌, IfOk, MatchResult, MatchOption, option_map, true, false, refl, sym, subst, ap, ap₂, ◌∙◌}
use Rattle.std.specs.Prelude.{Box}
use Rattle.std.specs.Box.{box_value}
use Rattle.clap.specs.Faults.{fault_of, is_simple_and_free}
use Rattle.clap.specs.Simple.{App, is_simple, app_of, shape_of, new_app, new_rule, with_rule, subcommand_of, subcommand_rows}
use Rattle.clap.specs.Built.{AddsArg}
use Rattle.clap.specs.Walk.{Row, first_of, rule_of}
use Rattle.clap.specs.declared.builder.action.ArgAction.TheVariants.{Set}
use Rattle.clap.specs.declared.builder.arg.Arg.{Arg}
use Rattle.clap.specs.declared.builder.command.Command.{Command as ClapCommand}
use Rattle.clap.specs.declared.builder.command.Command.TheViews.{out-Command}
use Rattle.clap.specs.declared.parser.matches.SubCommand.{SubCommand}
use Rattle.clap.specs.declared.parser.matches.ArgMatches.TheViews.{out-SubCommand}
use Rattle.clap.specs.declared.error.kind.ErrorKind.TheVariants as kinds
use Rattle.clap.proofs.OnLiterals.{clap_on_literals}
use Rattle.td_c_command.specs.declared.command.CFile.{CFile}
use Rattle.td_c_command.specs.declared.command.CFile.TheVariants.{Source, Header, Parts}
use Rattle.td_c_command.specs.declared.command.Command.{Command}
use Rattle.td_c_command.specs.Command.{command_app, named_shape, word_of, Found, Fits, Is, IsThe, Means, MeansNone}

-- the command line is one of those of which `clap` says all
pub is_simple_tool : is_simple command_app ≡ true
unfolding clap_on_literals command_app named_shape
is_simple_tool = refl

pub is_free_tool : is_simple_and_free command_app ≡ true
unfolding clap_on_literals command_app named_shape
is_free_tool = refl

-- what no command is: no word, a program's name alone, a call for help, a command without a name, a further word
none : fault_of command_app [] ≡ kinds.MissingSubcommand ∷ []
unfolding clap_on_literals command_app named_shape
none = refl

alone : fault_of command_app (codes "tdc" ∷ []) ≡ kinds.MissingSubcommand ∷ []
unfolding clap_on_literals command_app named_shape
alone = refl

help : fault_of command_app (codes "tdc" ∷ codes "--help" ∷ []) ≡ kinds.DisplayHelp ∷ []
unfolding clap_on_literals command_app named_shape
help = refl

version : fault_of command_app (codes "tdc" ∷ codes "--version" ∷ []) ≡ kinds.UnknownArgument ∷ []
unfolding clap_on_literals command_app named_shape
version = refl

no_name : fault_of command_app (codes "tdc" ∷ codes "c" ∷ []) ≡ kinds.MissingRequiredArgument ∷ []
unfolding clap_on_literals command_app named_shape
no_name = refl

two_names : fault_of command_app (codes "tdc" ∷ codes "c" ∷ codes "a" ∷ codes "b" ∷ []) ≡ kinds.UnknownArgument ∷ []
unfolding clap_on_literals command_app named_shape
two_names = refl

source : Means (codes "tdc" ∷ codes "c" ∷ codes "point" ∷ []) (record { file = Source; prefix = codes "point" })
unfolding clap_on_literals command_app named_shape
source = (refl, (refl, refl))

header : Means (codes "tdc" ∷ codes "header" ∷ codes "point" ∷ []) (record { file = Header; prefix = codes "point" })
unfolding clap_on_literals command_app named_shape
header = (refl, (refl, refl))

parts : Means (codes "tdc" ∷ codes "parts" ∷ codes "point" ∷ []) (record { file = Parts; prefix = codes "point" })
unfolding clap_on_literals command_app named_shape
parts = (refl, (refl, refl))

-- ---- what a parse found

-- a command was entered, by its word and the rows of its own arguments
pub entered : {Z : Type 0} (o : Option (Box SubCommand Z)) (word : List ℕ) (rows : List Row)
    → Some word ≡ option_map (λ b. (out-SubCommand (box_value b)).name.now) o → Some rows ≡ option_map (λ p. p.1) (subcommand_rows o) → subcommand_rows o ≡ Some (word, rows)
entered None word rows h g = absurd (cc)
entered (Some b) word rows h g =
    let one : word ≡ (out-SubCommand (box_value b)).name.now = cc in
    let two = same_rows rows _ g in
    ap₂ (λ (n : List ℕ) (r : List Row). Some (n, r)) (sym one) (sym two)
  where
    same_rows : (a b : List Row) → (let x : Option (List Row) = Some a in x ≡ Some b) → a ≡ b
    same_rows a b e = cc

found_by : (r : Option Command) (found : Found) (word : List ℕ) (rows : List Row) → found ≡ Some (word, rows)
    → IsThe (Fits word (first_of (codes "NAME") rows)) r → IsThe (Is found) r
found_by r found word rows entry h = subst (λ (f : Found). IsThe (Is f) r) (sym entry) (by r h)
  where
    by : (r : Option Command) → IsThe (Fits word (first_of (codes "NAME") rows)) r → IsThe (Is (Some (word, rows))) r
    by None h = h
    by (Some command) h = h

-- the command by that word and the name in those rows is the one that was found
pub command_found : {E : Type 0} (r : Result (Option Command) E) (found : Found) (word : List ℕ) (rows : List Row) (name : Option (List ℕ)) → found ≡ Some (word, rows)
    → name ≡ first_of (codes "NAME") rows → IfOk r (IsThe (Fits word name)) → IfOk r (IsThe (Is found))
command_found (Ok command) found word rows name entry is h = found_by command found word rows entry (subst (λ (n : Option (List ℕ)). IsThe (Fits word n) command) is h)
command_found (Err e) found word rows name entry is h = tt

-- ---- words

-- a word asks for one file at most
pub one_file : (a b : CFile) → word_of a ≡ word_of b → a ≡ b
one_file Source Source same = refl
one_file Source Header same = absurd (cc)
one_file Source Parts same = absurd (cc)
one_file Header Source same = absurd (cc)
one_file Header Header same = refl
one_file Header Parts same = absurd (cc)
one_file Parts Source same = absurd (cc)
one_file Parts Header same = absurd (cc)
one_file Parts Parts same = refl

same_some : {A : Type 0} (a b : A) → (let x : Option A = Some a in x ≡ Some b) → a ≡ b
same_some a b e = cc

one_fitting : (word : List ℕ) (name : Option (List ℕ)) (a b : Command) → Fits word name a → Fits word name b → a ≡ b
one_fitting word name a b one two =
    let files : a.file ≡ b.file = one_file a.file b.file (sym one.0 ∙ two.0) in
    let names : a.prefix ≡ b.prefix = same_some a.prefix b.prefix (sym one.1 ∙ two.1) in
    ap₂ (λ (f : CFile) (p : List ℕ). let c : Command = record { file = f; prefix = p } in c) files names

one_found : (found : Found) (a b : Command) → Is found a → Is found b → a ≡ b
one_found None a b one two = absurd one
one_found (Some found) a b one two = one_fitting found.0 (first_of (codes "NAME") found.1) a b one two

-- words mean one command at most
pub one_command : (words : List (List ℕ)) (a b : Command) → Means words a → Means words b → a ≡ b
one_command words a b one two = one_found (subcommand_of command_app words) a b one.1 two.1

-- the command that was found is the one that the words mean
pub found_means : (words : List (List ℕ)) (rows : Found) (found : Option Command) → fault_of command_app words ≡ [] → subcommand_of command_app words ≡ rows → IsThe (Is rows) found → MatchOption found (MeansNone words) (Means words)
found_means words rows None free is h =
    λ command means.
    let P : Found → Type 0 = λ r. Is r command in
    h command (subst P is means.1)
found_means words rows (Some command) free is h =
    let P : Found → Type 0 = λ r. Is r command in
    (free, subst P (sym is) h)

pub parsed_means : {E : Type 0} (words : List (List ℕ)) (rows : Found) (r : Result (Option Command) E) → fault_of command_app words ≡ [] → subcommand_of command_app words ≡ rows
    → IfOk r (IsThe (Is rows)) → IfOk r (λ found. MatchOption found (MeansNone words) (Means words))
parsed_means words rows (Ok found) free is h = found_means words rows found free is h
parsed_means words rows (Err e) free is h = tt

-- an error that doesn't say that there was no memory says that the words mean no command
pub none_meant : {E : Type 0} (words : List (List ℕ)) (r : Result (Option Command) E) (Memory : Type 0)
    → MatchResult r (λ found. (found ≡ None) × (Memory → ⊥)) (λ e. Memory)
    → ((Memory → ⊥) → MeansNone words) → IfOk r (λ found. MatchOption found (MeansNone words) (Means words))
none_meant words (Ok None) Memory h otherwise = otherwise h.1
none_meant words (Ok (Some command)) Memory h otherwise = absurd (cc)
none_meant words (Err e) Memory h otherwise = tt

-- ---- a command of one argument, which must be given

pub named_is : (word : List ℕ) (old new : ClapCommand) (a : Arg) → app_of old ≡ new_app word → a.global ≡ false
    → rule_of a ≡ record (new_rule (codes "NAME")) { required = true; action = Some Set } → AddsArg old a new → shape_of new ≡ named_shape word
unfolding named_shape
named_is word old new a app local rule h = ap (λ (x : App). x.top) (h.shape local ∙ ap₂ with_rule app rule)

pub named_plain : (old new : ClapCommand) (a : Arg) → (out-Command old).has_globals ≡ false → a.global ≡ false → AddsArg old a new → (out-Command new).has_globals ≡ false
named_plain old new a local own h = h.globals ∙ ap₂ (λ (x y : Bool). x || y) local own
