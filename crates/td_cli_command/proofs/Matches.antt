-- What a parse of the words found: a command, and the text of its number.
use Rattle.std.proofs.Common.{◌≡◌, ◌<◌, ◌≤◌, ◌^◌, ℕ, List, Option, Some, None, Result, Ok, Err, option_map, Bool, true, false, ◌||◌, refl, sym, subst, ap, ap₂, ◌∙◌, arith}
use Rattle.std.specs.Prelude.{Box, MatchOption, codes}
use Rattle.std.specs.Box.{box_value}
use Rattle.std.specs.Fmt.{decimal}
use Rattle.std.specs.Str.Parse.{ParsesUnsigned}
use Rattle.std.proofs.lemmas.Fmt.{parse-decimal}
use Rattle.clap.specs.Simple.{App, app_of, shape_of, new_app, new_rule, with_rule, subcommand_rows, subcommand_rows_of}
use Rattle.clap.specs.Matches.{subcommand_name_of}
use Rattle.clap.specs.declared.parser.matches.ArgMatches.{ArgMatches}
use Rattle.clap.specs.Built.{AddsArg}
use Rattle.clap.specs.Walk.{Row, first_of, rule_of}
use Rattle.clap.specs.declared.builder.action.ArgAction.TheVariants.{Set}
use Rattle.clap.specs.declared.builder.arg.Arg.{Arg}
use Rattle.clap.specs.declared.builder.command.Command.{Command}
use Rattle.clap.specs.declared.builder.command.Command.TheViews.{out-Command}
use Rattle.clap.specs.declared.parser.matches.SubCommand.{SubCommand}
use Rattle.clap.specs.declared.parser.matches.ArgMatches.TheViews.{out-ArgMatches, out-SubCommand}
use Rattle.td_cli_command.specs.declared.command.Command.{Command as ToolCommand}
use Rattle.td_cli_command.specs.declared.command.Command.TheVariants.{Read, Host, Bench}
use Rattle.td_cli_command.specs.declared.command.Reading.TheVariants.{Check, Tidy, Run, Code, Pack}
use Rattle.td_cli_command.specs.declared.command.TheConstants.{MOST_MESSAGES}
use Rattle.td_cli_command.specs.Command.{Found, Is, Fits, IsNamed, bench}
use Rattle.td_cli_command.proofs.OneCommand.{same_some, one_decimal}
use Rattle.td_cli_command.proofs.Words.{IsFound, name_entered}

-- no command was entered
pub not_entered : {Z : Type 0} (o : Option (Box SubCommand Z)) → (let none : Option (List ℕ) = None in none ≡ option_map (λ b. (out-SubCommand (box_value b)).name.now) o) → subcommand_rows o ≡ None
not_entered None h = refl
not_entered (Some b) h = absurd (cc)

-- one was, by its name and the rows of its own arguments
pub entered : {Z : Type 0} (o : Option (Box SubCommand Z)) (name : List ℕ) (rows : List Row)
    → Some name ≡ option_map (λ b. (out-SubCommand (box_value b)).name.now) o → Some rows ≡ option_map (λ p. p.1) (subcommand_rows o) → subcommand_rows o ≡ Some (name, rows)
entered None name rows h g = absurd (cc)
entered (Some b) name rows h g =
    let one : name ≡ (out-SubCommand (box_value b)).name.now = cc in
    let two = same_rows rows _ g in
    ap₂ (λ (n : List ℕ) (r : List Row). Some (n, r)) (sym one) (sym two)
  where
    same_rows : (a b : List Row) → (let x : Option (List Row) = Some a in x ≡ Some b) → a ≡ b
    same_rows a b e = cc

-- a text that is written like a number within the limit is parsed to it
pub parsed : {E : Type 0} (n : ℕ) (text : List ℕ) (r : Result ℕ E) → n ≤ MOST_MESSAGES → text ≡ decimal n → ParsesUnsigned 32 10 text r → r ≡ Ok n
parsed n text r few is h = parse-decimal 32 n text r (omega (arith, few)) (omega (arith, few)) is h

pub parsed_other : {E : Type 0} (n : ℕ) (text : List ℕ) (e : E) → n ≤ MOST_MESSAGES → text ≡ decimal n → ParsesUnsigned 32 10 text (Err e) → ⊥
parsed_other n text e few is h = let ok = parsed n text (Err e) few is h in cc

pub parsed_same : {E : Type 0} (n m : ℕ) (text : List ℕ) (r : Result ℕ E) → n ≤ MOST_MESSAGES → text ≡ decimal n → ParsesUnsigned 32 10 text r → r ≡ Ok m → m ≡ n
parsed_same n m text r few is h got = let ok = parsed n text r few is h in cc

-- the one number that a text can be decides for all
pub only_number : (r : Option ℕ) (number : ℕ) (text : List ℕ) → ((n : ℕ) → n ≤ MOST_MESSAGES → text ≡ decimal n → number ≡ n)
    → MatchOption r (text ≡ decimal number → 1 ≤ number → number ≤ MOST_MESSAGES → ⊥) (λ n. (text ≡ decimal n) × (1 ≤ n) × (n ≤ MOST_MESSAGES))
    → MatchOption r ((n : ℕ) → text ≡ decimal n → 1 ≤ n → n ≤ MOST_MESSAGES → ⊥) (λ n. (text ≡ decimal n) × (1 ≤ n) × (n ≤ MOST_MESSAGES))
only_number None number text same h = λ n is low high. let e = same n high is in h (is ∙ ap decimal (sym e)) (omega (arith, e, low)) (omega (arith, e, high))
only_number (Some n) number text same h = h

-- what was entered is `bench` with its own matches
pub bench_entered : (m : ArgMatches) (rows : List Row) → subcommand_name_of m ≡ Some (codes "bench") → option_map (λ p. p.1) (subcommand_rows_of m) ≡ Some rows → subcommand_rows_of m ≡ Some (codes "bench", rows)
bench_entered m rows name own = entered (out-ArgMatches m).subcommand (codes "bench") rows (sym name) (sym own)

-- the number of `bench` is the one of its text
pub number_found : (r : Option ℕ) (count : ℕ) (found : Found) (rows : List Row) (text : List ℕ) → found ≡ Some (codes "bench", rows) → count ≡ 3 → first_of (codes "N") rows ≡ Some text
    → MatchOption r ((n : ℕ) → text ≡ decimal n → 1 ≤ n → n ≤ MOST_MESSAGES → ⊥) (λ n. (text ≡ decimal n) × (1 ≤ n) × (n ≤ MOST_MESSAGES))
    → MatchOption r ((n : ℕ) → Is count found (Bench n) → ⊥) (λ n. Is count found (Bench n))
number_found None count found rows text entry three is h =
    λ n as_bench.
    let P : Found → Type 0 = λ f. Is count f (Bench n) in
    let has = subst P entry as_bench in
    h n (same_some text (decimal n) (sym is ∙ has.1.1)) has.1.2 has.1.3
number_found (Some n) count found rows text entry three is h =
    let P : Found → Type 0 = λ f. Is count f (Bench n) in
    subst P (sym entry) (refl, (three, is ∙ ap Some h.0, h.1, h.2))

-- no text of a number, no `bench`
pub no_text : (count : ℕ) (found : Found) (rows : List Row) → found ≡ Some (codes "bench", rows) → None ≡ first_of (codes "N") rows → (n : ℕ) → Is count found (Bench n) → ⊥
no_text count found rows entry none n as_bench =
    let P : Found → Type 0 = λ f. Is count f (Bench n) in
    let has = subst P entry as_bench in
    apart (decimal n) (none ∙ has.1.1)
  where
    apart : (b : List ℕ) → (let x : Option (List ℕ) = None in x ≡ Some b) → ⊥
    apart b e = cc

-- another name, no `bench`
pub no_bench : (m : ArgMatches) (count : ℕ) → (subcommand_name_of m ≡ Some (codes "bench") → ⊥) → (n : ℕ) → Is count (subcommand_rows_of m) (Bench n) → ⊥
no_bench m count other n as_bench = other (sym (name_entered m) ∙ as_bench.0)

-- other words than three, no `bench`
pub other_count : (count : ℕ) (found : Found) → (count ≡ 3 → ⊥) → (n : ℕ) → Is count found (Bench n) → ⊥
other_count count found other n as_bench = other as_bench.1.0

-- the command by its name and number is the one of the matches
pub fits_is : (count : ℕ) (rows : Found) (name : Option (List ℕ)) (number : Option ℕ) (found : Option ToolCommand) → option_map (λ f. f.0) rows ≡ name
    → MatchOption number ((n : ℕ) → Is count rows (Bench n) → ⊥) (λ n. Is count rows (Bench n)) → IsNamed name number found → IsFound count rows found
fits_is count rows name number (Some (Read Check)) same has h = (same ∙ h, tt)
fits_is count rows name number (Some (Read Tidy)) same has h = (same ∙ h, tt)
fits_is count rows name number (Some (Read Code)) same has h = (same ∙ h, tt)
fits_is count rows name number (Some (Read Pack)) same has h = (same ∙ h, tt)
fits_is count rows name number (Some (Read Run)) same has h = (same ∙ h, tt)
fits_is count rows name number (Some Host) same has h = (same ∙ h, tt)
fits_is count rows name None (Some (Bench n)) same has h = absurd (none_some n h.1)
  where
    none_some : (n : ℕ) → (let x : Option ℕ = None in x ≡ Some n) → ⊥
    none_some n e = cc
fits_is count rows name (Some k) (Some (Bench n)) same has h = let P : ℕ → Type 0 = λ x. Is count rows (Bench x) in subst P (same_some k n h.1) has
fits_is count rows name number None same has h = λ command is. refused command is
  where
    bench_refused : (number : Option ℕ) → MatchOption number ((n : ℕ) → Is count rows (Bench n) → ⊥) (λ n. Is count rows (Bench n)) → ((command : ToolCommand) → ¬ Fits name number command) → (n : ℕ) → Is count rows (Bench n) → ⊥
    bench_refused None has h n is = has n is
    bench_refused (Some k) has h n is =
        let texts : decimal k ≡ decimal n = same_some (decimal k) (decimal n) (sym has.1.1 ∙ is.1.1) in
        h (Bench n) (sym same ∙ is.0, ap Some (one_decimal k n has.1.3 is.1.3 texts))

    refused : (command : ToolCommand) → Is count rows command → ⊥
    refused (Read Check) is = h (Read Check) (sym same ∙ is.0)
    refused (Read Tidy) is = h (Read Tidy) (sym same ∙ is.0)
    refused (Read Code) is = h (Read Code) (sym same ∙ is.0)
    refused (Read Pack) is = h (Read Pack) (sym same ∙ is.0)
    refused (Read Run) is = h (Read Run) (sym same ∙ is.0)
    refused Host is = h Host (sym same ∙ is.0)
    refused (Bench n) is = bench_refused number has h n is

-- ---- the command `bench`

-- a command with one argument, which must be given
pub bench_shape : (old new : Command) (a : Arg) → app_of old ≡ new_app (codes "bench") → a.global ≡ false
    → rule_of a ≡ record (new_rule (codes "N")) { required = true; action = Some Set } → AddsArg old a new → shape_of new ≡ bench
unfolding bench
bench_shape old new a app local rule h = ap (λ (x : App). x.top) (h.shape local ∙ ap₂ with_rule app rule)

pub bench_plain : (old new : Command) (a : Arg) → (out-Command old).has_globals ≡ false → a.global ≡ false → AddsArg old a new → (out-Command new).has_globals ≡ false
bench_plain old new a local own h = h.globals ∙ ap₂ (λ (x y : Bool). x || y) local own
