-- Words mean one command at most, and the number of `bench` is within its range. Cited by other crates.
use Rattle.std.proofs.Common.{◌≡◌, ℕ, ◌≤◌, List, [], ◌∷◌, Option, Some, refl, sym, ap, ◌∙◌, arith}
use Rattle.std.specs.Prelude.{if◌then◌else◌, ◌==◌}
use Rattle.std.specs.Fmt.{decimal}
use Rattle.std.specs.Str.Parse.{digits_value}
use Rattle.std.proofs.lemmas.Fmt.{decimal_is_IsNumeral}
use Rattle.td_cli_command.specs.declared.command.Command.{Command}
use Rattle.td_cli_command.specs.declared.command.Command.TheVariants.{Read, Host, Bench}
use Rattle.td_cli_command.specs.declared.command.Reading.TheVariants.{Check, Tidy, Run, Code, Pack}
use Rattle.td_cli_command.specs.declared.command.TheConstants.{MOST_MESSAGES}
use Rattle.td_cli_command.specs.Command.{Means, IsInRange, name_of}

pub same_some : {A : Type 0} (a b : A) → (let x : Option A = Some a in x ≡ Some b) → a ≡ b
same_some a b e = cc

-- the command of a name that begins with a `c`, by its second byte
by_second : List ℕ → Command
by_second [] = Read Check
by_second (b ∷ rest) = if b == 111 then Read Code else Read Check

-- the command of a name, by its first byte, with a number for `bench`
of_name : List ℕ → ℕ → Command
of_name [] n = Read Check
of_name (b ∷ rest) n = if b == 116 then Read Tidy else if b == 114 then Read Run else if b == 104 then Host else if b == 98 then Bench n else if b == 112 then Read Pack else by_second rest

number_in : Command → ℕ
number_in (Bench n) = n
number_in command = 0

named : (c : Command) → of_name (name_of c) (number_in c) ≡ c
unfolding of_name by_second number_in
named (Read Check) = refl
named (Read Tidy) = refl
named (Read Code) = refl
named (Read Pack) = refl
named (Read Run) = refl
named Host = refl
named (Bench n) = refl

-- a command other than `bench` is known by its name alone
by_name : (a b : Command) → ((n : ℕ) → of_name (name_of a) n ≡ a) → name_of a ≡ name_of b → a ≡ b
by_name a b known same = sym (known (number_in b)) ∙ ap (λ (name : List ℕ). of_name name (number_in b)) same ∙ named b

known_check : (n : ℕ) → of_name (name_of (Read Check)) n ≡ Read Check
unfolding of_name by_second
known_check n = refl

known_tidy : (n : ℕ) → of_name (name_of (Read Tidy)) n ≡ Read Tidy
unfolding of_name by_second
known_tidy n = refl

known_code : (n : ℕ) → of_name (name_of (Read Code)) n ≡ Read Code
unfolding of_name by_second
known_code n = refl

known_pack : (n : ℕ) → of_name (name_of (Read Pack)) n ≡ Read Pack
unfolding of_name by_second
known_pack n = refl

known_run : (n : ℕ) → of_name (name_of (Read Run)) n ≡ Read Run
unfolding of_name by_second
known_run n = refl

known_host : (n : ℕ) → of_name (name_of Host) n ≡ Host
unfolding of_name by_second
known_host n = refl

same_name : (words : List (List ℕ)) (a b : Command) → Means words a → Means words b → name_of a ≡ name_of b
same_name words a b one two = same_some (name_of a) (name_of b) (sym one.1.0 ∙ two.1.0)

-- numbers below 10,000 that are written the same are the same
pub one_decimal : (m n : ℕ) → m ≤ MOST_MESSAGES → n ≤ MOST_MESSAGES → decimal m ≡ decimal n → m ≡ n
one_decimal m n few small same =
    let a = decimal_is_IsNumeral m (omega (arith, few)) in
    let b = decimal_is_IsNumeral n (omega (arith, small)) in
    sym a.1 ∙ ap (digits_value 10) same ∙ b.1

-- words mean one command
pub one_command : (words : List (List ℕ)) (a b : Command) → Means words a → Means words b → a ≡ b
one_command words (Read Check) b one two = by_name (Read Check) b known_check (same_name words (Read Check) b one two)
one_command words (Read Tidy) b one two = by_name (Read Tidy) b known_tidy (same_name words (Read Tidy) b one two)
one_command words (Read Code) b one two = by_name (Read Code) b known_code (same_name words (Read Code) b one two)
one_command words (Read Pack) b one two = by_name (Read Pack) b known_pack (same_name words (Read Pack) b one two)
one_command words (Read Run) b one two = by_name (Read Run) b known_run (same_name words (Read Run) b one two)
one_command words Host b one two = by_name Host b known_host (same_name words Host b one two)
one_command words (Bench n) (Read Check) one two = sym (by_name (Read Check) (Bench n) known_check (same_name words (Read Check) (Bench n) two one))
one_command words (Bench n) (Read Tidy) one two = sym (by_name (Read Tidy) (Bench n) known_tidy (same_name words (Read Tidy) (Bench n) two one))
one_command words (Bench n) (Read Code) one two = sym (by_name (Read Code) (Bench n) known_code (same_name words (Read Code) (Bench n) two one))
one_command words (Bench n) (Read Pack) one two = sym (by_name (Read Pack) (Bench n) known_pack (same_name words (Read Pack) (Bench n) two one))
one_command words (Bench n) (Read Run) one two = sym (by_name (Read Run) (Bench n) known_run (same_name words (Read Run) (Bench n) two one))
one_command words (Bench n) Host one two = sym (by_name Host (Bench n) known_host (same_name words Host (Bench n) two one))
one_command words (Bench n) (Bench m) one two =
    let texts : decimal n ≡ decimal m = same_some (decimal n) (decimal m) (sym one.1.1.1 ∙ two.1.1.1) in
    ap Bench (one_decimal n m one.1.1.3 two.1.1.3 texts)

pub in_range : (words : List (List ℕ)) (command : Command) → Means words command → IsInRange command
in_range words (Read reading) means = tt
in_range words Host means = tt
in_range words (Bench n) means = means.1.1.3
