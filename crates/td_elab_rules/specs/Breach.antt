-- Breaches: a rule, and the place at which it is broken. The first is the least by place, then by rule (own rule: of
-- several refusals the first in the order of the source, and at one place that of the lower code).
use Rattle.std.specs.Prelude.{◌≡◌, ℕ, Bool, true, false, List, [], ◌∷◌, Option, Some, None, if◌then◌else◌, nat_lt, nat_eq, Contains, All, codes}
use Rattle.td_elab_rules.specs.Imports.{Span}
use Rattle.td_elab_rules.specs.declared.breach.Rule.{Rule}
use Rattle.td_elab_rules.specs.declared.breach.Rule.TheVariants.{Unknown, Twice, NotReadable, WrongArgs, Mismatch, Narrowing, NotConstant, BadAction}
use Rattle.td_elab_rules.specs.declared.breach.Breach.{Breach}

-- N1 to N4, then Y1 to Y4
abbrev pub rank : Rule → ℕ
rank Unknown = 0
rank Twice = 1
rank NotReadable = 2
rank WrongArgs = 3
rank Mismatch = 4
rank Narrowing = 5
rank NotConstant = 6
rank BadAction = 7

-- the words for what breaks a rule, as its error line has them
abbrev pub rule_words : Rule → List ℕ
rule_words Unknown = codes "unknown name"
rule_words Twice = codes "name twice"
rule_words NotReadable = codes "not readable"
rule_words WrongArgs = codes "wrong arguments"
rule_words Mismatch = codes "type mismatch"
rule_words Narrowing = codes "does not fit"
rule_words NotConstant = codes "not constant"
rule_words BadAction = codes "bad action"

-- whether a is named before b: by the place, then by the rule (and then by the end, so that no two are level)
abbrev pub is_sooner : Breach → Breach → Bool
is_sooner a b =
    if nat_eq a.span.from b.span.from then
    (if nat_eq (rank a.rule) (rank b.rule) then nat_lt a.span.to b.span.to else nat_lt (rank a.rule) (rank b.rule))
    else nat_lt a.span.from b.span.from

-- b is among the breaches, and none of them is named before it
abbrev pub IsFirst : Breach → List Breach → Type 0
IsFirst b bs = Contains bs b × All (λ c. is_sooner c b ≡ false) bs

-- a list of one breach where the test holds
abbrev pub when : Bool → Rule → Span → List Breach
when true rule span = record { rule = rule; span = span } ∷ []
when false rule span = []

-- the sooner of what was first so far and one more
abbrev pub sooner : Option Breach → Breach → Option Breach
sooner None b = Some b
sooner (Some a) b = if is_sooner b a then Some b else Some a

-- the first of what was first so far and more breaches
abbrev pub first_of : Option Breach → List Breach → Option Breach
first_of o [] = o
first_of o (b ∷ bs) = first_of (sooner o b) bs
