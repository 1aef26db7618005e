-- Productions (own rule): which tokens spell a value, which token of them passes a limit, and beside it how a value is read. Who
-- asks what the language is looks at `Spells` and `Passes` alone.
use Rattle.std.specs.Prelude.{ℕ, Bool, List, Option}
use Rattle.td_ast.specs.declared.token.Token.{Token}
use Rattle.td_grammar.specs.Spelling.{SpellsOne, SpellsBoth, SpellsMade, SpellsMaybe, SpellsAll, SpellsEither}
use Rattle.td_grammar.specs.Limits.{PassesNever, PassesBoth, PassesAll, PassesEither, PassesCount, PassesFirst}
use Rattle.td_grammar.specs.Reading.{Reader, one_reader, both_reader, made_reader, maybe_reader, all_reader, either_reader, tested_reader, too_deep_reader, limited_reader, seen_reader, no_reader}

pub record Grammar (A : Type 0) : Type 1 where
  -- these tokens spell the value
  pub Spells : A → List Token → Type 0
  -- these tokens begin a spelling, and the last of them passes a limit
  pub Passes : List Token → Type 0
  pub reader : Reader A

-- a token, of one of these kinds, and the value for which it stands
abbrev pub one : {A : Type 0} → List ℕ → (Token → Option A) → Grammar A
one kinds value_of = record { Spells = SpellsOne value_of; Passes = PassesNever; reader = one_reader kinds value_of }

-- the one and after it the other
infixr 20 ◌then◌
abbrev pub ◌then◌ : {A B : Type 0} → Grammar A → Grammar B → Grammar (A × B)
g then h = record { Spells = SpellsBoth g.Spells h.Spells; Passes = PassesBoth g.Spells g.Passes h.Passes; reader = both_reader g.reader h.reader }

-- the value that is made of the parts
infixl 12 ◌making◌
abbrev pub ◌making◌ : {A B : Type 0} → Grammar A → (A → B) → Grammar B
g making made_of = record { Spells = SpellsMade made_of g.Spells; Passes = g.Passes; reader = made_reader g.reader made_of }

-- [ g ]
abbrev pub maybe : {A : Type 0} → Grammar A → Grammar (Option A)
maybe g = record { Spells = SpellsMaybe g.Spells; Passes = g.Passes; reader = maybe_reader g.reader }

-- { g }
abbrev pub all_of : {A : Type 0} → Grammar A → Grammar (List A)
all_of g = record { Spells = SpellsAll g.Spells; Passes = PassesAll g.Spells g.Passes; reader = all_reader g.reader }

-- g | h
infixr 15 ◌or◌
abbrev pub ◌or◌ : {A : Type 0} → Grammar A → Grammar A → Grammar A
g or h = record { Spells = SpellsEither g.Spells h.Spells; Passes = PassesEither g.Passes h.Passes; reader = either_reader g.reader h.reader }

-- g | h, where a token that begins g passes the test, and one that begins h doesn't
abbrev pub either_by : {A : Type 0} → (Token → Bool) → Grammar A → Grammar A → Grammar A
either_by test g h = record { Spells = SpellsEither g.Spells h.Spells; Passes = PassesEither g.Passes h.Passes; reader = tested_reader test g.reader h.reader }

-- what would be nested too deep, by its spellings and the kinds of their first tokens, which pass the limit
abbrev pub too_deep : {A : Type 0} → (A → List Token → Type 0) → List ℕ → Grammar A
too_deep Spells begins = record { Spells = Spells; Passes = PassesFirst begins; reader = too_deep_reader begins }

-- a relation, in the place of a production
abbrev pub spelled_by : {A : Type 0} → (A → List Token → Type 0) → Grammar A
spelled_by Spells = record { Spells = Spells; Passes = PassesNever; reader = no_reader }

-- at most n tokens of these kinds
abbrev pub limited : {A : Type 0} → List ℕ → ℕ → (List Token → List Token) → Grammar A → Grammar A
limited kinds n scan g = record { Spells = g.Spells; Passes = PassesCount kinds n g.Spells; reader = limited_reader scan g.reader }

-- the same production, with another form of the same relation, and sets that are written out
abbrev pub seen_as : {A : Type 0} → (A → List Token → Type 0) → List ℕ → List ℕ → Grammar A → Grammar A
seen_as Spells begins goes_on g = record { Spells = Spells; Passes = g.Passes; reader = seen_reader begins goes_on g.reader }
