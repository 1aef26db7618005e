-- Which token passes a limit (own rule). Where tokens begin a spelling and the last of them is one too many for a limit, they "pass"
-- it, whether or not an earlier one passed one too.
use Rattle.std.specs.Prelude.{◌≡◌, ℕ, true, if◌then◌else◌, List, [], ◌∷◌, ◌++◌, length, take, ◌<◌, ◌+◌, ◌⊎◌}
use Rattle.td_ast.specs.declared.token.Token.{Token}
use Rattle.td_ast.specs.Kinds.{number_of_kind}
use Rattle.td_grammar.specs.Sets.{member}
use Rattle.td_grammar.specs.Spelling.{SpellsAll, Begins}

-- no limit is looked at
abbrev pub PassesNever : List Token → Type 0
PassesNever tokens = ⊥

-- in the first, or in the second after the first
abbrev pub PassesBoth : {A : Type 0} → (A → List Token → Type 0) → (List Token → Type 0) → (List Token → Type 0) → List Token → Type 0
PassesBoth {A} Spells P Q tokens = P tokens ⊎ ((a : A) × (front : List Token) × (back : List Token) × (tokens ≡ front ++ back) × Spells a front × Q back)

-- in one that stands after any number of them
abbrev pub PassesAll : {A : Type 0} → (A → List Token → Type 0) → (List Token → Type 0) → List Token → Type 0
PassesAll {A} Spells P tokens = (xs : List A) × (front : List Token) × (back : List Token) × (tokens ≡ front ++ back) × SpellsAll Spells xs front × P back

-- in the one or the other
abbrev pub PassesEither : (List Token → Type 0) → (List Token → Type 0) → List Token → Type 0
PassesEither P Q tokens = P tokens ⊎ Q tokens

-- how many of the tokens are of these kinds
abbrev pub count : List ℕ → List Token → ℕ
count kinds [] = 0
count kinds (token ∷ tokens) = if member kinds (number_of_kind token.kind) then count kinds tokens + 1 else count kinds tokens

-- the last is of these kinds, and n of these kinds stand before it
abbrev pub PassesCount : {A : Type 0} → List ℕ → ℕ → (A → List Token → Type 0) → List Token → Type 0
PassesCount kinds n Spells tokens =
    (front : List Token) × (last : Token) × (tokens ≡ front ++ last ∷ []) × (member kinds (number_of_kind last.kind) ≡ true) × (count kinds front ≡ n) × Begins Spells tokens

-- one token, of these kinds, which begins one that would be nested too deep
abbrev pub PassesFirst : List ℕ → List Token → Type 0
PassesFirst kinds tokens = (token : Token) × (tokens ≡ token ∷ []) × (member kinds (number_of_kind token.kind) ≡ true)

-- The place of the first token that passes a limit.
pub record IsFirstDeep (Passes : List Token → Type 0) (tokens : List Token) (place : ℕ) : Type 0 where
  pub within : place < length tokens
  pub here : Passes (take (place + 1) tokens)
  pub before : (sooner : ℕ) → sooner < place → Passes (take (sooner + 1) tokens) → ⊥

-- No token passes a limit.
abbrev pub IsWithinLimits : (List Token → Type 0) → List Token → Type 0
IsWithinLimits Passes tokens = (place : ℕ) → place < length tokens → Passes (take (place + 1) tokens) → ⊥
