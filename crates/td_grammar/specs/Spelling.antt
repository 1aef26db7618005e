-- Which tokens spell a value. A production of a grammar is a relation between values and lists of tokens, and one made
-- of others is a relation made of theirs (extended Backus-Naur form, ISO/IEC 14977).
use Rattle.std.specs.Prelude.{◌≡◌, ℕ, zero, suc, List, [], ◌∷◌, ◌++◌, length, take, ◌≤◌, ◌<◌, ◌+◌, ◌⊎◌, Option, Some, None}
use Rattle.td_ast.specs.declared.token.Token.{Token}

-- one token, which stands for the value
abbrev pub SpellsOne : {A : Type 0} → (Token → Option A) → A → List Token → Type 0
SpellsOne value_of a tokens = (token : Token) × (tokens ≡ token ∷ []) × (value_of token ≡ Some a)

-- the one, and after it the other
abbrev pub SpellsBoth : {A B : Type 0} → (A → List Token → Type 0) → (B → List Token → Type 0) → A × B → List Token → Type 0
SpellsBoth P Q x tokens = (front : List Token) × (back : List Token) × (tokens ≡ front ++ back) × P x.0 front × Q x.1 back

-- a value that is made of a spelled one
abbrev pub SpellsMade : {A B : Type 0} → (A → B) → (A → List Token → Type 0) → B → List Token → Type 0
SpellsMade {A} made_of P b tokens = (a : A) × (made_of a ≡ b) × P a tokens

-- one, or no token
abbrev pub SpellsMaybe : {A : Type 0} → (A → List Token → Type 0) → Option A → List Token → Type 0
SpellsMaybe P None tokens = tokens ≡ []
SpellsMaybe P (Some a) tokens = P a tokens

-- any number of them, one after the other
abbrev pub SpellsAll : {A : Type 0} → (A → List Token → Type 0) → List A → List Token → Type 0
SpellsAll P [] tokens = tokens ≡ []
SpellsAll P (x ∷ xs) tokens = (front : List Token) × (back : List Token) × (tokens ≡ front ++ back) × P x front × SpellsAll P xs back

-- the one or the other
abbrev pub SpellsEither : {A : Type 0} → (A → List Token → Type 0) → (A → List Token → Type 0) → A → List Token → Type 0
SpellsEither P Q a tokens = P a tokens ⊎ Q a tokens

-- what a production says of itself, nested less than n deep
unfoldable pub NestedBelow : {A : Type 0} → ((A → List Token → Type 0) → A → List Token → Type 0) → ℕ → A → List Token → Type 0
NestedBelow body zero a tokens = ⊥
NestedBelow body (suc n) a tokens = body (NestedBelow body n) a tokens

-- nested to some depth
abbrev pub SpellsNested : {A : Type 0} → ((A → List Token → Type 0) → A → List Token → Type 0) → A → List Token → Type 0
SpellsNested body a tokens = (n : ℕ) × NestedBelow body n a tokens

-- some value's spelling begins with these tokens
abbrev pub Begins : {A : Type 0} → (A → List Token → Type 0) → List Token → Type 0
Begins {A} Spells tokens = (a : A) × (more : List Token) × Spells a (tokens ++ more)

-- The place, from 0, of the first token that is refused: the tokens before it begin some value's spelling, and with it
-- they begin none. Where the tokens end too early it is their count: they begin some value's spelling and are none
-- (own rule).
pub record IsFirstRefused {A : Type 0} (Spells : A → List Token → Type 0) (tokens : List Token) (place : ℕ) : Type 0 where
  pub within : place ≤ length tokens
  pub before : Begins Spells (take place tokens)
  pub there : place < length tokens → Begins Spells (take (place + 1) tokens) → ⊥
  pub whole : place ≡ length tokens → (a : A) → Spells a tokens → ⊥
