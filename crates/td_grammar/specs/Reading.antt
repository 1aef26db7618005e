-- How a production is read from the front of a list of tokens, where the next token alone decides (own rule). No public contract
-- speaks of this: what a parser's functions give is compared with it, and it is proved to find just what is spelled.
use Rattle.std.specs.Prelude.{ℕ, zero, suc, Bool, true, false, ◌&&◌, nat_lt, List, [], ◌∷◌, ◌++◌, length, Option, Some, None, if◌then◌else◌}
use Rattle.td_ast.specs.declared.token.Token.{Token}
use Rattle.td_grammar.specs.Sets.{comes}

-- a value and the tokens after it; or the tokens from the first that can't stand where it stands; or those from the
-- first that may stand there and passes a limit
pub data Outcome (A : Type 0) : Type 0 where
  Got : A → List Token → Outcome A
  Bad : List Token → Outcome A
  Deep : List Token → Outcome A

-- goes on where a value was read
infixl 10 ◌and_then◌
abbrev pub ◌and_then◌ : {A B : Type 0} → Outcome A → (A → List Token → Outcome B) → Outcome B
(Got a rest) and_then f = f a rest
(Bad rest) and_then f = Bad rest
(Deep rest) and_then f = Deep rest

pub record Reader (A : Type 0) : Type 0 where
  -- the kinds that the first token of a spelling may have, and whether a spelling may have no token
  pub begins : List ℕ
  pub may_be_empty : Bool
  -- the kinds of tokens that may make a whole spelling longer
  pub goes_on : List ℕ
  -- the value at the front of the tokens
  pub read : List Token → Outcome A

-- ---- one token

abbrev pub read_found : {A : Type 0} → Option A → Token → List Token → Outcome A
read_found (Some a) token rest = Got a rest
read_found None token rest = Bad (token ∷ rest)

abbrev pub read_one : {A : Type 0} → (Token → Option A) → List Token → Outcome A
read_one value_of [] = Bad []
read_one value_of (token ∷ rest) = read_found (value_of token) token rest

abbrev pub one_reader : {A : Type 0} → List ℕ → (Token → Option A) → Reader A
one_reader kinds value_of = record { begins = kinds; may_be_empty = false; goes_on = []; read = read_one value_of }

-- ---- one after the other

abbrev pub both_reader : {A B : Type 0} → Reader A → Reader B → Reader (A × B)
both_reader g h = record {
  begins = if g.may_be_empty then (g.begins ++ h.begins) else g.begins;
  may_be_empty = g.may_be_empty && h.may_be_empty;
  goes_on = if h.may_be_empty then (h.goes_on ++ g.goes_on) else h.goes_on;
  read = λ tokens. g.read tokens and_then λ a rest. h.read rest and_then λ b after. Got (a, b) after;
}

-- ---- a value made of another

abbrev pub made_reader : {A B : Type 0} → Reader A → (A → B) → Reader B
made_reader g made_of = record {
  begins = g.begins;
  may_be_empty = g.may_be_empty;
  goes_on = g.goes_on;
  read = λ tokens. g.read tokens and_then λ a rest. Got (made_of a) rest;
}

-- ---- one or none

abbrev pub maybe_reader : {A : Type 0} → Reader A → Reader (Option A)
maybe_reader g = record {
  begins = g.begins;
  may_be_empty = true;
  goes_on = g.begins ++ g.goes_on;
  read = λ tokens. if comes g.begins tokens then (g.read tokens and_then λ a rest. Got (Some a) rest) else Got None tokens;
}

-- ---- any number of them

-- a first one before the others
abbrev pub with_first : {A : Type 0} → A → Outcome (List A) → Outcome (List A)
with_first x others = others and_then λ xs rest. Got (x ∷ xs) rest

-- at most so many
unfoldable pub read_all : {A : Type 0} → ℕ → List ℕ → (List Token → Outcome A) → List Token → Outcome (List A)
read_all zero begins read tokens = Got [] tokens
read_all (suc n) begins read tokens =
    if comes begins tokens then (read tokens and_then λ x rest. with_first x (read_all n begins read rest)) else Got [] tokens

abbrev pub all_reader : {A : Type 0} → Reader A → Reader (List A)
all_reader g = record {
  begins = g.begins;
  may_be_empty = true;
  goes_on = g.begins ++ g.goes_on;
  read = λ tokens. read_all (length tokens) g.begins g.read tokens;
}

-- ---- the one or the other

abbrev pub either_reader : {A : Type 0} → Reader A → Reader A → Reader A
either_reader g h = record {
  begins = g.begins ++ h.begins;
  may_be_empty = false;
  goes_on = g.goes_on ++ h.goes_on;
  read = λ tokens. if comes g.begins tokens then g.read tokens else h.read tokens;
}

-- ---- the one or the other, by a test of the first token

abbrev pub first_passes : (Token → Bool) → List Token → Bool
first_passes test [] = false
first_passes test (token ∷ rest) = test token

abbrev pub tested_reader : {A : Type 0} → (Token → Bool) → Reader A → Reader A → Reader A
tested_reader test g h = record {
  begins = g.begins ++ h.begins;
  may_be_empty = false;
  goes_on = g.goes_on ++ h.goes_on;
  read = λ tokens. if first_passes test tokens then g.read tokens else h.read tokens;
}

-- ---- what would be nested too deep

abbrev pub too_deep_reader : {A : Type 0} → List ℕ → Reader A
too_deep_reader begins = record {
  begins = begins;
  may_be_empty = false;
  goes_on = [];
  read = λ tokens. if comes begins tokens then Deep tokens else Bad tokens;
}

-- ---- what is only spoken of

abbrev pub no_reader : {A : Type 0} → Reader A
no_reader = record { begins = []; may_be_empty = false; goes_on = []; read = λ tokens. Bad tokens }

-- ---- a limit on tokens of some kinds

-- what was read, unless the first token of over was taken
abbrev pub judged : {A : Type 0} → List Token → Outcome A → Outcome A
judged over (Got a rest) = if nat_lt (length rest) (length over) then Deep over else Got a rest
judged over (Bad rest) = if nat_lt (length rest) (length over) then Deep over else Bad rest
judged over (Deep rest) = Deep over

-- scan gives the tokens from the one on that would be one too many, if there is one
abbrev pub limited_reader : {A : Type 0} → (List Token → List Token) → Reader A → Reader A
limited_reader scan g = record {
  begins = g.begins;
  may_be_empty = g.may_be_empty;
  goes_on = g.goes_on;
  read = λ tokens. judged (scan tokens) (g.read tokens);
}

-- ---- the same, with sets that are written out

abbrev pub seen_reader : {A : Type 0} → List ℕ → List ℕ → Reader A → Reader A
seen_reader begins goes_on g = record { begins = begins; may_be_empty = false; goes_on = goes_on; read = g.read }

-- ---- all of the tokens

abbrev pub ended : {A : Type 0} → A → List Token → Outcome A
ended a [] = Got a []
ended a (token ∷ rest) = Bad (token ∷ rest)

abbrev pub read_whole : {A : Type 0} → Reader A → List Token → Outcome A
read_whole g tokens = g.read tokens and_then λ a rest. ended a rest
