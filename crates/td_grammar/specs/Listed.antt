-- A list whose elements are parted by one kind of token, which may also stand after the last (own rule).
use Rattle.std.specs.Prelude.{◌≡◌, ℕ, zero, suc, true, false, List, [], ◌∷◌, ◌++◌, length, ◌⊎◌, if◌then◌else◌}
use Rattle.td_ast.specs.declared.token.Token.{Token}
use Rattle.td_ast.specs.Kinds.{number_of_kind}
use Rattle.td_grammar.specs.Sets.{member, comes}
use Rattle.td_grammar.specs.Reading.{Outcome, Got, Bad, ◌and_then◌, with_first, Reader}
use Rattle.td_grammar.specs.Grammar.{Grammar}

-- a token of these kinds
abbrev pub IsOf : List ℕ → List Token → Type 0
IsOf kinds tokens = (token : Token) × (tokens ≡ token ∷ []) × (member kinds (number_of_kind token.kind) ≡ true)

-- [ part ] after the last; part, and the list from the next one on, after another
abbrev pub SpellsListed : {A : Type 0} → List ℕ → (A → List Token → Type 0) → A → List A → List Token → Type 0
SpellsListed parts P x [] tokens = (front : List Token) × (back : List Token) × (tokens ≡ front ++ back) × P x front × ((back ≡ []) ⊎ IsOf parts back)
SpellsListed parts P x (y ∷ ys) tokens =
    (front : List Token) × (part : Token) × (back : List Token) × (tokens ≡ front ++ part ∷ back) × P x front × (member parts (number_of_kind part.kind) ≡ true) × SpellsListed parts P y ys back

-- g { part g } [ part ]
abbrev pub SpellsList : {A : Type 0} → List ℕ → (A → List Token → Type 0) → List A → List Token → Type 0
SpellsList parts P [] tokens = ⊥
SpellsList parts P (x ∷ xs) tokens = SpellsListed parts P x xs tokens

-- elements, each with the token after it
abbrev pub SpellsFirst : {A : Type 0} → List ℕ → (A → List Token → Type 0) → List A → List Token → Type 0
SpellsFirst parts P [] tokens = tokens ≡ []
SpellsFirst parts P (x ∷ xs) tokens =
    (front : List Token) × (part : Token) × (back : List Token) × (tokens ≡ front ++ part ∷ back) × P x front × (member parts (number_of_kind part.kind) ≡ true) × SpellsFirst parts P xs back

abbrev pub PassesListed : {A : Type 0} → List ℕ → (A → List Token → Type 0) → (List Token → Type 0) → List Token → Type 0
PassesListed {A} parts P Q tokens = (xs : List A) × (front : List Token) × (back : List Token) × (tokens ≡ front ++ back) × SpellsFirst parts P xs front × Q back

-- after an element: what the next token says
abbrev pub read_part : {A : Type 0} → List ℕ → List ℕ → A → List Token → (List Token → Outcome (List A)) → Outcome (List A)
read_part parts begins x [] further = Got (x ∷ []) []
read_part parts begins x (token ∷ tokens) further =
    if member parts (number_of_kind token.kind) then (if comes begins tokens then with_first x (further tokens) else Got (x ∷ []) tokens)
    else Got (x ∷ []) (token ∷ tokens)

unfoldable pub read_listed : {A : Type 0} → ℕ → List ℕ → List ℕ → (List Token → Outcome A) → List Token → Outcome (List A)
read_listed zero parts begins read tokens = Bad tokens
read_listed (suc n) parts begins read tokens = read tokens and_then λ x rest. read_part parts begins x rest (read_listed n parts begins read)

abbrev pub listed_reader : {A : Type 0} → List ℕ → Reader A → Reader (List A)
listed_reader parts g = record {
  begins = g.begins;
  may_be_empty = false;
  goes_on = parts ++ (g.begins ++ g.goes_on);
  read = λ tokens. read_listed (suc (length tokens)) parts g.begins g.read tokens;
}

abbrev pub listed : {A : Type 0} → List ℕ → Grammar A → Grammar (List A)
listed parts g = record { Spells = SpellsList parts g.Spells; Passes = PassesListed parts g.Spells g.Passes; reader = listed_reader parts g.reader }
