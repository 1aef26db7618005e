-- What holds of a production that one token ahead decides. Cited by other crates.
use Rattle.std.proofs.Common.{◌≡◌, true, List, [], ◌∷◌, ◌++◌, length, ◌<◌, sym, ap, subst, ◌∙◌, append_assoc, ◌⊎◌}
use Rattle.td_ast.specs.declared.token.Token.{Token}
use Rattle.td_ast.specs.Kinds.{number_of_kind}
use Rattle.td_grammar.specs.Spelling.{Begins}
use Rattle.td_grammar.specs.Reading.{Outcome, Got, Bad, Deep}
use Rattle.td_grammar.specs.Sets.{member}
use Rattle.td_grammar.specs.Grammar.{Grammar}
use Rattle.td_grammar.proofs.Sets.{disjoint}
use Rattle.td_grammar.proofs.Tools.{Stops, split}

-- a limit was passed before the rest
abbrev pub IsDeep : {A : Type 0} → List Token → Outcome A → Type 0
IsDeep rest o = (over : List Token) × (o ≡ Deep over) × (length rest < length over)

-- the value was read, or a limit was passed before the rest
abbrev pub IsRead : {A : Type 0} → A → List Token → Outcome A → Type 0
IsRead a rest o = (o ≡ Got a rest) ⊎ IsDeep rest o

pub record IsExact {A : Type 0} (g : Grammar A) : Type 0 where
  -- what is read is spelled by what was taken
  pub takes : (tokens : List Token) (a : A) (rest : List Token) → g.reader.read tokens ≡ Got a rest → (front : List Token) × (tokens ≡ front ++ rest) × g.Spells a front
  -- what is spelled is read, where nothing goes on with it
  pub again : (a : A) (front rest : List Token) → g.Spells a front → Stops g.reader.goes_on rest → IsRead a rest (g.reader.read (front ++ rest))
  pub begun : (a : A) (t : Token) (more : List Token) → g.Spells a (t ∷ more) → member g.reader.begins (number_of_kind t.kind) ≡ true
  pub full : (a : A) → g.Spells a [] → g.reader.may_be_empty ≡ true
  -- where reading stops, what was taken begins a spelling
  pub ends : (tokens rest : List Token) → g.reader.read tokens ≡ Bad rest → (front : List Token) × (tokens ≡ front ++ rest) × Begins g.Spells front
  -- of the tokens after what was taken, reading looks at the first alone
  pub keeps_got : (front : List Token) (t : Token) (r s : List Token) (a : A) → g.reader.read (front ++ t ∷ r) ≡ Got a (t ∷ r) → g.reader.read (front ++ t ∷ s) ≡ Got a (t ∷ s)
  pub keeps_bad : (front : List Token) (t : Token) (r s : List Token) → g.reader.read (front ++ t ∷ r) ≡ Bad (t ∷ r) → g.reader.read (front ++ t ∷ s) ≡ Bad (t ∷ s)
  -- where reading says so, the token passes a limit
  pub deep : (tokens rest : List Token) → g.reader.read tokens ≡ Deep rest → (front : List Token) × (t : Token) × (r : List Token) × (tokens ≡ front ++ t ∷ r) × (rest ≡ t ∷ r) × g.Passes (front ++ t ∷ [])
  -- where a token passes a limit, reading stops there or sooner
  pub passes : (front rest : List Token) → g.Passes front → IsDeep rest (g.reader.read (front ++ rest))
  -- such a token may stand where it stands
  pub passed : (front : List Token) → g.Passes front → Begins g.Spells front
  pub not_nothing : g.Passes [] → ⊥
  pub some : (a : A) × (tokens : List Token) × g.Spells a tokens

-- what begins the second doesn't go on with the first
abbrev pub IsApart : {A B : Type 0} → Grammar A → Grammar B → Type 0
IsApart g h = disjoint h.reader.begins g.reader.goes_on ≡ true

-- the first of the tokens up to one that passes a limit may come first
pub passed_begins : {A : Type 0} (g : Grammar A) → IsExact g → (t : Token) (front : List Token) → g.Passes (t ∷ front) → member g.reader.begins (number_of_kind t.kind) ≡ true
passed_begins g G t front p = let b = G.passed (t ∷ front) p in G.begun b.0 t (front ++ b.1) b.2

pub keeps_more : {A : Type 0} (g : Grammar A) → IsExact g → (front mid : List Token) (t : Token) (r s : List Token) (a : A) → g.reader.read (front ++ (mid ++ t ∷ r)) ≡ Got a (mid ++ t ∷ r) → g.reader.read (front ++ (mid ++ t ∷ s)) ≡ Got a (mid ++ t ∷ s)
keeps_more g G front [] t r s a e = G.keeps_got front t r s a e
keeps_more g G front (x ∷ mid) t r s a e = G.keeps_got front x (mid ++ t ∷ r) (mid ++ t ∷ s) a e

-- the first reads what it read, where the second read up to the same token
pub keeps_first : {A : Type 0} (g : Grammar A) → IsExact g → (front : List Token) (t : Token) (r s : List Token) (a : A) (mid v : List Token) → g.reader.read (front ++ t ∷ r) ≡ Got a mid → mid ≡ v ++ t ∷ r → g.reader.read (front ++ t ∷ s) ≡ Got a (v ++ t ∷ s)
keeps_first g G front t r s a mid v e same =
    let p = G.takes (front ++ t ∷ r) a mid e in
    let parts : front ≡ p.0 ++ v = split front p.0 mid v (t ∷ r) p.1 same in
    let old : (p.0 ++ v) ++ t ∷ r ≡ p.0 ++ (v ++ t ∷ r) = append_assoc p.0 v (t ∷ r) in
    let new : (p.0 ++ v) ++ t ∷ s ≡ p.0 ++ (v ++ t ∷ s) = append_assoc p.0 v (t ∷ s) in
    let was : g.reader.read (p.0 ++ (v ++ t ∷ r)) ≡ Got a (v ++ t ∷ r) = subst (λ (l : List Token). g.reader.read l ≡ Got a (v ++ t ∷ r)) (ap (λ (l : List Token). l ++ t ∷ r) parts ∙ old) (subst (λ (l : List Token). g.reader.read (front ++ t ∷ r) ≡ Got a l) same e) in
    subst (λ (l : List Token). g.reader.read l ≡ Got a (v ++ t ∷ s)) (sym (ap (λ (l : List Token). l ++ t ∷ s) parts ∙ new)) (keeps_more g G p.0 v t r s a was)
