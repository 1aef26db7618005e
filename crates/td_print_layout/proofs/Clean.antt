-- Tokens that are read as a value whatever comes after them, and how such ones are combined.
use Rattle.std.proofs.Common.{◌≡◌, ℕ, zero, suc, ◌≤◌, Bool, true, false, cond, List, [], ◌∷◌, ◌++◌, length, Some, None, refl, subst, ◌∙◌, append_assoc, arith}
use Rattle.std.proofs.lemmas.List.{length-append}
use Rattle.td_ast.specs.declared.token.Token.{Token}
use Rattle.td_ast.specs.declared.token.TokenKind.{TokenKind}
use Rattle.td_ast.specs.Kinds.{number_of_kind}
use Rattle.td_grammar.specs.Reading.{Got, read_all}
use Rattle.td_grammar.specs.Sets.{comes, member}
use Rattle.td_grammar.specs.Grammar.{Grammar, ◌then◌, ◌making◌, maybe, all_of}
use Rattle.td_grammar.proofs.Sets.{disjoint, covered}
use Rattle.td_grammar.proofs.Tools.{Stops, member_left, member_right, apart_at, stops_left, stops_right}
use Rattle.td_grammar.proofs.Exact.{IsApart}
use Rattle.td_grammar.proofs.Seen.{stops_less}
use Rattle.td_grammar.proofs.Led.{last_stops}

-- read as the value, where what comes after doesn't go on with it
abbrev pub Clean : {A : Type 0} → Grammar A → A → List Token → Type 0
Clean g a tokens = (rest : List Token) → Stops g.reader.goes_on rest → g.reader.read (tokens ++ rest) ≡ Got a rest

-- their first token may come first, and where there is none, there may be none
abbrev pub Begun : {A : Type 0} → Grammar A → List Token → Type 0
Begun g [] = g.reader.may_be_empty ≡ true
Begun g (t ∷ tokens) = member g.reader.begins (number_of_kind t.kind) ≡ true

-- ---- one after the other

module _ {A B : Type 0} (g : Grammar A) (h : Grammar B) (apart : IsApart g h) where
  seam : (v rest : List Token) → Begun h v → Stops (g then h).reader.goes_on rest → Stops g.reader.goes_on (v ++ rest)
  seam [] rest b stops = stops_right h.reader.goes_on g.reader.goes_on rest (subst (λ c. Stops (cond c (h.reader.goes_on ++ g.reader.goes_on) h.reader.goes_on) rest) b stops)
  seam (t ∷ v) rest b stops = apart_at h.reader.begins g.reader.goes_on (number_of_kind t.kind) apart b

  pub both_clean : (a : A) (b : B) (u v : List Token) → Clean g a u → Clean h b v → Begun h v → Clean (g then h) (a, b) (u ++ v)
  both_clean a b u v p q begun rest stops =
      let regrouped : (u ++ v) ++ rest ≡ u ++ (v ++ rest) = append_assoc u v rest in
      let first : g.reader.read ((u ++ v) ++ rest) ≡ Got a (v ++ rest) = rw regrouped (p (v ++ rest) (seam v rest begun stops)) in
      let second : h.reader.read (v ++ rest) ≡ Got b rest = q rest (last_stops g h rest stops) in
      rw (first, second) refl

  begins_by : (c : Bool) (n : ℕ) → member g.reader.begins n ≡ true → member (cond c (g.reader.begins ++ h.reader.begins) g.reader.begins) n ≡ true
  begins_by true n e = member_left g.reader.begins h.reader.begins n e
  begins_by false n e = e

  pub both_begun : (u v : List Token) → Begun g u → Begun h v → Begun (g then h) (u ++ v)
  both_begun [] [] p q = rw (p, q) refl
  both_begun [] (t ∷ v) p q = rw p (member_right g.reader.begins h.reader.begins (number_of_kind t.kind) q)
  both_begun (t ∷ u) v p q = begins_by g.reader.may_be_empty (number_of_kind t.kind) p

-- ---- a value made of another

pub made_clean : {A B : Type 0} (g : Grammar A) (f : A → B) (a : A) (tokens : List Token) → Clean g a tokens → Clean (g making f) (f a) tokens
made_clean g f a tokens p rest stops = let first : g.reader.read (tokens ++ rest) ≡ Got a rest = p rest stops in rw first refl

pub made_begun : {A B : Type 0} (g : Grammar A) (f : A → B) (tokens : List Token) → Begun g tokens → Begun (g making f) tokens
made_begun g f [] p = p
made_begun g f (t ∷ tokens) p = p

-- ---- one or none

pub none_clean : {A : Type 0} (g : Grammar A) → Clean (maybe g) None []
none_clean g rest stops = let no : comes g.reader.begins rest ≡ false = stops_left g.reader.begins g.reader.goes_on rest stops in rw no refl

pub some_clean : {A : Type 0} (g : Grammar A) → g.reader.may_be_empty ≡ false → (a : A) (tokens : List Token) → Clean g a tokens → Begun g tokens → Clean (maybe g) (Some a) tokens
some_clean g solid a [] p begun = absurd (cc (begun, solid))
some_clean g solid a (t ∷ tokens) p begun = λ rest stops.
    let yes : member g.reader.begins (number_of_kind t.kind) ≡ true = begun in
    let first : g.reader.read (t ∷ (tokens ++ rest)) ≡ Got a rest = p rest (stops_right g.reader.begins g.reader.goes_on rest stops) in
    rw (yes, first) refl

pub maybe_begun : {A : Type 0} (g : Grammar A) (tokens : List Token) → Begun g tokens → Begun (maybe g) tokens
maybe_begun g [] p = refl
maybe_begun g (t ∷ tokens) p = p

-- ---- any number of them

module _ {A : Type 0} (g : Grammar A) (solid : g.reader.may_be_empty ≡ false) (apart : disjoint g.reader.begins g.reader.goes_on ≡ true) where
  -- read by any number of steps that is large enough
  abbrev pub AllClean : List A → List Token → Type 0
  AllClean xs tokens = (n : ℕ) (rest : List Token) → length tokens ≤ n → Stops (g.reader.begins ++ g.reader.goes_on) rest → read_all n g.reader.begins g.reader.read (tokens ++ rest) ≡ Got xs rest

  -- their first token, if there is one, may come first
  abbrev pub AllBegun : List Token → Type 0
  AllBegun [] = Unit {0}
  AllBegun (t ∷ tokens) = member g.reader.begins (number_of_kind t.kind) ≡ true

  pub nil_clean : AllClean [] []
  unfolding read_all
  nil_clean zero rest le stops = refl
  nil_clean (suc n) rest le stops = let no : comes g.reader.begins rest ≡ false = stops_left g.reader.begins g.reader.goes_on rest stops in rw no refl

  seam_all : (v rest : List Token) → AllBegun v → Stops (g.reader.begins ++ g.reader.goes_on) rest → Stops g.reader.goes_on (v ++ rest)
  seam_all [] rest b stops = stops_right g.reader.begins g.reader.goes_on rest stops
  seam_all (t ∷ v) rest b stops = apart_at g.reader.begins g.reader.goes_on (number_of_kind t.kind) apart b

  pub more_clean : (x : A) (xs : List A) (u v : List Token) → Clean g x u → Begun g u → AllClean xs v → AllBegun v → AllClean (x ∷ xs) (u ++ v)
  unfolding read_all
  more_clean x xs [] v p b q c n rest le stops = absurd (cc (b, solid))
  more_clean x xs (t ∷ u) v p b q c zero rest le stops = absurd (omega (arith, le, length-append u v))
  more_clean x xs (t ∷ u) v p b q c (suc n) rest le stops =
      let yes : member g.reader.begins (number_of_kind t.kind) ≡ true = b in
      let regrouped : (u ++ v) ++ rest ≡ u ++ (v ++ rest) = append_assoc u v rest in
      let first : g.reader.read (t ∷ (u ++ (v ++ rest))) ≡ Got x (v ++ rest) = p (v ++ rest) (seam_all v rest c stops) in
      let others : read_all n g.reader.begins g.reader.read (v ++ rest) ≡ Got xs rest = q n rest (omega (arith, le, length-append u v)) stops in
      rw (yes, regrouped, first, others) refl

  pub more_begun : (u v : List Token) → Begun g u → AllBegun (u ++ v)
  more_begun [] v b = absurd (cc (b, solid))
  more_begun (t ∷ u) v b = b

  pub all_clean : (xs : List A) (tokens : List Token) → AllClean xs tokens → Clean (all_of g) xs tokens
  all_clean xs tokens p rest stops = p (length (tokens ++ rest)) rest (omega (arith, length-append tokens rest)) stops

  pub all_begun : (tokens : List Token) → AllBegun tokens → Begun (all_of g) tokens
  all_begun [] b = refl
  all_begun (t ∷ tokens) b = b

-- ---- a production that reads as another one where this token comes first

pub into_clean : {A : Type 0} (W g : Grammar A) (k : TokenKind) → ((t : Token) (tokens : List Token) → t.kind ≡ k → W.reader.read (t ∷ tokens) ≡ g.reader.read (t ∷ tokens)) → covered g.reader.goes_on W.reader.goes_on ≡ true
    → (a : A) (t : Token) (tokens : List Token) → t.kind ≡ k → Clean g a (t ∷ tokens) → Clean W a (t ∷ tokens)
into_clean W g k same less a t tokens is p rest stops = same t (tokens ++ rest) is ∙ p rest (stops_less g.reader.goes_on W.reader.goes_on rest less stops)
