-- Lists of tokens, sets of kinds, and outcomes. Cited by other crates.
use Rattle.std.proofs.Common.{◌≡◌, ℕ, Bool, true, false, cond, eqb, eq-eqb, List, [], ◌∷◌, ◌++◌, refl, sym, append_assoc, ◌⊎◌, inl, inr}
use Rattle.std.proofs.lemmas.Bool.{eqb-true, false_from_ne_true}
use Rattle.std.proofs.lemmas.List.{append_cancel_right}
use Rattle.td_ast.specs.declared.token.Token.{Token}
use Rattle.td_ast.specs.Kinds.{number_of_kind}
use Rattle.td_grammar.specs.Reading.{Outcome, Got, Bad, Deep, ◌and_then◌}
use Rattle.td_grammar.specs.Sets.{comes, member}
use Rattle.td_grammar.proofs.Sets.{disjoint}

-- no token of these kinds comes first
abbrev pub Stops : List ℕ → List Token → Type 0
Stops kinds rest = comes kinds rest ≡ false

pub bind_got : {A B : Type 0} (o : Outcome A) (f : A → List Token → Outcome B) (b : B) (rest : List Token) → (o and_then f) ≡ Got b rest → (a : A) × (mid : List Token) × (o ≡ Got a mid) × (f a mid ≡ Got b rest)
bind_got (Got a mid) f b rest e = (a, mid, refl, e)
bind_got (Bad mid) f b rest e = absurd cc
bind_got (Deep mid) f b rest e = absurd cc

pub bind_bad : {A B : Type 0} (o : Outcome A) (f : A → List Token → Outcome B) (rest : List Token) → (o and_then f) ≡ Bad rest → (o ≡ Bad rest) ⊎ ((a : A) × (mid : List Token) × (o ≡ Got a mid) × (f a mid ≡ Bad rest))
bind_bad (Got a mid) f rest e = inr (a, mid, refl, e)
bind_bad (Bad mid) f rest e = inl cc
bind_bad (Deep mid) f rest e = absurd cc

pub bind_deep : {A B : Type 0} (o : Outcome A) (f : A → List Token → Outcome B) (rest : List Token) → (o and_then f) ≡ Deep rest → (o ≡ Deep rest) ⊎ ((a : A) × (mid : List Token) × (o ≡ Got a mid) × (f a mid ≡ Deep rest))
bind_deep (Got a mid) f rest e = inr (a, mid, refl, e)
bind_deep (Bad mid) f rest e = absurd cc
bind_deep (Deep mid) f rest e = inl cc

-- what was taken, and then what was taken after it
pub join : (tokens front mid after rest : List Token) → tokens ≡ front ++ mid → mid ≡ after ++ rest → tokens ≡ (front ++ after) ++ rest
join tokens front mid after rest e f = rw (e, f) (sym (append_assoc front after rest))

-- what was taken in all is what was taken by each
pub split : (all front mid after rest : List Token) → all ++ rest ≡ front ++ mid → mid ≡ after ++ rest → all ≡ front ++ after
split all front mid after rest e f = append_cancel_right all (front ++ after) rest (join (all ++ rest) front mid after rest e f)

pub nothing_left : (u v : List Token) → [] ≡ u ++ v → (u ≡ []) × (v ≡ [])
nothing_left [] v e = (refl, sym e)
nothing_left (x ∷ u) v e = absurd cc

pub got_value : {A : Type 0} (a b : A) (r s : List Token) → Got a r ≡ Got b s → a ≡ b
got_value a b r s e = cc

pub got_rest : {A : Type 0} (a b : A) (r s : List Token) → Got a r ≡ Got b s → r ≡ s
got_rest a b r s e = cc

pub member_first : (x n : ℕ) (xs : List ℕ) → x ≡ n → member (x ∷ xs) n ≡ true
member_first x n xs e = let test : eqb x n ≡ true = eq-eqb x n e in rw test refl

pub member_left : (xs ys : List ℕ) (n : ℕ) → member xs n ≡ true → member (xs ++ ys) n ≡ true
member_left [] ys n e = absurd cc
member_left (x ∷ xs) ys n e = by_test (eqb x n) (member_left xs ys n) e
  where
    by_test : (b : Bool) → (member xs n ≡ true → member (xs ++ ys) n ≡ true) → cond b true (member xs n) ≡ true → cond b true (member (xs ++ ys) n) ≡ true
    by_test true ih h = refl
    by_test false ih h = ih h

pub member_right : (xs ys : List ℕ) (n : ℕ) → member ys n ≡ true → member (xs ++ ys) n ≡ true
member_right [] ys n e = e
member_right (x ∷ xs) ys n e = by_test (eqb x n) (member_right xs ys n e)
  where
    by_test : (b : Bool) → member (xs ++ ys) n ≡ true → cond b true (member (xs ++ ys) n) ≡ true
    by_test true ih = refl
    by_test false ih = ih

-- what is a member of the one is none of the other
pub apart_at : (xs ys : List ℕ) (n : ℕ) → disjoint xs ys ≡ true → member xs n ≡ true → member ys n ≡ false
apart_at [] ys n d e = absurd cc
apart_at (x ∷ xs) ys n d e = by_test (eqb x n) (member ys x) refl refl (apart_at xs ys n) d e
  where
    by_test : (b c : Bool) → eqb x n ≡ b → member ys x ≡ c → (disjoint xs ys ≡ true → member xs n ≡ true → member ys n ≡ false) → cond c false (disjoint xs ys) ≡ true → cond b true (member xs n) ≡ true → member ys n ≡ false
    by_test b true p q ih d e = absurd cc
    by_test true false p q ih d e = let same : x ≡ n = eqb-true x n p in rw (← same) q
    by_test false false p q ih d e = ih d e

-- the same first token
pub comes_same : (set : List ℕ) (front : List Token) (t : Token) (r s : List Token) → comes set (front ++ t ∷ r) ≡ comes set (front ++ t ∷ s)
comes_same set [] t r s = refl
comes_same set (x ∷ front) t r s = refl

pub stops_left : (xs ys : List ℕ) (rest : List Token) → Stops (xs ++ ys) rest → Stops xs rest
stops_left xs ys [] h = refl
stops_left xs ys (t ∷ rest) h = false_from_ne_true (member xs (number_of_kind t.kind)) (λ e. cc (member_left xs ys (number_of_kind t.kind) e))

pub stops_right : (xs ys : List ℕ) (rest : List Token) → Stops (xs ++ ys) rest → Stops ys rest
stops_right xs ys [] h = refl
stops_right xs ys (t ∷ rest) h = false_from_ne_true (member ys (number_of_kind t.kind)) (λ e. cc (member_right xs ys (number_of_kind t.kind) e))
