-- What reads back: tokens of the kinds of some pieces spell a value that is as good as the one that was laid out. One
-- lemma for each way to combine productions.
use Rattle.std.proofs.Common.{◌≡◌, ℕ, zero, suc, List, [], ◌∷◌, ◌++◌, map, Option, Some, None, refl, sym, ap, ◌∙◌, inl, inr}
use Rattle.std.specs.Prelude.{option_map, flat_map}
use Rattle.std.proofs.lemmas.List.{append-nil}
use Rattle.td_num.specs.Lists.{Each}
use Rattle.td_ast.specs.declared.token.Token.{Token}
use Rattle.td_grammar.specs.Spelling.{SpellsBoth, SpellsMade, SpellsMaybe, SpellsAll, SpellsEither}
use Rattle.td_print_layout.specs.Pieces.{Piece, Blank, LineEnd, kinds_of}
use Rattle.td_print_layout.specs.Sequences.{indented, optional}
use Rattle.td_print_layout.proofs.Tokens.{kinds_in, kinds_append, split_kinds, no_kinds}

pub record Back {A : Type 0} (P : A → List Token → Type 0) (pieces : List Piece) (Good : A → Type 0) : Type 0 where
  pub read : (tokens : List Token) → kinds_in tokens ≡ kinds_of pieces → (a : A) × P a tokens × Good a

-- ---- the same, seen otherwise

-- under another relation
pub under : {A : Type 0} {P Q : A → List Token → Type 0} {u : List Piece} {G : A → Type 0} → ((a : A) (tokens : List Token) → P a tokens → Q a tokens) → Back P u G → Back Q u G
under imp p = record { read = λ tokens e. let a = p.read tokens e in (a.0, imp a.0 tokens a.1, a.2) }

-- as good by another measure
pub good : {A : Type 0} {P : A → List Token → Type 0} {u : List Piece} {G H : A → Type 0} → Back P u G → ((a : A) → G a → H a) → Back P u H
good p imp = record { read = λ tokens e. let a = p.read tokens e in (a.0, a.1, imp a.0 a.2) }

-- ---- white space

pub blank : {A : Type 0} {P : A → List Token → Type 0} {u : List Piece} {G : A → Type 0} → Back P u G → Back P (Blank ∷ u) G
blank p = record { read = λ tokens e. p.read tokens e }

pub line : {A : Type 0} {P : A → List Token → Type 0} {u : List Piece} {G : A → Type 0} → Back P u G → Back P (LineEnd ∷ u) G
line p = record { read = λ tokens e. p.read tokens e }

pub deep : {A : Type 0} {P : A → List Token → Type 0} {u : List Piece} {G : A → Type 0} (n : ℕ) → Back P u G → Back P (indented n u) G
deep zero p = p
deep (suc n) p = blank (blank (blank (blank (deep n p))))

pub ended : {A : Type 0} {P : A → List Token → Type 0} {u : List Piece} {G : A → Type 0} → Back P u G → Back P (u ++ LineEnd ∷ []) G
ended {u = u} p = record { read = λ tokens e. p.read tokens (e ∙ (kinds_append u (LineEnd ∷ []) ∙ append-nil (kinds_of u))) }

-- ---- combined

pub both : {A B : Type 0} {P : A → List Token → Type 0} {Q : B → List Token → Type 0} {u v : List Piece} {G : A → Type 0} {H : B → Type 0} → Back P u G → Back Q v H → Back (SpellsBoth P Q) (u ++ v) (λ x. G x.0 × H x.1)
both {u = u} {v = v} p q = record {
  read = λ tokens e.
      let s = split_kinds tokens (kinds_of u) (kinds_of v) (e ∙ kinds_append u v) in
      let a = p.read s.0 s.3 in
      let b = q.read s.1 s.4 in
      ((a.0, b.0), (s.0, s.1, s.2, a.1, b.1), (a.2, b.2));
}

pub made : {A B : Type 0} {P : A → List Token → Type 0} {u : List Piece} {G : A → Type 0} {H : B → Type 0} {f : A → B} → Back P u G → ((a : A) → G a → H (f a)) → Back (SpellsMade f P) u H
made {f = f} p imp = record { read = λ tokens e. let a = p.read tokens e in (f a.0, (a.0, refl, a.1), imp a.0 a.2) }

pub left : {A : Type 0} {P Q : A → List Token → Type 0} {u : List Piece} {G : A → Type 0} → Back P u G → Back (SpellsEither P Q) u G
left p = record { read = λ tokens e. let a = p.read tokens e in (a.0, inl a.1, a.2) }

pub right : {A : Type 0} {P Q : A → List Token → Type 0} {u : List Piece} {G : A → Type 0} → Back Q u G → Back (SpellsEither P Q) u G
right p = record { read = λ tokens e. let a = p.read tokens e in (a.0, inr a.1, a.2) }

pub none : {A : Type 0} {P : A → List Token → Type 0} → Back (SpellsMaybe P) [] (λ o. o ≡ None)
none = record { read = λ tokens e. (None, no_kinds tokens e, refl) }

-- one, and none after it
pub alone : {A B : Type 0} {P : A → List Token → Type 0} {Q : B → List Token → Type 0} {u : List Piece} {G : A → Type 0} → Back P u G → Back (SpellsBoth P (SpellsMaybe Q)) u (λ x. G x.0 × (x.1 ≡ None))
alone p = record { read = λ tokens e. let a = p.read tokens e in ((a.0, None), (tokens, [], sym (append-nil tokens), a.1, refl), (a.2, refl)) }

pub some : {A : Type 0} {P : A → List Token → Type 0} {u : List Piece} {G : A → Type 0} {H : Option A → Type 0} → Back P u G → ((a : A) → G a → H (Some a)) → Back (SpellsMaybe P) u H
some p imp = record { read = λ tokens e. let a = p.read tokens e in (Some a.0, a.1, imp a.0 a.2) }

pub nil : {A : Type 0} {P : A → List Token → Type 0} → Back (SpellsAll P) [] (λ xs. xs ≡ [])
nil = record { read = λ tokens e. ([], no_kinds tokens e, refl) }

pub more : {A : Type 0} {P : A → List Token → Type 0} {u v : List Piece} {G : A → Type 0} {H K : List A → Type 0} → Back P u G → Back (SpellsAll P) v H → ((a : A) (xs : List A) → G a → H xs → K (a ∷ xs)) → Back (SpellsAll P) (u ++ v) K
more {u = u} {v = v} p q imp = record {
  read = λ tokens e.
      let s = split_kinds tokens (kinds_of u) (kinds_of v) (e ∙ kinds_append u v) in
      let a = p.read s.0 s.3 in
      let b = q.read s.1 s.4 in
      (a.0 ∷ b.0, (s.0, s.1, s.2, a.1, b.1), imp a.0 b.0 a.2 b.2);
}

-- ---- options and lists, by what their elements are without places

module _ {A : Type 0} (P : A → List Token → Type 0) (pieces : A → List Piece) (un : A → A) (F : A → Type 0) (back : (x : A) → F x → Back P (pieces x) (λ y. un y ≡ un x)) where
  pub each_back : (xs : List A) → Each F xs → Back (SpellsAll P) (flat_map pieces xs) (λ ys. map un ys ≡ map un xs)
  each_back [] f = good nil (λ ys e. ap (λ (l : List A). map un l) e)
  each_back (x ∷ xs) f = more (back x f.0) (each_back xs f.1) (λ y ys e g. cc (e, g))

module _ {A : Type 0} (P : A → List Token → Type 0) (pieces : A → List Piece) (un : A → A) (back : (x : A) → Back P (pieces x) (λ y. un y ≡ un x)) where
  pub maybe_back : (o : Option A) → Back (SpellsMaybe P) (optional pieces o) (λ r. option_map un r ≡ option_map un o)
  maybe_back None = good none (λ r e. ap (λ (o : Option A). option_map un o) e)
  maybe_back (Some x) = some (back x) (λ y e. ap (λ (z : A). Some z) e)

  pub list_back : (xs : List A) → Back (SpellsAll P) (flat_map pieces xs) (λ ys. map un ys ≡ map un xs)
  list_back [] = good nil (λ ys e. ap (λ (l : List A). map un l) e)
  list_back (x ∷ xs) = more (back x) (list_back xs) (λ y ys e f. cc (e, f))
