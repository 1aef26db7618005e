-- What is laid out for a tree can be spelled where the tokens that spell it can. One lemma for each way to combine
-- productions, as in Back.antt.
use Rattle.std.proofs.Common.{◌≡◌, ℕ, zero, suc, List, [], ◌∷◌, ◌++◌, Option, Some, None, refl, sym, ap, subst, ◌∙◌, inl, inr}
use Rattle.std.specs.Prelude.{flat_map}
use Rattle.td_num.specs.Lists.{Each}
use Rattle.td_ast.specs.declared.token.Token.{Token}
use Rattle.td_ast.specs.declared.token.Span.{Span}
use Rattle.td_ast.specs.declared.token.TokenKind.{TokenKind}
use Rattle.td_ast.specs.declared.token.TokenKind.TheVariants as kinds
use Rattle.td_ast.specs.declared.names.Name.{Name}
use Rattle.td_ast.specs.declared.names.Literal.{Literal}
use Rattle.td_grammar.specs.Spelling.{SpellsBoth, SpellsMade, SpellsMaybe, SpellsAll, SpellsEither}
use Rattle.td_grammar.specs.Tokens.{terminal, name, name_of, literal, literal_of, number_type, qualified_by, dotted, qualified, constant, plain}
use Rattle.td_print_layout.specs.Pieces.{Piece, Word, Blank, LineEnd, kinds_of}
use Rattle.td_print_layout.specs.Joining.{IsSpellable}
use Rattle.td_print_layout.specs.Sequences.{name_piece, literal_piece, number_piece, indented, optional}
use Rattle.td_print_layout.specs.Names.{qualified_pieces, constant_pieces, plain_pieces}
use Rattle.td_print_layout.proofs.Dots.{no_dot, one_dot}
use Rattle.td_print_layout.proofs.Tokens.{kinds_in, kinds_append}

-- each of these kinds can be spelled
abbrev pub AreSpellable : List TokenKind → Type 0
AreSpellable ks = Each IsSpellable ks

-- each token among these pieces can be spelled
abbrev pub Fine : List Piece → Type 0
Fine pieces = AreSpellable (kinds_of pieces)

pub record Sound {A : Type 0} (P : A → List Token → Type 0) (pieces : A → List Piece) : Type 0 where
  pub sound : (a : A) (tokens : List Token) → P a tokens → AreSpellable (kinds_in tokens) → Fine (pieces a)

-- ---- lists

each_append : (u v : List TokenKind) → AreSpellable u → AreSpellable v → AreSpellable (u ++ v)
each_append [] v p q = q
each_append (k ∷ u) v p q = (p.0, each_append u v p.1 q)

each_left : (u v : List TokenKind) → AreSpellable (u ++ v) → AreSpellable u
each_left [] v p = tt
each_left (k ∷ u) v p = (p.0, each_left u v p.1)

each_right : (u v : List TokenKind) → AreSpellable (u ++ v) → AreSpellable v
each_right [] v p = p
each_right (k ∷ u) v p = each_right u v p.1

in_append : (u v : List Token) → kinds_in (u ++ v) ≡ kinds_in u ++ kinds_in v
in_append [] v = refl
in_append (t ∷ u) v = ap (λ (l : List TokenKind). t.kind ∷ l) (in_append u v)

pub fine_append : (u v : List Piece) → Fine u → Fine v → Fine (u ++ v)
fine_append u v p q = subst AreSpellable (sym (kinds_append u v)) (each_append (kinds_of u) (kinds_of v) p q)

pub fine_left : (u v : List Piece) → Fine (u ++ v) → Fine u
fine_left u v p = each_left (kinds_of u) (kinds_of v) (subst AreSpellable (kinds_append u v) p)

pub fine_right : (u v : List Piece) → Fine (u ++ v) → Fine v
fine_right u v p = each_right (kinds_of u) (kinds_of v) (subst AreSpellable (kinds_append u v) p)

pub parts : (tokens u v : List Token) → tokens ≡ u ++ v → AreSpellable (kinds_in tokens) → AreSpellable (kinds_in u) × AreSpellable (kinds_in v)
parts tokens u v e p =
    let all : AreSpellable (kinds_in u ++ kinds_in v) = subst AreSpellable (ap kinds_in e ∙ in_append u v) p in
    (each_left (kinds_in u) (kinds_in v) all, each_right (kinds_in u) (kinds_in v) all)

-- ---- white space

pub blank : {A : Type 0} {P : A → List Token → Type 0} {p : A → List Piece} → Sound P p → Sound P (λ x. Blank ∷ p x)
blank s = record { sound = s.sound }

pub line : {A : Type 0} {P : A → List Token → Type 0} {p : A → List Piece} → Sound P p → Sound P (λ x. LineEnd ∷ p x)
line s = record { sound = s.sound }

fine_indented : (n : ℕ) (u : List Piece) → Fine u → Fine (indented n u)
fine_indented zero u p = p
fine_indented (suc n) u p = fine_indented n u p

pub deep : {A : Type 0} {P : A → List Token → Type 0} {p : A → List Piece} (n : ℕ) → Sound P p → Sound P (λ x. indented n (p x))
deep {p = p} n s = record { sound = λ a tokens q f. fine_indented n (p a) (s.sound a tokens q f) }

pub ended : {A : Type 0} {P : A → List Token → Type 0} {p : A → List Piece} → Sound P p → Sound P (λ x. p x ++ LineEnd ∷ [])
ended {p = p} s = record { sound = λ a tokens q f. fine_append (p a) (LineEnd ∷ []) (s.sound a tokens q f) tt }

-- ---- combined

pub both : {A B : Type 0} {P : A → List Token → Type 0} {Q : B → List Token → Type 0} {p : A → List Piece} {q : B → List Piece} → Sound P p → Sound Q q → Sound (SpellsBoth P Q) (λ x. p x.0 ++ q x.1)
both {A} {B} {P} {Q} {p} {q} s r = record { sound = by_parts }
  where
    by_parts : (x : A × B) (tokens : List Token) → SpellsBoth P Q x tokens → AreSpellable (kinds_in tokens) → Fine (p x.0 ++ q x.1)
    by_parts x tokens (u, v, e, m, n) f = let h = parts tokens u v e f in fine_append (p x.0) (q x.1) (s.sound x.0 u m h.0) (r.sound x.1 v n h.1)

pub made : {A B : Type 0} {P : A → List Token → Type 0} {p : A → List Piece} {q : B → List Piece} {f : A → B} → Sound P p → ((a : A) → Fine (p a) → Fine (q (f a))) → Sound (SpellsMade f P) q
made {A} {B} {P} {p} {q} s imp = record { sound = λ b tokens (a, e, m) f. subst (λ (x : B). Fine (q x)) e (imp a (s.sound a tokens m f)) }

pub either : {A : Type 0} {P Q : A → List Token → Type 0} {p : A → List Piece} → Sound P p → Sound Q p → Sound (SpellsEither P Q) p
either {A} {P} {Q} {p} s r = record { sound = by_side }
  where
    by_side : (a : A) (tokens : List Token) → SpellsEither P Q a tokens → AreSpellable (kinds_in tokens) → Fine (p a)
    by_side a tokens (inl m) f = s.sound a tokens m f
    by_side a tokens (inr m) f = r.sound a tokens m f

pub maybe : {A : Type 0} {P : A → List Token → Type 0} {p : A → List Piece} → Sound P p → Sound (SpellsMaybe P) (optional p)
maybe {A} {P} {p} s = record { sound = by_case }
  where
    by_case : (o : Option A) (tokens : List Token) → SpellsMaybe P o tokens → AreSpellable (kinds_in tokens) → Fine (optional p o)
    by_case None tokens m f = tt
    by_case (Some a) tokens m f = s.sound a tokens m f

pub all : {A : Type 0} {P : A → List Token → Type 0} {p : A → List Piece} → Sound P p → Sound (SpellsAll P) (flat_map p)
all {A} {P} {p} s = record { sound = by_list }
  where
    by_list : (xs : List A) (tokens : List Token) → SpellsAll P xs tokens → AreSpellable (kinds_in tokens) → Fine (flat_map p xs)
    by_list [] tokens m f = tt
    by_list (x ∷ xs) tokens (u, v, e, m, n) f = let h = parts tokens u v e f in fine_append (p x) (flat_map p xs) (s.sound x u m h.0) (by_list xs v n h.1)

-- ---- one token

pub terminal_sound : (k : TokenKind) → IsSpellable k → Sound (terminal k).Spells (λ s. Word k ∷ [])
terminal_sound k is = record { sound = λ a tokens m f. (is, tt) }

one_spellable : (tokens : List Token) (t : Token) → tokens ≡ t ∷ [] → AreSpellable (kinds_in tokens) → IsSpellable t.kind
one_spellable tokens t e f = (subst (λ (l : List Token). AreSpellable (kinds_in l)) e f).0

name_is : (k : TokenKind) (s : Span) (n : Name) → name_of k s ≡ Some n → k ≡ kinds.Name n.text
name_is (kinds.Name text) s n e = let here : Name = record { text = text; span = s } in let same : here ≡ n = cc in ap (λ (m : Name). kinds.Name m.text) same
name_is _ s n e = absurd cc

pub name_sound : Sound name.Spells (λ n. name_piece n ∷ [])
name_sound = record { sound = λ n tokens (t, e, m) f. (subst IsSpellable (name_is t.kind t.span n m) (one_spellable tokens t e f), tt) }

literal_is : (k : TokenKind) (s : Span) (n : Literal) → literal_of k s ≡ Some n → k ≡ kinds.Number n.value n.base
literal_is (kinds.Number value base) s n e = let here : Literal = record { value = value; base = base; span = s } in let same : here ≡ n = cc in ap (λ (m : Literal). kinds.Number m.value m.base) same
literal_is _ s n e = absurd cc

pub literal_sound : Sound literal.Spells (λ n. literal_piece n ∷ [])
literal_sound = record { sound = λ n tokens (t, e, m) f. (subst IsSpellable (literal_is t.kind t.span n m) (one_spellable tokens t e f), tt) }

pub number_sound : Sound number_type.Spells (λ n. number_piece n ∷ [])
number_sound = record { sound = λ n tokens m f. (tt, tt) }

-- ---- names that may be qualified

dotted_sound : Sound dotted.Spells (λ n. name_piece n ∷ [])
dotted_sound = made (both (terminal_sound kinds.Dot tt) name_sound) (λ x h. h.1)

fine_qualified : (first : Name) (o : Option Name) (tokens : List Token) → IsSpellable (kinds.Name first.text) → SpellsMaybe dotted.Spells o tokens → AreSpellable (kinds_in tokens) → Fine (qualified_pieces (qualified_by first o).text)
fine_qualified first None tokens is s f = let no = no_dot first.text is.1 in rw (no.0, no.1) (is, tt)
fine_qualified first (Some second) tokens is s f =
    let dot = one_dot first.text second.text is.1 in
    let other = dotted_sound.sound second tokens s f in
    rw (dot.0, dot.1) (is, (tt, other))

pub qualified_sound : Sound qualified.Spells (λ n. qualified_pieces n.text)
qualified_sound = record { sound = by_parts }
  where
    by_parts : (n : Name) (tokens : List Token) → qualified.Spells n tokens → AreSpellable (kinds_in tokens) → Fine (qualified_pieces n.text)
    by_parts n tokens (x, e, (u, v, d, p, q)) f =
        let h = parts tokens u v d f in
        let first = name_sound.sound x.0 u p h.0 in
        subst (λ (m : Name). Fine (qualified_pieces m.text)) e (fine_qualified x.0 x.1 v first.0 q h.1)

pub constant_sound : Sound constant.Spells constant_pieces
constant_sound = either (made literal_sound (λ x h. h)) (made qualified_sound (λ x h. h))

pub plain_sound : Sound plain.Spells plain_pieces
plain_sound = either (made number_sound (λ x h. h)) (made qualified_sound (λ x h. h))
