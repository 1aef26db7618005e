-- What is kept within the limits: tokens of the kinds of some pieces are read as a value that is as good as the one that
-- was laid out. One lemma for each way to combine productions, as in Back.antt.
use Rattle.std.proofs.Common.{◌≡◌, ℕ, zero, suc, true, false, List, [], ◌∷◌, ◌++◌, map, Option, Some, None, refl, sym, ap, subst, ◌∙◌}
use Rattle.std.specs.Prelude.{option_map, flat_map}
use Rattle.std.proofs.lemmas.List.{append-nil}
use Rattle.td_num.specs.Lists.{Each}
use Rattle.td_ast.specs.declared.token.Token.{Token}
use Rattle.td_ast.specs.declared.token.TokenKind.{TokenKind}
use Rattle.td_ast.specs.Kinds.{number_of_kind}
use Rattle.td_grammar.specs.Sets.{member}
use Rattle.td_grammar.specs.Grammar.{Grammar, ◌then◌, ◌making◌, maybe, all_of, ◌or◌, seen_as}
use Rattle.td_grammar.specs.Reading.{Got}
use Rattle.td_grammar.proofs.Sets.{disjoint, covered}
use Rattle.td_grammar.proofs.Tools.{member_left, member_right, apart_at, stops_left, stops_right}
use Rattle.td_grammar.proofs.Exact.{IsApart}
use Rattle.td_grammar.proofs.Seen.{covers, stops_less}
use Rattle.td_print_layout.specs.Pieces.{Piece, Blank, LineEnd, kinds_of}
use Rattle.td_print_layout.specs.Sequences.{indented, optional}
use Rattle.td_print_layout.proofs.Tokens.{kinds_in, kinds_append, split_kinds, first_kind, no_kinds}
use Rattle.td_print_layout.proofs.Clean.{Clean, Begun, both_clean, both_begun, made_clean, made_begun, none_clean, some_clean, maybe_begun, AllClean, AllBegun, nil_clean, more_clean, more_begun, all_clean, all_begun, into_clean}

pub record Kept {A : Type 0} (g : Grammar A) (pieces : List Piece) (Good : A → Type 0) : Type 0 where
  pub read : (tokens : List Token) → kinds_in tokens ≡ kinds_of pieces → (a : A) × Clean g a tokens × Begun g tokens × Good a

put_clean : {A : Type 0} (g : Grammar A) (a : A) (tokens m : List Token) → tokens ≡ m → Clean g a m → Clean g a tokens
put_clean g a tokens m e p = subst (λ (l : List Token). Clean g a l) (sym e) p

put_begun : {A : Type 0} (g : Grammar A) (tokens m : List Token) → tokens ≡ m → Begun g m → Begun g tokens
put_begun g tokens m e p = subst (λ (l : List Token). Begun g l) (sym e) p

-- ---- white space

pub blank : {A : Type 0} {g : Grammar A} {u : List Piece} {G : A → Type 0} → Kept g u G → Kept g (Blank ∷ u) G
blank p = record { read = λ tokens e. p.read tokens e }

pub line : {A : Type 0} {g : Grammar A} {u : List Piece} {G : A → Type 0} → Kept g u G → Kept g (LineEnd ∷ u) G
line p = record { read = λ tokens e. p.read tokens e }

pub deep : {A : Type 0} {g : Grammar A} {u : List Piece} {G : A → Type 0} (n : ℕ) → Kept g u G → Kept g (indented n u) G
deep zero p = p
deep (suc n) p = blank (blank (blank (blank (deep n p))))

pub ended : {A : Type 0} {g : Grammar A} {u : List Piece} {G : A → Type 0} → Kept g u G → Kept g (u ++ LineEnd ∷ []) G
ended {u = u} p = record { read = λ tokens e. p.read tokens (e ∙ (kinds_append u (LineEnd ∷ []) ∙ append-nil (kinds_of u))) }

-- ---- combined

pub both : {A B : Type 0} {g : Grammar A} {h : Grammar B} {u v : List Piece} {G : A → Type 0} {H : B → Type 0} → Kept g u G → Kept h v H → IsApart g h → Kept (g then h) (u ++ v) (λ x. G x.0 × H x.1)
both {g = g} {h = h} {u = u} {v = v} p q apart = record {
  read = λ tokens e.
      let s = split_kinds tokens (kinds_of u) (kinds_of v) (e ∙ kinds_append u v) in
      let a = p.read s.0 s.3 in
      let b = q.read s.1 s.4 in (
        (a.0, b.0),
        put_clean (g then h) (a.0, b.0) tokens (s.0 ++ s.1) s.2 (both_clean g h apart a.0 b.0 s.0 s.1 a.1 b.1 b.2),
        put_begun (g then h) tokens (s.0 ++ s.1) s.2 (both_begun g h apart s.0 s.1 a.2 b.2),
        (a.3, b.3),
      );
}

pub made : {A B : Type 0} {g : Grammar A} {u : List Piece} {G : A → Type 0} {H : B → Type 0} (f : A → B) → Kept g u G → ((a : A) → G a → H (f a)) → Kept (g making f) u H
made {g = g} f p imp = record { read = λ tokens e. let a = p.read tokens e in (f a.0, made_clean g f a.0 tokens a.1, made_begun g f tokens a.2, imp a.0 a.3) }

pub none : {A : Type 0} (g : Grammar A) → Kept (maybe g) [] (λ o. o ≡ None)
none g = record { read = λ tokens e. let no = no_kinds tokens e in (None, put_clean (maybe g) None tokens [] no (none_clean g), put_begun (maybe g) tokens [] no refl, refl) }

-- one, and none after it
pub alone : {A B : Type 0} {g : Grammar A} {u : List Piece} {G : A → Type 0} (h : Grammar B) → Kept g u G → IsApart g (maybe h) → Kept (g then maybe h) u (λ x. G x.0 × (x.1 ≡ None))
alone {u = u} h p apart = record { read = λ tokens e. (both p (none h) apart).read tokens (e ∙ sym (ap kinds_of (append-nil u))) }

pub some : {A : Type 0} {g : Grammar A} {u : List Piece} {G : A → Type 0} {H : Option A → Type 0} → g.reader.may_be_empty ≡ false → Kept g u G → ((a : A) → G a → H (Some a)) → Kept (maybe g) u H
some {g = g} solid p imp = record { read = λ tokens e. let a = p.read tokens e in (Some a.0, some_clean g solid a.0 tokens a.1 a.2, maybe_begun g tokens a.2, imp a.0 a.3) }

-- a production that reads as this one where its first token comes first
pub into : {A : Type 0} {g : Grammar A} {u : List Piece} {G : A → Type 0} (W : Grammar A) (k : TokenKind) {others : List TokenKind} → Kept g u G → kinds_of u ≡ k ∷ others
    → ((t : Token) (tokens : List Token) → t.kind ≡ k → W.reader.read (t ∷ tokens) ≡ g.reader.read (t ∷ tokens)) → covered g.reader.goes_on W.reader.goes_on ≡ true → member W.reader.begins (number_of_kind k) ≡ true → Kept W u G
into {g = g} W k {others = others} p shape same less begins = record {
  read = λ tokens e.
      let f = first_kind tokens k others (e ∙ shape) in
      let a = p.read tokens e in
      let is = f.3 in
      let clean = into_clean W g k same less a.0 f.0 f.1 f.3 (subst (λ (l : List Token). Clean g a.0 l) f.2 a.1) in
      (a.0, put_clean W a.0 tokens (f.0 ∷ f.1) f.2 clean, put_begun W tokens (f.0 ∷ f.1) f.2 (ap (λ (k : TokenKind). member W.reader.begins (number_of_kind k)) is ∙ begins), a.3);
}

first_begun : {A : Type 0} (g h : Grammar A) → g.reader.may_be_empty ≡ false → (tokens : List Token) → Begun g tokens → Begun (g or h) tokens
first_begun g h solid [] b = absurd (cc (b, solid))
first_begun g h solid (t ∷ tokens) b = member_left g.reader.begins h.reader.begins (number_of_kind t.kind) b

first_clean : {A : Type 0} (g h : Grammar A) → g.reader.may_be_empty ≡ false → (a : A) (tokens : List Token) → Clean g a tokens → Begun g tokens → Clean (g or h) a tokens
first_clean g h solid a [] p b = absurd (cc (b, solid))
first_clean g h solid a (t ∷ tokens) p b = λ rest stops.
    let yes : member g.reader.begins (number_of_kind t.kind) ≡ true = b in
    let same : g.reader.read (t ∷ (tokens ++ rest)) ≡ Got a rest = p rest (stops_left g.reader.goes_on h.reader.goes_on rest stops) in
    rw (yes, same) refl

-- the first of two
pub first : {A : Type 0} {g : Grammar A} {u : List Piece} {G : A → Type 0} (h : Grammar A) → Kept g u G → g.reader.may_be_empty ≡ false → Kept (g or h) u G
first {g = g} h p solid = record { read = λ tokens e. let a = p.read tokens e in (a.0, first_clean g h solid a.0 tokens a.1 a.2, first_begun g h solid tokens a.2, a.3) }

second_begun : {A : Type 0} (g h : Grammar A) → h.reader.may_be_empty ≡ false → (tokens : List Token) → Begun h tokens → Begun (g or h) tokens
second_begun g h solid [] b = absurd (cc (b, solid))
second_begun g h solid (t ∷ tokens) b = member_right g.reader.begins h.reader.begins (number_of_kind t.kind) b

second_clean : {A : Type 0} (g h : Grammar A) → h.reader.may_be_empty ≡ false → disjoint h.reader.begins g.reader.begins ≡ true → (a : A) (tokens : List Token) → Clean h a tokens → Begun h tokens → Clean (g or h) a tokens
second_clean g h solid apart a [] p b = absurd (cc (b, solid))
second_clean g h solid apart a (t ∷ tokens) p b = λ rest stops.
    let no : member g.reader.begins (number_of_kind t.kind) ≡ false = apart_at h.reader.begins g.reader.begins (number_of_kind t.kind) apart b in
    let same : h.reader.read (t ∷ (tokens ++ rest)) ≡ Got a rest = p rest (stops_right g.reader.goes_on h.reader.goes_on rest stops) in
    rw (no, same) refl

-- the second of two
pub second : {A : Type 0} {h : Grammar A} {u : List Piece} {G : A → Type 0} (g : Grammar A) → Kept h u G → h.reader.may_be_empty ≡ false → disjoint h.reader.begins g.reader.begins ≡ true → Kept (g or h) u G
second {h = h} g p solid apart = record { read = λ tokens e. let a = p.read tokens e in (a.0, second_clean g h solid apart a.0 tokens a.1 a.2, second_begun g h solid tokens a.2, a.3) }

seen_begun : {A : Type 0} (Spells : A → List Token → Type 0) (begins goes_on : List ℕ) (g : Grammar A) → g.reader.may_be_empty ≡ false → covered g.reader.begins begins ≡ true → (tokens : List Token) → Begun g tokens → Begun (seen_as Spells begins goes_on g) tokens
seen_begun Spells begins goes_on g solid less [] b = absurd (cc (b, solid))
seen_begun Spells begins goes_on g solid less (t ∷ tokens) b = covers g.reader.begins begins (number_of_kind t.kind) less b

pub seen : {A : Type 0} {g : Grammar A} {u : List Piece} {G : A → Type 0} (Spells : A → List Token → Type 0) (begins goes_on : List ℕ) → Kept g u G
    → g.reader.may_be_empty ≡ false → covered g.reader.begins begins ≡ true → covered g.reader.goes_on goes_on ≡ true → Kept (seen_as Spells begins goes_on g) u G
seen {g = g} Spells begins goes_on p solid less less_on = record {
  read = λ tokens e.
      let a = p.read tokens e in
      (a.0, (λ rest stops. a.1 rest (stops_less g.reader.goes_on goes_on rest less_on stops)), seen_begun Spells begins goes_on g solid less tokens a.2, a.3);
}

-- ---- lists

-- the same for any number of them
pub record AllKept {A : Type 0} (g : Grammar A) (solid : g.reader.may_be_empty ≡ false) (apart : disjoint g.reader.begins g.reader.goes_on ≡ true) (pieces : List Piece) (Good : List A → Type 0) : Type 0 where
  pub read : (tokens : List Token) → kinds_in tokens ≡ kinds_of pieces → (xs : List A) × AllClean g solid apart xs tokens × AllBegun g solid apart tokens × Good xs

module _ {A : Type 0} (g : Grammar A) (solid : g.reader.may_be_empty ≡ false) (apart : disjoint g.reader.begins g.reader.goes_on ≡ true) where
  put_all : (xs : List A) (tokens m : List Token) → tokens ≡ m → AllClean g solid apart xs m → AllClean g solid apart xs tokens
  put_all xs tokens m e p = subst (λ (l : List Token). AllClean g solid apart xs l) (sym e) p

  put_all_begun : (tokens m : List Token) → tokens ≡ m → AllBegun g solid apart m → AllBegun g solid apart tokens
  put_all_begun tokens m e p = subst (λ (l : List Token). AllBegun g solid apart l) (sym e) p

  pub nil : AllKept g solid apart [] (λ xs. xs ≡ [])
  nil = record {
    read = λ tokens e.
        let no = no_kinds tokens e in
        ([], put_all [] tokens [] no (nil_clean g solid apart), put_all_begun tokens [] no tt, refl);
  }

  pub more : {u v : List Piece} {G : A → Type 0} {H K : List A → Type 0} → Kept g u G → AllKept g solid apart v H → ((x : A) (xs : List A) → G x → H xs → K (x ∷ xs)) → AllKept g solid apart (u ++ v) K
  more {u} {v} p q imp = record {
    read = λ tokens e.
        let s = split_kinds tokens (kinds_of u) (kinds_of v) (e ∙ kinds_append u v) in
        let a = p.read s.0 s.3 in
        let b = q.read s.1 s.4 in (
          a.0 ∷ b.0,
          put_all (a.0 ∷ b.0) tokens (s.0 ++ s.1) s.2 (more_clean g solid apart a.0 b.0 s.0 s.1 a.1 a.2 b.1 b.2),
          put_all_begun tokens (s.0 ++ s.1) s.2 (more_begun g solid apart s.0 s.1 a.2),
          imp a.0 b.0 a.3 b.3,
        );
  }

  pub spaced_all : {u : List Piece} {G : List A → Type 0} → AllKept g solid apart u G → AllKept g solid apart (Blank ∷ u) G
  spaced_all p = record { read = λ tokens e. p.read tokens e }

  pub all : {u : List Piece} {G : List A → Type 0} → AllKept g solid apart u G → Kept (all_of g) u G
  all p = record { read = λ tokens e. let xs = p.read tokens e in (xs.0, all_clean g solid apart xs.0 tokens xs.1, all_begun g solid apart tokens xs.2, xs.3) }

  module _ (pieces : A → List Piece) (un : A → A) (F : A → Type 0) (kept : (x : A) → F x → Kept g (pieces x) (λ y. un y ≡ un x)) where
    pub each_all : (xs : List A) → Each F xs → AllKept g solid apart (flat_map pieces xs) (λ ys. map un ys ≡ map un xs)
    each_all [] f = record { read = λ tokens e. let r = nil.read tokens e in (r.0, r.1, r.2, ap (λ (l : List A). map un l) r.3) }
    each_all (x ∷ xs) f = more (kept x f.0) (each_all xs f.1) (λ y ys e g. cc (e, g))

    pub each_kept : (xs : List A) → Each F xs → Kept (all_of g) (flat_map pieces xs) (λ ys. map un ys ≡ map un xs)
    each_kept xs f = all (each_all xs f)

-- where there is one, it is so
abbrev pub IfAny : {A : Type 0} → (A → Type 0) → Option A → Type 0
IfAny F None = Unit {0}
IfAny F (Some x) = F x

module _ {A : Type 0} (g : Grammar A) (solid : g.reader.may_be_empty ≡ false) (pieces : A → List Piece) (un : A → A) (F : A → Type 0) (kept : (x : A) → F x → Kept g (pieces x) (λ y. un y ≡ un x)) where
  pub maybe_kept : (o : Option A) → IfAny F o → Kept (maybe g) (optional pieces o) (λ r. option_map un r ≡ option_map un o)
  maybe_kept None f = record { read = λ tokens e. let r = (none g).read tokens e in (r.0, r.1, r.2, ap (λ (o : Option A). option_map un o) r.3) }
  maybe_kept (Some x) f = some solid (kept x f) (λ y e. ap (λ (z : A). Some z) e)
