-- Pieces of which no token glues to what is behind it: words for the pieces of each construct.
use Rattle.std.proofs.Common.{◌≡◌, ℕ, Bool, true, false, cond, List, [], ◌∷◌, ◌++◌, Option, Some, None, refl, sym, subst, append_assoc}
use Rattle.std.specs.Prelude.{flat_map}
use Rattle.td_ast.specs.declared.token.TokenKind.{TokenKind}
use Rattle.td_ast.specs.declared.token.TokenKind.TheVariants.{Name, OpenParen, CloseParen, CloseBracket, CloseBrace, Semicolon, Bang, Tilde}
use Rattle.td_lexer.specs.Bytes.{is_word_byte, first_is}
use Rattle.td_print_layout.specs.Pieces.{Piece, Word, Blank, LineEnd, spelling}
use Rattle.td_print_layout.specs.Joining.{is_word, is_word_or_marked, glues, glues_to, IsSpellable, IsApart}
use Rattle.td_print_layout.specs.Sequences.{optional, parted_by}
use Rattle.td_print_layout.specs.Names.{before_dot, after_dot, dotted_pieces, qualified_pieces}

-- no token glues to what is behind it
abbrev pub IsLoose : List Piece → Type 0
IsLoose [] = Unit {0}
IsLoose (Word kind ∷ pieces) = (glues_to kind pieces ≡ false) × IsLoose pieces
IsLoose (Blank ∷ pieces) = IsLoose pieces
IsLoose (LineEnd ∷ pieces) = IsLoose pieces

-- each token can be spelled
abbrev pub AreSpellable : List Piece → Type 0
AreSpellable [] = Unit {0}
AreSpellable (Word kind ∷ pieces) = IsSpellable kind × AreSpellable pieces
AreSpellable (Blank ∷ pieces) = AreSpellable pieces
AreSpellable (LineEnd ∷ pieces) = AreSpellable pieces

pub apart : (pieces : List Piece) → IsLoose pieces → AreSpellable pieces → IsApart pieces
apart [] loose spellable = tt
apart (Word kind ∷ pieces) loose spellable = (spellable.0, loose.0, apart pieces loose.1 spellable.1)
apart (Blank ∷ pieces) loose spellable = apart pieces loose spellable
apart (LineEnd ∷ pieces) loose spellable = apart pieces loose spellable

-- pieces that may stand behind a word, a number, a closing bracket or `;`
pub record Closes (pieces : List Piece) : Type 0 where
  pub words : (kind : TokenKind) → is_word kind ≡ true → glues_to kind pieces ≡ false
  pub group : glues_to CloseParen pieces ≡ false
  pub bracket : glues_to CloseBracket pieces ≡ false
  pub brace : glues_to CloseBrace pieces ≡ false
  pub semicolon : glues_to Semicolon pieces ≡ false
  pub loose : IsLoose pieces

pub before_nothing : Closes []
before_nothing = record { words = λ kind e. refl; group = refl; bracket = refl; brace = refl; semicolon = refl; loose = tt }

pub before_blank : (pieces : List Piece) → IsLoose pieces → Closes (Blank ∷ pieces)
before_blank pieces loose = record { words = λ kind e. refl; group = refl; bracket = refl; brace = refl; semicolon = refl; loose = loose }

pub before_line : (pieces : List Piece) → IsLoose pieces → Closes (LineEnd ∷ pieces)
before_line pieces loose = record { words = λ kind e. refl; group = refl; bracket = refl; brace = refl; semicolon = refl; loose = loose }

-- punctuation that begins with no byte of a word
pub before_sign : (sign : TokenKind) (pieces : List Piece) → is_word sign ≡ false → first_is is_word_byte (spelling sign) ≡ false
    → glues CloseParen sign ≡ false → glues CloseBracket sign ≡ false → glues CloseBrace sign ≡ false → glues Semicolon sign ≡ false
    → IsLoose (Word sign ∷ pieces) → Closes (Word sign ∷ pieces)
before_sign sign pieces word first group bracket brace semicolon loose =
    record { words = λ kind e. rw (word, e) first; group = group; bracket = bracket; brace = brace; semicolon = semicolon; loose = loose }

-- ---- names that may be qualified

pub qualified_loose : (text : List ℕ) (after : List Piece) → Closes after → IsLoose (qualified_pieces text ++ after)
qualified_loose text after closes = by_dot (before_dot text) (after_dot text)
  where
    by_dot : (first : List ℕ) (o : Option (List ℕ)) → IsLoose ((Word (Name first) ∷ optional dotted_pieces o) ++ after)
    by_dot first None = (closes.words (Name first) refl, closes.loose)
    by_dot first (Some second) = (refl, (refl, (closes.words (Name second) refl, closes.loose)))

pub qualified_then : (text : List ℕ) (rest after : List Piece) → Closes (rest ++ after) → IsLoose ((qualified_pieces text ++ rest) ++ after)
qualified_then text rest after closes = by_dot (before_dot text) (after_dot text)
  where
    by_dot : (first : List ℕ) (o : Option (List ℕ)) → IsLoose (((Word (Name first) ∷ optional dotted_pieces o) ++ rest) ++ after)
    by_dot first None = (closes.words (Name first) refl, closes.loose)
    by_dot first (Some second) = (refl, (refl, (closes.words (Name second) refl, closes.loose)))

-- a token that may stand before an expression
pub record Opens (kind : TokenKind) : Type 0 where
  pub word : is_word_or_marked kind ≡ false
  pub group : glues kind OpenParen ≡ false
  pub bang : glues kind Bang ≡ false
  pub tilde : glues kind Tilde ≡ false

pub put : (ps qs : List Piece) → ps ≡ qs → IsLoose qs → IsLoose ps
put ps qs e = subst IsLoose (sym e)

-- ---- several

-- pieces of each element, of which none glues to what may stand behind it
pub each_closes : {A : Type 0} (f : A → List Piece) → ((x : A) (after : List Piece) → Closes after → Closes (f x ++ after)) → (xs : List A) (after : List Piece) → Closes after → Closes (flat_map f xs ++ after)
each_closes f each [] after closes = closes
each_closes f each (x ∷ xs) after closes = rw (append_assoc (f x) (flat_map f xs) after) (each x (flat_map f xs ++ after) (each_closes f each xs after closes))

-- pieces of each element, with an empty line between two
module _ {A : Type 0} (f : A → List Piece) (each : (x : A) (after : List Piece) → IsLoose after → IsLoose (f x ++ after)) where
  others_loose : (xs : List A) (after : List Piece) → IsLoose after → IsLoose (flat_map (λ x. (LineEnd ∷ []) ++ f x) xs ++ after)
  others_loose [] after loose = loose
  others_loose (x ∷ xs) after loose =
      let others : List Piece = flat_map (λ y. (LineEnd ∷ []) ++ f y) xs in
      subst IsLoose (sym (append_assoc (f x) others after)) (each x (others ++ after) (others_loose xs after loose))

  pub parted_loose : (xs : List A) (after : List Piece) → IsLoose after → IsLoose (parted_by (LineEnd ∷ []) f xs ++ after)
  parted_loose [] after loose = loose
  parted_loose (x ∷ xs) after loose =
      let others : List Piece = flat_map (λ y. (LineEnd ∷ []) ++ f y) xs in
      subst IsLoose (sym (append_assoc (f x) others after)) (each x (others ++ after) (others_loose xs after loose))
