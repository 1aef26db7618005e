-- The canonical text of a tree is read back.
use Rattle.std.proofs.Common.{◌≡◌, ℕ, ◌+◌, ◌<◌, ◌^◌, List, [], ◌∷◌, ◌++◌, length, map, Option, Some, None, refl, sym, subst, inl, inr, cond}
use Rattle.td_ast.specs.declared.token.Token.{Token}
use Rattle.td_ast.specs.declared.token.TokenKind.{TokenKind}
use Rattle.td_ast.specs.declared.parts.InputTree.{InputTree}
use Rattle.std.specs.Prelude.{◌⊎◌, ◌↔◌, bytes_eq, true, false, Bool, Result, Ok}
use Rattle.td_num.specs.Lists.{Each}
use Rattle.td_lexer.specs.Spellings.{Entry, kind_in, keyword_kind, or_else, definition_words, expression_words, number_types, marked_words, punctuation_of_two, operators, delimiters, single_kind, punctuation_kind}
use Rattle.td_lexer.specs.declared.error.LexError.{LexError}
use Rattle.td_lexer.specs.Scanner.{tokens_of}
use Rattle.td_lexer.specs.Splits.{Begins, Stands, SplitsUpTo, Splits}
use Rattle.td_lexer.specs.Splits.Begins.{keyword_begins, name_begins, number_begins, marked_begins, punctuation_begins}
use Rattle.td_lexer.specs.Splits.SplitsUpTo.{splits_here, splits_passed, splits_token}
use Rattle.td_grammar.specs.Parts.{input_text}
use Rattle.td_print_layout.specs.Pieces.{kinds_of, Piece, Word, Blank, LineEnd}
use Rattle.td_print_layout.specs.Joining.{IsSpellable, PiecesAreSplit}
use Rattle.td_print_layout.specs.Definitions.{layout, canonical_text}
use Rattle.td_print_layout.specs.Laws.{ReadsBack, KeepsLimits, KeepsSpellings, SameText}
use Rattle.td_print_layout.proofs.Tokens.{kinds_in}
use Rattle.td_grammar.specs.Laws.{OneTree}
use Rattle.td_print_layout.specs.Unspanned.{unspanned}
use Rattle.td_print_layout.specs.ReadBack.{IsTextOf, IsReadBack, StaysTidy}
use Rattle.td_print_layout.proofs.Loose.{AreSpellable, apart}
use Rattle.td_print_layout.proofs.LooseDefinitions.{layout_loose}

-- ---- tokens of a text can be spelled

-- each kind of a table can be spelled
abbrev Fine : List Entry → Type 0
Fine [] = Unit {0}
Fine (entry ∷ others) = IsSpellable entry.1 × Fine others

in_table : (table : List Entry) (bytes : List ℕ) (kind : TokenKind) → Fine table → kind_in table bytes ≡ Some kind → IsSpellable kind
in_table [] bytes kind fine e = absurd cc
in_table (entry ∷ others) bytes kind fine e = by_test (bytes_eq bytes entry.0) e (in_table others bytes kind fine.1)
  where
    same : Some entry.1 ≡ Some kind → IsSpellable kind
    same e = let is : entry.1 ≡ kind = cc in subst IsSpellable is fine.0

    by_test : (c : Bool) → cond c (Some entry.1) (kind_in others bytes) ≡ Some kind → (kind_in others bytes ≡ Some kind → IsSpellable kind) → IsSpellable kind
    by_test true e ih = same e
    by_test false e ih = ih e

either_table : (a b : Option TokenKind) (kind : TokenKind) → (a ≡ Some kind → IsSpellable kind) → (b ≡ Some kind → IsSpellable kind) → or_else a b ≡ Some kind → IsSpellable kind
either_table (Some k) b kind f g e = f e
either_table None b kind f g e = g e

keyword_fine : (bytes : List ℕ) (kind : TokenKind) → keyword_kind bytes ≡ Some kind → IsSpellable kind
keyword_fine bytes kind e =
    either_table (kind_in definition_words bytes) (or_else (kind_in expression_words bytes) (kind_in number_types bytes)) kind
    (in_table definition_words bytes kind (tt, (tt, (tt, (tt, (tt, (tt, (tt, (tt, (tt, (tt, (tt, (tt, (tt, (tt, tt)))))))))))))))
    (either_table (kind_in expression_words bytes) (kind_in number_types bytes) kind
    (in_table expression_words bytes kind (tt, (tt, (tt, (tt, (tt, (tt, (tt, (tt, (tt, (tt, (tt, (tt, (tt, tt))))))))))))))
    (in_table number_types bytes kind (tt, (tt, (tt, (tt, (tt, (tt, (tt, (tt, tt)))))))))) e

punctuation_fine : (bytes : List ℕ) (kind : TokenKind) → punctuation_kind bytes ≡ Some kind → IsSpellable kind
punctuation_fine bytes kind e =
    either_table (kind_in punctuation_of_two bytes) (single_kind bytes) kind
    (in_table punctuation_of_two bytes kind (tt, (tt, (tt, (tt, (tt, (tt, (tt, (tt, (tt, tt))))))))))
    (either_table (kind_in operators bytes) (kind_in delimiters bytes) kind
    (in_table operators bytes kind (tt, (tt, (tt, (tt, (tt, (tt, (tt, (tt, (tt, (tt, (tt, (tt, (tt, tt))))))))))))))
    (in_table delimiters bytes kind (tt, (tt, (tt, (tt, (tt, (tt, (tt, (tt, (tt, (tt, (tt, tt))))))))))))) e

begun_fine : {kind : TokenKind} {bytes rest : List ℕ} → Begins kind bytes rest → IsSpellable kind
begun_fine {kind} {bytes} (keyword_begins e) = keyword_fine bytes kind e
begun_fine (name_begins name) = name
begun_fine (number_begins base numeral small ends) = small
begun_fine {kind} {bytes} (marked_begins e ends) = in_table marked_words bytes kind (tt, (tt, (tt, (tt, (tt, (tt, (tt, (tt, tt)))))))) e
begun_fine {kind} {bytes} (punctuation_begins e slash) = punctuation_fine bytes kind e

split_good : {at to : ℕ} {bytes last : List ℕ} {tokens : List Token} → SplitsUpTo at bytes tokens to last → Each IsSpellable (kinds_in tokens)
split_good splits_here = tt
split_good (splits_passed passed more) = split_good more
split_good (splits_token stands more) = (begun_fine stands.0, split_good more)

-- pieces can be spelled where their kinds can
spelled_pieces : (pieces : List Piece) → Each IsSpellable (kinds_of pieces) → AreSpellable pieces
spelled_pieces [] all = tt
spelled_pieces (Word kind ∷ pieces) all = (all.0, spelled_pieces pieces all.1)
spelled_pieces (Blank ∷ pieces) all = spelled_pieces pieces all
spelled_pieces (LineEnd ∷ pieces) all = spelled_pieces pieces all

-- ---- the laws

pub read_back : PiecesAreSplit → ReadsBack → KeepsLimits → KeepsSpellings → IsReadBack
read_back split back limits spellings text tree (source, (to, splits), spelled, within) =
    let good = spelled_pieces (layout tree) (spellings tree source spelled (split_good splits)) in
    let whole = split (layout tree) (apart (layout tree) (layout_loose tree) good) in
    let again = back tree source whole.0 spelled whole.2 in
    (again.0, (whole.0, whole.1, again.1, limits tree source whole.0 spelled within whole.2), again.2)

-- a text splits into its tokens, and these are one list
abbrev pub TokensAreOne : Type 0
TokensAreOne = (text : List ℕ) (tokens : List Token) → (tokens_of text ≡ Ok tokens) ↔ Splits text tokens

one_list : TokensAreOne → (text : List ℕ) (a b : List Token) → Splits text a → Splits text b → a ≡ b
one_list split text a b h g = same (tokens_of text) ((split text a).1 h) ((split text b).1 g)
  where
    same : (r : Result (List Token) LexError) → r ≡ Ok a → r ≡ Ok b → a ≡ b
    same r e f = cc

pub one_tree_each : TokensAreOne → OneTree → (text : List ℕ) (a b : InputTree) → IsTextOf text a → IsTextOf text b → a ≡ b
one_tree_each split one text a b h g =
    let S : List Token → Type 0 = λ t. input_text.Spells a t in
    one g.0 a b (subst S (one_list split text h.0 g.0 h.1 g.1) h.2) g.2

pub stay_tidy : TokensAreOne → OneTree → IsReadBack → SameText → StaysTidy
stay_tidy split one back forget text tree read h again =
    let r = back text tree h in
    let same : r.0 ≡ read = one_tree_each split one (canonical_text tree) r.0 read r.1 again in
    let P : InputTree → Type 0 = λ t. unspanned t ≡ unspanned tree in
    forget read tree (subst P same r.2)
