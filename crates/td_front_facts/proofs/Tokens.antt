-- Cited by other crates.
-- The names among the tokens of a text are words.
use Rattle.std.proofs.Common.{◌≡◌, ℕ, Bool, true, false, ◌&&◌, List, [], ◌∷◌, Option, Some, None, refl, subst, bytes_eq}
use Rattle.std.specs.Prelude.{if◌then◌else◌}
use Rattle.td_num.specs.Lists.{Each}
use Rattle.td_num.proofs.Truths.{both_true}
use Rattle.td_front_facts.specs.Imports.{Token, TokenKind}
use Rattle.td_ast.specs.declared.token.TokenKind.TheVariants.{Name}
use Rattle.td_lexer.specs.Spellings.{Entry, kind_in, or_else, keyword_kind, definition_words, expression_words, number_types, marked_words, punctuation_of_two, operators, delimiters, single_kind, punctuation_kind}
use Rattle.td_lexer.specs.Splits.{IsName, Begins, SplitsUpTo, Splits}
use Rattle.td_lexer.specs.Splits.Begins.{keyword_begins, name_begins, number_begins, marked_begins, punctuation_begins}
use Rattle.td_lexer.specs.Splits.SplitsUpTo.{splits_here, splits_passed, splits_token}

-- of a token that is a name
abbrev pub OfKind : (List ℕ → Type 0) → TokenKind → Type 0
OfKind P (Name text) = P text
OfKind P _ = Unit {0}

abbrev pub OfToken : (List ℕ → Type 0) → Token → Type 0
OfToken P token = OfKind P token.kind

-- ---- what is spelled by a table is no name

abbrev pub is_fixed : TokenKind → Bool
is_fixed (Name text) = false
is_fixed _ = true

abbrev pub all_fixed : List Entry → Bool
all_fixed [] = true
all_fixed (e ∷ es) = is_fixed e.1 && all_fixed es

pub of_fixed : (P : List ℕ → Type 0) (kind : TokenKind) → is_fixed kind ≡ true → OfKind P kind
of_fixed P (Name text) h = absurd cc
of_fixed P _ h = tt

-- an answer that is no name
abbrev pub AreFixed : Option TokenKind → Type 0
AreFixed o = (kind : TokenKind) → o ≡ Some kind → is_fixed kind ≡ true

pub in_table : (es : List Entry) (bytes : List ℕ) → all_fixed es ≡ true → AreFixed (kind_in es bytes)
in_table [] bytes h kind e = absurd cc
in_table (x ∷ es) bytes h kind e = by (both_true (is_fixed x.1) (all_fixed es) h).0 (in_table es bytes (both_true (is_fixed x.1) (all_fixed es) h).1 kind) (bytes_eq bytes x.0) e
  where
    by : is_fixed x.1 ≡ true → (kind_in es bytes ≡ Some kind → is_fixed kind ≡ true) → (b : Bool) → (if b then Some x.1 else kind_in es bytes) ≡ Some kind → is_fixed kind ≡ true
    by own later true e = let same : x.1 ≡ kind = cc in subst (λ k. is_fixed k ≡ true) same own
    by own later false e = later e

pub either_table : (a b : Option TokenKind) → AreFixed a → AreFixed b → AreFixed (or_else a b)
either_table (Some x) b f g kind e = f kind e
either_table None b f g kind e = g kind e

pub keyword_fixed : (bytes : List ℕ) → AreFixed (keyword_kind bytes)
keyword_fixed bytes =
    either_table (kind_in definition_words bytes) (or_else (kind_in expression_words bytes) (kind_in number_types bytes)) (in_table definition_words bytes refl)
    (either_table (kind_in expression_words bytes) (kind_in number_types bytes) (in_table expression_words bytes refl) (in_table number_types bytes refl))

pub punctuation_fixed : (bytes : List ℕ) → AreFixed (punctuation_kind bytes)
punctuation_fixed bytes =
    either_table (kind_in punctuation_of_two bytes) (single_kind bytes) (in_table punctuation_of_two bytes refl)
    (either_table (kind_in operators bytes) (kind_in delimiters bytes) (in_table operators bytes refl) (in_table delimiters bytes refl))

-- ---- tokens

token_word : {kind : TokenKind} {bytes rest : List ℕ} → Begins kind bytes rest → OfKind IsName kind
token_word {kind} {bytes} (keyword_begins e) = of_fixed IsName kind (keyword_fixed bytes kind e)
token_word (name_begins h) = h
token_word (number_begins base h small ends) = tt
token_word {kind} {bytes} (marked_begins e ends) = of_fixed IsName kind (in_table marked_words bytes refl kind e)
token_word {kind} {bytes} (punctuation_begins e ends) = of_fixed IsName kind (punctuation_fixed bytes kind e)

tokens_words : {at to : ℕ} {bytes last : List ℕ} {tokens : List Token} → SplitsUpTo at bytes tokens to last → Each (OfToken IsName) tokens
tokens_words splits_here = tt
tokens_words (splits_passed h more) = tokens_words more
tokens_words (splits_token h more) = (token_word h.0, tokens_words more)

pub splitting_words : (text : List ℕ) (tokens : List Token) → Splits text tokens → Each (OfToken IsName) tokens
splitting_words text tokens split = tokens_words split.1
