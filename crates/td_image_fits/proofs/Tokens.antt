-- A name that a token has is no longer than the token.
use Rattle.std.proofs.Common.{ℕ, ◌≤◌, List, length, refl}
use Rattle.td_image_fits.specs.Imports.{TokenKind}
use Rattle.td_lexer.specs.Spellings.{marked_words}
use Rattle.td_lexer.specs.Splits.{Begins}
use Rattle.td_lexer.specs.Splits.Begins.{keyword_begins, name_begins, number_begins, marked_begins, punctuation_begins}
use Rattle.td_front_facts.proofs.Tokens.{OfKind, of_fixed, in_table, keyword_fixed, punctuation_fixed}

module _ (most : ℕ) where
  abbrev pub IsShort : List ℕ → Type 0
  IsShort name = length name ≤ most

  pub token_short : {kind : TokenKind} {bytes rest : List ℕ} → Begins kind bytes rest → length bytes ≤ most → OfKind IsShort kind
  token_short {kind} {bytes} (keyword_begins e) l = of_fixed IsShort kind (keyword_fixed bytes kind e)
  token_short (name_begins h) l = l
  token_short (number_begins base h small ends) l = tt
  token_short {kind} {bytes} (marked_begins e ends) l = of_fixed IsShort kind (in_table marked_words bytes refl kind e)
  token_short {kind} {bytes} (punctuation_begins e ends) l = of_fixed IsShort kind (punctuation_fixed bytes kind e)
