-- What the step of reading tokens does, and what comes of steps.
use Rattle.std.proofs.Common.{◌≡◌, ℕ, ◌+◌, ◌≤◌, ◌<◌, List, [], ◌∷◌, ◌++◌, length, drop, Ok, Err, refl, sym, ap, subst, ◌∙◌, arith, length-drop}
use Rattle.std.proofs.lemmas.List.{drop-drop, drop_all, drop_at, length-append}
use Rattle.td_ast.specs.declared.token.Token.{Token}
use Rattle.td_lexer.specs.declared.error.LexError.{LexError}
use Rattle.td_lexer.specs.declared.error.LexError.TheVariants.{NoMemory, BadByte, OpenComment, BigNumber}
use Rattle.td_lexer.specs.declared.lexeme.Lexeme.{Lexeme}
use Rattle.td_lexer.specs.declared.lexeme.Lexeme.TheVariants as lexemes
use Rattle.td_lexer.specs.Scanner.{lexeme}
use Rattle.td_lexer.specs.Splits.{SplitsUpTo, Splits, Fails}
use Rattle.td_lexer.specs.Splits.SplitsUpTo.{splits_here, splits_passed, splits_token}
use Rattle.td_lexer.specs.ScanSteps.{IsWithin, reach, end_at, tokens_in, IsToken, HoldsName, BeginsToken, ScanStep, Stops}
use Rattle.td_lexer.proofs.Sound.{Sound, lexeme_sound}
use Rattle.td_lexer.proofs.Complete.{found_stands}
use Rattle.td_lexer.proofs.Splitting.{lexeme_fails}

pub reach_within : (len : ℕ) (p : Lexeme) → IsWithin len p → reach p ≤ len
reach_within len (lexemes.Trivia n) h = h.1
reach_within len (lexemes.Token kind n) h = h.1
reach_within len (lexemes.BadByte n) h = h
reach_within len lexemes.OpenComment h = omega arith
reach_within len lexemes.BigNumber h = omega arith

pub name_token : (p : Lexeme) → HoldsName p → IsToken p
name_token (lexemes.Trivia n) h = h
name_token (lexemes.Token kind n) h = tt
name_token (lexemes.BadByte n) h = h
name_token lexemes.OpenComment h = h
name_token lexemes.BigNumber h = h

-- ---- one step

-- the lexeme at the beginning is a step over it
lexeme_splits : (at : ℕ) (rest : List ℕ) (p : Lexeme) (next : ℕ) → lexeme rest ≡ p → Sound rest p → end_at p at ≡ Ok next → (n : ℕ) × (next ≡ at + n) × SplitsUpTo at rest (tokens_in p at next) next (drop n rest)
lexeme_splits at rest (lexemes.Trivia n) next e (front, after, same, len, passed) go =
    let to : next ≡ at + n = cc in
    let left : drop n rest ≡ after = ap (drop n) same ∙ drop_at front after n len in
    (n, to, rw (to, left, same, ← len) (splits_passed passed splits_here))
lexeme_splits at rest (lexemes.Token kind n) next e (front, after, same, len, begins) go =
    let to : next ≡ at + n = cc in
    let left : drop n rest ≡ after = ap (drop n) same ∙ drop_at front after n len in
    let stands = found_stands rest front after kind (rw len e) same begins in
    (n, to, rw (to, left, same, ← len) (splits_token stands splits_here))
lexeme_splits at rest (lexemes.BadByte n) next e sound go = absurd cc
lexeme_splits at rest lexemes.OpenComment next e sound go = absurd cc
lexeme_splits at rest lexemes.BigNumber next e sound go = absurd cc

module _ (at : ℕ) (text : List ℕ) (old : List Token) (inside : at < length text) (p : Lexeme) (is : p ≡ lexeme (drop at text)) where
  sound : Sound (drop at text) p
  sound = rw is (lexeme_sound (drop at text) (omega (arith, length-drop at text)))

  pub step_goes : (next : ℕ) (new : List Token) → IsWithin (length (drop at text)) p → Ok next ≡ end_at p at → new ≡ old ++ tokens_in p at next → ScanStep (Ok next) at text old new
  step_goes next new within go added = by_split (lexeme_splits at (drop at text) p next (sym is) sound (sym go)) (taken p within go)
    where
      taken : (p : Lexeme) → IsWithin (length (drop at text)) p → Ok next ≡ end_at p at → (at < next) × (next ≤ at + length (drop at text))
      taken (lexemes.Trivia n) h e = let to : next ≡ at + n = cc in (omega (arith, h.0), omega (arith, h.1))
      taken (lexemes.Token kind n) h e = let to : next ≡ at + n = cc in (omega (arith, h.0), omega (arith, h.1))
      taken (lexemes.BadByte n) h e = absurd cc
      taken lexemes.OpenComment h e = absurd cc
      taken lexemes.BigNumber h e = absurd cc

      by_split : (n : ℕ) × (next ≡ at + n) × SplitsUpTo at (drop at text) (tokens_in p at next) next (drop n (drop at text)) → (at < next) × (next ≤ at + length (drop at text)) → ScanStep (Ok next) at text old new
      by_split (n, to, over) bounds =
          let behind : drop n (drop at text) ≡ drop next text = rw (drop-drop, to) refl in
          (bounds.0, omega (arith, bounds.1, length-drop at text), (tokens_in p at next, added, subst (λ (l : List ℕ). SplitsUpTo at (drop at text) (tokens_in p at next) next l) behind over))

  pub step_stops : (error : LexError) (new : List Token) → Err error ≡ end_at p at → ScanStep (Err error) at text old new
  step_stops error new stop = by_error error stop (lexeme_fails at (drop at text) p error (sym is) sound (sym stop))
    where
      by_error : (error : LexError) → Err error ≡ end_at p at → Fails at (drop at text) error → ScanStep (Err error) at text old new
      by_error NoMemory e h = absurd h
      by_error (BadByte place) e h = h
      by_error (OpenComment place) e h = h
      by_error (BigNumber place) e h = h

  pub step_starves : (new : List Token) → IsToken p → ScanStep (Err NoMemory) at text old new
  step_starves new token = by_lexeme p is sound token
    where
      by_lexeme : (p : Lexeme) → p ≡ lexeme (drop at text) → Sound (drop at text) p → IsToken p → BeginsToken (drop at text)
      by_lexeme (lexemes.Trivia n) e s h = absurd h
      by_lexeme (lexemes.Token kind n) e (front, after, same, len, begins) h = (kind, front, after, same, found_stands (drop at text) front after kind (rw len (sym e)) same begins)
      by_lexeme (lexemes.BadByte n) e s h = absurd h
      by_lexeme lexemes.OpenComment e s h = absurd h
      by_lexeme lexemes.BigNumber e s h = absurd h

-- ---- steps

-- one splitting after another
splits_on : {at mid to : ℕ} {bytes rest last : List ℕ} {front back : List Token} → SplitsUpTo at bytes front mid rest → SplitsUpTo mid rest back to last → SplitsUpTo at bytes (front ++ back) to last
splits_on splits_here more = more
splits_on (splits_passed h rest) more = splits_passed h (splits_on rest more)
splits_on (splits_token h rest) more = splits_token h (splits_on rest more)

pub steps_begin : (text : List ℕ) (tokens : List Token) → tokens ≡ [] → SplitsUpTo 0 text tokens 0 text
steps_begin text tokens none = rw none splits_here

module _ (text : List ℕ) (at : ℕ) (old new : List Token) (so_far : SplitsUpTo 0 text old at (drop at text)) where
  pub steps_go : (next : ℕ) → ScanStep (Ok next) at text old new → SplitsUpTo 0 text new next (drop next text)
  steps_go next (further, within, (added, same, over)) = rw same (splits_on so_far over)

  pub steps_stop : (error : LexError) → ScanStep (Err error) at text old new → Stops text error
  steps_stop NoMemory (kind, bytes, after, same, stands) =
      let token : Token = record { kind = kind; span = record { from = at; to = at + length bytes } } in
      (old ++ token ∷ [], at + length bytes, after, splits_on so_far (rw same (splits_token stands splits_here)), omega (arith, length-append old (token ∷ [])))
  steps_stop (BadByte place) h = (old, at, drop at text, so_far, h)
  steps_stop (OpenComment place) h = (old, at, drop at text, so_far, h)
  steps_stop (BigNumber place) h = (old, at, drop at text, so_far, h)

pub steps_end : (text : List ℕ) (at : ℕ) (tokens : List Token) → length text ≤ at → SplitsUpTo 0 text tokens at (drop at text) → Splits text tokens
steps_end text at tokens le so_far = (at, subst (λ (l : List ℕ). SplitsUpTo 0 text tokens at l) (drop_all at text le) so_far)
