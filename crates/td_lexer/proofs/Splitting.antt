-- The tokens of a text are its splitting.
use Rattle.std.proofs.Common.{◌≡◌, ℕ, zero, suc, ◌+◌, ◌≤◌, ◌<◌, List, [], ◌∷◌, ◌++◌, length, Result, Ok, Err, refl, sym, ap, subst, ◌∙◌, arith, inl, inr}
use Rattle.std.specs.Prelude.{◌↔◌}
use Rattle.std.proofs.lemmas.List.{append-nil, length-append, drop_at}
use Rattle.td_ast.specs.declared.token.Token.{Token}
use Rattle.td_ast.specs.declared.token.TokenKind.{TokenKind}
use Rattle.td_lexer.specs.declared.error.LexError.{LexError}
use Rattle.td_lexer.specs.declared.error.LexError.TheVariants.{NoMemory, BadByte, OpenComment, BigNumber}
use Rattle.td_lexer.specs.declared.lexeme.Lexeme.{Lexeme}
use Rattle.td_lexer.specs.declared.lexeme.Lexeme.TheVariants as lexemes
use Rattle.td_lexer.specs.Scanner.{lexeme, width, with_token, with_lexeme, tokens_from, tokens_of}
use Rattle.td_lexer.specs.ScanSteps.{end_at}
use Rattle.td_lexer.specs.Splits.{Stands, IsPassed, SplitsUpTo, Splits, IsBigNumber, GoesOn, Fails, IsRefused}
use Rattle.td_lexer.specs.Splits.SplitsUpTo.{splits_here, splits_passed, splits_token}
use Rattle.td_lexer.proofs.Walk.{one_lexeme}
use Rattle.td_lexer.proofs.Sound.{Sound, lexeme_sound}
use Rattle.td_lexer.proofs.Complete.{numeral_some, begins_some, passed_some, stands_found, found_stands, passed_found, open_found, big_found, goes_on_found, nothing_found, found_nothing}

-- ---- a step

abbrev token_at : ℕ → TokenKind → ℕ → Token
token_at at kind n = record { kind = kind; span = record { from = at; to = at + n } }

-- after what stands at the beginning
behind : (at : ℕ) (p : Lexeme) (bytes rest : List ℕ) → 0 < length bytes → lexeme (bytes ++ rest) ≡ p → width p ≡ length bytes → tokens_from at 0 (bytes ++ rest) ≡ with_lexeme p at (tokens_from (at + length bytes) 0 rest)
behind at p bytes rest some e wide =
    let n = length bytes in
    one_lexeme at n (bytes ++ rest) some (omega (arith, length-append bytes rest)) (ap width e ∙ wide)
    ∙ rw (e, drop_at bytes rest n refl) refl

passed_step : (at : ℕ) {bytes rest : List ℕ} → IsPassed bytes rest → tokens_from at 0 (bytes ++ rest) ≡ tokens_from (at + length bytes) 0 rest
passed_step at {bytes} {rest} h = behind at (lexemes.Trivia (length bytes)) bytes rest (passed_some h) (passed_found h) refl

token_step : (at : ℕ) {kind : TokenKind} {bytes rest : List ℕ} → Stands kind bytes rest → tokens_from at 0 (bytes ++ rest) ≡ with_token (token_at at kind (length bytes)) (tokens_from (at + length bytes) 0 rest)
token_step at {kind} {bytes} {rest} h = behind at (lexemes.Token kind (length bytes)) bytes rest (begins_some h.0) (stands_found h) refl

-- what a front that isn't taken answers
stops : (at : ℕ) (rest : List ℕ) (p : Lexeme) (error : LexError) → 0 < length rest → lexeme rest ≡ p → ((r : Result (List Token) LexError) → with_lexeme p at r ≡ Err error) → tokens_from at 0 rest ≡ Err error
unfolding tokens_from
stops at [] p error some e h = absurd (omega arith)
stops at (b ∷ rest) p error some e h = rw e (h _)

goes_some : (rest : List ℕ) (len : ℕ) → GoesOn rest len → 0 < length rest
goes_some rest len (base, bytes, after, same, count, numeral, on, longest) = let some = numeral_some base bytes numeral in omega (arith, ap (λ (l : List ℕ). length l) same, length-append bytes after)

big_some : (rest : List ℕ) → IsBigNumber rest → 0 < length rest
big_some rest (base, bytes, after, same, numeral, big, ends) = let some = numeral_some base bytes numeral in omega (arith, ap (λ (l : List ℕ). length l) same, length-append bytes after)

-- ---- from a splitting to the tokens

-- tokens before the others
abbrev after_tokens : List Token → Result (List Token) LexError → Result (List Token) LexError
after_tokens front (Ok tokens) = Ok (front ++ tokens)
after_tokens front (Err error) = Err error

after_none : (r : Result (List Token) LexError) → r ≡ after_tokens [] r
after_none (Ok tokens) = refl
after_none (Err error) = refl

after_one : (token : Token) (tokens : List Token) (r : Result (List Token) LexError) → with_token token (after_tokens tokens r) ≡ after_tokens (token ∷ tokens) r
after_one token tokens (Ok others) = refl
after_one token tokens (Err error) = refl

splits_tokens : {at to : ℕ} {bytes last : List ℕ} {tokens : List Token} → SplitsUpTo at bytes tokens to last → tokens_from at 0 bytes ≡ after_tokens tokens (tokens_from to 0 last)
splits_tokens {at} {bytes} splits_here = after_none (tokens_from at 0 bytes)
splits_tokens {at} (splits_passed h more) = passed_step at h ∙ splits_tokens more
splits_tokens {at} {to} {last} (splits_token {bytes} {kind} {tokens} h more) = token_step at h ∙ ap (with_token (token_at at kind (length bytes))) (splits_tokens more) ∙ after_one (token_at at kind (length bytes)) tokens (tokens_from to 0 last)

none_left : (at : ℕ) → tokens_from at 0 [] ≡ Ok []
unfolding tokens_from
none_left at = refl

fails_some : (at : ℕ) (rest : List ℕ) (error : LexError) → Fails at rest error → tokens_from at 0 rest ≡ Err error
fails_some at rest NoMemory h = absurd h
fails_some at rest (BadByte place) (inl (here, nothing)) = let e : at + 0 ≡ place = omega arith in stops at rest (lexemes.BadByte 0) (BadByte place) nothing.0 (nothing_found rest nothing) (λ r. ap (λ (n : ℕ). Err (BadByte n)) e)
fails_some at rest (BadByte place) (inr (len, here, on)) = stops at rest (lexemes.BadByte len) (BadByte place) (goes_some rest len on) (goes_on_found rest len on) (λ r. ap (λ (n : ℕ). Err (BadByte n)) (sym here))
fails_some at rest (OpenComment place) (here, unclosed) = stops at rest lexemes.OpenComment (OpenComment place) (omega (arith, ap (λ (l : List ℕ). length l) unclosed.1)) (open_found rest unclosed) (λ r. ap (λ (n : ℕ). Err (OpenComment n)) (sym here))
fails_some at rest (BigNumber place) (here, big) = stops at rest lexemes.BigNumber (BigNumber place) (big_some rest big) (big_found rest big) (λ r. ap (λ (n : ℕ). Err (BigNumber n)) (sym here))

-- ---- from the tokens to a splitting

-- a lexeme that is refused
pub lexeme_fails : (at : ℕ) (rest : List ℕ) (p : Lexeme) (error : LexError) → lexeme rest ≡ p → Sound rest p → end_at p at ≡ Err error → Fails at rest error
lexeme_fails at rest (lexemes.Trivia n) error e sound stop = absurd cc
lexeme_fails at rest (lexemes.Token kind n) error e sound stop = absurd cc
lexeme_fails at rest (lexemes.BadByte n) error e (inl (z, plain)) stop =
    let same : BadByte (at + n) ≡ error = cc in
    subst (Fails at rest) same (inl (omega arith, found_nothing rest (e ∙ ap (λ (m : ℕ). lexemes.BadByte m) z) plain))
lexeme_fails at rest (lexemes.BadByte n) error e (inr on) stop =
    let same : BadByte (at + n) ≡ error = cc in
    subst (Fails at rest) same (inr (n, refl, on))
lexeme_fails at rest lexemes.OpenComment error e unclosed stop =
    let same : OpenComment at ≡ error = cc in
    subst (Fails at rest) same (refl, unclosed)
lexeme_fails at rest lexemes.BigNumber error e big stop =
    let same : BigNumber at ≡ error = cc in
    subst (Fails at rest) same (refl, big)

abbrev Reads : ℕ → List ℕ → Result (List Token) LexError → Type 0
Reads at bytes (Ok tokens) = (to : ℕ) × SplitsUpTo at bytes tokens to []
Reads at bytes (Err error) = (tokens : List Token) × (to : ℕ) × (rest : List ℕ) × SplitsUpTo at bytes tokens to rest × Fails to rest error

reads_passed : (at : ℕ) {bytes rest : List ℕ} → IsPassed bytes rest → (r : Result (List Token) LexError) → Reads (at + length bytes) rest r → Reads at (bytes ++ rest) r
reads_passed at h (Ok tokens) (to, more) = (to, splits_passed h more)
reads_passed at h (Err error) (tokens, to, rest, more, fails) = (tokens, to, rest, splits_passed h more, fails)

reads_token : (at : ℕ) {kind : TokenKind} {bytes rest : List ℕ} → Stands kind bytes rest → (r : Result (List Token) LexError) → Reads (at + length bytes) rest r → Reads at (bytes ++ rest) (with_token (token_at at kind (length bytes)) r)
reads_token at h (Ok tokens) (to, more) = (to, splits_token h more)
reads_token at {kind} {bytes} h (Err error) (tokens, to, rest, more, fails) = (token_at at kind (length bytes) ∷ tokens, to, rest, splits_token h more, fails)

reads_none : (at : ℕ) (rest : List ℕ) (error : LexError) → Fails at rest error → Reads at rest (tokens_from at 0 rest)
reads_none at rest error fails = rw (fails_some at rest error fails) ([], at, rest, splits_here, fails)

reads_all : (fuel at : ℕ) (bytes : List ℕ) → length bytes ≤ fuel → Reads at bytes (tokens_from at 0 bytes)
reads_all fuel at [] le = rw (none_left at) (at, splits_here)
reads_all zero at (b ∷ bytes) le = absurd (omega arith)
reads_all (suc fuel) at (b ∷ bytes) le = by_lexeme (lexeme (b ∷ bytes)) refl (lexeme_sound (b ∷ bytes) (omega arith)) (reads_all fuel)
  where
    by_lexeme : (p : Lexeme) → lexeme (b ∷ bytes) ≡ p → Sound (b ∷ bytes) p → ((at : ℕ) (rest : List ℕ) → length rest ≤ fuel → Reads at rest (tokens_from at 0 rest)) → Reads at (b ∷ bytes) (tokens_from at 0 (b ∷ bytes))
    by_lexeme (lexemes.Trivia n) e (front, rest, same, len, passed) ih =
        let some = passed_some passed in
        let shorter : length rest ≤ fuel = omega (arith, ap (λ (l : List ℕ). length l) same, length-append front rest) in
        rw (same, passed_step at passed) (reads_passed at passed (tokens_from (at + length front) 0 rest) (ih (at + length front) rest shorter))
    by_lexeme (lexemes.Token kind n) e (front, rest, same, len, begins) ih =
        let some = begins_some begins in
        let shorter : length rest ≤ fuel = omega (arith, ap (λ (l : List ℕ). length l) same, length-append front rest) in
        let stands = found_stands (b ∷ bytes) front rest kind (rw len e) same begins in
        rw (same, token_step at stands) (reads_token at stands (tokens_from (at + length front) 0 rest) (ih (at + length front) rest shorter))
    by_lexeme (lexemes.BadByte n) e sound ih = reads_none at (b ∷ bytes) (BadByte (at + n)) (lexeme_fails at (b ∷ bytes) (lexemes.BadByte n) (BadByte (at + n)) e sound refl)
    by_lexeme lexemes.OpenComment e sound ih = reads_none at (b ∷ bytes) (OpenComment at) (lexeme_fails at (b ∷ bytes) lexemes.OpenComment (OpenComment at) e sound refl)
    by_lexeme lexemes.BigNumber e sound ih = reads_none at (b ∷ bytes) (BigNumber at) (lexeme_fails at (b ∷ bytes) lexemes.BigNumber (BigNumber at) e sound refl)

-- ---- the laws

pub tokens_law : (text : List ℕ) (tokens : List Token) → (tokens_of text ≡ Ok tokens) ↔ Splits text tokens
tokens_law text tokens = (there, back)
  where
    there : tokens_of text ≡ Ok tokens → Splits text tokens
    there e = subst (Reads 0 text) e (reads_all (length text) 0 text (omega arith))

    back : Splits text tokens → tokens_of text ≡ Ok tokens
    back (to, splits) = splits_tokens splits ∙ ap (after_tokens tokens) (none_left to) ∙ ap (λ (l : List Token). Ok l) (append-nil tokens)

pub refusals_law : (text : List ℕ) (error : LexError) → (tokens_of text ≡ Err error) ↔ IsRefused text error
refusals_law text error = (there, back)
  where
    there : tokens_of text ≡ Err error → IsRefused text error
    there e = subst (Reads 0 text) e (reads_all (length text) 0 text (omega arith))

    back : IsRefused text error → tokens_of text ≡ Err error
    back (tokens, at, rest, splits, fails) = splits_tokens splits ∙ ap (after_tokens tokens) (fails_some at rest error fails)
