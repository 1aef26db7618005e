-- What the answer says of the text.
use Rattle.std.proofs.Common.{◌≡◌, ℕ, List, Result, Ok, Err, refl, inl, inr}
use Rattle.std.specs.Prelude.{◌⊎◌, IfOk, IfErr, MatchResult}
use Rattle.std.specs.Global.{Vec}
use Rattle.td_ast.specs.declared.token.Token.{Token}
use Rattle.td_lexer.specs.declared.error.LexError.{LexError}
use Rattle.td_lexer.specs.declared.error.LexError.TheVariants.{NoMemory, BadByte, OpenComment, BigNumber}
use Rattle.td_lexer.specs.Scanner.{tokens_of, Lexes}
use Rattle.td_lexer.specs.Splits.{Splits, IsRefused, HasToken}
use Rattle.td_lexer.specs.ScanSteps.{Stops}
use Rattle.td_lexer.proofs.Splitting.{tokens_law, refusals_law}

-- memory ran out at a token, or the text is refused for this cause
stop_cases : (text : List ℕ) (error : LexError) → Stops text error → ((error ≡ NoMemory) × HasToken text) ⊎ IsRefused text error
stop_cases text NoMemory h = inl (refl, h)
stop_cases text (BadByte at) h = inr h
stop_cases text (OpenComment at) h = inr h
stop_cases text (BigNumber at) h = inr h

module _ (text : List ℕ) where
  pub answered : (result : Result (Vec Token) LexError) → IfOk result (λ found. Splits text found.items) → IfErr result (Stops text) → Lexes result (tokens_of text)
  answered (Ok found) h k = (tokens_law text found.items).1 h
  answered (Err NoMemory) h k = tt
  answered (Err (BadByte at)) h k = (refusals_law text (BadByte at)).1 k
  answered (Err (OpenComment at)) h k = (refusals_law text (OpenComment at)).1 k
  answered (Err (BigNumber at)) h k = (refusals_law text (BigNumber at)).1 k

  pub answered_complete : (result : Result (Vec Token) LexError) → IfOk result (λ found. Splits text found.items) → IfErr result (Stops text) → (tokens : List Token) → Splits text tokens → MatchResult result (λ found. found.items ≡ tokens) (λ error. error ≡ NoMemory)
  answered_complete (Ok found) h k tokens splits =
      let here = (tokens_law text found.items).1 h in
      let e = (tokens_law text tokens).1 splits in
      cc
  answered_complete (Err error) h k tokens splits =
      let e = (tokens_law text tokens).1 splits in
      elim (stop_cases text error k) [ inl none ↦ none.0 | inr refused ↦ absurd (let other = (refusals_law text error).1 refused in cc) ]

  pub answered_refused : (result : Result (Vec Token) LexError) → IfOk result (λ found. Splits text found.items) → IfErr result (Stops text) → (error : LexError) → IsRefused text error → MatchResult result (λ found. ⊥) (λ why. (why ≡ error) ⊎ (why ≡ NoMemory))
  answered_refused (Ok found) h k error refused =
      let here = (tokens_law text found.items).1 h in
      let e = (refusals_law text error).1 refused in
      cc
  answered_refused (Err why) h k error refused =
      let e = (refusals_law text error).1 refused in
      elim (stop_cases text why k) [ inl none ↦ inr none.0 | inr other ↦ inl (let here = (refusals_law text why).1 other in cc) ]

  pub answered_cause : (result : Result (Vec Token) LexError) → IfErr result (Stops text) → IfErr result (λ error. (error ≡ NoMemory) ⊎ IsRefused text error)
  answered_cause (Ok found) k = tt
  answered_cause (Err error) k = elim (stop_cases text error k) [ inl none ↦ inl none.0 | inr refused ↦ inr refused ]

  pub answered_memory : (result : Result (Vec Token) LexError) → IfErr result (Stops text) → result ≡ Err NoMemory → HasToken text
  answered_memory (Ok found) k e = absurd cc
  answered_memory (Err NoMemory) k e = k
  answered_memory (Err (BadByte at)) k e = absurd cc
  answered_memory (Err (OpenComment at)) k e = absurd cc
  answered_memory (Err (BigNumber at)) k e = absurd cc
