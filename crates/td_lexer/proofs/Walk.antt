-- Going over a text lexeme by lexeme.
use Rattle.std.proofs.Common.{◌≡◌, ℕ, zero, suc, ◌+◌, ◌-◌, ◌≤◌, ◌<◌, List, [], ◌∷◌, length, take, drop, Result, ap, ◌∙◌, arith, length-drop}
use Rattle.std.proofs.Math.Seq.{take-length}
use Rattle.td_ast.specs.declared.token.Token.{Token}
use Rattle.td_lexer.specs.declared.error.LexError.{LexError}
use Rattle.td_lexer.specs.Scanner.{lexeme, width, with_lexeme, tokens_from}

-- inside a lexeme nothing is read
pub passed : (at k : ℕ) (bytes : List ℕ) → k ≤ length bytes → tokens_from at k bytes ≡ tokens_from (at + k) 0 (drop k bytes)
unfolding tokens_from
passed at zero bytes le = ap (λ (n : ℕ). tokens_from n 0 bytes) (omega arith)
passed at (suc k) [] le = absurd (omega arith)
passed at (suc k) (b ∷ bytes) le = passed (at + 1) k bytes (omega arith) ∙ ap (λ (n : ℕ). tokens_from n 0 (drop k bytes)) (omega arith)

-- the lexeme at the beginning, and what follows it
pub one_lexeme : (at w : ℕ) (bytes : List ℕ) → 0 < w → w ≤ length bytes → width (lexeme bytes) ≡ w → tokens_from at 0 bytes ≡ with_lexeme (lexeme bytes) at (tokens_from (at + w) 0 (drop w bytes))
unfolding tokens_from
one_lexeme at w [] pos le e = absurd (omega arith)
one_lexeme at zero (b ∷ bytes) pos le e = absurd (omega arith)
one_lexeme at (suc k) (b ∷ bytes) pos le e =
    let m : width (lexeme (b ∷ bytes)) - 1 ≡ k = omega arith in
    let later : tokens_from (at + 1) k bytes ≡ tokens_from (at + suc k) 0 (drop k bytes) = passed (at + 1) k bytes (omega arith) ∙ ap (λ (n : ℕ). tokens_from n 0 (drop k bytes)) (omega arith) in
    rw m (ap (λ (r : Result (List Token) LexError). with_lexeme (lexeme (b ∷ bytes)) at r) later)

-- a slice from a place on
pub tail_whole : (at : ℕ) (bytes : List ℕ) → take (length bytes - at) (drop at bytes) ≡ drop at bytes
tail_whole at bytes = rw (← length-drop at bytes) (take-length (drop at bytes))
