-- How many tokens a text has.
use Rattle.std.proofs.Common.{◌≡◌, ℕ, zero, suc, ◌+◌, ◌-◌, ◌≤◌, List, [], ◌∷◌, length, Result, Ok, Err, refl, arith}
use Rattle.td_front.specs.Imports.{Token, LexError}
use Rattle.td_lexer.specs.declared.lexeme.Lexeme as lexemes
use Rattle.td_lexer.specs.declared.lexeme.Lexeme.TheVariants as kinds
use Rattle.td_lexer.specs.Scanner.{lexeme, width, with_token, with_lexeme, tokens_from}

ok_length : (r : Result (List Token) LexError) (a b : List Token) → r ≡ Ok a → r ≡ Ok b → length a ≡ length b
ok_length r a b h k = cc

one_more : (token : Token) (r : Result (List Token) LexError) (n : ℕ) → ((others : List Token) → r ≡ Ok others → length others ≤ n) → (tokens : List Token) → with_token token r ≡ Ok tokens → length tokens ≤ n + 1
one_more token (Ok others) n h tokens e = let few = h others refl in let same = ok_length (Ok (token ∷ others)) (token ∷ others) tokens refl e in omega arith
one_more token (Err error) n h tokens e = cc

one_lexeme : (l : lexemes.Lexeme) (at : ℕ) (r : Result (List Token) LexError) (n : ℕ) → ((others : List Token) → r ≡ Ok others → length others ≤ n) → (tokens : List Token) → with_lexeme l at r ≡ Ok tokens → length tokens ≤ n + 1
one_lexeme (kinds.Trivia w) at r n h tokens e = let few = h tokens e in omega arith
one_lexeme (kinds.Token kind w) at r n h tokens e = one_more (record { kind = kind; span = record { from = at; to = at + w } }) r n h tokens e
one_lexeme (kinds.BadByte w) at r n h tokens e = cc
one_lexeme kinds.OpenComment at r n h tokens e = cc
one_lexeme kinds.BigNumber at r n h tokens e = cc

-- a text has no more tokens than bytes
pub few_tokens : (bytes : List ℕ) (at inside : ℕ) (tokens : List Token) → tokens_from at inside bytes ≡ Ok tokens → length tokens ≤ length bytes
unfolding tokens_from
few_tokens [] at inside tokens e = let same = ok_length (Ok []) [] tokens refl e in omega arith
few_tokens (b ∷ bytes) at (suc inside) tokens e = let few = few_tokens bytes (at + 1) inside tokens e in omega arith
few_tokens (b ∷ bytes) at zero tokens e =
    let few = one_lexeme (lexeme (b ∷ bytes)) at (tokens_from (at + 1) (width (lexeme (b ∷ bytes)) - 1) bytes) (length bytes) (few_tokens bytes (at + 1) (width (lexeme (b ∷ bytes)) - 1)) tokens e in
    omega arith
