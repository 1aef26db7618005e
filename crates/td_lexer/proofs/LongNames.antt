-- A name of a module is none of the language's keywords, whether it has a dot or not. Cited by other crates.
use Rattle.std.proofs.Common.{◌≡◌, inl, inr, ℕ, true, List, [], ◌∷◌, ◌++◌, Some, None, sym, subst, ◌∙◌}
use Rattle.std.proofs.lemmas.Bool.{and_parts}
use Rattle.std.proofs.lemmas.Option.{none-some}
use Rattle.td_ast.specs.declared.token.TokenKind.{TokenKind}
use Rattle.td_lexer.specs.Bytes.{is_word_byte, every}
use Rattle.td_lexer.specs.Spellings.{keyword_kind}
use Rattle.td_lexer.specs.Splits.{IsLongName}

-- a dot is no byte of a word
no_dot : (part own : List ℕ) → every is_word_byte (part ++ 46 ∷ own) ≡ true → ⊥
no_dot [] own h = cc
no_dot (b ∷ bs) own h = no_dot bs own (and_parts (is_word_byte b) (every is_word_byte (bs ++ 46 ∷ own)) h).1

pub no_keyword : (name word : List ℕ) (kind : TokenKind) → every is_word_byte word ≡ true → keyword_kind word ≡ Some kind → IsLongName name → name ≡ word → ⊥
no_keyword name word kind all found (inl h) e = none-some kind (sym (subst (λ n. keyword_kind n ≡ None) e h.2) ∙ found)
no_keyword name word kind all found (inr (part, own, first, second, is)) e = no_dot part own (subst (λ n. every is_word_byte n ≡ true) (sym e ∙ is) all)
