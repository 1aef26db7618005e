-- Where the token of an expression stands that would be one too many (own rule). The scan ends where an expression must end, so
-- that it looks at no token twice.
use Rattle.std.specs.Prelude.{ℕ, zero, suc, Bool, true, false, List, [], ◌∷◌, Option, Some, None, if◌then◌else◌}
use Rattle.td_ast.specs.declared.token.Token.{Token}
use Rattle.td_ast.specs.Kinds.{number_of_kind}
use Rattle.td_ast.specs.declared.token.TokenKind.TheVariants as kinds
use Rattle.td_grammar.specs.Sets.{member, set_of, only}

-- Operators and opening parentheses; of `?` and `:` the first.
abbrev pub counted : List ℕ
counted =
    set_of (kinds.Bang ∷ kinds.Tilde ∷ kinds.Star ∷ kinds.Slash ∷ kinds.Percent ∷ kinds.Plus ∷ kinds.Minus ∷ kinds.ShiftLeft ∷ kinds.ShiftRight
    ∷ kinds.Less ∷ kinds.LessEqual ∷ kinds.Greater ∷ kinds.GreaterEqual ∷ kinds.EqualEqual ∷ kinds.NotEqual ∷ kinds.Ampersand ∷ kinds.Caret ∷ kinds.Bar
    ∷ kinds.AndAnd ∷ kinds.OrOr ∷ kinds.Question ∷ kinds.OpenParen ∷ [])

-- kinds that stand in no expression
abbrev pub outside : List ℕ
outside = set_of (kinds.Semicolon ∷ kinds.OpenBrace ∷ kinds.CloseBrace ∷ kinds.OpenBracket ∷ kinds.CloseBracket ∷ [])

-- one fewer, where there is one
abbrev pub closed : ℕ → Option ℕ
closed zero = None
closed (suc depth) = Some depth

-- as many, where there is one
abbrev pub still : ℕ → Option ℕ
still zero = None
still (suc depth) = Some (suc depth)

-- how many parentheses are open after a token of this kind, of so many before it; None where an expression ends before it
abbrev pub after : ℕ → ℕ → Option ℕ
after depth kind =
    if member outside kind then None else
    (if member (only kinds.OpenParen) kind then Some (suc depth) else
    (if member (only kinds.CloseParen) kind then closed depth else
    (if member (only kinds.Comma) kind then still depth else Some depth)))

abbrev pub scan_on : Option ℕ → Bool → ℕ → List Token → (ℕ → ℕ → List Token) → List Token
scan_on None is_counted left here further = []
scan_on (Some depth) false left here further = further depth left
scan_on (Some depth) true zero here further = here
scan_on (Some depth) true (suc left) here further = further depth left

-- the tokens from the counted one on before which so many counted ones stand; none where the expression ends before
unfoldable pub scan : ℕ → ℕ → List Token → List Token
scan depth left [] = []
scan depth left (token ∷ tokens) =
    scan_on (after depth (number_of_kind token.kind)) (member counted (number_of_kind token.kind)) left (token ∷ tokens) (λ d l. scan d l tokens)
