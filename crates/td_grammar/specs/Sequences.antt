-- Several of one production (own rule).
use Rattle.std.specs.Prelude.{List, [], ◌∷◌, Option, Some, None}
use Rattle.td_ast.specs.declared.token.TokenKind.TheVariants as kinds
use Rattle.td_grammar.specs.Grammar.{Grammar, ◌then◌, ◌making◌, maybe, all_of}
use Rattle.td_grammar.specs.Tokens.{terminal}

-- g { g }
abbrev pub some_of : {A : Type 0} → Grammar A → Grammar (List A)
some_of g = (g then all_of g) making λ (first, others). first ∷ others

-- g { "," g }
abbrev pub parted : {A : Type 0} → Grammar A → Grammar (List A)
parted g = (g then all_of ((terminal kinds.Comma then g) making λ (comma, next). next)) making λ (first, others). first ∷ others

-- none where there are no parentheses
abbrev pub list_of : {A : Type 0} → Option (List A) → List A
list_of None = []
list_of (Some xs) = xs

-- [ "(" g { "," g } ")" ]
abbrev pub in_parentheses : {A : Type 0} → Grammar A → Grammar (List A)
in_parentheses g = maybe ((terminal kinds.OpenParen then parted g then terminal kinds.CloseParen) making λ (opening, (xs, closing)). xs) making list_of
