-- Sets of kinds of tokens, by their numbers (own rule).
use Rattle.std.specs.Prelude.{ℕ, Bool, true, false, ◌==◌, List, [], ◌∷◌, if◌then◌else◌}
use Rattle.td_num.specs.declared.number.Width.TheVariants as widths
use Rattle.td_num.specs.declared.number.ByteOrder.TheVariants as orders
use Rattle.td_ast.specs.declared.token.Token.{Token}
use Rattle.td_ast.specs.declared.token.TokenKind.{TokenKind}
use Rattle.td_ast.specs.declared.token.TokenKind.TheVariants as kinds
use Rattle.td_ast.specs.declared.token.Base.TheVariants as bases
use Rattle.td_ast.specs.Kinds.{number_of_kind}

-- these kinds
abbrev pub set_of : List TokenKind → List ℕ
set_of [] = []
set_of (kind ∷ others) = number_of_kind kind ∷ set_of others

-- this kind alone
abbrev pub only : TokenKind → List ℕ
only kind = number_of_kind kind ∷ []

-- names, whatever their text
abbrev pub any_name : TokenKind
any_name = kinds.Name []

-- numbers, whatever their value
abbrev pub any_number : TokenKind
any_number = kinds.Number 0 bases.Decimal

-- number types, whichever
abbrev pub any_number_type : TokenKind
any_number_type = kinds.Int (record { width = widths.One; order = orders.LittleEndian })

abbrev pub member : List ℕ → ℕ → Bool
member [] n = false
member (x ∷ xs) n = if x == n then true else member xs n

-- a token of one of these kinds comes first
abbrev pub comes : List ℕ → List Token → Bool
comes kinds [] = false
comes kinds (token ∷ rest) = member kinds (number_of_kind token.kind)
