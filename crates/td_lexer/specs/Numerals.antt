-- The values of numbers as they are spelled (own rule).
use Rattle.std.specs.Prelude.{ℕ, List, drop}
use Rattle.td_ast.specs.declared.token.Base.{Base}
use Rattle.td_ast.specs.declared.token.Base.TheVariants.{Decimal, Hexadecimal}
use Rattle.td_lexer.specs.Bytes.{value_of}

-- the value of a number as it is spelled
abbrev pub numeral_value : Base → List ℕ → ℕ
numeral_value Decimal spelling = value_of 10 spelling
numeral_value Hexadecimal spelling = value_of 16 (drop 2 spelling)
