-- The levels of operators of two operands, by their names in the code.
use Rattle.std.specs.Prelude.{ℕ, zero, suc, Bool, false, is_some, List, [], ◌∷◌, Option}
use Rattle.td_ast.specs.declared.token.Token.{Token}
use Rattle.td_ast.specs.declared.token.TokenKind.{TokenKind}
use Rattle.td_ast.specs.declared.token.Span.{Span}
use Rattle.td_ast.specs.declared.expressions.BinaryOperator.{BinaryOperator}
use Rattle.td_ast.specs.Trees.{Tree, Sizeof, RangeOkay, over}
use Rattle.td_grammar.specs.Grammar.{Grammar, ◌then◌, ◌making◌, too_deep, spelled_by}
use Rattle.td_grammar.specs.Tokens.{terminal, word}
use Rattle.td_ast.specs.declared.token.TokenKind.TheVariants as kinds
use Rattle.td_grammar.specs.Expressions.{leaning, comparing, products, sums, shifts, orders, equalities, bit_ands, bit_xors, bit_ors, ands, un_from, prim_from, expr_from, sizeof_operand, group_of, triple_of, branches_of, SpellsExpr, nested_expr}
use Rattle.td_grammar.specs.Operators.{product_operator_of, sum_operator_of, shift_operator_of, order_operator_of, equality_operator_of, bit_and_operator_of, bit_xor_operator_of, bit_or_operator_of, and_operator_of, or_operator_of, and_kinds, bit_and_kinds, bit_or_kinds, bit_xor_kinds, equality_kinds, or_kinds, order_kinds, product_kinds, shift_kinds, sum_kinds}
use Rattle.td_parser_expr.specs.declared.tier.Tier.{Tier}
use Rattle.td_parser_expr.specs.declared.tier.Tier.TheVariants as tiers
use Rattle.td_grammar.specs.Sets.{only}

abbrev pub meaning_at : Tier → TokenKind → Option BinaryOperator
meaning_at tiers.Product = product_operator_of
meaning_at tiers.Sum = sum_operator_of
meaning_at tiers.Shift = shift_operator_of
meaning_at tiers.Order = order_operator_of
meaning_at tiers.Equality = equality_operator_of
meaning_at tiers.BitAnd = bit_and_operator_of
meaning_at tiers.BitXor = bit_xor_operator_of
meaning_at tiers.BitOr = bit_or_operator_of
meaning_at tiers.And = and_operator_of
meaning_at tiers.Or = or_operator_of

abbrev pub kinds_at : Tier → List ℕ
kinds_at tiers.Product = product_kinds
kinds_at tiers.Sum = sum_kinds
kinds_at tiers.Shift = shift_kinds
kinds_at tiers.Order = order_kinds
kinds_at tiers.Equality = equality_kinds
kinds_at tiers.BitAnd = bit_and_kinds
kinds_at tiers.BitXor = bit_xor_kinds
kinds_at tiers.BitOr = bit_or_kinds
kinds_at tiers.And = and_kinds
kinds_at tiers.Or = or_kinds

abbrev pub operator_at : Tier → Grammar (BinaryOperator × Span)
operator_at tier = word (kinds_at tier) (meaning_at tier)

-- an operator of the level comes first
abbrev pub comes_at : Tier → List Token → Bool
comes_at tier [] = false
comes_at tier (token ∷ tokens) = is_some (meaning_at tier token.kind)

-- its operands
abbrev pub operand_at : Tier → Grammar Tree → Grammar Tree
operand_at tiers.Product un = un
operand_at tiers.Sum un = products un
operand_at tiers.Shift un = sums un
operand_at tiers.Order un = shifts un
operand_at tiers.Equality un = orders un
operand_at tiers.BitAnd un = equalities un
operand_at tiers.BitXor un = bit_ands un
operand_at tiers.BitOr un = bit_xors un
operand_at tiers.And un = bit_ors un
operand_at tiers.Or un = ands un

abbrev pub next_at : Tier → Grammar Tree → Grammar ((BinaryOperator × Span) × Tree)
next_at tier un = operator_at tier then operand_at tier un

abbrev pub leaning_at : Tier → Grammar Tree → Grammar Tree
leaning_at tier un = leaning (operator_at tier) (operand_at tier un)

abbrev pub comparing_at : Tier → Grammar Tree → Grammar Tree
comparing_at tier un = comparing (operator_at tier) (operand_at tier un)

-- ---- what is nested, by how deep it may be

abbrev pub group_at : ℕ → Grammar Tree
group_at zero = too_deep (group_of (spelled_by SpellsExpr)).Spells (only kinds.OpenParen)
group_at (suc n) = group_of (nested_expr n)

abbrev pub triple_at : ℕ → Grammar (Tree × Tree × Tree × Span)
triple_at zero = too_deep (triple_of (spelled_by SpellsExpr)).Spells (only kinds.OpenParen)
triple_at (suc n) = triple_of (nested_expr n)

abbrev pub branches_at : ℕ → Grammar (Span × Tree × Tree)
branches_at zero = too_deep (branches_of (spelled_by SpellsExpr)).Spells (only kinds.Question)
branches_at (suc n) = branches_of (nested_expr n)

abbrev pub prim_at : ℕ → Grammar Tree
prim_at n = prim_from (group_at n) (triple_at n)

abbrev pub un_at : ℕ → Grammar Tree
un_at n = un_from (group_at n) (triple_at n)

abbrev pub sizeof : Grammar Tree
sizeof = (terminal kinds.Sizeof then terminal kinds.OpenParen then sizeof_operand then terminal kinds.CloseParen) making λ (at, (opening, (operand, closing))). Sizeof (over at closing) at operand.0 operand.1

abbrev pub range_okay_at : ℕ → Grammar Tree
range_okay_at n = (terminal kinds.IsRangeOkay then triple_at n) making λ (at, parts). RangeOkay (over at parts.3) parts.0 parts.1 parts.2

abbrev pub expr_at : ℕ → Grammar Tree
expr_at n = expr_from (group_at n) (triple_at n) (branches_at n)

abbrev pub group_end_at : ℕ → Grammar (Tree × Span)
group_end_at n = nested_expr n then terminal kinds.CloseParen

abbrev pub triple_end_at : ℕ → Grammar (Span × (Tree × Span))
triple_end_at n = terminal kinds.Comma then group_end_at n

abbrev pub triple_rest_at : ℕ → Grammar (Span × (Tree × (Span × (Tree × Span))))
triple_rest_at n = terminal kinds.Comma then nested_expr n then triple_end_at n

abbrev pub other_branch_at : ℕ → Grammar (Span × Tree)
other_branch_at n = terminal kinds.Colon then nested_expr n
