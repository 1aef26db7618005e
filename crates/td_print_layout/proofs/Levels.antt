-- The levels of expressions, as what spells them.
use Rattle.std.proofs.Common.{◌≡◌, ℕ, zero, suc, ◌+◌, ◌-◌, ◌≤◌, List, [], None, refl, sym, subst, arith}
use Rattle.std.proofs.lemmas.List.{append-nil}
use Rattle.td_ast.specs.declared.token.Token.{Token}
use Rattle.td_ast.specs.declared.expressions.BinaryOperator.{BinaryOperator}
use Rattle.td_ast.specs.declared.expressions.BinaryOperator.TheVariants as operators
use Rattle.td_ast.specs.Trees.{Tree, Number, Binary}
use Rattle.td_grammar.specs.Grammar.{Grammar, spelled_by}
use Rattle.td_grammar.specs.Operators.{product_operator, sum_operator, shift_operator, order_operator, equality_operator, bit_and_operator, bit_xor_operator, bit_or_operator, and_operator, or_operator}
use Rattle.td_grammar.specs.Expressions.{SpellsExpr, expr_body, group_of, triple_of, prim_from, un_from, products, sums, shifts, orders, equalities, bit_ands, bit_xors, bit_ors, ands, ors}
use Rattle.td_grammar.proofs.Steady.{nested_in}
use Rattle.td_grammar.proofs.Exprs.{steady_expr, leaning_self, comparing_self}
use Rattle.td_print_layout.specs.Operators.{level_of, left_of, right_of}
use Rattle.td_print_layout.specs.Expressions.{tree_level}

abbrev pub prim : Grammar Tree
prim = prim_from (group_of (spelled_by SpellsExpr)) (triple_of (spelled_by SpellsExpr))

abbrev pub un : Grammar Tree
un = un_from (group_of (spelled_by SpellsExpr)) (triple_of (spelled_by SpellsExpr))

abbrev pub at : ℕ → Tree → List Token → Type 0
at zero = prim.Spells
at (suc zero) = un.Spells
at (suc (suc zero)) = (products un).Spells
at (suc (suc (suc zero))) = (sums un).Spells
at (suc (suc (suc (suc zero)))) = (shifts un).Spells
at (suc (suc (suc (suc (suc zero))))) = (orders un).Spells
at (suc (suc (suc (suc (suc (suc zero)))))) = (equalities un).Spells
at (suc (suc (suc (suc (suc (suc (suc zero))))))) = (bit_ands un).Spells
at (suc (suc (suc (suc (suc (suc (suc (suc zero)))))))) = (bit_xors un).Spells
at (suc (suc (suc (suc (suc (suc (suc (suc (suc zero))))))))) = (bit_ors un).Spells
at (suc (suc (suc (suc (suc (suc (suc (suc (suc (suc zero)))))))))) = (ands un).Spells
at (suc (suc (suc (suc (suc (suc (suc (suc (suc (suc (suc zero))))))))))) = (ors un).Spells
at (suc (suc (suc (suc (suc (suc (suc (suc (suc (suc (suc (suc n)))))))))))) = SpellsExpr

-- what a level spells, the next looser one does
climb : (k : ℕ) (a : Tree) (tokens : List Token) → at k a tokens → at (suc k) a tokens
climb zero a tokens s = (([], a), refl, ([], tokens, refl, refl, s))
climb (suc zero) a tokens s = leaning_self product_operator un a tokens s
climb (suc (suc zero)) a tokens s = leaning_self sum_operator (products un) a tokens s
climb (suc (suc (suc zero))) a tokens s = leaning_self shift_operator (sums un) a tokens s
climb (suc (suc (suc (suc zero)))) a tokens s = comparing_self order_operator (shifts un) a tokens s
climb (suc (suc (suc (suc (suc zero))))) a tokens s = comparing_self equality_operator (orders un) a tokens s
climb (suc (suc (suc (suc (suc (suc zero)))))) a tokens s = leaning_self bit_and_operator (equalities un) a tokens s
climb (suc (suc (suc (suc (suc (suc (suc zero))))))) a tokens s = leaning_self bit_xor_operator (bit_ands un) a tokens s
climb (suc (suc (suc (suc (suc (suc (suc (suc zero)))))))) a tokens s = leaning_self bit_or_operator (bit_xors un) a tokens s
climb (suc (suc (suc (suc (suc (suc (suc (suc (suc zero))))))))) a tokens s = leaning_self and_operator (bit_ors un) a tokens s
climb (suc (suc (suc (suc (suc (suc (suc (suc (suc (suc zero)))))))))) a tokens s = leaning_self or_operator (ands un) a tokens s
climb (suc (suc (suc (suc (suc (suc (suc (suc (suc (suc (suc zero))))))))))) a tokens s = nested_in expr_body steady_expr a tokens ((a, None), refl, (tokens, [], sym (append-nil tokens), s, refl))
climb (suc (suc (suc (suc (suc (suc (suc (suc (suc (suc (suc (suc n)))))))))))) a tokens s = s

climb_by : (k d : ℕ) (a : Tree) (tokens : List Token) → at k a tokens → at (k + d) a tokens
climb_by k zero a tokens s = let same : k + 0 ≡ k = omega arith in subst (λ (n : ℕ). at n a tokens) (sym same) s
climb_by k (suc d) a tokens s = let same : k + suc d ≡ suc (k + d) = omega arith in subst (λ (n : ℕ). at n a tokens) (sym same) (climb (k + d) a tokens (climb_by k d a tokens s))

pub climb_to : (k m : ℕ) → k ≤ m → (a : Tree) (tokens : List Token) → at k a tokens → at m a tokens
climb_to k m le a tokens s = let same : k + (m - k) ≡ m = omega arith in subst (λ (n : ℕ). at n a tokens) same (climb_by k (m - k) a tokens s)

-- ---- levels are among those there are

pub level_small : (o : BinaryOperator) → level_of o ≤ 12
level_small operators.Multiply = omega arith
level_small _ = omega arith

pub left_small : (o : BinaryOperator) → left_of o ≤ 12
left_small operators.Multiply = omega arith
left_small _ = omega arith

pub right_small : (o : BinaryOperator) → right_of o ≤ 12
right_small operators.Multiply = omega arith
right_small _ = omega arith

pub tree_small : (t : Tree) → tree_level t ≤ 12
tree_small (Binary s o p a b) = level_small o
tree_small (Number s n b) = omega arith
tree_small _ = omega arith
