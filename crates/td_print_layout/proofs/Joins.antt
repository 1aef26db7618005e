-- One operator more.
use Rattle.std.proofs.Common.{◌≡◌, List, [], ◌∷◌, ◌++◌, Some, refl, sym, ap, ◌∙◌, append_assoc}
use Rattle.std.proofs.lemmas.List.{append-nil}
use Rattle.td_ast.specs.declared.token.Token.{Token}
use Rattle.td_ast.specs.declared.token.Span.{Span}
use Rattle.td_ast.specs.declared.expressions.UnaryOperator.{UnaryOperator}
use Rattle.td_ast.specs.declared.expressions.UnaryOperator.TheVariants.{Not, Complement}
use Rattle.td_ast.specs.declared.expressions.BinaryOperator.{BinaryOperator}
use Rattle.td_ast.specs.declared.expressions.BinaryOperator.TheVariants as operators
use Rattle.td_ast.specs.Trees.{Tree, Unary, over, span_of}
use Rattle.td_grammar.specs.Spelling.{SpellsAll}
use Rattle.td_grammar.specs.Grammar.{Grammar, ◌then◌}
use Rattle.td_grammar.specs.Operators.{unary_operator, product_operator, sum_operator, shift_operator, order_operator, equality_operator, bit_and_operator, bit_xor_operator, bit_or_operator, and_operator, or_operator}
use Rattle.td_grammar.specs.Expressions.{products, sums, shifts, orders, equalities, bit_ands, bit_xors, bit_ors, ands, lean, binary, leaning, comparing}
use Rattle.td_print_layout.specs.Operators.{unary_kind, binary_kind, level_of, left_of, right_of}
use Rattle.td_print_layout.proofs.Levels.{at, un}

lean-push : (first : Tree) (xs : List ((BinaryOperator × Span) × Tree)) (x : (BinaryOperator × Span) × Tree) → lean first (xs ++ x ∷ []) ≡ binary x.0 (lean first xs) x.1
lean-push first [] x = refl
lean-push first (y ∷ xs) x = lean-push (binary y.0 first y.1) xs x

all_push : {A : Type 0} (P : A → List Token → Type 0) (xs : List A) (x : A) (u v : List Token) → SpellsAll P xs u → P x v → SpellsAll P (xs ++ x ∷ []) (u ++ v)
all_push P [] x u v s p = rw s (v, [], sym (append-nil v), p, refl)
all_push P (y ∷ xs) x u v s p = (s.0, s.1 ++ v, ap (λ (l : List Token). l ++ v) s.2 ∙ append_assoc s.0 s.1 v, s.3, all_push P xs x s.1 v s.4 p)

lean_join : (operator : Grammar (BinaryOperator × Span)) (g : Grammar Tree) (x : BinaryOperator × Span) (a b : Tree) (u v : List Token) (t : Token) → operator.Spells x (t ∷ []) → (leaning operator g).Spells a u → g.Spells b v → (leaning operator g).Spells (binary x a b) (u ++ t ∷ v)
lean_join operator g x a b u v t o (pair, e, s) q = (
  (pair.0, pair.1 ++ (x, b) ∷ []),
  lean-push pair.0 pair.1 (x, b) ∙ ap (λ (l : Tree). binary x l b) e,
  (s.0, s.1 ++ t ∷ v, ap (λ (l : List Token). l ++ t ∷ v) s.2 ∙ append_assoc s.0 s.1 (t ∷ v), s.3, all_push (operator then g).Spells pair.1 (x, b) s.1 (t ∷ v) s.4 (t ∷ [], v, refl, o, q)),
)

compare_join : (operator : Grammar (BinaryOperator × Span)) (g : Grammar Tree) (x : BinaryOperator × Span) (a b : Tree) (u v : List Token) (t : Token) → operator.Spells x (t ∷ []) → g.Spells a u → g.Spells b v → (comparing operator g).Spells (binary x a b) (u ++ t ∷ v)
compare_join operator g x a b u v t o p q = ((a, Some (x, b)), refl, (u, t ∷ v, refl, p, (t ∷ [], v, refl, o, q)))

pub join : (o : BinaryOperator) (a b : Tree) (u v : List Token) (t : Token) → t.kind ≡ binary_kind o → at (left_of o) a u → at (right_of o) b v → at (level_of o) (binary (o, t.span) a b) (u ++ t ∷ v)
join operators.Multiply a b u v t e p q = lean_join product_operator un (operators.Multiply, t.span) a b u v t (t, refl, rw e refl) p q
join operators.Divide a b u v t e p q = lean_join product_operator un (operators.Divide, t.span) a b u v t (t, refl, rw e refl) p q
join operators.Remainder a b u v t e p q = lean_join product_operator un (operators.Remainder, t.span) a b u v t (t, refl, rw e refl) p q
join operators.Add a b u v t e p q = lean_join sum_operator (products un) (operators.Add, t.span) a b u v t (t, refl, rw e refl) p q
join operators.Subtract a b u v t e p q = lean_join sum_operator (products un) (operators.Subtract, t.span) a b u v t (t, refl, rw e refl) p q
join operators.ShiftLeft a b u v t e p q = lean_join shift_operator (sums un) (operators.ShiftLeft, t.span) a b u v t (t, refl, rw e refl) p q
join operators.ShiftRight a b u v t e p q = lean_join shift_operator (sums un) (operators.ShiftRight, t.span) a b u v t (t, refl, rw e refl) p q
join operators.Less a b u v t e p q = compare_join order_operator (shifts un) (operators.Less, t.span) a b u v t (t, refl, rw e refl) p q
join operators.LessEqual a b u v t e p q = compare_join order_operator (shifts un) (operators.LessEqual, t.span) a b u v t (t, refl, rw e refl) p q
join operators.Greater a b u v t e p q = compare_join order_operator (shifts un) (operators.Greater, t.span) a b u v t (t, refl, rw e refl) p q
join operators.GreaterEqual a b u v t e p q = compare_join order_operator (shifts un) (operators.GreaterEqual, t.span) a b u v t (t, refl, rw e refl) p q
join operators.Equal a b u v t e p q = compare_join equality_operator (orders un) (operators.Equal, t.span) a b u v t (t, refl, rw e refl) p q
join operators.NotEqual a b u v t e p q = compare_join equality_operator (orders un) (operators.NotEqual, t.span) a b u v t (t, refl, rw e refl) p q
join operators.BitAnd a b u v t e p q = lean_join bit_and_operator (equalities un) (operators.BitAnd, t.span) a b u v t (t, refl, rw e refl) p q
join operators.BitXor a b u v t e p q = lean_join bit_xor_operator (bit_ands un) (operators.BitXor, t.span) a b u v t (t, refl, rw e refl) p q
join operators.BitOr a b u v t e p q = lean_join bit_or_operator (bit_xors un) (operators.BitOr, t.span) a b u v t (t, refl, rw e refl) p q
join operators.And a b u v t e p q = lean_join and_operator (bit_ors un) (operators.And, t.span) a b u v t (t, refl, rw e refl) p q
join operators.Or a b u v t e p q = lean_join or_operator (ands un) (operators.Or, t.span) a b u v t (t, refl, rw e refl) p q

unary_spelled : (o : UnaryOperator) (t : Token) → t.kind ≡ unary_kind o → unary_operator.Spells (o, t.span) (t ∷ [])
unary_spelled Not t e = (t, refl, rw e refl)
unary_spelled Complement t e = (t, refl, rw e refl)

pub un_join : (o : UnaryOperator) (a : Tree) (v : List Token) (t : Token) → t.kind ≡ unary_kind o → un.Spells a v → un.Spells (Unary (over t.span (span_of a)) o t.span a) (t ∷ v)
un_join o a v t e (pair, same, s) = (
  ((o, t.span) ∷ pair.0, pair.1),
  ap (λ (i : Tree). Unary (over t.span (span_of i)) o t.span i) same,
  (t ∷ s.0, s.1, ap (λ (l : List Token). t ∷ l) s.2, (t ∷ [], s.0, refl, unary_spelled o t e, s.3), s.4),
)
