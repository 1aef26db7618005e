-- A core expression has no more nodes than its tree, and a core action no more than its statements.
use Rattle.std.proofs.Common.{◌≡◌, ℕ, ◌+◌, ◌≤◌, Bool, true, false, cond, Option, Some, None, refl, arith, nat_lt, nat_le}
use Rattle.td_front_facts.specs.Imports.{Span, Found, Known, Scope}
use Rattle.td_ast.specs.declared.expressions.UnaryOperator.{UnaryOperator}
use Rattle.td_ast.specs.declared.expressions.UnaryOperator.TheVariants.{Not, Complement}
use Rattle.td_ast.specs.declared.actions.Assigned.{Assigned}
use Rattle.td_ast.specs.declared.actions.Assigned.TheVariants.{Value, FieldPtr}
use Rattle.td_ast.specs.declared.actions.ActionTree.{ActionTree}
use Rattle.td_ast.specs.declared.actions.ActionTree.TheVariants.{Done, Copied}
use Rattle.td_ast.specs.Trees.{Tree, tree_size}
use Rattle.td_ast.specs.Trees as tree
use Rattle.td_ast.specs.Statements.{Statement, Store, StoreField, Var, If, IfElse, Return, Abort, Statements, End, More, block_of}
use Rattle.td_limits.specs.Nodes as text
use Rattle.td_core.specs.declared.expressions.Scalar.{Scalar}
use Rattle.td_core.specs.Term.{Term, number, measure, Deed, set}
use Rattle.td_core.specs.Types.{bits, limit, type_of, wider}
use Rattle.td_core.specs.Weights.{option_nodes, deed_nodes, action_nodes}
use Rattle.td_core.specs.Formed.{scalar_of}
use Rattle.td_elab_rules.specs.declared.expressions.Sort.{Sort}
use Rattle.td_elab_rules.specs.declared.expressions.Sort.TheVariants as sort
use Rattle.td_elab_rules.specs.declared.expressions.Operation.{Operation}
use Rattle.td_elab_rules.specs.declared.expressions.Operation.TheVariants.{Computes, Compares, Both, Either}
use Rattle.td_elab_rules.specs.declared.actions.Target.{Target}
use Rattle.td_elab_rules.specs.declared.actions.Target.TheVariants as target
use Rattle.td_elab_rules.specs.declared.known.Meaning.TheVariants as meaning
use Rattle.td_elab_rules.specs.declared.known.Local.TheVariants as local
use Rattle.td_elab_rules.specs.declared.known.Found.TheVariants as found
use Rattle.td_elab_rules.specs.Known.{found_in}
use Rattle.td_elab_rules.specs.Sorts.{operation, narrowest, literal_type, sort_of, size_named, literal_of, found_core, start_core, size_core, truth_core, beside, unary_core, operation_core, range_core, core_of, option_core}
use Rattle.td_elab_rules.specs.Actions.{stored_cell, stored_slot, scope_after, inside, set_core, read_core, statement_core, block_core, action_core}
use Rattle.td_core.proofs.Nodes.{some_node}

-- ---- expressions

literal_node : (n : ℕ) (w : Scalar) → measure (literal_of n w) ≡ 1
literal_node n w = by (nat_lt n (limit w))
  where
    by : (b : Bool) → measure (cond b (number n w) (number 0 w)) ≡ 1
    by true = refl
    by false = refl

found_node : (f : Found) → measure (found_core f) ≡ 1
found_node found.Nothing = refl
found_node (found.Local (local.Value i w most)) = refl
found_node (found.Local local.Unreadable) = refl
found_node (found.Local (local.Cell c t)) = refl
found_node (found.Local (local.Row c r)) = refl
found_node (found.Local (local.Buffer n)) = refl
found_node (found.Global (meaning.Constant n)) = literal_node n (narrowest n)
found_node (found.Global (meaning.Member n)) = literal_node n (narrowest n)
found_node (found.Global (meaning.Number t)) = refl
found_node (found.Global (meaning.Enum t v)) = refl
found_node (found.Global (meaning.Type j)) = refl
found_node (found.Global (meaning.Record r)) = refl

start_node : (o : Option ℕ) → measure (start_core o) ≡ 1
start_node None = refl
start_node (Some i) = refl

size_node : (o : Option ℕ) → measure (size_core o) ≡ 1
size_node None = refl
size_node (Some n) = literal_node n (narrowest n)

truth_node : (b : Bool) → measure (truth_core b) ≡ 1
truth_node true = refl
truth_node false = refl

beside_nodes : (s t : Sort) (e : Term) → measure (beside s t e) ≤ measure e
beside_nodes (sort.Literal n) t e = omega (arith, literal_node n (literal_type n t), some_node e)
beside_nodes sort.Broken t e = omega arith
beside_nodes sort.Untyped t e = omega arith
beside_nodes sort.Truth t e = omega arith
beside_nodes (sort.Typed w) t e = omega arith

unary_nodes : (op : UnaryOperator) (a : Term) → measure (unary_core op a) ≡ 1 + measure a
unary_nodes Not a = refl
unary_nodes Complement a = refl

operation_nodes : (o : Operation) (at : Span) (s t : Sort) (a b : Term) → measure (operation_core o at s t a b) ≤ 1 + (measure a + measure b)
operation_nodes (Computes op) at s t a b = omega (arith, beside_nodes s t a, beside_nodes t s b)
operation_nodes (Compares r) at s t a b = omega (arith, beside_nodes s t a, beside_nodes t s b)
operation_nodes Both at s t a b = omega arith
operation_nodes Either at s t a b = omega arith

range_nodes : (s o a : Sort) (size offset access : Term) → measure (range_core s o a size offset access) ≤ 1 + (measure size + (measure offset + measure access))
range_nodes s o a size offset access =
    let w = wider (type_of (beside s a size)) (type_of (beside a s access)) in
    omega (arith, beside_nodes s a size, beside_nodes a s access, beside_nodes o (sort.Typed w) offset)

pub core_nodes : (k : Known) (s : Scope) (e : Tree) → measure (core_of k s e) ≤ tree_size e
core_nodes k s (tree.Number at n base) = omega (arith, literal_node n (narrowest n))
core_nodes k s (tree.Truth at b) = omega (arith, truth_node b)
core_nodes k s (tree.Name at n) = omega (arith, found_node (found_in k s n.text))
core_nodes k s (tree.FieldPos at own) = omega (arith, start_node s.start)
core_nodes k s (tree.Sizeof at own z place) = omega (arith, size_node (size_named k s z))
core_nodes k s (tree.RangeOkay at z o a) =
    omega (arith, range_nodes (sort_of k s z) (sort_of k s o) (sort_of k s a) (core_of k s z) (core_of k s o) (core_of k s a), core_nodes k s z, core_nodes k s o, core_nodes k s a)
core_nodes k s (tree.Unary at op own a) = omega (arith, unary_nodes op (core_of k s a), core_nodes k s a)
core_nodes k s (tree.Binary at op own a b) =
    omega (arith, operation_nodes (operation op) own (sort_of k s a) (sort_of k s b) (core_of k s a) (core_of k s b), core_nodes k s a, core_nodes k s b)
core_nodes k s (tree.Choice at own c a b) =
    omega (arith, beside_nodes (sort_of k s a) (sort_of k s b) (core_of k s a), beside_nodes (sort_of k s b) (sort_of k s a) (core_of k s b), core_nodes k s c, core_nodes k s a, core_nodes k s b)

pub some_nodes : (k : Known) (s : Scope) (o : Option Tree) → option_nodes (option_core k s o) ≤ text.option_nodes o
some_nodes k s None = omega arith
some_nodes k s (Some e) = core_nodes k s e

-- ---- actions

set_nodes : (k : Known) (s : Scope) (t : Target) (rhs : Assigned) (rest : Deed) → deed_nodes (set_core k s t rhs rest) ≤ 1 + text.assigned_nodes rhs + deed_nodes rest
set_nodes k s target.Unknown rhs rest = omega arith
set_nodes k s target.NoCell rhs rest = omega arith
set_nodes k s (target.Number c t) (Value e) rest = by (nat_le (bits (type_of (core_of k s e))) (bits (scalar_of t.width)))
  where
    by : (b : Bool) → deed_nodes (cond b (set c (core_of k s e) rest) rest) ≤ 1 + text.assigned_nodes (Value e) + deed_nodes rest
    by true = omega (arith, core_nodes k s e)
    by false = omega arith
set_nodes k s (target.Number c t) (FieldPtr at) rest = omega arith
set_nodes k s (target.Pointer c) (Value e) rest = omega arith
set_nodes k s (target.Pointer c) (FieldPtr at) rest = omega (arith, start_node s.start)

read_nodes : (t : Target) (rest : Deed) → deed_nodes (read_core t rest) ≤ 1 + deed_nodes rest
read_nodes target.Unknown rest = omega arith
read_nodes target.NoCell rest = omega arith
read_nodes (target.Number c t) rest = omega arith
read_nodes (target.Pointer c) rest = omega arith

mutual
  statement_nodes : (k : Known) (x : Statement) (s : Scope) (rest : Deed) → deed_nodes (statement_core k s x rest) ≤ text.statement_nodes x + deed_nodes rest
  statement_nodes k (Store at p rhs) s rest = omega (arith, set_nodes k s (stored_cell k s p) rhs rest)
  statement_nodes k (StoreField at p f rhs) s rest = omega (arith, set_nodes k s (stored_slot k s p f) rhs rest)
  statement_nodes k (Var at x star p) s rest = omega (arith, read_nodes (stored_cell k s p) rest)
  statement_nodes k (If at e one) s rest = omega (arith, core_nodes k s e, block_nodes k one s)
  statement_nodes k (IfElse at e one other) s rest = omega (arith, core_nodes k s e, block_nodes k one s, block_nodes k other s)
  statement_nodes k (Return at e) s rest = omega (arith, core_nodes k s e)
  statement_nodes k (Abort at) s rest = omega arith

  block_nodes : (k : Known) (b : Statements) (s : Scope) → deed_nodes (block_core k s b) ≤ text.block_nodes b
  block_nodes k End s = omega arith
  block_nodes k (More x rest) s =
      let deed = block_core k (scope_after k s x) rest in
      omega (arith, statement_nodes k x s deed, block_nodes k rest (scope_after k s x))

pub acted_nodes : (k : Known) (s : Scope) (a : Option ActionTree) → action_nodes (action_core k s a) ≤ text.action_nodes a
acted_nodes k s None = omega arith
acted_nodes k s (Some (Done kind at b)) = block_nodes k (block_of b) (inside s)
acted_nodes k s (Some (Copied at n)) = omega arith
