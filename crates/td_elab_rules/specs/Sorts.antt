-- The sorts and types of expressions, and the core expressions that they stand for (3D manual, "Expressions"; own rules
-- where it leaves the type of a literal open).
use Rattle.std.specs.Prelude.{ℕ, ◌-◌, Bool, true, false, cond, nat_lt, Option, Some, None}
use Rattle.td_num.specs.Numbers.{bytes_in}
use Rattle.td_elab_rules.specs.Imports.{UnaryOperator, Not, Complement, SizeofOperand, Span, Scalar, Truth, Eight, Sixteen, ThirtyTwo, SixtyFour, Binary}
use Rattle.td_ast.specs.declared.expressions.BinaryOperator.{BinaryOperator}
use Rattle.td_ast.specs.declared.expressions.BinaryOperator.TheVariants as operator
use Rattle.td_ast.specs.declared.expressions.SizeofOperand.TheVariants as operand
use Rattle.td_ast.specs.Trees.{Tree}
use Rattle.td_ast.specs.Trees as tree
use Rattle.td_core.specs.declared.expressions.Binary.TheVariants as binary
use Rattle.td_core.specs.declared.expressions.Relation.TheVariants as relation
use Rattle.td_core.specs.Term.{Term, number, name, complement, negation, compute, compare, both, either, choice, range_okay}
use Rattle.td_core.specs.Types.{limit, wider, computed_type, type_of}
use Rattle.td_kinds.specs.Kinds.{constant_size}
use Rattle.td_elab_rules.specs.declared.expressions.Sort.{Sort}
use Rattle.td_elab_rules.specs.declared.expressions.Sort.TheVariants as sort
use Rattle.td_elab_rules.specs.declared.expressions.Operation.{Operation}
use Rattle.td_elab_rules.specs.declared.expressions.Operation.TheVariants.{Computes, Compares, Both, Either}
use Rattle.td_elab_rules.specs.declared.known.Meaning.TheVariants as meaning
use Rattle.td_elab_rules.specs.declared.known.Local.TheVariants as local
use Rattle.td_elab_rules.specs.declared.known.Found.{Found}
use Rattle.td_elab_rules.specs.declared.known.Found.TheVariants as found
use Rattle.td_elab_rules.specs.declared.known.Known.{Known}
use Rattle.td_elab_rules.specs.declared.known.Scope.{Scope}
use Rattle.td_elab_rules.specs.Known.{found_in, kind_at}

-- what an operator of two operands does
abbrev pub operation : BinaryOperator → Operation
operation operator.Multiply = Computes binary.Multiply
operation operator.Divide = Computes binary.Divide
operation operator.Remainder = Computes binary.Remainder
operation operator.Add = Computes binary.Add
operation operator.Subtract = Computes binary.Subtract
operation operator.ShiftLeft = Computes binary.ShiftLeft
operation operator.ShiftRight = Computes binary.ShiftRight
operation operator.Less = Compares relation.Less
operation operator.LessEqual = Compares relation.LessEqual
operation operator.Greater = Compares relation.Greater
operation operator.GreaterEqual = Compares relation.GreaterEqual
operation operator.Equal = Compares relation.Equal
operation operator.NotEqual = Compares relation.NotEqual
operation operator.BitAnd = Computes binary.BitAnd
operation operator.BitXor = Computes binary.BitXor
operation operator.BitOr = Computes binary.BitOr
operation operator.And = Both
operation operator.Or = Either

-- the narrowest type that holds a number
abbrev pub narrowest : ℕ → Scalar
narrowest n = cond (nat_lt n (limit Eight)) Eight (cond (nat_lt n (limit Sixteen)) Sixteen (cond (nat_lt n (limit ThirtyTwo)) ThirtyTwo SixtyFour))

-- the type of a number that stands alone
abbrev pub type_alone : Sort → Option Scalar
type_alone sort.Broken = None
type_alone sort.Untyped = None
type_alone sort.Truth = None
type_alone (sort.Literal n) = Some (narrowest n)
type_alone (sort.Typed w) = Some w

-- a literal has the other side's type where it fits, else the narrowest that holds it; two literals have the wider of
-- their narrowest types
abbrev pub literal_type : ℕ → Sort → Scalar
literal_type n (sort.Typed w) = cond (nat_lt n (limit w)) w (narrowest n)
literal_type n sort.Broken = narrowest n
literal_type n sort.Untyped = narrowest n
literal_type n sort.Truth = narrowest n
literal_type n (sort.Literal m) = wider (narrowest n) (narrowest m)

-- the type of a number beside another operand
abbrev pub type_beside : Sort → Sort → Option Scalar
type_beside (sort.Literal n) other = Some (literal_type n other)
type_beside (sort.Typed w) other = Some w
type_beside sort.Broken other = None
type_beside sort.Untyped other = None
type_beside sort.Truth other = None

-- of two types where both are known
abbrev pub typed_by : (Scalar → Scalar → Scalar) → Option Scalar → Option Scalar → Sort
typed_by f (Some v) (Some w) = sort.Typed (f v w)
typed_by f (Some v) None = sort.Untyped
typed_by f None o = sort.Untyped

-- the narrower operand is widened; a shift has its left side's type
abbrev pub computed_sort : Binary → Sort → Sort → Sort
computed_sort op a b = typed_by (computed_type op) (type_beside a b) (type_beside b a)

abbrev pub operation_sort : Operation → Sort → Sort → Sort
operation_sort (Computes op) a b = computed_sort op a b
operation_sort (Compares r) a b = sort.Truth
operation_sort Both a b = sort.Truth
operation_sort Either a b = sort.Truth

abbrev pub typed : Option Scalar → Sort
typed None = sort.Untyped
typed (Some w) = sort.Typed w

abbrev pub unary_sort : UnaryOperator → Sort → Sort
unary_sort Not a = sort.Truth
unary_sort Complement a = typed (type_alone a)

-- `?:`: truth values or numbers, of which the narrower is widened; a number beside a broken branch has no type, and of
-- branches of two sorts nothing is known
abbrev pub choice_sort : Sort → Sort → Sort
choice_sort sort.Broken sort.Truth = sort.Truth
choice_sort sort.Broken sort.Broken = sort.Broken
choice_sort sort.Broken sort.Untyped = sort.Untyped
choice_sort sort.Broken (sort.Literal m) = sort.Untyped
choice_sort sort.Broken (sort.Typed v) = sort.Untyped
choice_sort sort.Truth sort.Truth = sort.Truth
choice_sort sort.Truth sort.Broken = sort.Truth
choice_sort sort.Truth sort.Untyped = sort.Broken
choice_sort sort.Truth (sort.Literal m) = sort.Broken
choice_sort sort.Truth (sort.Typed v) = sort.Broken
choice_sort sort.Untyped sort.Truth = sort.Broken
choice_sort sort.Untyped sort.Broken = sort.Untyped
choice_sort sort.Untyped sort.Untyped = sort.Untyped
choice_sort sort.Untyped (sort.Literal m) = sort.Untyped
choice_sort sort.Untyped (sort.Typed v) = sort.Untyped
choice_sort (sort.Literal n) sort.Truth = sort.Broken
choice_sort (sort.Literal n) b = typed_by wider (type_beside (sort.Literal n) b) (type_beside b (sort.Literal n))
choice_sort (sort.Typed w) sort.Truth = sort.Broken
choice_sort (sort.Typed w) b = typed_by wider (Some w) (type_beside b (sort.Typed w))

-- the size of a type of constant size
abbrev pub size_found : Known → Found → Option ℕ
size_found k found.Nothing = None
size_found k (found.Local l) = None
size_found k (found.Global (meaning.Constant n)) = None
size_found k (found.Global (meaning.Member n)) = None
size_found k (found.Global (meaning.Number t)) = Some (bytes_in t.width)
size_found k (found.Global (meaning.Enum t v)) = Some (bytes_in t.width)
size_found k (found.Global (meaning.Type j)) = constant_size (kind_at k j)
size_found k (found.Global (meaning.Record r)) = None

-- `sizeof(T)`, and `sizeof(this)` inside a struct
abbrev pub size_named : Known → Scope → SizeofOperand → Option ℕ
size_named k s (operand.Number t) = Some (bytes_in t.width)
size_named k s (operand.Name n) = size_found k (found_in k s n)
size_named k s operand.This = s.this

abbrev pub size_sort : Option ℕ → Sort
size_sort None = sort.Untyped
size_sort (Some n) = sort.Literal n

abbrev pub found_sort : Found → Sort
found_sort found.Nothing = sort.Broken
found_sort (found.Local (local.Value i w most)) = sort.Typed w
found_sort (found.Local local.Unreadable) = sort.Broken
found_sort (found.Local (local.Cell c t)) = sort.Broken
found_sort (found.Local (local.Row c r)) = sort.Broken
found_sort (found.Local (local.Buffer n)) = sort.Broken
found_sort (found.Global (meaning.Constant n)) = sort.Literal n
found_sort (found.Global (meaning.Member n)) = sort.Literal n
found_sort (found.Global (meaning.Number t)) = sort.Broken
found_sort (found.Global (meaning.Enum t v)) = sort.Broken
found_sort (found.Global (meaning.Type j)) = sort.Broken
found_sort (found.Global (meaning.Record r)) = sort.Broken

-- `field_pos`, a 32-bit number inside an action
abbrev pub start_sort : Option ℕ → Sort
start_sort None = sort.Untyped
start_sort (Some i) = sort.Typed ThirtyTwo

abbrev pub sort_of : Known → Scope → Tree → Sort
sort_of k s (tree.Number at n base) = sort.Literal n
sort_of k s (tree.Truth at b) = sort.Truth
sort_of k s (tree.Name at n) = found_sort (found_in k s n.text)
sort_of k s (tree.FieldPos at own) = start_sort s.start
sort_of k s (tree.Sizeof at own z place) = size_sort (size_named k s z)
sort_of k s (tree.RangeOkay at size offset access) = sort.Truth
sort_of k s (tree.Unary at op own a) = unary_sort op (sort_of k s a)
sort_of k s (tree.Binary at op own a b) = operation_sort (operation op) (sort_of k s a) (sort_of k s b)
sort_of k s (tree.Choice at own c a b) = choice_sort (sort_of k s a) (sort_of k s b)

-- Core expressions. A name that stands for no value, and a literal past its type, count as 0 here: there a rule is
-- broken, so no module stands for the tree.

abbrev pub literal_of : ℕ → Scalar → Term
literal_of n w = cond (nat_lt n (limit w)) (number n w) (number 0 w)

abbrev pub literal_alone : ℕ → Term
literal_alone n = literal_of n (narrowest n)

abbrev pub found_core : Found → Term
found_core found.Nothing = number 0 Truth
found_core (found.Local (local.Value i w most)) = name i w most
found_core (found.Local local.Unreadable) = number 0 Truth
found_core (found.Local (local.Cell c t)) = number 0 Truth
found_core (found.Local (local.Row c r)) = number 0 Truth
found_core (found.Local (local.Buffer n)) = number 0 Truth
found_core (found.Global (meaning.Constant n)) = literal_alone n
found_core (found.Global (meaning.Member n)) = literal_alone n
found_core (found.Global (meaning.Number t)) = number 0 Truth
found_core (found.Global (meaning.Enum t v)) = number 0 Truth
found_core (found.Global (meaning.Type j)) = number 0 Truth
found_core (found.Global (meaning.Record r)) = number 0 Truth

abbrev pub start_core : Option ℕ → Term
start_core None = number 0 ThirtyTwo
start_core (Some i) = name i ThirtyTwo (limit ThirtyTwo - 1)

abbrev pub size_core : Option ℕ → Term
size_core None = number 0 Truth
size_core (Some n) = literal_alone n

abbrev pub truth_core : Bool → Term
truth_core true = number 1 Truth
truth_core false = number 0 Truth

-- an operand beside one of that sort: a literal is settled to its type
abbrev pub beside : Sort → Sort → Term → Term
beside (sort.Literal n) other e = literal_of n (literal_type n other)
beside sort.Broken other e = e
beside sort.Untyped other e = e
beside sort.Truth other e = e
beside (sort.Typed w) other e = e

abbrev pub unary_core : UnaryOperator → Term → Term
unary_core Not a = negation a
unary_core Complement a = complement a

-- of two operands with their sorts
abbrev pub operation_core : Operation → Span → Sort → Sort → Term → Term → Term
operation_core (Computes op) at s t a b = compute op at (beside s t a) (beside t s b)
operation_core (Compares r) at s t a b = compare r (beside s t a) (beside t s b)
operation_core Both at s t a b = both a b
operation_core Either at s t a b = either a b

-- `is_range_okay(size, offset, access)` is `access <= size && offset <= size - access`, and its literals have the types
-- that they would have there
abbrev pub range_core : Sort → Sort → Sort → Term → Term → Term → Term
range_core s o a size offset access =
    let total = beside s a size in
    let part = beside a s access in
    range_okay total (beside o (sort.Typed (wider (type_of total) (type_of part))) offset) part

abbrev pub core_of : Known → Scope → Tree → Term
core_of k s (tree.Number at n base) = literal_alone n
core_of k s (tree.Truth at b) = truth_core b
core_of k s (tree.Name at n) = found_core (found_in k s n.text)
core_of k s (tree.FieldPos at own) = start_core s.start
core_of k s (tree.Sizeof at own z place) = size_core (size_named k s z)
core_of k s (tree.RangeOkay at z o a) =
    range_core (sort_of k s z) (sort_of k s o) (sort_of k s a) (core_of k s z) (core_of k s o) (core_of k s a)
core_of k s (tree.Unary at op own a) = unary_core op (core_of k s a)
core_of k s (tree.Binary at op own a b) =
    operation_core (operation op) own (sort_of k s a) (sort_of k s b) (core_of k s a) (core_of k s b)
core_of k s (tree.Choice at own c a b) =
    choice (core_of k s c) (beside (sort_of k s a) (sort_of k s b) (core_of k s a)) (beside (sort_of k s b) (sort_of k s a) (core_of k s b))

abbrev pub option_core : Known → Scope → Option Tree → Option Term
option_core k s None = None
option_core k s (Some e) = Some (core_of k s e)
