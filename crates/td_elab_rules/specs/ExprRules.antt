-- The rules of expressions: for each the list of its breaches (own rules, after the 3D manual). Their order in these
-- lists means nothing, as the least is named.
use Rattle.std.specs.Prelude.{Bool, true, false, not, ◌||◌, ◌&&◌, nat_lt, List, [], ◌++◌, Option, Some, None, is_none}
use Rattle.td_elab_rules.specs.Imports.{UnaryOperator, Not, Complement, SizeofOperand, Span, Scalar}
use Rattle.td_ast.specs.declared.expressions.SizeofOperand.TheVariants as operand
use Rattle.td_ast.specs.Trees.{Tree, span_of}
use Rattle.td_ast.specs.Trees as tree
use Rattle.td_core.specs.Types.{bits}
use Rattle.td_elab_rules.specs.declared.breach.Rule.TheVariants.{Unknown, NotReadable, Mismatch, Narrowing, NotConstant, BadAction}
use Rattle.td_elab_rules.specs.declared.breach.Breach.{Breach}
use Rattle.td_elab_rules.specs.declared.expressions.Sort.{Sort}
use Rattle.td_elab_rules.specs.declared.expressions.Sort.TheVariants as sort
use Rattle.td_elab_rules.specs.declared.expressions.Operation.{Operation}
use Rattle.td_elab_rules.specs.declared.expressions.Operation.TheVariants.{Computes, Compares, Both, Either}
use Rattle.td_elab_rules.specs.declared.known.Meaning.TheVariants as meaning
use Rattle.td_elab_rules.specs.declared.known.Local.TheVariants as local
use Rattle.td_elab_rules.specs.declared.known.Found.{Found}
use Rattle.td_elab_rules.specs.declared.known.Found.TheVariants as found
use Rattle.td_elab_rules.specs.declared.known.Known.{Known}
use Rattle.td_elab_rules.specs.declared.known.Scope.{Scope}
use Rattle.td_elab_rules.specs.Breach.{when}
use Rattle.td_elab_rules.specs.Known.{found_in}
use Rattle.td_elab_rules.specs.Sorts.{operation, type_alone, size_named, sort_of}

-- what stands where a number is wanted is no number; what stands where a truth value is wanted is none. Of what is
-- broken nothing is said.
abbrev pub is_truth : Sort → Bool
is_truth sort.Truth = true
is_truth sort.Broken = false
is_truth sort.Untyped = false
is_truth (sort.Literal n) = false
is_truth (sort.Typed w) = false

abbrev pub is_number : Sort → Bool
is_number sort.Untyped = true
is_number (sort.Literal n) = true
is_number (sort.Typed w) = true
is_number sort.Broken = false
is_number sort.Truth = false

-- N1, N3, Y1: the name of a value: not known; a field that is no number; a name of another sort
abbrev pub name_breaches : Found → Span → List Breach
name_breaches found.Nothing at = when true Unknown at
name_breaches (found.Local (local.Value i w most)) at = []
name_breaches (found.Local local.Unreadable) at = when true NotReadable at
name_breaches (found.Local (local.Cell c t)) at = when true Mismatch at
name_breaches (found.Local (local.Row c r)) at = when true Mismatch at
name_breaches (found.Local (local.Buffer n)) at = when true Mismatch at
name_breaches (found.Global (meaning.Constant n)) at = []
name_breaches (found.Global (meaning.Member n)) at = []
name_breaches (found.Global (meaning.Number t)) at = when true Mismatch at
name_breaches (found.Global (meaning.Enum t v)) at = when true Mismatch at
name_breaches (found.Global (meaning.Type j)) at = when true Mismatch at
name_breaches (found.Global (meaning.Record r)) at = when true Mismatch at

abbrev pub is_nothing : Found → Bool
is_nothing found.Nothing = true
is_nothing (found.Local l) = false
is_nothing (found.Global m) = false

-- a type whose size may be asked for
abbrev pub is_type : Found → Bool
is_type found.Nothing = false
is_type (found.Local l) = false
is_type (found.Global (meaning.Constant n)) = false
is_type (found.Global (meaning.Member n)) = false
is_type (found.Global (meaning.Number t)) = true
is_type (found.Global (meaning.Enum t v)) = true
is_type (found.Global (meaning.Type j)) = true
is_type (found.Global (meaning.Record r)) = false

-- `sizeof` at `own`, of what stands at `place`. N1, Y1: what is named is no type. Y3: a type without constant size, or
-- `this` outside a struct.
abbrev pub size_breaches : Known → Scope → Span → SizeofOperand → Span → List Breach
size_breaches k s own (operand.Number t) place = []
size_breaches k s own (operand.Name n) place =
    when (is_nothing (found_in k s n)) Unknown place
    ++ (when (not (is_nothing (found_in k s n)) && not (is_type (found_in k s n))) Mismatch place
    ++ when (is_type (found_in k s n) && is_none (size_named k s (operand.Name n))) NotConstant own)
size_breaches k s own operand.This place = when (is_none s.this) NotConstant own

-- Y1: a whole expression at a place of the other sort
abbrev pub wanted_number : Known → Scope → Tree → List Breach
wanted_number k s e = when (is_truth (sort_of k s e)) Mismatch (span_of e)

abbrev pub wanted_truth : Known → Scope → Tree → List Breach
wanted_truth k s e = when (is_number (sort_of k s e)) Mismatch (span_of e)

-- Y1: an operand of the wrong sort
abbrev pub is_wrong_operand : UnaryOperator → Sort → Bool
is_wrong_operand Not a = is_number a
is_wrong_operand Complement a = is_truth a

abbrev pub are_wrong_operands : Operation → Sort → Sort → Bool
are_wrong_operands (Computes op) a b = is_truth a || is_truth b
are_wrong_operands (Compares r) a b = is_truth a || is_truth b
are_wrong_operands Both a b = is_number a || is_number b
are_wrong_operands Either a b = is_number a || is_number b

-- Y1: a condition that is a number, or branches of two sorts
abbrev pub is_wrong_choice : Sort → Sort → Sort → Bool
is_wrong_choice c a b = is_number c || ((is_truth a && is_number b) || (is_number a && is_truth b))

abbrev pub expr_breaches : Known → Scope → Tree → List Breach
expr_breaches k s (tree.Number at n base) = []
expr_breaches k s (tree.Truth at b) = []
expr_breaches k s (tree.Name at n) = name_breaches (found_in k s n.text) n.span
expr_breaches k s (tree.FieldPos at own) = when (is_none s.start) BadAction own
expr_breaches k s (tree.Sizeof at own z place) = size_breaches k s own z place
expr_breaches k s (tree.RangeOkay at z o a) =
    expr_breaches k s z ++ (expr_breaches k s o ++ (expr_breaches k s a
    ++ (wanted_number k s z ++ (wanted_number k s o ++ wanted_number k s a))))
expr_breaches k s (tree.Unary at op own a) = expr_breaches k s a ++ when (is_wrong_operand op (sort_of k s a)) Mismatch own
expr_breaches k s (tree.Binary at op own a b) =
    expr_breaches k s a ++ (expr_breaches k s b
    ++ when (are_wrong_operands (operation op) (sort_of k s a) (sort_of k s b)) Mismatch own)
expr_breaches k s (tree.Choice at own c a b) =
    expr_breaches k s c ++ (expr_breaches k s a ++ (expr_breaches k s b
    ++ when (is_wrong_choice (sort_of k s c) (sort_of k s a) (sort_of k s b)) Mismatch own))

-- at a place that takes a number, or a truth value
abbrev pub number_breaches : Known → Scope → Tree → List Breach
number_breaches k s e = expr_breaches k s e ++ wanted_number k s e

abbrev pub truth_breaches : Known → Scope → Tree → List Breach
truth_breaches k s e = expr_breaches k s e ++ wanted_truth k s e

-- Y2: a value that is wider than its place
abbrev pub is_wider : Option Scalar → Scalar → Bool
is_wider None w = false
is_wider (Some v) w = nat_lt (bits w) (bits v)

abbrev pub fitting_breaches : Known → Scope → Scalar → Tree → List Breach
fitting_breaches k s w e = number_breaches k s e ++ when (is_wider (type_alone (sort_of k s e)) w) Narrowing (span_of e)

-- a refinement, or `where`
abbrev pub test_breaches : Known → Scope → Option Tree → List Breach
test_breaches k s None = []
test_breaches k s (Some e) = truth_breaches k s e
