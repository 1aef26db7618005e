-- An expression that breaks no rule has a sort, and one that is a number has a type by itself.
use Rattle.std.proofs.Common.{◌≡◌, ℕ, true, false, not, ◌&&◌, [], refl, Option, Some, None, is_none}
use Rattle.td_ast.specs.declared.expressions.UnaryOperator.{UnaryOperator}
use Rattle.td_ast.specs.declared.expressions.UnaryOperator.TheVariants.{Not, Complement}
use Rattle.td_image_fits.specs.Imports.{Span, Scalar, Binary, Mismatch, BadAction, Known, Scope}
use Rattle.td_ast.specs.Trees.{Tree, span_of}
use Rattle.td_ast.specs.Trees as tree
use Rattle.td_core.specs.Types.{computed_type}
use Rattle.td_elab_rules.specs.declared.expressions.Sort.{Sort}
use Rattle.td_elab_rules.specs.declared.expressions.Sort.TheVariants as sort
use Rattle.td_elab_rules.specs.declared.expressions.Operation.{Operation}
use Rattle.td_elab_rules.specs.declared.expressions.Operation.TheVariants.{Computes, Compares, Both, Either}
use Rattle.td_elab_rules.specs.declared.known.Meaning.TheVariants as meaning
use Rattle.td_elab_rules.specs.declared.known.Local.TheVariants as local
use Rattle.td_elab_rules.specs.declared.known.Found.{Found}
use Rattle.td_elab_rules.specs.declared.known.Found.TheVariants as found
use Rattle.td_elab_rules.specs.Known.{found_in}
use Rattle.td_elab_rules.specs.Sorts.{operation, narrowest, type_alone, literal_type, type_beside, typed_by, computed_sort, operation_sort, typed, unary_sort, choice_sort, size_found, size_named, size_sort, found_sort, start_sort, sort_of}
use Rattle.td_elab_rules.specs.ExprRules.{is_truth, is_number, name_breaches, is_nothing, is_type, is_wrong_operand, are_wrong_operands, is_wrong_choice, expr_breaches, number_breaches}
use Rattle.td_elab_rules.proofs.Sorting.{when_none, sized as some_size}
use Rattle.td_num.proofs.Lists.{left_none, right_none}
use Rattle.td_elab_rules.proofs.Naming.{or_left, or_right}

abbrev pub HasSort : Sort → Type 0
HasSort sort.Broken = ⊥
HasSort sort.Untyped = ⊥
HasSort sort.Truth = Unit {0}
HasSort (sort.Literal n) = Unit {0}
HasSort (sort.Typed w) = Unit {0}

-- ---- by kinds of expressions

name_sorted : (f : Found) (at : Span) → name_breaches f at ≡ [] → HasSort (found_sort f)
name_sorted found.Nothing at e = absurd cc
name_sorted (found.Local (local.Value i w most)) at e = tt
name_sorted (found.Local local.Unreadable) at e = absurd cc
name_sorted (found.Local (local.Cell c t)) at e = absurd cc
name_sorted (found.Local (local.Row c r)) at e = absurd cc
name_sorted (found.Local (local.Buffer n)) at e = absurd cc
name_sorted (found.Global (meaning.Constant n)) at e = tt
name_sorted (found.Global (meaning.Member n)) at e = tt
name_sorted (found.Global (meaning.Number t)) at e = absurd cc
name_sorted (found.Global (meaning.Enum t v)) at e = absurd cc
name_sorted (found.Global (meaning.Type j)) at e = absurd cc
name_sorted (found.Global (meaning.Record r)) at e = absurd cc

start_sorted : (o : Option ℕ) → is_none o ≡ false → HasSort (start_sort o)
start_sorted None e = absurd cc
start_sorted (Some i) e = tt

size_sorted : (o : Option ℕ) → is_none o ≡ false → HasSort (size_sort o)
size_sorted None e = absurd cc
size_sorted (Some n) e = tt

-- of a name that is a type of constant size
named_size : (k : Known) (f : Found) → is_nothing f ≡ false → (not (is_nothing f) && not (is_type f)) ≡ false → (is_type f && is_none (size_found k f)) ≡ false → is_none (size_found k f) ≡ false
named_size k found.Nothing a b c = absurd cc
named_size k (found.Local l) a b c = absurd cc
named_size k (found.Global (meaning.Constant n)) a b c = absurd cc
named_size k (found.Global (meaning.Member n)) a b c = absurd cc
named_size k (found.Global (meaning.Number t)) a b c = c
named_size k (found.Global (meaning.Enum t v)) a b c = c
named_size k (found.Global (meaning.Type j)) a b c = c
named_size k (found.Global (meaning.Record r)) a b c = absurd cc

-- a number has a type, alone and beside another operand
pub type_is : (a : Sort) → HasSort a → is_truth a ≡ false → (w : Scalar) × (type_alone a ≡ Some w)
type_is sort.Broken h e = absurd h
type_is sort.Untyped h e = absurd h
type_is sort.Truth h e = absurd cc
type_is (sort.Literal n) h e = (narrowest n, refl)
type_is (sort.Typed w) h e = (w, refl)

beside_is : (a b : Sort) → HasSort a → is_truth a ≡ false → (w : Scalar) × (type_beside a b ≡ Some w)
beside_is sort.Broken b h e = absurd h
beside_is sort.Untyped b h e = absurd h
beside_is sort.Truth b h e = absurd cc
beside_is (sort.Literal n) b h e = (literal_type n b, refl)
beside_is (sort.Typed w) b h e = (w, refl)

by_types : (f : Scalar → Scalar → Scalar) (a b : Option Scalar) (v w : Scalar) → a ≡ Some v → b ≡ Some w → HasSort (typed_by f a b)
by_types f (Some x) (Some y) v w e g = tt
by_types f None b v w e g = absurd cc
by_types f (Some x) None v w e g = absurd cc

computed_sorted : (op : Binary) (a b : Sort) → HasSort a → HasSort b → is_truth a ≡ false → is_truth b ≡ false → HasSort (computed_sort op a b)
computed_sorted op a b h g e f =
    let x = beside_is a b h e in
    let y = beside_is b a g f in
    by_types (computed_type op) (type_beside a b) (type_beside b a) x.0 y.0 x.1 y.1

operation_sorted : (o : Operation) (a b : Sort) → HasSort a → HasSort b → are_wrong_operands o a b ≡ false → HasSort (operation_sort o a b)
operation_sorted (Computes op) a b h g e = computed_sorted op a b h g (or_left (is_truth a) (is_truth b) e) (or_right (is_truth a) (is_truth b) e)
operation_sorted (Compares r) a b h g e = tt
operation_sorted Both a b h g e = tt
operation_sorted Either a b h g e = tt

typed_sorted : (o : Option Scalar) (w : Scalar) → o ≡ Some w → HasSort (typed o)
typed_sorted None w e = absurd cc
typed_sorted (Some v) w e = tt

unary_sorted : (op : UnaryOperator) (a : Sort) → HasSort a → is_wrong_operand op a ≡ false → HasSort (unary_sort op a)
unary_sorted Not a h e = tt
unary_sorted Complement a h e = (let x = type_is a h e in typed_sorted (type_alone a) x.0 x.1)

-- branches of one sort
choice_sorted : (c a b : Sort) → HasSort a → HasSort b → is_wrong_choice c a b ≡ false → HasSort (choice_sort a b)
choice_sorted c sort.Broken b h g e = absurd h
choice_sorted c sort.Untyped b h g e = absurd h
choice_sorted c a sort.Broken h g e = absurd g
choice_sorted c a sort.Untyped h g e = absurd g
choice_sorted c sort.Truth sort.Truth h g e = tt
choice_sorted c sort.Truth (sort.Literal m) h g e = absurd (let x = or_right (is_number c) true e in cc)
choice_sorted c sort.Truth (sort.Typed v) h g e = absurd (let x = or_right (is_number c) true e in cc)
choice_sorted c (sort.Literal n) sort.Truth h g e = absurd (let x = or_right (is_number c) true e in cc)
choice_sorted c (sort.Literal n) (sort.Literal m) h g e = tt
choice_sorted c (sort.Literal n) (sort.Typed v) h g e = tt
choice_sorted c (sort.Typed w) sort.Truth h g e = absurd (let x = or_right (is_number c) true e in cc)
choice_sorted c (sort.Typed w) (sort.Literal m) h g e = tt
choice_sorted c (sort.Typed w) (sort.Typed v) h g e = tt

pub expr_sorted : (k : Known) (s : Scope) (e : Tree) → expr_breaches k s e ≡ [] → HasSort (sort_of k s e)
expr_sorted k s (tree.Number at n base) h = tt
expr_sorted k s (tree.Truth at b) h = tt
expr_sorted k s (tree.Name at n) h = name_sorted (found_in k s n.text) n.span h
expr_sorted k s (tree.FieldPos at own) h = start_sorted s.start (when_none (is_none s.start) BadAction own h)
expr_sorted k s (tree.Sizeof at own z place) h = size_sorted (size_named k s z) (some_size k s own place z h)
expr_sorted k s (tree.RangeOkay at z o a) h = tt
expr_sorted k s (tree.Unary at op own a) h =
    unary_sorted op (sort_of k s a) (expr_sorted k s a (left_none (expr_breaches k s a) _ h)) (when_none (is_wrong_operand op (sort_of k s a)) Mismatch own (right_none (expr_breaches k s a) _ h))
expr_sorted k s (tree.Binary at op own a b) h =
    let rest = right_none (expr_breaches k s a) _ h in
    operation_sorted (operation op) (sort_of k s a) (sort_of k s b) (expr_sorted k s a (left_none (expr_breaches k s a) _ h)) (expr_sorted k s b (left_none (expr_breaches k s b) _ rest))
    (when_none (are_wrong_operands (operation op) (sort_of k s a) (sort_of k s b)) Mismatch own (right_none (expr_breaches k s b) _ rest))
expr_sorted k s (tree.Choice at own c a b) h =
    let rest = right_none (expr_breaches k s c) _ h in
    let more = right_none (expr_breaches k s a) _ rest in
    choice_sorted (sort_of k s c) (sort_of k s a) (sort_of k s b) (expr_sorted k s a (left_none (expr_breaches k s a) _ rest)) (expr_sorted k s b (left_none (expr_breaches k s b) _ more))
    (when_none (is_wrong_choice (sort_of k s c) (sort_of k s a) (sort_of k s b)) Mismatch own (right_none (expr_breaches k s b) _ more))

-- a number's type
pub number_typed : (k : Known) (s : Scope) (e : Tree) → number_breaches k s e ≡ [] → (w : Scalar) × (type_alone (sort_of k s e) ≡ Some w)
number_typed k s e h =
    type_is (sort_of k s e) (expr_sorted k s e (left_none (expr_breaches k s e) _ h)) (when_none (is_truth (sort_of k s e)) Mismatch (span_of e) (right_none (expr_breaches k s e) _ h))
