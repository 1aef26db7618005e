-- In an expression that breaks no rule, truth values stand where truth values must, and numbers where numbers must. Cited by other crates.
use Rattle.std.proofs.Common.{◌≡◌, ◌≢◌, ℕ, ◌+◌, Bool, true, false, cond, not, ◌&&◌, ◌||◌, if◌then◌else◌, List, [], ◌∷◌, ◌++◌, refl, sym, ◌∙◌, subst, Option, Some, None, is_some, is_none, nat_lt, nat_le}
use Rattle.std.proofs.lemmas.Option.{none-some, same_Some}
use Rattle.std.specs.Str.{bytes_eq}
use Rattle.td_elab_rules.specs.Imports.{Width, UnaryOperator, Not, Complement, SizeofOperand, Span, Scalar, Truth, Eight, Sixteen, ThirtyTwo, SixtyFour, Binary}
use Rattle.td_num.specs.declared.number.Width.TheVariants.{One, Two, Four, Eight as EightBytes}
use Rattle.td_ast.specs.declared.expressions.SizeofOperand.TheVariants as operand
use Rattle.td_ast.specs.Trees.{Tree, span_of}
use Rattle.td_ast.specs.Trees as tree
use Rattle.td_core.specs.declared.expressions.Binary.TheVariants as binary
use Rattle.td_core.specs.Term.{Term, number}
use Rattle.td_core.specs.Types.{bits, limit, wider, computed_type, type_of}
use Rattle.td_core.specs.Formed.{scalar_of}
use Rattle.td_core.specs.WellFormed.{IsSorted, OfSome}
use Rattle.td_names.specs.Names.{looked_up, declared}
use Rattle.td_elab_rules.specs.declared.breach.Rule.{Rule}
use Rattle.td_elab_rules.specs.declared.breach.Rule.TheVariants.{Unknown, Mismatch, NotConstant}
use Rattle.td_elab_rules.specs.declared.expressions.Sort.{Sort}
use Rattle.td_elab_rules.specs.declared.expressions.Sort.TheVariants as sort
use Rattle.td_elab_rules.specs.declared.expressions.Operation.{Operation}
use Rattle.td_elab_rules.specs.declared.expressions.Operation.TheVariants.{Computes, Compares, Both, Either}
use Rattle.td_elab_rules.specs.declared.known.Meaning.{Meaning}
use Rattle.td_elab_rules.specs.declared.known.Meaning.TheVariants as meaning
use Rattle.td_elab_rules.specs.declared.known.Local.{Local}
use Rattle.td_elab_rules.specs.declared.known.Local.TheVariants as local
use Rattle.td_elab_rules.specs.declared.known.Found.{Found}
use Rattle.td_elab_rules.specs.declared.known.Found.TheVariants as found
use Rattle.td_elab_rules.specs.declared.known.Known.{Known}
use Rattle.td_elab_rules.specs.declared.known.Scope.{Scope}
use Rattle.td_elab_rules.specs.Breach.{when}
use Rattle.td_elab_rules.specs.Known.{global_found, local_found, found_in}
use Rattle.td_elab_rules.specs.Sorts.{operation, narrowest, type_alone, literal_type, type_beside, typed_by, computed_sort, operation_sort, typed, unary_sort, choice_sort, size_found, size_named, size_sort, found_sort, start_sort, sort_of, literal_of, found_core, start_core, size_core, truth_core, beside, unary_core, operation_core, range_core, core_of, option_core}
use Rattle.td_elab_rules.specs.ExprRules.{is_truth, is_number, name_breaches, is_nothing, is_type, size_breaches, wanted_number, is_wrong_operand, are_wrong_operands, is_wrong_choice, expr_breaches, number_breaches, truth_breaches, fitting_breaches, test_breaches}
use Rattle.td_num.proofs.Lists.{left_none, right_none}
use Rattle.td_elab_rules.proofs.Naming.{or_left, or_right}

-- Lists without breaches

pub when_none : (b : Bool) (r : Rule) (s : Span) → when b r s ≡ [] → b ≡ false
when_none false r s e = refl
when_none true r s e = cc

-- Types of numbers

pub narrow_number : (n : ℕ) → narrowest n ≢ Truth
narrow_number n = by (nat_lt n (limit Eight)) (nat_lt n (limit Sixteen)) (nat_lt n (limit ThirtyTwo))
  where
    by : (a b c : Bool) → cond a Eight (cond b Sixteen (cond c ThirtyTwo SixtyFour)) ≢ Truth
    by true b c = λ e. cc
    by false true c = λ e. cc
    by false false true = λ e. cc
    by false false false = λ e. cc

wider_number : (v w : Scalar) → v ≢ Truth → w ≢ Truth → wider v w ≢ Truth
wider_number v w h g = by (nat_le (bits v) (bits w))
  where
    by : (b : Bool) → cond b w v ≢ Truth
    by true = g
    by false = h

computed_number : (op : Binary) (v w : Scalar) → v ≢ Truth → w ≢ Truth → computed_type op v w ≢ Truth
computed_number binary.Add v w h g = wider_number v w h g
computed_number binary.Subtract v w h g = wider_number v w h g
computed_number binary.Multiply v w h g = wider_number v w h g
computed_number binary.Divide v w h g = wider_number v w h g
computed_number binary.Remainder v w h g = wider_number v w h g
computed_number binary.BitAnd v w h g = wider_number v w h g
computed_number binary.BitOr v w h g = wider_number v w h g
computed_number binary.BitXor v w h g = wider_number v w h g
computed_number binary.ShiftLeft v w h g = h
computed_number binary.ShiftRight v w h g = h

pub scalar_number : (w : Width) → scalar_of w ≢ Truth
scalar_number One = λ e. cc
scalar_number Two = λ e. cc
scalar_number Four = λ e. cc
scalar_number EightBytes = λ e. cc

-- Locals that are numbers

abbrev pub IsLocalNumber : Local → Type 0
IsLocalNumber (local.Value i w most) = w ≢ Truth
IsLocalNumber local.Unreadable = Unit {0}
IsLocalNumber (local.Cell c t) = Unit {0}
IsLocalNumber (local.Row c r) = Unit {0}
IsLocalNumber (local.Buffer n) = Unit {0}

abbrev pub AreLocalNumbers : List (List ℕ × Local) → Type 0
AreLocalNumbers [] = Unit {0}
AreLocalNumbers (l ∷ ls) = IsLocalNumber l.1 × AreLocalNumbers ls

pub record HasNumbers (s : Scope) : Type 0 where
  pub locals : AreLocalNumbers s.locals

abbrev IsFoundNumber : Found → Type 0
IsFoundNumber found.Nothing = Unit {0}
IsFoundNumber (found.Local l) = IsLocalNumber l
IsFoundNumber (found.Global m) = Unit {0}

looked : (ls : List (List ℕ × Local)) (name : List ℕ) (l : Local) → AreLocalNumbers ls → looked_up ls name ≡ Some l → IsLocalNumber l
looked [] name l h e = absurd (none-some l e)
looked (x ∷ ls) name l h e = by (looked ls name l h.1) (bytes_eq name x.0) e
  where
    by : (looked_up ls name ≡ Some l → IsLocalNumber l) → (b : Bool) → (if b then Some x.1 else looked_up ls name) ≡ Some l → IsLocalNumber l
    by later true e = subst IsLocalNumber (same_Some x.1 l e) h.0
    by later false e = later e

global_number : (m : Option Meaning) → IsFoundNumber (global_found m)
global_number None = tt
global_number (Some m) = tt

found_number : (k : Known) (s : Scope) (name : List ℕ) → HasNumbers s → IsFoundNumber (found_in k s name)
found_number k s name h = by (looked_up s.locals name) refl
  where
    by : (o : Option Local) → looked_up s.locals name ≡ o → IsFoundNumber (local_found o (global_found (looked_up k.globals name)))
    by None e = global_number (looked_up k.globals name)
    by (Some l) e = looked s.locals name l h.locals e

pub numbers_declared : (ls : List (List ℕ × Local)) (x : List ℕ) (l : Local) → AreLocalNumbers ls → IsLocalNumber l → AreLocalNumbers (declared ls x l)
numbers_declared ls x l h g = by (is_some (looked_up ls x))
  where
    push : (ls : List (List ℕ × Local)) → AreLocalNumbers ls → AreLocalNumbers (ls ++ (x, l) ∷ [])
    push [] h = (g, tt)
    push (y ∷ ys) h = (h.0, push ys h.1)

    by : (b : Bool) → AreLocalNumbers (if b then ls else ls ++ (x, l) ∷ [])
    by true = h
    by false = push ls h

-- What a sort says of the core expression

abbrev Says : Sort → Term → Type 0
Says sort.Broken e = ⊥
Says sort.Untyped e = ⊥
Says sort.Truth e = IsSorted true e
Says (sort.Literal n) e = IsSorted false e
Says (sort.Typed w) e = (w ≢ Truth) × IsSorted false e

says_number : (s : Sort) (e : Term) → Says s e → is_truth s ≡ false → IsSorted false e
says_number sort.Broken e h t = absurd h
says_number sort.Untyped e h t = absurd h
says_number sort.Truth e h t = cc
says_number (sort.Literal n) e h t = h
says_number (sort.Typed w) e h t = h.1

says_truth : (s : Sort) (e : Term) → Says s e → is_number s ≡ false → IsSorted true e
says_truth sort.Broken e h t = absurd h
says_truth sort.Untyped e h t = absurd h
says_truth sort.Truth e h t = h
says_truth (sort.Literal n) e h t = cc
says_truth (sort.Typed w) e h t = cc

-- a number has a type beside another number
record Beside (s : Sort) (t : Sort) : Type 0 where
  type : Scalar
  is : type_beside s t ≡ Some type
  number : type ≢ Truth

literal_number : (n : ℕ) (t : Sort) (e : Term) → Says t e → literal_type n t ≢ Truth
literal_number n sort.Broken e h = absurd h
literal_number n sort.Untyped e h = absurd h
literal_number n sort.Truth e h = narrow_number n
literal_number n (sort.Literal m) e h = wider_number (narrowest n) (narrowest m) (narrow_number n) (narrow_number m)
literal_number n (sort.Typed w) e h = by (nat_lt n (limit w))
  where
    by : (b : Bool) → cond b w (narrowest n) ≢ Truth
    by true = h.0
    by false = narrow_number n

beside_type : (s t : Sort) (a b : Term) → Says s a → Says t b → is_truth s ≡ false → Beside s t
beside_type sort.Broken t a b h g e = absurd h
beside_type sort.Untyped t a b h g e = absurd h
beside_type sort.Truth t a b h g e = cc
beside_type (sort.Literal n) t a b h g e = record { type = literal_type n t; is = refl; number = literal_number n t b g }
beside_type (sort.Typed w) t a b h g e = record { type = w; is = refl; number = h.0 }

literal_sorted : (n : ℕ) (w : Scalar) → w ≢ Truth → IsSorted false (literal_of n w)
literal_sorted n w h = by (nat_lt n (limit w))
  where
    by : (b : Bool) → IsSorted false (cond b (number n w) (number 0 w))
    by true = (h, tt)
    by false = (h, tt)

-- an operand that is a number, settled beside the other
beside_sorted : (s t : Sort) (a b : Term) → Says s a → Says t b → is_truth s ≡ false → IsSorted false (beside s t a)
beside_sorted sort.Broken t a b h g e = absurd h
beside_sorted sort.Untyped t a b h g e = absurd h
beside_sorted sort.Truth t a b h g e = cc
beside_sorted (sort.Literal n) t a b h g e = literal_sorted n (literal_type n t) (literal_number n t b g)
beside_sorted (sort.Typed w) t a b h g e = h.1

typed_both : (f : Scalar → Scalar → Scalar) (o p : Option Scalar) (v w : Scalar) → o ≡ Some v → p ≡ Some w → typed_by f o p ≡ sort.Typed (f v w)
typed_both f o p v w e g = λ i. typed_by f (e i) (g i)

-- Operators

computes_says : (op : Binary) (at : Span) (s t : Sort) (a b : Term) → Says s a → Says t b → (is_truth s || is_truth t) ≡ false → Says (computed_sort op s t) (operation_core (Computes op) at s t a b)
computes_says op at s t a b h g e =
    let x = beside_type s t a b h g (or_left (is_truth s) (is_truth t) e) in
    let y = beside_type t s b a g h (or_right (is_truth s) (is_truth t) e) in
    let left = beside_sorted s t a b h g (or_left (is_truth s) (is_truth t) e) in
    let right = beside_sorted t s b a g h (or_right (is_truth s) (is_truth t) e) in
    subst (λ z. Says z (operation_core (Computes op) at s t a b)) (sym (typed_both (computed_type op) (type_beside s t) (type_beside t s) x.type y.type x.is y.is))
    (computed_number op x.type y.type x.number y.number, (computed_number op (type_of (beside s t a)) (type_of (beside t s b)) left.0 right.0, (left, right)))

operation_says : (o : Operation) (at : Span) (s t : Sort) (a b : Term) → Says s a → Says t b → are_wrong_operands o s t ≡ false → Says (operation_sort o s t) (operation_core o at s t a b)
operation_says (Computes op) at s t a b h g e = computes_says op at s t a b h g e
operation_says (Compares r) at s t a b h g e = (refl, (beside_sorted s t a b h g (or_left (is_truth s) (is_truth t) e), beside_sorted t s b a g h (or_right (is_truth s) (is_truth t) e)))
operation_says Both at s t a b h g e = (refl, (says_truth s a h (or_left (is_number s) (is_number t) e), says_truth t b g (or_right (is_number s) (is_number t) e)))
operation_says Either at s t a b h g e = (refl, (says_truth s a h (or_left (is_number s) (is_number t) e), says_truth t b g (or_right (is_number s) (is_number t) e)))

complement_says : (s : Sort) (a : Term) → Says s a → is_truth s ≡ false → Says (typed (type_alone s)) (unary_core Complement a)
complement_says sort.Broken a h e = absurd h
complement_says sort.Untyped a h e = absurd h
complement_says sort.Truth a h e = cc
complement_says (sort.Literal n) a h e = (narrow_number n, (h.0, h))
complement_says (sort.Typed w) a h e = (h.0, (h.1.0, h.1))

unary_says : (op : UnaryOperator) (s : Sort) (a : Term) → Says s a → is_wrong_operand op s ≡ false → Says (unary_sort op s) (unary_core op a)
unary_says Not s a h e = (refl, says_truth s a h e)
unary_says Complement s a h e = complement_says s a h e

-- both branches are truth values, or both numbers
choice_numbers : (s t : Sort) (c a b : Term) → Says s a → Says t b → IsSorted true c → is_truth s ≡ false → is_truth t ≡ false → choice_sort s t ≡ typed_by wider (type_beside s t) (type_beside t s)
    → Says (choice_sort s t) (Rattle.td_core.specs.Term.choice c (beside s t a) (beside t s b))
choice_numbers s t c a b h g i e f same =
    let x = beside_type s t a b h g e in
    let y = beside_type t s b a g h f in
    let left = beside_sorted s t a b h g e in
    let right = beside_sorted t s b a g h f in
    subst (λ z. Says z (Rattle.td_core.specs.Term.choice c (beside s t a) (beside t s b))) (sym (same ∙ typed_both wider (type_beside s t) (type_beside t s) x.type y.type x.is y.is))
    (wider_number x.type y.type x.number y.number, (wider_number (type_of (beside s t a)) (type_of (beside t s b)) left.0 right.0, (i, (false, (left, right)))))

truth_wider : (v w : Scalar) → v ≡ Truth → w ≡ Truth → wider v w ≡ Truth
truth_wider v w e f = λ i. wider (e i) (f i)

choice_says : (r s t : Sort) (c a b : Term) → Says r c → Says s a → Says t b → is_wrong_choice r s t ≡ false → Says (choice_sort s t) (Rattle.td_core.specs.Term.choice c (beside s t a) (beside t s b))
choice_says r s t c a b hr hs ht e = by s t hs ht (or_right (is_number r) _ e)
  where
    condition : IsSorted true c
    condition = says_truth r c hr (or_left (is_number r) _ e)

    by : (s t : Sort) → Says s a → Says t b → ((is_truth s && is_number t) || (is_number s && is_truth t)) ≡ false → Says (choice_sort s t) (Rattle.td_core.specs.Term.choice c (beside s t a) (beside t s b))
    by sort.Broken t hs ht f = absurd hs
    by sort.Untyped t hs ht f = absurd hs
    by sort.Truth sort.Broken hs ht f = absurd ht
    by sort.Truth sort.Untyped hs ht f = absurd ht
    by sort.Truth sort.Truth hs ht f = (truth_wider (type_of a) (type_of b) hs.0 ht.0, (condition, (true, (hs, ht))))
    by sort.Truth (sort.Literal n) hs ht f = cc
    by sort.Truth (sort.Typed w) hs ht f = cc
    by (sort.Literal n) sort.Broken hs ht f = absurd ht
    by (sort.Literal n) sort.Untyped hs ht f = absurd ht
    by (sort.Literal n) sort.Truth hs ht f = cc
    by (sort.Literal n) (sort.Literal m) hs ht f = choice_numbers (sort.Literal n) (sort.Literal m) c a b hs ht condition refl refl refl
    by (sort.Literal n) (sort.Typed w) hs ht f = choice_numbers (sort.Literal n) (sort.Typed w) c a b hs ht condition refl refl refl
    by (sort.Typed v) sort.Broken hs ht f = absurd ht
    by (sort.Typed v) sort.Untyped hs ht f = absurd ht
    by (sort.Typed v) sort.Truth hs ht f = cc
    by (sort.Typed v) (sort.Literal m) hs ht f = choice_numbers (sort.Typed v) (sort.Literal m) c a b hs ht condition refl refl refl
    by (sort.Typed v) (sort.Typed w) hs ht f = choice_numbers (sort.Typed v) (sort.Typed w) c a b hs ht condition refl refl refl

-- Operands without parts

truth_says : (b : Bool) → Says sort.Truth (truth_core b)
truth_says true = (refl, tt)
truth_says false = (refl, tt)

name_says : (f : Found) (at : Span) → IsFoundNumber f → name_breaches f at ≡ [] → Says (found_sort f) (found_core f)
name_says found.Nothing at h e = cc
name_says (found.Local (local.Value i w most)) at h e = (h, (h, tt))
name_says (found.Local local.Unreadable) at h e = cc
name_says (found.Local (local.Cell c t)) at h e = cc
name_says (found.Local (local.Row c r)) at h e = cc
name_says (found.Local (local.Buffer n)) at h e = cc
name_says (found.Global (meaning.Constant n)) at h e = literal_sorted n (narrowest n) (narrow_number n)
name_says (found.Global (meaning.Member n)) at h e = literal_sorted n (narrowest n) (narrow_number n)
name_says (found.Global (meaning.Number t)) at h e = cc
name_says (found.Global (meaning.Enum t v)) at h e = cc
name_says (found.Global (meaning.Type j)) at h e = cc
name_says (found.Global (meaning.Record r)) at h e = cc

start_says : (o : Option ℕ) → is_none o ≡ false → Says (start_sort o) (start_core o)
start_says None e = cc
start_says (Some i) e = ((λ z. cc), ((λ z. cc), tt))

size_says : (o : Option ℕ) → is_none o ≡ false → Says (size_sort o) (size_core o)
size_says None e = cc
size_says (Some n) e = literal_sorted n (narrowest n) (narrow_number n)

found_sized : (k : Known) (f : Found) (own place : Span) → when (is_nothing f) Unknown place ++ (when (not (is_nothing f) && not (is_type f)) Mismatch place ++ when (is_type f && is_none (size_found k f)) NotConstant own) ≡ [] → is_none (size_found k f) ≡ false
found_sized k f own place e =
    by (is_nothing f) (is_type f) (is_none (size_found k f)) (when_none _ Unknown place (left_none _ _ e)) (when_none _ Mismatch place (left_none _ _ (right_none _ _ e))) (when_none _ NotConstant own (right_none _ _ (right_none _ _ e)))
  where
    by : (a b c : Bool) → a ≡ false → (not a && not b) ≡ false → (b && c) ≡ false → c ≡ false
    by true b c p q r = cc
    by false true c p q r = r
    by false false c p q r = cc

pub sized : (k : Known) (s : Scope) (own place : Span) (z : SizeofOperand) → size_breaches k s own z place ≡ [] → is_none (size_named k s z) ≡ false
sized k s own place (operand.Number t) e = refl
sized k s own place (operand.Name n) e = found_sized k (found_in k s n) own place e
sized k s own place operand.This e = when_none (is_none s.this) NotConstant own e

range_says : (r s t : Sort) (a b c : Term) → Says r a → Says s b → Says t c → is_truth r ≡ false → is_truth s ≡ false → is_truth t ≡ false → Says sort.Truth (range_core r s t a b c)
range_says r s t a b c hr hs ht er es et =
    let total = beside_sorted r t a c hr ht er in
    let part = beside_sorted t r c a ht hr et in
    let w = wider (type_of (beside r t a)) (type_of (beside t r c)) in
    let number = wider_number (type_of (beside r t a)) (type_of (beside t r c)) total.0 part.0 in
    (refl, (total, (offset s hs es w number, part)))
  where
    offset : (s : Sort) → Says s b → is_truth s ≡ false → (w : Scalar) → w ≢ Truth → IsSorted false (beside s (sort.Typed w) b)
    offset sort.Broken h e w n = absurd h
    offset sort.Untyped h e w n = absurd h
    offset sort.Truth h e w n = cc
    offset (sort.Literal m) h e w n = literal_sorted m (literal_type m (sort.Typed w)) (literal_number m (sort.Typed w) (number 0 w) (n, (n, tt)))
    offset (sort.Typed v) h e w n = h.1

pub says : (k : Known) (s : Scope) (e : Tree) → HasNumbers s → expr_breaches k s e ≡ [] → Says (sort_of k s e) (core_of k s e)
says k s (tree.Number at n base) h e = literal_sorted n (narrowest n) (narrow_number n)
says k s (tree.Truth at b) h e = truth_says b
says k s (tree.Name at n) h e = name_says (found_in k s n.text) n.span (found_number k s n.text h) e
says k s (tree.FieldPos at own) h e = start_says s.start (when_none (is_none s.start) _ own e)
says k s (tree.Sizeof at own z place) h e = size_says (size_named k s z) (sized k s own place z e)
says k s (tree.RangeOkay at z o a) h e =
    let rest = right_none (expr_breaches k s z) _ e in
    let more = right_none (expr_breaches k s o) _ rest in
    let wanted = right_none (expr_breaches k s a) _ more in
    let wanted_more = right_none (wanted_number k s z) _ wanted in
    range_says (sort_of k s z) (sort_of k s o) (sort_of k s a) (core_of k s z) (core_of k s o) (core_of k s a)
    (says k s z h (left_none (expr_breaches k s z) _ e)) (says k s o h (left_none (expr_breaches k s o) _ rest)) (says k s a h (left_none (expr_breaches k s a) _ more))
    (when_none (is_truth (sort_of k s z)) Mismatch (span_of z) (left_none (wanted_number k s z) _ wanted))
    (when_none (is_truth (sort_of k s o)) Mismatch (span_of o) (left_none (wanted_number k s o) _ wanted_more))
    (when_none (is_truth (sort_of k s a)) Mismatch (span_of a) (right_none (wanted_number k s o) _ wanted_more))
says k s (tree.Unary at op own a) h e =
    unary_says op (sort_of k s a) (core_of k s a) (says k s a h (left_none (expr_breaches k s a) _ e)) (when_none (is_wrong_operand op (sort_of k s a)) Mismatch own (right_none (expr_breaches k s a) _ e))
says k s (tree.Binary at op own a b) h e =
    let rest = right_none (expr_breaches k s a) _ e in
    operation_says (operation op) own (sort_of k s a) (sort_of k s b) (core_of k s a) (core_of k s b)
    (says k s a h (left_none (expr_breaches k s a) _ e)) (says k s b h (left_none (expr_breaches k s b) _ rest))
    (when_none (are_wrong_operands (operation op) (sort_of k s a) (sort_of k s b)) Mismatch own (right_none (expr_breaches k s b) _ rest))
says k s (tree.Choice at own c a b) h e =
    let rest = right_none (expr_breaches k s c) _ e in
    let more = right_none (expr_breaches k s a) _ rest in
    choice_says (sort_of k s c) (sort_of k s a) (sort_of k s b) (core_of k s c) (core_of k s a) (core_of k s b)
    (says k s c h (left_none (expr_breaches k s c) _ e)) (says k s a h (left_none (expr_breaches k s a) _ rest)) (says k s b h (left_none (expr_breaches k s b) _ more))
    (when_none (is_wrong_choice (sort_of k s c) (sort_of k s a) (sort_of k s b)) Mismatch own (right_none (expr_breaches k s b) _ more))

pub number_sorted : (k : Known) (s : Scope) (e : Tree) → HasNumbers s → number_breaches k s e ≡ [] → IsSorted false (core_of k s e)
number_sorted k s e h b =
    says_number (sort_of k s e) (core_of k s e) (says k s e h (left_none (expr_breaches k s e) _ b)) (when_none (is_truth (sort_of k s e)) Mismatch (span_of e) (right_none (expr_breaches k s e) _ b))

pub truth_sorted : (k : Known) (s : Scope) (e : Tree) → HasNumbers s → truth_breaches k s e ≡ [] → IsSorted true (core_of k s e)
truth_sorted k s e h b =
    says_truth (sort_of k s e) (core_of k s e) (says k s e h (left_none (expr_breaches k s e) _ b)) (when_none (is_number (sort_of k s e)) Mismatch (span_of e) (right_none (expr_breaches k s e) _ b))

pub fitting_sorted : (k : Known) (s : Scope) (w : Scalar) (e : Tree) → HasNumbers s → fitting_breaches k s w e ≡ [] → IsSorted false (core_of k s e)
fitting_sorted k s w e h b = number_sorted k s e h (left_none (number_breaches k s e) _ b)

pub test_sorted : (k : Known) (s : Scope) (e : Option Tree) → HasNumbers s → test_breaches k s e ≡ [] → OfSome (IsSorted true) (option_core k s e)
test_sorted k s None h b = tt
test_sorted k s (Some e) h b = truth_sorted k s e h b
