-- Expressions have registers enough, and name what is in scope.
use Rattle.std.proofs.Common.{◌≡◌, ℕ, ◌+◌, ◌<◌, ◌≤◌, Bool, List, length, max, subst, arith}
use Rattle.std.proofs.Math.Nat.{le-max_left, le-max_right}
use Rattle.td_lower_means.specs.Imports.{Relation, Equal, NotEqual, Less, LessEqual, Greater, GreaterEqual, Binary as Operator, Add, Subtract, Multiply, Divide, Remainder, BitAnd, BitOr, BitXor, ShiftLeft as ShiftLeftOp, ShiftRight}
use Rattle.td_core.specs.Term.{Term, number, name, complement, negation, compute, compare, both, either, choice, range_okay}
use Rattle.td_core.specs.Formed.{Bound, IsScoped}
use Rattle.td_core.specs.WellFormed.{HasSorts, IsSorted}
use Rattle.td_expr.specs.Sound.{Placed}
use Rattle.td_lower_blocks.specs.Constructs.{Expr, Lit, Slot, Binary, Not, Complement, ShiftLeft, Both, Either, Choice, Range}
use Rattle.td_lower_blocks.specs.Lowered.{expr_of, computed_of, compared_of}
use Rattle.td_lower_blocks.specs.Placed.{Reaches, Truths, IsExpr}
use Rattle.td_lower_blocks.specs.Tops.{top, term_top}
use Rattle.td_expr.proofs.Scoped.{scoped_placed}

pub under_left : (a b R : ℕ) → max a b ≤ R → a ≤ R
under_left a b R h = let l = le-max_left a b in omega (arith, h, l)

pub under_right : (a b R : ℕ) → max a b ≤ R → b ≤ R
under_right a b R h = let l = le-max_right a b in omega (arith, h, l)

-- it has no operators but those that there are
abbrev Known : Expr → Type 0
Known (Lit n) = Unit {0}
Known (Slot place) = Unit {0}
Known (Binary op a b) = (op ≤ 13) × (Known a × Known b)
Known (Not a) = Known a
Known (Complement mask a) = Known a
Known (ShiftLeft mask a b) = Known a × Known b
Known (Both a b) = Known a × Known b
Known (Either a b) = Known a × Known b
Known (Choice c a b) = Known c × (Known a × Known b)
Known (Range size offset access) = Known size × (Known offset × Known access)

known_op : (op : Operator) (mask : ℕ) (a b : Expr) → Known a → Known b → Known (computed_of op mask a b)
known_op Add mask a b p q = (omega arith, (p, q))
known_op Subtract mask a b p q = (omega arith, (p, q))
known_op Multiply mask a b p q = (omega arith, (p, q))
known_op Divide mask a b p q = (omega arith, (p, q))
known_op Remainder mask a b p q = (omega arith, (p, q))
known_op BitAnd mask a b p q = (omega arith, (p, q))
known_op BitOr mask a b p q = (omega arith, (p, q))
known_op BitXor mask a b p q = (omega arith, (p, q))
known_op ShiftLeftOp mask a b p q = (p, q)
known_op ShiftRight mask a b p q = (omega arith, (p, q))

known_relation : (k : Relation) (a b : Expr) → Known a → Known b → Known (compared_of k a b)
known_relation Equal a b p q = (omega arith, (p, q))
known_relation NotEqual a b p q = (omega arith, (p, q))
known_relation Less a b p q = (omega arith, (p, q))
known_relation LessEqual a b p q = (omega arith, (p, q))
known_relation Greater a b p q = (omega arith, (q, p))
known_relation GreaterEqual a b p q = (omega arith, (q, p))

known : (e : Term) → Known (expr_of e)
known (number n w) = tt
known (name i w most) = tt
known (complement a) = known a
known (negation a) = known a
known (compute op s a b) = known_op op _ (expr_of a) (expr_of b) (known a) (known b)
known (compare k a b) = known_relation k (expr_of a) (expr_of b) (known a) (known b)
known (both a b) = (known a, known b)
known (either a b) = (known a, known b)
known (choice c a b) = (known c, (known a, known b))
known (range_okay c a b) = (known c, (known a, known b))

top_above : (e : Expr) (t : ℕ) → t < top t e
top_above (Lit n) t = omega arith
top_above (Slot place) t = let l = le-max_left (t + 1) (place + 1) in omega (arith, l)
top_above (Binary op a b) t = let l = le-max_left (top t a) (top (t + 1) b) in let h = top_above a t in omega (arith, l, h)
top_above (Not a) t = let l = le-max_left (t + 2) (top t a) in omega (arith, l)
top_above (Complement mask a) t = let l = le-max_left (t + 2) (top t a) in omega (arith, l)
top_above (ShiftLeft mask a b) t = let l = le-max_left (top t a) (top (t + 1) b) in let h = top_above a t in omega (arith, l, h)
top_above (Both a b) t = let l = le-max_left (top t a) (top t b) in let h = top_above a t in omega (arith, l, h)
top_above (Either a b) t = let l = le-max_left (top t a) (top t b) in let h = top_above a t in omega (arith, l, h)
top_above (Choice c a b) t = let l = le-max_left (top t c) (max (top t a) (top t b)) in let h = top_above c t in omega (arith, l, h)
top_above (Range size offset access) t = let l = le-max_left (t + 4) (max (top t size) (max (top (t + 1) offset) (top (t + 2) access))) in omega (arith, l)

pub term_above : (e : Term) (t : ℕ) → t < term_top t e
term_above e t = top_above (expr_of e) t

reach : (x : Expr) (t R : ℕ) → Known x → top t x ≤ R → Reaches R t x
reach (Lit n) t R k h = omega (arith, h)
reach (Slot place) t R k h =
    let l = under_left (t + 1) (place + 1) R h in
    let r = under_right (t + 1) (place + 1) R h in
    (omega (arith, l), omega (arith, r))
reach (Binary op a b) t R k h =
    let l = under_left (top t a) (top (t + 1) b) R h in
    let r = under_right (top t a) (top (t + 1) b) R h in
    let x = top_above b (t + 1) in
    (omega (arith, r, x), k.0, reach a t R k.1.0 l, reach b (t + 1) R k.1.1 r)
reach (Not a) t R k h =
    let l = under_left (t + 2) (top t a) R h in
    let r = under_right (t + 2) (top t a) R h in
    (omega (arith, l), reach a t R k r)
reach (Complement mask a) t R k h =
    let l = under_left (t + 2) (top t a) R h in
    let r = under_right (t + 2) (top t a) R h in
    (omega (arith, l), reach a t R k r)
reach (ShiftLeft mask a b) t R k h =
    let l = under_left (top t a) (top (t + 1) b) R h in
    let r = under_right (top t a) (top (t + 1) b) R h in
    let x = top_above b (t + 1) in
    (omega (arith, r, x), reach a t R k.0 l, reach b (t + 1) R k.1 r)
reach (Both a b) t R k h =
    let l = under_left (top t a) (top t b) R h in
    let r = under_right (top t a) (top t b) R h in
    let x = top_above a t in
    (omega (arith, l, x), reach a t R k.0 l, reach b t R k.1 r)
reach (Either a b) t R k h =
    let l = under_left (top t a) (top t b) R h in
    let r = under_right (top t a) (top t b) R h in
    let x = top_above a t in
    (omega (arith, l, x), reach a t R k.0 l, reach b t R k.1 r)
reach (Choice c a b) t R k h =
    let l = under_left (top t c) (max (top t a) (top t b)) R h in
    let r = under_right (top t c) (max (top t a) (top t b)) R h in
    let x = top_above c t in
    (omega (arith, l, x), reach c t R k.0 l, reach a t R k.1.0 (under_left (top t a) (top t b) R r), reach b t R k.1.1 (under_right (top t a) (top t b) R r))
reach (Range size offset access) t R k h =
    let rest = max (top (t + 1) offset) (top (t + 2) access) in
    let l = under_left (t + 4) (max (top t size) rest) R h in
    let r = under_right (t + 4) (max (top t size) rest) R h in
    let s = under_right (top t size) rest R r in (
      omega (arith, l),
      reach size t R k.0 (under_left (top t size) rest R r),
      reach offset (t + 1) R k.1.0 (under_left (top (t + 1) offset) (top (t + 2) access) R s),
      reach access (t + 2) R k.1.1 (under_right (top (t + 1) offset) (top (t + 2) access) R s),
    )

truths : (e : Term) → HasSorts e → Truths e
truths (number n w) h = tt
truths (name i w most) h = tt
truths (complement a) h = truths a h.1
truths (negation a) h = truths a h.1
truths (compute op s a b) h = (truths a h.0.1, truths b h.1.1)
truths (compare k a b) h = (truths a h.0.1, truths b h.1.1)
truths (both a b) h = (h.0.0, (h.1.0, (truths a h.0.1, truths b h.1.1)))
truths (either a b) h = (h.0.0, (h.1.0, (truths a h.0.1, truths b h.1.1)))
truths (choice c a b) h = (truths c h.0.1, (truths a h.1.1.0.1, truths b h.1.1.1.1))
truths (range_okay s o a) h = (truths s h.0.1, (truths o h.1.0.1, truths a h.1.1.1))

-- an expression of a checked module, for a value into register t
pub is_expr : (scope : List Bound) (e : Term) (sort : Bool) (L t R : ℕ) → length scope ≡ L → IsScoped scope e → IsSorted sort e → term_top t e ≤ R → IsExpr R L t e
is_expr scope e sort L t R le s b h = (subst (λ n. Placed n e) le (scoped_placed scope e s), (truths e b.1, reach (expr_of e) t R (known e) h))
