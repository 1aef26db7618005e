-- Expressions and actions in blocks: their numbers are of 64 bits, and they have no more instructions than five times their
-- nodes.
use Rattle.std.proofs.Common.{ℕ, suc, ◌+◌, ◌-◌, ◌*◌, ◌^◌, ◌<◌, ◌≤◌, List, [], ◌∷◌, true, false, arith, slice_get}
use Rattle.td_num.specs.Lists.{Each}
use Rattle.td_image_fits.specs.Imports.{Scalar, Binary as Operator}
use Rattle.td_core.specs.declared.expressions.Scalar.TheVariants.{Truth, Eight, Sixteen, ThirtyTwo, SixtyFour}
use Rattle.td_core.specs.declared.expressions.Binary.TheVariants.{Add, Subtract, Multiply, Divide, Remainder, BitAnd, BitOr, BitXor, ShiftLeft as ShiftLeftOp, ShiftRight}
use Rattle.td_core.specs.declared.expressions.Relation.{Relation}
use Rattle.td_core.specs.declared.expressions.Relation.TheVariants.{Equal, NotEqual, Less, LessEqual, Greater, GreaterEqual}
use Rattle.td_core.specs.Term.{Term, number, name, complement, negation, compute, compare, both, either, choice, range_okay, Deed, done, set, keep, fork, answer, give_up}
use Rattle.td_core.specs.Types.{limit, type_of}
use Rattle.td_core.specs.Formed.{Bound, given, IsScoped, IsDeedFormed, AreArgsFormed}
use Rattle.td_ir.specs.declared.instructions.Instr.TheVariants as i
use Rattle.td_lower_blocks.specs.Block.{Block, Done, Then, Stop, Leave, Guard, Scope, size}
use Rattle.td_lower_blocks.specs.Constructs.{Expr, Lit, Slot, Binary, Not, Complement, ShiftLeft, Both, Either, Choice, Range, value, values, Action, Finish, Assign, Read, If, Return, Abort, acts}
use Rattle.td_lower_blocks.specs.Lowered.{computed_of, compared_of, mask_of, expr_of, exprs_of, action_of}
use Rattle.td_verify_lowered.specs.Weights.{nodes, all_nodes, act_nodes}
use Rattle.td_image_fits.proofs.Blocks.{AreRoomy}
use Rattle.td_expr.proofs.Widths.{limit_small as limit_low}

-- ---- numbers

abbrev pub IsRoomyExpr : Expr → Type 0
IsRoomyExpr (Lit n) = n < 2 ^ 64
IsRoomyExpr (Slot place) = Unit {0}
IsRoomyExpr (Binary op a b) = IsRoomyExpr a × IsRoomyExpr b
IsRoomyExpr (Not a) = IsRoomyExpr a
IsRoomyExpr (Complement mask a) = (mask < 2 ^ 64) × IsRoomyExpr a
IsRoomyExpr (ShiftLeft mask a b) = (mask < 2 ^ 64) × (IsRoomyExpr a × IsRoomyExpr b)
IsRoomyExpr (Both a b) = IsRoomyExpr a × IsRoomyExpr b
IsRoomyExpr (Either a b) = IsRoomyExpr a × IsRoomyExpr b
IsRoomyExpr (Choice c a b) = IsRoomyExpr c × (IsRoomyExpr a × IsRoomyExpr b)
IsRoomyExpr (Range s o a) = IsRoomyExpr s × (IsRoomyExpr o × IsRoomyExpr a)

mask_roomy : (w : Scalar) → limit w - 1 < 2 ^ 64
mask_roomy Truth = omega arith
mask_roomy Eight = omega arith
mask_roomy Sixteen = omega arith
mask_roomy ThirtyTwo = omega arith
mask_roomy SixtyFour = omega arith

computed_roomy : (op : Operator) (mask : ℕ) (a b : Expr) → mask < 2 ^ 64 → IsRoomyExpr a → IsRoomyExpr b → IsRoomyExpr (computed_of op mask a b)
computed_roomy Add mask a b k h g = (h, g)
computed_roomy Subtract mask a b k h g = (h, g)
computed_roomy Multiply mask a b k h g = (h, g)
computed_roomy Divide mask a b k h g = (h, g)
computed_roomy Remainder mask a b k h g = (h, g)
computed_roomy BitAnd mask a b k h g = (h, g)
computed_roomy BitOr mask a b k h g = (h, g)
computed_roomy BitXor mask a b k h g = (h, g)
computed_roomy ShiftLeftOp mask a b k h g = (k, (h, g))
computed_roomy ShiftRight mask a b k h g = (h, g)

compared_roomy : (r : Relation) (a b : Expr) → IsRoomyExpr a → IsRoomyExpr b → IsRoomyExpr (compared_of r a b)
compared_roomy Equal a b h g = (h, g)
compared_roomy NotEqual a b h g = (h, g)
compared_roomy Less a b h g = (h, g)
compared_roomy LessEqual a b h g = (h, g)
compared_roomy Greater a b h g = (g, h)
compared_roomy GreaterEqual a b h g = (g, h)

pub expr_roomy : (scope : List Bound) (e : Term) → IsScoped scope e → IsRoomyExpr (expr_of e)
expr_roomy scope (number n w) h = let x = limit_low w in omega (arith, h, x)
expr_roomy scope (name i w most) h = tt
expr_roomy scope (complement a) h = (mask_roomy (type_of a), expr_roomy scope a h)
expr_roomy scope (negation a) h = expr_roomy scope a h
expr_roomy scope (compute op s a b) h = computed_roomy op (mask_of a) (expr_of a) (expr_of b) (mask_roomy (type_of a)) (expr_roomy scope a h.0) (expr_roomy scope b h.1)
expr_roomy scope (compare r a b) h = compared_roomy r (expr_of a) (expr_of b) (expr_roomy scope a h.0) (expr_roomy scope b h.1)
expr_roomy scope (both a b) h = (expr_roomy scope a h.0, expr_roomy scope b h.1)
expr_roomy scope (either a b) h = (expr_roomy scope a h.0, expr_roomy scope b h.1)
expr_roomy scope (choice c a b) h = (expr_roomy scope c h.0, (expr_roomy scope a h.1.0, expr_roomy scope b h.1.1))
expr_roomy scope (range_okay s o a) h = (expr_roomy scope s h.0, (expr_roomy scope o h.1.0, expr_roomy scope a h.1.1))

pub value_roomy : (t : ℕ) (e : Expr) (k : Block) → IsRoomyExpr e → AreRoomy k → AreRoomy (value t e k)
value_roomy t (Lit n) k h g = (h, g)
value_roomy t (Slot place) k h g = (tt, g)
value_roomy t (Binary op a b) k h g = value_roomy t a _ h.0 (value_roomy (t + 1) b _ h.1 (tt, g))
value_roomy t (Not a) k h g = value_roomy t a _ h (omega arith, (tt, g))
value_roomy t (Complement mask a) k h g = value_roomy t a _ h.1 (h.0, (tt, g))
value_roomy t (ShiftLeft mask a b) k h g = value_roomy t a _ h.1.0 (value_roomy (t + 1) b _ h.1.1 (tt, (h.0, (tt, g))))
value_roomy t (Both a b) k h g = value_roomy t a _ h.0 (value_roomy t b Done h.1 tt, g)
value_roomy t (Either a b) k h g = value_roomy t a _ h.0 (value_roomy t b Done h.1 tt, g)
value_roomy t (Choice c a b) k h g = value_roomy t c _ h.0 ((value_roomy t a Leave h.1.0 tt, value_roomy t b Done h.1.1 tt), g)
value_roomy t (Range s o a) k h g = value_roomy t s _ h.0 (value_roomy (t + 1) o _ h.1.0 (value_roomy (t + 2) a _ h.1.1 (tt, (tt, (tt, (tt, g))))))

pub values_roomy : (t : ℕ) (es : List Expr) (k : Block) → Each IsRoomyExpr es → AreRoomy k → AreRoomy (values t es k)
values_roomy t [] k h g = g
values_roomy t (e ∷ es) k h g = value_roomy t e _ h.0 (values_roomy (t + 1) es k h.1 g)

pub args_roomy : (scope bs : List Bound) (es : List Term) → AreArgsFormed scope bs es → Each IsRoomyExpr (exprs_of es)
args_roomy scope [] [] h = tt
args_roomy scope [] (e ∷ es) h = absurd h
args_roomy scope (b ∷ bs) [] h = absurd h
args_roomy scope (b ∷ bs) (e ∷ es) h = (expr_roomy scope e h.0, args_roomy scope bs es h.1.1)

abbrev pub IsRoomyAction : Action → Type 0
IsRoomyAction Finish = Unit {0}
IsRoomyAction (Assign cell e more) = IsRoomyExpr e × IsRoomyAction more
IsRoomyAction (Read slot cell more) = IsRoomyAction more
IsRoomyAction (If e one other more) = IsRoomyExpr e × (IsRoomyAction one × (IsRoomyAction other × IsRoomyAction more))
IsRoomyAction (Return e) = IsRoomyExpr e
IsRoomyAction Abort = Unit {0}

pub deed_roomy : (cells scope : List Bound) (L : ℕ) (d : Deed) → IsDeedFormed cells scope d → IsRoomyAction (action_of L d)
deed_roomy cells scope L done h = tt
deed_roomy cells scope L (set cell e then) h = (expr_roomy scope e h.0, deed_roomy cells scope L then h.1.1)
deed_roomy cells scope L (keep cell then) h = deed_roomy cells (given scope (slice_get cells cell)) (suc L) then h.1
deed_roomy cells scope L (fork e one other then) h =
    (expr_roomy scope e h.0, (deed_roomy cells scope L one h.1.0, (deed_roomy cells scope L other h.1.1.0, deed_roomy cells scope L then h.1.1.1)))
deed_roomy cells scope L (answer e) h = expr_roomy scope e h
deed_roomy cells scope L give_up h = tt

pub acts_roomy : (t site : ℕ) (a : Action) (k : Block) → IsRoomyAction a → AreRoomy k → AreRoomy (acts t site a k)
acts_roomy t site Finish k h g = g
acts_roomy t site (Assign cell e more) k h g = value_roomy t e _ h.0 (tt, acts_roomy t site more k h.1 g)
acts_roomy t site (Read slot cell more) k h g = (tt, acts_roomy t site more k h g)
acts_roomy t site (If e one other more) k h g =
    value_roomy t e _ h.0 (acts_roomy (t + 1) site one Done h.1.0 tt, (acts_roomy (t + 1) site other Done h.1.1.0 tt, acts_roomy t site more k h.1.1.1 g))
acts_roomy t site (Return e) k h g = value_roomy t e _ h (tt, tt)
acts_roomy t site Abort k h g = tt

-- ---- instructions

pub value_size : (t : ℕ) (e : Expr) (k : Block) → 1 + size (value t e k) ≤ 5 * nodes e + size k
value_size t (Lit n) k = omega arith
value_size t (Slot place) k = omega arith
value_size t (Binary op a b) k =
    let x = value_size t a (value (t + 1) b (Then (i.Op t op t (t + 1)) k)) in
    let y = value_size (t + 1) b (Then (i.Op t op t (t + 1)) k) in
    omega (arith, x, y)
value_size t (Not a) k = let x = value_size t a (Then (i.Const (t + 1) 0) (Then (i.Op t 10 t (t + 1)) k)) in omega (arith, x)
value_size t (Complement mask a) k = let x = value_size t a (Then (i.Const (t + 1) mask) (Then (i.Op t 7 t (t + 1)) k)) in omega (arith, x)
value_size t (ShiftLeft mask a b) k =
    let x = value_size t a (value (t + 1) b (Then (i.Op t 8 t (t + 1)) (Then (i.Const (t + 1) mask) (Then (i.Op t 5 t (t + 1)) k)))) in
    let y = value_size (t + 1) b (Then (i.Op t 8 t (t + 1)) (Then (i.Const (t + 1) mask) (Then (i.Op t 5 t (t + 1)) k))) in
    omega (arith, x, y)
value_size t (Both a b) k =
    let x = value_size t a (Guard false t (value t b Done) k) in
    let y = value_size t b Done in
    omega (arith, x, y)
value_size t (Either a b) k =
    let x = value_size t a (Guard true t (value t b Done) k) in
    let y = value_size t b Done in
    omega (arith, x, y)
value_size t (Choice c a b) k =
    let x = value_size t c (Scope (Guard false t (value t a Leave) (value t b Done)) k) in
    let y = value_size t a Leave in
    let z = value_size t b Done in
    omega (arith, x, y, z)
value_size t (Range s o a) k =
    let last = Then (i.Op (t + 3) 13 (t + 2) t) (Then (i.Op t 1 t (t + 2)) (Then (i.Op t 13 (t + 1) t) (Then (i.Op t 5 t (t + 3)) k))) in
    let x = value_size t s (value (t + 1) o (value (t + 2) a last)) in
    let y = value_size (t + 1) o (value (t + 2) a last) in
    let z = value_size (t + 2) a last in
    omega (arith, x, y, z)

pub values_size : (t : ℕ) (es : List Expr) (k : Block) → size (values t es k) ≤ 5 * all_nodes es + size k
values_size t [] k = omega arith
values_size t (e ∷ es) k = let x = value_size t e (values (t + 1) es k) in let y = values_size (t + 1) es k in omega (arith, x, y)

pub acts_size : (t site : ℕ) (a : Action) (k : Block) → size (acts t site a k) ≤ 5 * act_nodes a + size k
acts_size t site Finish k = omega arith
acts_size t site (Assign cell e more) k = let x = value_size t e (Then (i.Set t cell) (acts t site more k)) in let y = acts_size t site more k in omega (arith, x, y)
acts_size t site (Read slot cell more) k = let y = acts_size t site more k in omega (arith, y)
acts_size t site (If e one other more) k =
    let x = value_size t e (Guard false t (acts (t + 1) site one Done) (Guard true t (acts (t + 1) site other Done) (acts t site more k))) in
    let y = acts_size (t + 1) site one Done in
    let z = acts_size (t + 1) site other Done in
    let w = acts_size t site more k in
    omega (arith, x, y, z, w)
acts_size t site (Return e) k = let x = value_size t e (Guard true t (Stop (i.Fail 3 site)) Leave) in omega (arith, x)
acts_size t site Abort k = omega arith
