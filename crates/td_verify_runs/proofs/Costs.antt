-- What steps, calls and loops cost.
use Rattle.std.proofs.Common.{◌≡◌, ℕ, ◌+◌, ◌-◌, ◌*◌, ◌<◌, ◌≤◌, Bool, true, false, cond, List, length, Option, sym, ap, ◌∙◌, subst, arith, ⊎_elim}
use Rattle.std.proofs.lemmas.Bool.{cases_eq}
use Rattle.std.proofs.Math.Nat.{mul-le-mul_left, mul-le-mul_right}
use Rattle.td_verify_runs.specs.Imports.{Parts, Shape, Straight, Jump, Branch, Call, Return, Fail, While, Again, Open, Close, Bracket}
use Rattle.td_ir.specs.Tables.{lengths_of, begin, end_of as end_at}
use Rattle.td_verify.specs.Shape.{shapes_of}
use Rattle.td_verify.specs.Brackets.{shape_at, opened, in_loop}
use Rattle.td_verify.specs.Rules.{cost}
use Rattle.td_verify.specs.Verify.{IsIn, weights}
use Rattle.td_verify.specs.Safe.{IsSafe, before, cost_at, looped}
use Rattle.td_verify_runs.specs.Moves.{Passes, more}
use Rattle.td_verify_runs.specs.Stretches.{IsRunnable, scale}

own_cost : (ws : List ℕ) (o : Option (List Bracket)) (j : Shape) → Passes j → 1 ≤ cost ws o j → cond (in_loop o) 2 1 * (1 + more j) ≤ cost ws o j
own_cost ws o (Straight b w) h l = by_loop (in_loop o) w l
  where
    by_loop : (v : Bool) (w : ℕ) → 1 ≤ cond v (2 * w) w → cond v 2 1 * (1 + (w - 1)) ≤ cond v (2 * w) w
    by_loop true w l = omega (arith, l)
    by_loop false w l = omega (arith, l)
own_cost ws o (Jump t) h l = one (in_loop o)
  where
    one : (v : Bool) → cond v 2 1 * (1 + 0) ≤ cond v (2 * 1) 1
    one true = omega arith
    one false = omega arith
own_cost ws o (Branch t) h l = one (in_loop o)
  where
    one : (v : Bool) → cond v 2 1 * (1 + 0) ≤ cond v (2 * 1) 1
    one true = omega arith
    one false = omega arith
own_cost ws o (Call m) h l = absurd h
own_cost ws o Return h l = one (in_loop o)
  where
    one : (v : Bool) → cond v 2 1 * (1 + 0) ≤ cond v (2 * 1) 1
    one true = omega arith
    one false = omega arith
own_cost ws o Fail h l = one (in_loop o)
  where
    one : (v : Bool) → cond v 2 1 * (1 + 0) ≤ cond v (2 * 1) 1
    one true = omega arith
    one false = omega arith
own_cost ws o (While t) h l = absurd h
own_cost ws o (Again t) h l = one (in_loop o)
  where
    one : (v : Bool) → cond v 2 1 * (1 + 0) ≤ 3
    one true = omega arith
    one false = omega arith
own_cost ws o (Open k) h l = one (in_loop o)
  where
    one : (v : Bool) → cond v 2 1 * (1 + 0) ≤ cond v (2 * 1) 1
    one true = omega arith
    one false = omega arith
own_cost ws o Close h l = one (in_loop o)
  where
    one : (v : Bool) → cond v 2 1 * (1 + 0) ≤ cond v (2 * 1) 1
    one true = omega arith
    one false = omega arith

-- what was spent, and what one more stretch spends
spend : (a0 a c w k q t u v : ℕ) → a ≤ a0 + w * (t + 1) → c ≤ a + k * (u + 1) → w + k ≤ q → t + u ≤ v → c ≤ a0 + q * (v + 1)
spend a0 a c w k q t u v h g l e =
    let x : w * (t + 1) ≤ w * (v + 1) = mul-le-mul_left w (omega arith) in
    let y : k * (u + 1) ≤ k * (v + 1) = mul-le-mul_left k (omega arith) in
    let z : (w + k) * (v + 1) ≤ q * (v + 1) = mul-le-mul_right (v + 1) l in
    omega (arith, h, g, x, y, z)

-- z times as many steps
scaled : (z a c w k u : ℕ) → c ≤ a + w * (u + 1) → z * w ≤ k → z * c ≤ z * a + k * (u + 1)
scaled z a c w k u h l =
    let x : z * c ≤ z * (a + w * (u + 1)) = mul-le-mul_left z h in
    let y : z * w * (u + 1) ≤ k * (u + 1) = mul-le-mul_right (u + 1) l in
    omega (arith, x, y)

pub step_cost : (c : Parts) (n first p q : ℕ) (j : Shape) (s0 s1 s2 p0 p1 p2 : ℕ) → IsSafe c → IsIn c n p → shape_at (shapes_of c) p ≡ j → Passes j → looped c p ≡ looped c first → p < q → q ≤ end_at c n → before c n first ≤ before c n p
    → scale c first * s1 ≤ scale c first * s0 + (before c n p - before c n first) * (p1 - p0 + 1) → s2 ≤ s1 + 1 + more j * (p2 - p1) → p0 ≤ p1 → p1 ≤ p2
    → scale c first * s2 ≤ scale c first * s0 + (before c n q - before c n first) * (p2 - p0 + 1)
step_cost c n first p q j s0 s1 s2 p0 p1 p2 s i e h v l r b x y a d =
    let w = s.weighed n p i in
    let ws = weights (shapes_of c) (lengths_of c) n in
    let is : cost_at c n p ≡ cost ws (opened (shapes_of c) p) j = ap (cost ws (opened (shapes_of c) p)) e in
    let own = own_cost ws (opened (shapes_of c) p) j h (subst (λ x. 1 ≤ x) is w.some) in
    let own' : scale c first * (1 + more j) ≤ cost_at c n p = subst (λ x. x * (1 + more j) ≤ cost_at c n p) (ap (λ v. cond v 2 1) v) (subst (λ x. scale c p * (1 + more j) ≤ x) (sym is) own) in
    let on = w.on q l r in
    let one : s2 ≤ s1 + (1 + more j) * (p2 - p1 + 1) = omega (arith, y) in
    spend (scale c first * s0) (scale c first * s1) (scale c first * s2) (before c n p - before c n first) (cost_at c n p) (before c n q - before c n first) (p1 - p0) (p2 - p1) (p2 - p0)
    x (scaled (scale c first) s1 s2 (1 + more j) (cost_at c n p) (p2 - p1) one own') (omega (arith, on, b)) (omega (arith, a, d))

pub call_cost : (c : Parts) (n first p q m : ℕ) (s0 s1 s2 p0 p1 p2 : ℕ) → IsRunnable c → IsIn c n p → shape_at (shapes_of c) p ≡ Call m → m < n → looped c p ≡ looped c first → p < q → q ≤ end_at c n → before c n first ≤ before c n p
    → scale c first * s1 ≤ scale c first * s0 + (before c n p - before c n first) * (p1 - p0 + 1) → s2 ≤ s1 + 1 + before c m (end_at c m) * (p2 - p1 + 1) → p0 ≤ p1 → p1 ≤ p2
    → scale c first * s2 ≤ scale c first * s0 + (before c n q - before c n first) * (p2 - p0 + 1)
call_cost c n first p q m s0 s1 s2 p0 p1 p2 s i e h v l r b x y a d =
    let w = s.safe.weighed n p i in
    let ws = weights (shapes_of c) (lengths_of c) n in
    let W = before c m (end_at c m) in
    let weight = s.safe.weight n m h (omega (arith, i.routine)) in
    let is : cost_at c n p ≡ cond (looped c p) (2 * (1 + W)) (1 + W) = ap (cost ws (opened (shapes_of c) p)) e ∙ ap (λ x. cond (looped c p) (2 * (1 + x)) (1 + x)) weight in
    let own' : scale c first * (1 + W) ≤ cost_at c n p = subst (λ v. cond v 2 1 * (1 + W) ≤ cost_at c n p) v (subst (λ x. scale c p * (1 + W) ≤ x) (sym is) (both (looped c p) (1 + W))) in
    let on = w.on q l r in
    let one : s2 ≤ s1 + (1 + W) * (p2 - p1 + 1) = omega (arith, y) in
    spend (scale c first * s0) (scale c first * s1) (scale c first * s2) (before c n p - before c n first) (cost_at c n p) (before c n q - before c n first) (p1 - p0) (p2 - p1) (p2 - p0)
    x (scaled (scale c first) s1 s2 (1 + W) (cost_at c n p) (p2 - p1) one own') (omega (arith, on, b)) (omega (arith, a, d))
  where
    both : (v : Bool) (w : ℕ) → cond v 2 1 * w ≤ cond v (2 * w) w
    both true w = omega arith
    both false w = omega arith

-- a loop from p to t
pub loop_cost : (c : Parts) (n first p t q : ℕ) (s0 s1 s2 p0 p1 p2 : ℕ) → IsRunnable c → IsIn c n p → shape_at (shapes_of c) p ≡ While t → p + 1 < t → t ≤ q → q ≤ end_at c n → looped c p ≡ looped c first → before c n first ≤ before c n p
    → scale c first * s1 ≤ scale c first * s0 + (before c n p - before c n first) * (p1 - p0 + 1) → s2 ≤ s1 + 1 + (before c n t - before c n (p + 1) + 1) * (p2 - p1 + 1) → p0 ≤ p1 → p1 ≤ p2
    → scale c first * s2 ≤ scale c first * s0 + (before c n q - before c n first) * (p2 - p0 + 1)
loop_cost c n first p t q s0 s1 s2 p0 p1 p2 s i e k r r' v b x y a d =
    let w = s.safe.weighed n p i in
    let ws = weights (shapes_of c) (lengths_of c) n in
    let is : cost_at c n p ≡ 3 = ap (cost ws (opened (shapes_of c) p)) e in
    let D = before c n t - before c n (p + 1) in
    let z : scale c first ≡ 1 = ap (λ v. cond v 2 1) (sym v ∙ s.safe.loops.alone n p t i e) in
    let on1 = w.on (p + 1) (omega arith) (omega (arith, k, r, r')) in
    let up = before_up c n t q i.routine (omega (arith, i.from, k)) r r' s.safe in
    let up1 = before_up c n (p + 1) t i.routine (omega (arith, i.from)) (omega (arith, k)) (omega (arith, r, r')) s.safe in
    let m : (D + 1) * (p2 - p1 + 1) + (p2 - p1 + 1) ≤ (3 + D) * (p2 - p1 + 1) = omega arith in
    let one : s2 ≤ s1 + (3 + D) * (p2 - p1 + 1) = omega (arith, y, m) in
    let own' : scale c first * (3 + D) ≤ 3 + D = subst (λ x. x * (3 + D) ≤ 3 + D) (sym z) (omega arith) in
    spend (scale c first * s0) (scale c first * s1) (scale c first * s2) (before c n p - before c n first) (3 + D) (before c n q - before c n first) (p1 - p0) (p2 - p1) (p2 - p0)
    x (scaled (scale c first) s1 s2 (3 + D) (3 + D) (p2 - p1) one own') (omega (arith, on1, is, up, up1, b)) (omega (arith, a, d))
  where
    before_up : (c : Parts) (n p q : ℕ) → n < length c.routines → begin (lengths_of c) n ≤ p → p ≤ q → q ≤ end_at c n → IsSafe c → before c n p ≤ before c n q
    before_up c n p q r f h l s = ⊎_elim
        (λ (e : p ≡ q). let a = ap (before c n) e in omega (arith, a))
        (λ (e : (p ≡ q) → ⊥). let lt : p < q = omega (arith, h, e) in let a = (s.weighed n p (record { routine = r; from = f; to = omega (arith, lt, l) })).on q lt l in omega (arith, a))
        (cases_eq p q)

-- the turns of a loop, each of which takes a byte; a body's steps count twice
pub spend_turn : (a0 a c D t u v : ℕ) → a ≤ a0 + (D + 1) * t → 2 * c ≤ 2 * a + D * (u + 1) → 0 < u → t + u ≤ v → c + 1 ≤ a0 + (D + 1) * v
spend_turn a0 a c D t u v h g p e =
    let x : (D + 1) * (t + u) ≤ (D + 1) * v = mul-le-mul_left (D + 1) e in
    let y : D * 1 ≤ D * u = mul-le-mul_left D (omega arith) in
    omega (arith, h, g, x, y)

pub spend_last : (a0 a c D t u v : ℕ) → a ≤ a0 + (D + 1) * t → 2 * c ≤ 2 * a + D * (u + 1) → t + u ≤ v → c ≤ a0 + (D + 1) * (v + 1)
spend_last a0 a c D t u v h g e =
    let x : (D + 1) * (t + u) ≤ (D + 1) * v = mul-le-mul_left (D + 1) e in
    omega (arith, h, g, x)
