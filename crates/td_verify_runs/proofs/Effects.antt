-- What one instruction does to the position and the end, and how many steps it takes.
use Rattle.std.proofs.Common.{◌≡◌, ℕ, zero, suc, ◌+◌, ◌-◌, ◌*◌, ◌/◌, ◌<◌, ◌≤◌, inl, inr, min, Bool, true, false, cond, List, Option, Some, None, ⊎_elim, refl, sym, subst, arith}
use Rattle.std.specs.Prelude.{nat_eq, ◌%◌, slice_index, slice_set}
use Rattle.std.proofs.lemmas.Bool.{eqb-true, leb-true}
use Rattle.std.proofs.Math.Nat.{div-mul-le_self, min-le_left, min-le_right, mul-le-mul_left, mul-le-mul_right}
use Rattle.td_num.specs.Numbers.{rising_at, ordered_at, places_from}
use Rattle.td_num.specs.Lists.{is_among, first_where, one_more, looked_at}
use Rattle.td_num.proofs.Equals.{next_product}
use Rattle.td_core.specs.declared.outcome.Reason.TheVariants.{NotEnough, ListSize}
use Rattle.td_verify_runs.specs.Imports.{Instr, Parts, Shape, Straight, Jump, Branch, Open, Close}
use Rattle.td_ir.specs.declared.instructions.Instr.TheVariants as i
use Rattle.td_ir.specs.Tables.{routine_of, set_of}
use Rattle.td_ir.specs.State.{State, reg, with_reg, at_pos, left}
use Rattle.td_ir.specs.Values.{bit, operated, bits_of, order_of, numbers_from, is_zero, is_nonzero}
use Rattle.td_ir.specs.Flow.{Flow, Goes, Fails, Calls, Returns, Loops, Turns, Effect, effect, plain, where_so, has_bytes, zeros_flow, zeroterm_flow}
use Rattle.td_verify.specs.declared.shape.Shape.TheVariants as shapes
use Rattle.td_verify.specs.Shape.{shape}
use Rattle.td_verify.specs.Ways.{Leads}
use Rattle.td_verify.specs.Operands.{HasOperands, IsWidth}
use Rattle.td_verify_runs.specs.Moves.{Passes, least, more, Ends}

-- from s to t in so many steps
pub record Advances (j : Shape) (s t : State) (steps : ℕ) : Type 0 where
  pub takes : s.pos + least j ≤ t.pos
  pub within : t.pos ≤ t.end
  pub around : t.end ≤ t.outer
  pub outer : t.outer ≤ s.outer
  pub ends : Ends j s.pos s.end t.end
  pub cost : steps ≤ 1 + more j * (t.pos - s.pos)

-- a failure has looked no further than the end
pub record Stops (j : Shape) (s : State) (steps : ℕ) : Type 0 where
  pub at : ℕ
  pub from : s.pos ≤ at
  pub within : at ≤ s.end
  pub cost : steps ≤ 1 + more j * (at - s.pos)

abbrev pub Does : ℕ → Instr → State → ℕ → Flow → Type 0
Does pc j s steps (Goes target t) = Passes (shape j) × Leads pc (shape j) target × Advances (shape j) s t steps
Does pc j s steps (Fails reason site pos t) = Passes (shape j) × Stops (shape j) s steps
Does pc j s steps (Calls first routine map site t) = (j ≡ i.Call first routine map site) × (t ≡ s) × (steps ≡ 1)
Does pc j s steps (Returns t) = (j ≡ i.Return) × (t ≡ s) × (steps ≡ 1)
Does pc j s steps (Loops target t) = (j ≡ i.While target) × (t ≡ s) × (steps ≡ 1)
Does pc j s steps (Turns t) = (target : ℕ) × (j ≡ i.Again target) × (t ≡ s) × (steps ≡ 1)

-- the end and the one outside of the window stand in order
pub record InOrder (s : State) : Type 0 where
  pub within : s.pos ≤ s.end
  pub around : s.end ≤ s.outer

-- one step that moves nothing
stays : (j : Shape) (s t : State) → least j ≡ 0 → Ends j s.pos s.end s.end → InOrder s → t.pos ≡ s.pos → t.end ≡ s.end → t.outer ≡ s.outer → Advances j s t 1
stays j s t z e o p d u = record {
  takes = omega (arith, z, p);
  within = omega (arith, o.within, p, d);
  around = omega (arith, o.around, d, u);
  outer = omega (arith, u);
  ends = subst (Ends j s.pos s.end) (sym d) e;
  cost = omega arith;
}

-- a failure that looked at nothing more
stops : (j : Shape) (s : State) → InOrder s → Stops j s 1
stops j s o = record { at = s.pos; from = omega arith; within = o.within; cost = omega arith }

-- a position further on
on_by : (b w steps : ℕ) (s : State) (p : ℕ) → InOrder s → s.pos + b ≤ p → p ≤ s.end → steps ≤ 1 + (w - 1) * (p - s.pos) → Advances (Straight b w) s (at_pos s p) steps
on_by b w steps s p o t l k = record { takes = t; within = l; around = o.around; outer = omega arith; ends = refl; cost = k }

either : {X : Type 0} (P : X → Type 0) (v : Bool) (a b : X) → (v ≡ true → P a) → (v ≡ false → P b) → P (cond v a b)
either P true a b f g = f refl
either P false a b f g = g refl

fits : (s : State) (n : ℕ) → has_bytes s n ≡ true → s.pos + n ≤ s.end
fits s n h = leb-true (s.pos + n) s.end h

narrows : (k n : ℕ) (s : State) → InOrder s → k ≤ n → s.pos + n ≤ s.end → Advances (Open k) s (record s { end = s.pos + n; outer = s.end }) 1
narrows k n s o l h = record { takes = omega arith; within = omega arith; around = h; outer = o.around; ends = omega (arith, l); cost = omega arith }

widens : (s : State) → InOrder s → s.pos ≡ s.end → Advances Close s (record s { end = s.outer }) 1
widens s o e = record { takes = omega arith; within = omega (arith, o.within, o.around); around = omega arith; outer = omega arith; ends = e; cost = omega arith }

-- what is found stands among those that are looked at
found_within : (test : ℕ → Bool) (b : List ℕ) (p w n k : ℕ) → first_where test (numbers_from b p w n) ≡ Some k → k < n
found_within test b p w zero k e = absurd (cc)
found_within test b p w (suc n) k e = by (first_where test (numbers_from b (p + w) w n)) (found_within test b (p + w) w n) (test (rising_at b p w)) e
  where
    next : (r : Option ℕ) → ((j : ℕ) → r ≡ Some j → j < n) → one_more r ≡ Some k → k < suc n
    next None f e = absurd (cc)
    next (Some j) f e = let a = f j refl in let q : k ≡ suc j = cc in omega (arith, a, q)

    by : (r : Option ℕ) → ((j : ℕ) → r ≡ Some j → j < n) → (v : Bool) → cond v (Some 0) (one_more r) ≡ Some k → k < suc n
    by r f true e = let q : k ≡ 0 = cc in omega (arith, q)
    by r f false e = next r f e

zeros_do : (pc site : ℕ) (s : State) → InOrder s → (r : Option ℕ) → ((k : ℕ) → r ≡ Some k → k < left s) → Does pc (i.Zeros site) s (1 + looked_at r (left s)) (zeros_flow (pc + 1) site r s)
zeros_do pc site s o None f = (tt, refl, on_by 0 2 (1 + left s) s s.end o (omega (arith, o.within)) (omega arith) (omega arith))
zeros_do pc site s o (Some k) f = let l = f k refl in (tt, record { at = s.pos + suc k; from = omega arith; within = omega (arith, l, o.within); cost = omega arith })

-- so many elements fit what is left
rooms : (n w d : ℕ) → n ≤ d / w → n * w ≤ d
rooms n w d l = let a : n * w ≤ d / w * w = mul-le-mul_right w l in let b = div-mul-le_self d w in omega (arith, a, b)

wide : (n w : ℕ) → 1 ≤ w → n ≤ n * w
wide n w h = let a : n * 1 ≤ n * w = mul-le-mul_left n h in omega (arith, a)

zeroterm_does : (pc site width bound most n : ℕ) (s : State) → InOrder s → IsWidth width → n ≤ left s / width → (r : Option ℕ) → ((k : ℕ) → r ≡ Some k → k < n) → Does pc (i.Zeroterm bound width site) s (1 + looked_at r n) (zeroterm_flow (pc + 1) site width most (left s / width) r s)
zeroterm_does pc site width bound most n s o is l None f =
    let one : 1 ≤ width = ⊎_elim (λ (e : width ≡ 1). omega (arith, e)) (⊎_elim (λ (e : width ≡ 2). omega (arith, e)) (⊎_elim (λ (e : width ≡ 4). omega (arith, e)) (λ (e : width ≡ 8). omega (arith, e)))) is in
    let a = rooms n width (left s) l in
    let b = wide n width one in
    (tt, record { at = s.pos + n * width; from = omega arith; within = omega (arith, a, o.within); cost = omega (arith, b) })
zeroterm_does pc site width bound most n s o is l (Some k) f =
    let one : 1 ≤ width = ⊎_elim (λ (e : width ≡ 1). omega (arith, e)) (⊎_elim (λ (e : width ≡ 2). omega (arith, e)) (⊎_elim (λ (e : width ≡ 4). omega (arith, e)) (λ (e : width ≡ 8). omega (arith, e)))) is in
    let q = f k refl in
    let a = rooms (suc k) width (left s) (omega (arith, q, l)) in
    let b = wide (suc k) width one in
    let first = next_product k width in
    (tt, refl, on_by width 2 (1 + suc k) s (s.pos + suc k * width) o (omega (arith, first)) (omega (arith, a, o.within)) (omega (arith, b)))

pub does : (c : Parts) (n : ℕ) (b places : List ℕ) (pc : ℕ) (j : Instr) (s : State) → InOrder s → HasOperands j → Does pc j s (effect c n b places pc j s).steps (effect c n b places pc j s).flow
does c n b places pc (i.Const into value) s o h = (tt, refl, stays (Straight 0 1) s (with_reg s into value) refl refl o refl refl refl)
does c n b places pc (i.Member into source set) s o h = (tt, refl, stays (Straight 0 1) s (with_reg s into (bit (is_among (set_of c set) (reg s source)))) refl refl o refl refl refl)
does c n b places pc (i.Op into operator x y) s o h = (tt, refl, stays (Straight 0 1) s (with_reg s into (operated operator (reg s x) (reg s y))) refl refl o refl refl refl)
does c n b places pc (i.Bits into source low count) s o h = (tt, refl, stays (Straight 0 1) s (with_reg s into (bits_of (reg s source) low count)) refl refl o refl refl refl)
does c n b places pc (i.Pos into) s o h = (tt, refl, stays (Straight 0 1) s (with_reg s into s.start) refl refl o refl refl refl)
does c n b places pc (i.Jump target) s o h = (tt, refl, stays (Jump target) s (s) refl refl o refl refl refl)
does c n b places pc (i.JumpIf test target) s o h = either (Does pc (i.JumpIf test target) s 1) (nat_eq (reg s test) 0) (Goes (pc + 1) s) (Goes target s) (λ v. (tt, inr refl, stays (Branch target) s (s) refl refl o refl refl refl)) (λ v. (tt, inl refl, stays (Branch target) s (s) refl refl o refl refl refl))
does c n b places pc (i.JumpUnless test target) s o h = either (Does pc (i.JumpUnless test target) s 1) (nat_eq (reg s test) 0) (Goes target s) (Goes (pc + 1) s) (λ v. (tt, inl refl, stays (Branch target) s (s) refl refl o refl refl refl)) (λ v. (tt, inr refl, stays (Branch target) s (s) refl refl o refl refl refl))
does c n b places pc (i.Call first routine map site) s o h = (refl, refl, refl)
does c n b places pc i.Return s o h = (refl, refl, refl)
does c n b places pc (i.Fetch into order width site) s o h =
    either (λ (e : Effect). Does pc (i.Fetch into order width site) s e.steps e.flow) (has_bytes s width)
    (record { flow = Goes (pc + 1) (at_pos (with_reg s into (ordered_at (order_of order) b s.pos width)) (s.pos + width)); touched = places_from s.pos width; steps = 1 })
    (plain (Fails NotEnough site s.start s))
    (λ v. let l = fits s width v in (tt, refl, record { takes = omega arith; within = l; around = o.around; outer = omega arith; ends = refl; cost = omega arith }))
    (λ v. (tt, stops (Straight width 1) s o))
does c n b places pc (i.SkipK bytes site) s o h =
    either (Does pc (i.SkipK bytes site) s 1) (has_bytes s bytes) (Goes (pc + 1) (at_pos s (s.pos + bytes))) (Fails NotEnough site s.start s)
    (λ v. (tt, refl, on_by bytes 1 1 s (s.pos + bytes) o (omega arith) (fits s bytes v) (omega arith)))
    (λ v. (tt, stops (Straight bytes 1) s o))
does c n b places pc (i.Skip size site) s o h =
    either (Does pc (i.Skip size site) s 1) (has_bytes s (reg s size)) (Goes (pc + 1) (at_pos s (s.pos + reg s size))) (Fails NotEnough site s.start s)
    (λ v. (tt, refl, on_by 0 1 1 s (s.pos + reg s size) o (omega arith) (fits s (reg s size) v) (omega arith)))
    (λ v. (tt, stops (Straight 0 1) s o))
does c n b places pc i.Rest s o h = (tt, refl, on_by 0 1 1 s s.end o (omega (arith, o.within)) (omega arith) (omega arith))
does c n b places pc (i.Zeros site) s o h =
    zeros_do pc site s o (first_where is_nonzero (numbers_from b s.pos 1 (left s))) (found_within is_nonzero b s.pos 1 (left s))
does c n b places pc (i.Zeroterm bound width site) s o h =
    let n = min (reg s bound / width) (left s / width) in
    zeroterm_does pc site width bound (reg s bound / width) n s o h (min-le_right (reg s bound / width) (left s / width)) (first_where is_zero (numbers_from b s.pos width n)) (found_within is_zero b s.pos width n)
does c n b places pc (i.NarrowK bytes site) s o h =
    either (Does pc (i.NarrowK bytes site) s 1) (has_bytes s bytes) (Goes (pc + 1) (record s { end = s.pos + bytes; outer = s.end })) (Fails NotEnough site s.start s)
    (λ v. (tt, refl, narrows bytes bytes s o (omega arith) (fits s bytes v)))
    (λ v. (tt, stops (Open bytes) s o))
does c n b places pc (i.Narrow size site) s o h =
    either (Does pc (i.Narrow size site) s 1) (has_bytes s (reg s size)) (Goes (pc + 1) (record s { end = s.pos + reg s size; outer = s.end })) (Fails NotEnough site s.start s)
    (λ v. (tt, refl, narrows 0 (reg s size) s o (omega arith) (fits s (reg s size) v)))
    (λ v. (tt, stops (Open 0) s o))
does c n b places pc (i.Divides size step site) s o h = by (nat_eq (reg s size % step) 0)
  where
    by : (v : Bool) → Does pc (i.Divides size step site) s 1 (where_so v (pc + 1) s ListSize site)
    by true = (tt, refl, stays (Straight 0 1) s (s) refl refl o refl refl refl)
    by false = (tt, stops (Straight 0 1) s o)
does c n b places pc (i.While target) s o h = (refl, refl, refl)
does c n b places pc (i.Again target) s o h = (target, refl, refl, refl)
does c n b places pc (i.Widen site) s o h =
    either (Does pc (i.Widen site) s 1) (nat_eq s.pos s.end) (Goes (pc + 1) (record s { end = s.outer })) (Fails ListSize site s.start s)
    (λ v. (tt, refl, widens s o (eqb-true s.pos s.end v)))
    (λ v. (tt, stops Close s o))
does c n b places pc (i.Fail reason site) s o h = (tt, stops shapes.Fail s o)
does c n b places pc (i.Get into cell) s o h = (tt, refl, stays (Straight 0 1) s (with_reg s into (slice_index s.cells (slice_index places cell))) refl refl o refl refl refl)
does c n b places pc (i.Set source cell) s o h = (tt, refl, stays (Straight 0 1) s (record s { cells = slice_set s.cells (slice_index places cell) (reg s source) }) refl refl o refl refl refl)
does c n b places pc i.Mark s o h = (tt, refl, stays (Straight 0 1) s (record s { start = s.pos }) refl refl o refl refl refl)
does c n b places pc (i.Copy size buffer site) s o h =
    let first = (routine_of c n).cells + 2 * buffer in
    let room = slice_index (routine_of c n).buffers buffer in
    let k = min (reg s size) room in
    either (λ (e : Effect). Does pc (i.Copy size buffer site) s e.steps e.flow) (has_bytes s (reg s size))
    (record { flow = Goes (pc + 1) (record s { cells = slice_set (slice_set s.cells (slice_index places first) s.pos) (slice_index places (first + 1)) k; pos = s.pos + reg s size }); touched = places_from s.pos k; steps = 1 + k })
    (plain (Fails NotEnough site s.start s))
    (λ v. let l = fits s (reg s size) v in let m = min-le_left (reg s size) room in (tt, refl, record { takes = omega arith; within = l; around = o.around; outer = omega arith; ends = refl; cost = omega (arith, m) }))
    (λ v. (tt, stops (Straight 0 2) s o))
does c n b places pc (i.Left into) s o h = (tt, refl, stays (Straight 0 1) s (with_reg s into (left s)) refl refl o refl refl refl)
