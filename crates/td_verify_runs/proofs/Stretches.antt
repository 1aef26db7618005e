-- Routines from their beginnings, loops' bodies, and calls. Cited by other crates.
use Rattle.std.proofs.Common.{◌≡◌, ℕ, suc, ◌+◌, ◌-◌, ◌*◌, ◌<◌, ◌≤◌, false, cond, List, length, Option, Some, None, sym, refl, ap, ◌∙◌, subst, arith}
use Rattle.std.proofs.Math.Nat.{mul-le-mul_left, mul-le-mul_right}
use Rattle.td_verify_runs.specs.Imports.{Parts, While, Call, Return, Bracket, Loop}
use Rattle.td_ir.specs.Tables.{lengths_of, first_of, end_of as end_at}
use Rattle.td_ir.proofs.Begins.{begin_up}
use Rattle.td_verify.specs.Shape.{shapes_of}
use Rattle.td_verify.specs.Rules.{CallsWell}
use Rattle.td_verify.specs.Brackets.{shape_at, opened, and_then, opening, in_loop, window_bytes}
use Rattle.td_verify.specs.Verify.{IsIn, depths}
use Rattle.td_verify.specs.Safe.{IsSafe, IsWhole, IsWholeAt, before, looped}
use Rattle.td_verify.proofs.Flat.{next_opened}
use Rattle.std.proofs.lemmas.Bool.{cases_lt}
use Rattle.std.proofs.Common.{⊎_elim}
use Rattle.td_verify_runs.specs.Stretches.{Idle, IsRunnable, IsStretch, IdleTurn, scale}
use Rattle.td_verify_runs.proofs.Ways.{goes_on}

-- a routine from its beginning
pub whole_stretch : (c : Parts) (n from to : ℕ) → IsRunnable c → n < length c.routines → from ≡ first_of c n → to ≡ end_at c n → IsStretch c n from to
whole_stretch c n from to r l e f =
    let b = r.safe.begins n l in
    let place : IsIn c n from = subst (IsIn c n) (sym e) b.0 in
    record {
      place = place;
      some = omega (arith, place.to, f);
      within = omega (arith, f);
      closed = λ q i k. omega (arith, i.to, f);
      outside = ap window_bytes (ap (opened (shapes_of c)) e ∙ b.1);
    }

no_window : (p : ℕ) (o : Option (List Bracket)) → window_bytes (opening (Loop p) o) ≡ 0
no_window p None = refl
no_window p (Some bs) = refl

pub loop_whole : (c : Parts) (n p t : ℕ) → IsRunnable c → IsIn c n p → shape_at (shapes_of c) p ≡ While t → IsWhole c n p t
loop_whole c n p t r i e = subst (IsWholeAt c n p) e (r.safe.each n p i).whole

-- a loop's body
pub body_stretch : (c : Parts) (n p t : ℕ) → IsRunnable c → IsIn c n p → shape_at (shapes_of c) p ≡ While t → IsStretch c n (p + 1) t
body_stretch c n p t r i e =
    let w = loop_whole c n p t r i e in
    record {
      place = record { routine = i.routine; from = omega (arith, i.from); to = omega (arith, w.body, w.behind.to) };
      some = w.body;
      within = omega (arith, w.behind.to);
      closed = λ q j k. r.safe.loops.inside n p t q i e j (k (r.safe.loops.turning n p t i e));
      outside = ap window_bytes (next_opened (shapes_of c) p ∙ ap (λ j. and_then p j (opened (shapes_of c) p)) e) ∙ no_window p (opened (shapes_of c) p);
    }

-- a turn takes a byte
pub turn_busy : (c : Parts) (n p t : ℕ) → IsRunnable c → IsIn c n p → shape_at (shapes_of c) p ≡ While t → IdleTurn c n (p + 1) → ⊥
turn_busy c n p t r i e d =
    let w = loop_whole c n p t r i e in
    let q = r.safe.loops.one n p t d.at d.start i e d.within d.same d.is in
    w.busy (subst (Idle c n (p + 1)) q d.way)

pub return_outside : (c : Parts) (n p : ℕ) → IsSafe c → IsIn c n p → shape_at (shapes_of c) p ≡ Return → looped c p ≡ false
return_outside c n p s i e = ap in_loop (subst (IsWholeAt c n p) e (s.each n p i).whole)

pub in_code : (c : Parts) (n p : ℕ) → IsRunnable c → IsIn c n p → p < length c.instructions
in_code c n p r i = let a = begin_up (lengths_of c) (suc n) (length c.routines) (omega (arith, i.routine)) in let w = r.code.whole in omega (arith, i.to, a, w)

-- the steps of a whole routine
pub call_steps : (c : Parts) (m from to s0 s1 p0 p1 p2 : ℕ) → IsRunnable c → m < length c.routines → from ≡ first_of c m → to ≡ end_at c m → scale c from * s1 ≤ scale c from * s0 + (before c m to - before c m from) * (p1 - p0 + 1) → p2 ≡ p1 → s1 ≤ s0 + before c m (end_at c m) * (p2 - p0 + 1)
call_steps c m from to s0 s1 p0 p1 p2 r l e f h k =
    let z : scale c from ≡ 1 = ap (λ v. cond v 2 1) (ap (looped c) e ∙ ap in_loop (r.safe.begins m l).1) in
    let a : before c m to ≡ before c m (end_at c m) = ap (before c m) f in
    let one : 1 * s1 ≤ 1 * s0 + (before c m to - before c m from) * (p1 - p0 + 1) = subst (λ x. x * s1 ≤ x * s0 + (before c m to - before c m from) * (p1 - p0 + 1)) z h in
    let two : (before c m to - before c m from) * (p1 - p0 + 1) ≤ before c m (end_at c m) * (p2 - p0 + 1) =
    (let x : (before c m to - before c m from) * (p1 - p0 + 1) ≤ before c m (end_at c m) * (p1 - p0 + 1) = mul-le-mul_right (p1 - p0 + 1) (omega (arith, a)) in
    subst (λ p. (before c m to - before c m from) * (p1 - p0 + 1) ≤ before c m (end_at c m) * (p - p0 + 1)) (sym k) x) in
    omega (arith, one, two)

-- the instruction after a call
pub call_on : (c : Parts) (n p m : ℕ) → IsSafe c → IsIn c n p → shape_at (shapes_of c) p ≡ Call m → (p < p + 1) × IsIn c n (p + 1) × (opened (shapes_of c) (p + 1) ≡ opened (shapes_of c) p)
call_on c n p m s i e = goes_on c n p (p + 1) (Call m) s i e refl

pub within_length : (s0 s1 k p0 p1 n : ℕ) → s1 ≤ s0 + k * (p1 - p0 + 1) → p1 ≤ n → s1 ≤ s0 + k * (n + 1)
within_length s0 s1 k p0 p1 n h l =
    let x : k * (p1 - p0 + 1) ≤ k * (n + 1) = mul-le-mul_left k (omega (arith, l)) in
    omega (arith, h, x)

-- a turn that takes a byte is further on
pub grown : (p q : ℕ) → p ≤ q → (p ≡ q → ⊥) → p < q
grown p q h f = ⊎_elim (λ l. l) (λ l. let e : p ≡ q = omega arith in absurd (f e)) (cases_lt p q)

-- a call is of a lower routine
pub calls_lower : (c : Parts) (n p m : ℕ) → IsSafe c → IsIn c n p → shape_at (shapes_of c) p ≡ Call m → m < n
calls_lower c n p m s i e = (subst (CallsWell (depths (shapes_of c) (lengths_of c) n) n) e (s.each n p i).calls).0
