-- Elements that are looked at one after the other.
use Rattle.std.proofs.Common.{◌≡◌, ℕ, zero, suc, ◌+◌, ◌-◌, ◌*◌, ◌<◌, ◌≤◌, Bool, true, false, cond, List, ◌∷◌, ◌++◌, Option, Some, None, sym, refl, ap, ◌∙◌, subst, arith}
use Rattle.td_num.specs.Numbers.{rising_at, places_from}
use Rattle.td_num.specs.Lists.{first_where, one_more, looked_at}
use Rattle.td_stream.specs.declared.load.Load.{Load}
use Rattle.td_stream.specs.declared.stream.Stream.{Stream}
use Rattle.td_stream.specs.StreamInvariant.{Looked, position, end_of}
use Rattle.td_stream.proofs.Places.{look_more}
use Rattle.td_ir.specs.State.{State, left, at_pos}
use Rattle.td_ir.specs.Values.{numbers_from, is_nonzero}
use Rattle.td_ir.specs.Flow.{zeros, zeros_flow}
use Rattle.td_vm_step.specs.Stepping.{state_of, effect_of}
use Rattle.td_vm_step.specs.declared.activation.Activation.{Activation}

-- a place, counted from k places before
abbrev pub shifted : ℕ → Option ℕ → Option ℕ
shifted k None = None
shifted k (Some j) = Some (k + j)

pub shifted_none : (o : Option ℕ) → o ≡ shifted 0 o
shifted_none None = refl
shifted_none (Some j) = let e : j ≡ 0 + j = omega arith in ap Some e

shifted_more : (k : ℕ) (o : Option ℕ) → shifted k (one_more o) ≡ shifted (k + 1) o
shifted_more k None = refl
shifted_more k (Some j) = let e : k + suc j ≡ k + 1 + j = omega arith in ap Some e

-- k elements were passed over of n, and then one more, or the one that is sought
pub passed_one : (test : ℕ → Bool) (b : List ℕ) (p w n k v : ℕ) → k < n → v ≡ rising_at b p w → test v ≡ false → shifted k (first_where test (numbers_from b p w (n - k))) ≡ shifted (k + 1) (first_where test (numbers_from b (p + w) w (n - (k + 1))))
passed_one test b p w n k v l e h =
    let s : n - k ≡ suc (n - (k + 1)) = omega (arith, l) in
    let rest = first_where test (numbers_from b (p + w) w (n - (k + 1))) in
    ap (λ m. shifted k (first_where test (numbers_from b p w m))) s
    ∙ ap (λ t. shifted k (cond t (Some 0) (one_more rest))) (ap test (sym e) ∙ h)
    ∙ shifted_more k rest

pub found_one : (test : ℕ → Bool) (b : List ℕ) (p w n k v : ℕ) → k < n → v ≡ rising_at b p w → test v ≡ true → shifted k (first_where test (numbers_from b p w (n - k))) ≡ Some k
found_one test b p w n k v l e h =
    let s : n - k ≡ suc (n - (k + 1)) = omega (arith, l) in
    let z : k + 0 ≡ k = omega arith in
    ap (λ m. shifted k (first_where test (numbers_from b p w m))) s
    ∙ ap (λ t. shifted k (cond t (Some 0) (one_more (first_where test (numbers_from b (p + w) w (n - (k + 1))))))) (ap test (sym e) ∙ h)
    ∙ ap Some z

pub none_found : (test : ℕ → Bool) (b : List ℕ) (p w n k : ℕ) → n ≤ k → shifted k (first_where test (numbers_from b p w (n - k))) ≡ None
none_found test b p w n k l =
    let s : n - k ≡ 0 = omega (arith, l) in
    ap (λ m. shifted k (first_where test (numbers_from b p w m))) s

-- places

places_add : (a b p : ℕ) → places_from p a ++ places_from (p + a) b ≡ places_from p (a + b)
places_add zero b p =
    let e : p + 0 ≡ p = omega arith in
    let f : b ≡ 0 + b = omega arith in
    ap (λ q. places_from q b) e ∙ ap (places_from p) f
places_add (suc a) b p =
    let e : p + suc a ≡ p + 1 + a = omega arith in
    let f : suc (a + b) ≡ suc a + b = omega arith in
    ap (λ q. p ∷ (places_from (p + 1) a ++ places_from q b)) e ∙ ap (λ l. p ∷ l) (places_add a b (p + 1)) ∙ ap (places_from p) f

pub look_on : {W : Type 0} {loads : W → List Load} (r s t : Stream W) (p q k w m : ℕ) → Looked loads r s (places_from p (k * w)) → Looked loads s t (places_from q w) → q ≡ p + k * w → m ≡ suc k * w → Looked loads r t (places_from p m)
look_on {W} {loads} r s t p q k w m h l e f =
    let n : k * w + w ≡ m = omega (arith, f) in
    subst (Looked loads r t) (places_add (k * w) w p ∙ ap (places_from p) n)
    (look_more r s t (places_from p (k * w)) (places_from (p + k * w) w) h (subst (λ x. Looked loads s t (places_from x w)) e l))

pub next_width : (k w : ℕ) → (k + 1) * w ≡ k * w + w
next_width k w = grind arith

pub suc_width : (k w : ℕ) → suc k * w ≡ k * w + w
suc_width k w = grind arith

pub no_width : (w : ℕ) → 0 * w ≡ 0
no_width w = grind arith

pub one_wide : (k : ℕ) → k * 1 ≡ k
one_wide k = grind arith

pub fits_one : (k n w d : ℕ) → k < n → n * w ≤ d → w ≤ d - k * w
fits_one k n w d l h =
    let s : n ≡ suc (n - (k + 1)) + k = omega (arith, l) in
    let m : n * w ≡ w + (n - (k + 1)) * w + k * w = ap (λ x. x * w) s ∙ spread (n - (k + 1)) k w in
    omega (arith, h, m)
  where
    spread : (a k w : ℕ) → (suc a + k) * w ≡ w + a * w + k * w
    spread a k w = grind arith

-- states

pub moved_state : {W : Type 0} (regs cells : List ℕ) (a : Activation) (s t : Stream W) (p : ℕ) → position t ≡ p → end_of t ≡ end_of s → at_pos (state_of regs cells a s) p ≡ state_of regs cells a t
moved_state {W} regs cells a s t p e f = λ i. record { regs = regs; cells = cells; start = a.start; pos = sym e i; end = sym f i; outer = a.outer }

pub same_state : {W : Type 0} (regs cells : List ℕ) (a : Activation) (s t : Stream W) → end_of t ≡ end_of s → ◌≡◌ {A = State} (state_of regs cells a s) (record (state_of regs cells a t) { pos = position s })
same_state {W} regs cells a s t f = λ i. record { regs = regs; cells = cells; start = a.start; pos = position s; end = sym f i; outer = a.outer }

pub narrowed_state : {W : Type 0} (regs cells : List ℕ) (a : Activation) (s t : Stream W) (outer end : ℕ) → position t ≡ position s → end_of t ≡ end → outer ≡ end_of s → ◌≡◌ {A = State} (record (state_of regs cells a s) { end = end; outer = end_of s }) (state_of regs cells (record a { outer = outer }) t)
narrowed_state {W} regs cells a s t outer end p e f = λ i. record { regs = regs; cells = cells; start = a.start; pos = sym p i; end = sym e i; outer = sym f i }

pub widened_state : {W : Type 0} (regs cells : List ℕ) (a : Activation) (s t : Stream W) → position t ≡ position s → end_of t ≡ a.outer → ◌≡◌ {A = State} (record (state_of regs cells a s) { end = a.outer }) (state_of regs cells a t)
widened_state {W} regs cells a s t e f = λ i. record { regs = regs; cells = cells; start = a.start; pos = sym e i; end = sym f i; outer = a.outer }

-- instructions, by what was found

pub zeros_by : (b : List ℕ) (next site : ℕ) (s : State) (r : Option ℕ) → r ≡ first_where is_nonzero (numbers_from b s.pos 1 (left s)) → zeros b next site s ≡ effect_of (zeros_flow next site r s) (places_from s.pos (looked_at r (left s))) (1 + looked_at r (left s))
zeros_by b next site s r e = ap (λ f. effect_of (zeros_flow next site f s) (places_from s.pos (looked_at f (left s))) (1 + looked_at f (left s))) (sym e)
