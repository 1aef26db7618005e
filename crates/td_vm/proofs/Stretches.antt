-- Stretches of a run, one after the other.
use Rattle.std.proofs.Common.{◌≡◌, ℕ, ◌+◌, List, [], ◌++◌, sym, subst, arith, append_assoc, append-nil}
use Rattle.td_vm.specs.Imports.{Load, Stream}
use Rattle.td_stream.specs.StreamInvariant.{Later, Looked}
use Rattle.td_stream.proofs.Places.{look_more}
use Rattle.td_stream.proofs.Stages.{carried}
use Rattle.td_ir.specs.State.{Way, Exit, at_once, after}
use Rattle.td_vm_step.specs.Stepping.{Ran}
use Rattle.td_vm.specs.Exits.{exit_by}

-- two stretches
pub ran_trans : {W : Type 0} {loads : W → List Load} {reaches : W → W → Type 0} (r s t : Stream W) (a b c : ℕ) (P Q R : List ℕ → List ℕ → ℕ → Type 0) → Later loads reaches r s → Later loads reaches s t → Ran loads r s a b P → Ran loads s t b c Q → ((m x y : List ℕ) (j k : ℕ) → P m x j → Q m y k → R m (x ++ y) (j + k)) → Ran loads r t a c R
ran_trans {W} {loads} r s t a b c P Q R h k p q both = record {
  touched = p.touched ++ q.touched;
  taken = p.taken + q.taken;
  counted = omega (arith, p.counted, q.counted);
  looked = look_more r s t p.touched q.touched p.looked q.looked;
  holds = λ m c. let d = carried r s t m h k c in both m p.touched q.touched p.taken q.taken (p.holds m d.0) (q.holds m d.1);
}

-- two stretches, with a step between them
pub ran_step : {W : Type 0} {loads : W → List Load} {reaches : W → W → Type 0} (r s t : Stream W) (a b b' c : ℕ) (P Q R : List ℕ → List ℕ → ℕ → Type 0) → Later loads reaches r s → Later loads reaches s t → Ran loads r s a b P → Ran loads s t b' c Q → b' ≡ b + 1 → ((m x y : List ℕ) (j k : ℕ) → P m x j → Q m y k → R m (x ++ y) (j + (1 + k))) → Ran loads r t a c R
ran_step {W} {loads} r s t a b b' c P Q R h k p q e both = record {
  touched = p.touched ++ q.touched;
  taken = p.taken + (1 + q.taken);
  counted = omega (arith, p.counted, q.counted, e);
  looked = look_more r s t p.touched q.touched p.looked q.looked;
  holds = λ m c. let d = carried r s t m h k c in both m p.touched q.touched p.taken q.taken (p.holds m d.0) (q.holds m d.1);
}

-- a stretch, and then a step
pub ran_ticked : {W : Type 0} {loads : W → List Load} (s t : Stream W) (a b c : ℕ) (P R : List ℕ → List ℕ → ℕ → Type 0) → Ran loads s t a b P → c ≡ b + 1 → ((m x : List ℕ) (j : ℕ) → P m x j → R m x (j + 1)) → Ran loads s t a c R
ran_ticked s t a b c P R p e f = record { touched = p.touched; taken = p.taken + 1; counted = omega (arith, p.counted, e); looked = p.looked; holds = λ m c. f m p.touched p.taken (p.holds m c) }

-- a stretch, and then nothing that is looked at
pub ran_after : {W : Type 0} {loads : W → List Load} {reaches : W → W → Type 0} (r s t : Stream W) (a b : ℕ) (P R : List ℕ → List ℕ → ℕ → Type 0) → Later loads reaches r s → Later loads reaches s t → Ran loads r s a b P → Looked loads s t [] → ((m x : List ℕ) (j : ℕ) → P m x j → R m x j) → Ran loads r t a b R
ran_after {W} {loads} r s t a b P R h k p l f = record {
  touched = p.touched;
  taken = p.taken;
  counted = p.counted;
  looked = subst (Looked loads r t) (append-nil p.touched) (look_more r s t p.touched [] p.looked l);
  holds = λ m c. f m p.touched p.taken (p.holds m (carried r s t m h k c).0);
}

-- exits

pub after_more : (x y : List ℕ) (j k : ℕ) (e : Exit) → after x j (after y k e) ≡ after (x ++ y) (j + k) e
after_more x y j k e =
    let s : j + (k + e.steps) ≡ j + k + e.steps = omega arith in
    λ i. record { way = e.way; touched = sym (append_assoc x y e.touched) i; steps = s i }

-- left at once, after something was looked at
pub after_once : (x : List ℕ) (j : ℕ) (w : Way) → after x j (at_once w) ≡ exit_by w x j
after_once x j w =
    let s : j + 0 ≡ j = omega arith in
    λ i. record { way = w; touched = append-nil x i; steps = s i }

-- the same exit, after nothing
pub after_none : (e : Exit) → e ≡ after [] 0 e
after_none e =
    let s : e.steps ≡ 0 + e.steps = omega arith in
    λ i. record { way = e.way; touched = e.touched; steps = s i }
