-- Marks that are handed on are those of the ways.
use Rattle.std.proofs.Common.{◌≡◌, ℕ, ◌+◌, ◌<◌, ◌≤◌, ◌⊎◌, ⊎_elim, List, Bool, true, false, nat_lt, if◌then◌else◌, sym, subst, ◌∙◌, arith}
use Rattle.std.proofs.lemmas.Bool.{cases_lt}
use Rattle.std.proofs.lemmas.Bool.Decides.{nat_tests}
use Rattle.td_verify.specs.declared.shape.Shape.{Shape}
use Rattle.td_verify.specs.Brackets.{shape_at, opened}
use Rattle.td_verify.specs.Ways.{Leads, IsIdle, IdleWay, IsClosed}
use Rattle.td_verify.specs.Marks.{marked}

pub way_here : (s : List Shape) (E : ℕ → Type 0) (from : ℕ) → IdleWay s E from from
way_here s E from = λ set closed m. m

pub way_on : (s : List Shape) (E : ℕ → Type 0) (from p q : ℕ) → IdleWay s E from p → p < q → Leads p (shape_at s p) q → IsIdle E (opened s p) (shape_at s p) → IdleWay s E from q
way_on s E from p q w lt leads idle = λ set closed m. closed p q lt leads idle (w set closed m)

-- the marks of a stretch as a set: nothing before it, all behind it
abbrev within : List Bool → ℕ → ℕ → ℕ → Bool
within marks from to p = if nat_lt p from then false else (if nat_lt to p then true else marked marks p)

within_before : (marks : List Bool) (from to p : ℕ) → p < from → within marks from to p ≡ false
within_before marks from to p h = grind (arith, nat_tests)

within_behind : (marks : List Bool) (from to p : ℕ) → from ≤ p → to < p → within marks from to p ≡ true
within_behind marks from to p h k = grind (arith, nat_tests)

within_here : (marks : List Bool) (from to p : ℕ) → from ≤ p → p ≤ to → within marks from to p ≡ marked marks p
within_here marks from to p h k = grind (arith, nat_tests)

abbrev pub AreHandedOn : List Shape → (ℕ → Type 0) → List Bool → (from upto to : ℕ) → Type 0
AreHandedOn s E marks from upto to = (p q : ℕ) → from ≤ p → p < upto → p < q → q ≤ to → Leads p (shape_at s p) q → IsIdle E (opened s p) (shape_at s p) → marked marks p ≡ true → marked marks q ≡ true

within_closed : (s : List Shape) (E : ℕ → Type 0) (marks : List Bool) (from to : ℕ) → AreHandedOn s E marks from to to → IsClosed s E (within marks from to)
within_closed s E marks from to on = λ p q lt leads idle m. ⊎_elim
    (λ (b : p < from). let e = within_before marks from to p b in absurd (cc))
    (λ (a : from ≤ p). ⊎_elim
    (λ (b : to < q). within_behind marks from to q (omega arith) b)
    (λ (k : q ≤ to). within_here marks from to q (omega arith) k ∙ on p q a (omega arith) lt k leads idle (sym (within_here marks from to p a (omega arith)) ∙ m))
    (cases_lt to q))
    (cases_lt p from)

pub way_marked : (s : List Shape) (E : ℕ → Type 0) (marks : List Bool) (from to : ℕ) → AreHandedOn s E marks from to to → marked marks from ≡ true → (q : ℕ) → from ≤ q → q ≤ to → IdleWay s E from q → marked marks q ≡ true
way_marked s E marks from to on begins q a b w =
    sym (within_here marks from to q a b) ∙ w (within marks from to) (within_closed s E marks from to on) (within_here marks from to from (omega arith) (omega arith) ∙ begins)

-- one more place has handed its mark on
pub handed_more : (s : List Shape) (E : ℕ → Type 0) (marks marks' : List Bool) (from at to : ℕ) → from ≤ at → at < to → AreHandedOn s E marks from at to
    → ((k : ℕ) → marked marks k ≡ true → marked marks' k ≡ true)
    → ((k : ℕ) → k ≤ at → marked marks' k ≡ marked marks k)
    → ((q : ℕ) → Leads at (shape_at s at) q → at < q → q ≤ to → IsIdle E (opened s at) (shape_at s at) → marked marks at ≡ true → marked marks' q ≡ true)
    → AreHandedOn s E marks' from (at + 1) to
handed_more s E marks marks' from at to a b on kept low here = λ p q h k lt l leads idle m. ⊎_elim
    (λ (before : p < at). kept q (on p q h before lt l leads idle (sym (low p (omega arith)) ∙ m)))
    (λ (le : at ≤ p).
    let same : p ≡ at = omega arith in
    here q (subst (λ x. Leads x (shape_at s x) q) same leads) (subst (λ x. x < q) same lt) l (subst (λ x. IsIdle E (opened s x) (shape_at s x)) same idle) (sym (low at (omega arith)) ∙ subst (λ x. marked marks' x ≡ true) same m))
    (cases_lt p at)

pub sound_more : (s : List Shape) (E : ℕ → Type 0) (marks marks' : List Bool) (from at to : ℕ) → from ≤ at → at < to
    → ((q : ℕ) → from ≤ q → q ≤ to → marked marks q ≡ true → IdleWay s E from q)
    → ((k : ℕ) → marked marks' k ≡ true → (marked marks k ≡ true) ⊎ (Leads at (shape_at s at) k × (at < k) × IsIdle E (opened s at) (shape_at s at) × (marked marks at ≡ true)))
    → (q : ℕ) → from ≤ q → q ≤ to → marked marks' q ≡ true → IdleWay s E from q
sound_more s E marks marks' from at to a b sound only q h k m = ⊎_elim
    (λ (old : marked marks q ≡ true). sound q h k old)
    (λ (new : Leads at (shape_at s at) q × (at < q) × IsIdle E (opened s at) (shape_at s at) × (marked marks at ≡ true)). way_on s E from at q (sound at a (omega arith) new.3) new.1 new.0 new.2)
    (only q m)
