-- The facts of a condition that was evaluated hold, and they cut ranges that contain the value. Cited by other crates.
use Rattle.std.proofs.Common.{◌≡◌, ℕ, ◌<◌, ◌≤◌, Bool, true, false, ltb, refl, sym, ap, subst, ◌∙◌, inl, inr, arith, List, [], ◌∷◌, ◌++◌, ℤ, pos, negsuc}
use Rattle.std.specs.Prelude.{◌-ℤ◌}
use Rattle.std.proofs.lemmas.Bool.{ltb-false, false≢true, true≢false, or_cases}
use Rattle.td_expr.specs.Imports.{Scalar, Truth, Binary, Subtract, Relation, LessEqual}
use Rattle.td_core.specs.Term.{Term, number, name, complement, negation, compute, compare, both, either, choice, range_okay}
use Rattle.td_core.specs.Types.{limit, type_of}
use Rattle.td_expr.specs.Value.{value_of, truth_of, number_of, flip, chosen, computed, related, natural}
use Rattle.td_expr.specs.Same.{same, constant_of}
use Rattle.td_expr.specs.Facts.{no_span, Fact, facts_of, mirrored, some_fact}
use Rattle.td_expr.specs.Range.{Range}
use Rattle.td_expr.specs.Range.{cut_by, cut_by_all, narrowed, constant_or, cut_where}
use Rattle.td_expr.specs.Sound.{FitsScalar, InType, Sound, Holds, AllHold}
use Rattle.td_expr.proofs.Folding.{same_value, constant_is}
use Rattle.td_expr.proofs.Reaching.{Contains, flip_true, cut_where_holds, constant_or_holds, related_mirrored, related_turned, computed_fits}

pub in_type : (t : Term) (env : List ℕ) → Sound t env → InType t env
in_type (number n w) env s = s.0
in_type (name i w most) env s = s.0
in_type (complement a) env s = s.0
in_type (negation a) env s = s.0
in_type (compute op span a b) env s = s.0
in_type (compare r a b) env s = s.0
in_type (both a b) env s = s.0
in_type (either a b) env s = s.0
in_type (choice c a b) env s = s.0
in_type (range_okay s o a) env t = t.0

pub as_number : (w : Scalar) (v : ℤ) → FitsScalar w v → v ≡ pos (natural v)
as_number w (pos n) h = refl
as_number w (negsuc n) h = absurd h

pub below_limit : (w : Scalar) (v : ℤ) → FitsScalar w v → natural v < limit w
below_limit w (pos n) h = h
below_limit w (negsuc n) h = absurd h

pub truth_number : (b : Bool) → truth_of (number_of b) ≡ b
truth_number true = refl
truth_number false = refl

pub truth_fits : (b : Bool) → FitsScalar Truth (number_of b)
truth_fits true = omega arith
truth_fits false = omega arith

pub all_append : (fs gs : List Fact) (env : List ℕ) → AllHold fs env → AllHold gs env → AllHold (fs ++ gs) env
all_append [] gs env h k = k
all_append (f ∷ fs) gs env h k = (h.0, all_append fs gs env h.1 k)

chosen_true : (a b : Bool) → chosen a b false ≡ true → (a ≡ true) × (b ≡ true)
chosen_true true b h = (refl, h)
chosen_true false b h = absurd (false≢true h)

chosen_false : (a b : Bool) → chosen a true b ≡ false → (a ≡ false) × (b ≡ false)
chosen_false true b h = absurd (true≢false h)
chosen_false false b h = (refl, h)

flip_false : (b : Bool) → flip b ≡ false → b ≡ true
flip_false true h = refl
flip_false false h = sym h

-- what the left side of a difference needs
pub at_most_numbers : (x y : ℕ) → related LessEqual (pos x) (pos y) ≡ true → x ≤ y
at_most_numbers x y h = ltb-false y x (flip_true (ltb y x) h)

pub up_to_values : (a b : ℤ) → related LessEqual a b ≡ true → a ≡ pos (natural a) → b ≡ pos (natural b) → natural a ≤ natural b
up_to_values a b h p q =
    at_most_numbers (natural a) (natural b) (subst (λ v. related LessEqual v (pos (natural b)) ≡ true) p (subst (λ v. related LessEqual a v ≡ true) q h))

pub computed_in_type : (op : Binary) (a b : Term) (env : List ℕ) (x y : ℕ) → value_of a env ≡ pos x → value_of b env ≡ pos y
    → FitsScalar (type_of (compute op no_span a b)) (computed op (type_of a) (type_of b) (pos x) (pos y)) → InType (compute op no_span a b) env
computed_in_type op a b env x y p q h =
    subst (λ v. FitsScalar (type_of (compute op no_span a b)) (computed op (type_of a) (type_of b) (value_of a env) v)) (sym q)
    (subst (λ v. FitsScalar (type_of (compute op no_span a b)) (computed op (type_of a) (type_of b) v (pos y))) (sym p) h)

difference_sound : (s a : Term) (env : List ℕ) → Sound s env → Sound a env → related LessEqual (value_of a env) (value_of s env) ≡ true → Sound (compute Subtract no_span s a) env
difference_sound s a env p q h =
    let v = as_number (type_of s) (value_of s env) (in_type s env p) in
    let w = as_number (type_of a) (value_of a env) (in_type a env q) in
    let x = natural (value_of s env) in
    let y = natural (value_of a env) in (
      computed_in_type Subtract s a env x y v w
          (computed_fits Subtract (type_of s) (type_of a) x y
          (below_limit (type_of s) (value_of s env) (in_type s env p)) (below_limit (type_of a) (value_of a env) (in_type a env q))
          (up_to_values (value_of a env) (value_of s env) h w v)),
      (p, q),
    )

pub facts_hold : (t : Term) (env : List ℕ) (truth : Bool) → Sound t env → truth_of (value_of t env) ≡ truth → AllHold (facts_of truth t) env
facts_hold (number n w) env truth s h = tt
facts_hold (name i w most) env truth s h = tt
facts_hold (complement a) env truth s h = tt
facts_hold (negation a) env true s h =
    facts_hold a env false s.1 (flip_true (truth_of (value_of a env)) (sym (truth_number (flip (truth_of (value_of a env)))) ∙ h))
facts_hold (negation a) env false s h =
    facts_hold a env true s.1 (flip_false (truth_of (value_of a env)) (sym (truth_number (flip (truth_of (value_of a env)))) ∙ h))
facts_hold (compute op span a b) env truth s h = tt
facts_hold (compare r a b) env true s h =
    (record { relates = sym (truth_number (related r (value_of a env) (value_of b env))) ∙ h; left = s.1.0; right = s.1.1 }, tt)
facts_hold (compare r a b) env false s h = (
  record {
    relates = related_turned r (value_of a env) (value_of b env) (sym (truth_number (related r (value_of a env) (value_of b env))) ∙ h);
    left = s.1.0;
    right = s.1.1;
  },
  tt,
)
facts_hold (both a b) env true s h =
    let p = chosen_true (truth_of (value_of a env)) (truth_of (value_of b env)) (sym (truth_number (chosen (truth_of (value_of a env)) (truth_of (value_of b env)) false)) ∙ h) in
    all_append (facts_of true a) (facts_of true b) env (facts_hold a env true s.1.0 p.0) (facts_hold b env true (s.1.1 p.0) p.1)
facts_hold (both a b) env false s h = tt
facts_hold (either a b) env true s h = tt
facts_hold (either a b) env false s h =
    let p = chosen_false (truth_of (value_of a env)) (truth_of (value_of b env)) (sym (truth_number (chosen (truth_of (value_of a env)) true (truth_of (value_of b env)))) ∙ h) in
    all_append (facts_of false a) (facts_of false b) env (facts_hold a env false s.1.0 p.0) (facts_hold b env false (s.1.1 p.0) p.1)
facts_hold (choice c a b) env truth s h = tt
facts_hold (range_okay s o a) env true t h =
    let vs = value_of s env in
    let vo = value_of o env in
    let va = value_of a env in
    let p = chosen_true (related LessEqual va vs) (related LessEqual vo (vs -ℤ va))
    (sym (truth_number (chosen (related LessEqual va vs) (related LessEqual vo (vs -ℤ va)) false)) ∙ h) in (
      record { relates = p.0; left = t.1.1.1; right = t.1.0 },
      (record { relates = p.1; left = t.1.1.0; right = difference_sound s a env t.1.0 t.1.1.1 p.0 }, tt),
    )
facts_hold (range_okay s o a) env false t h = tt

-- a fact that holds, of sides with these values
pub related_at : (r : Relation) (a b a' b' : ℤ) → a ≡ a' → b ≡ b' → related r a b ≡ true → related r a' b' ≡ true
related_at r a b a' b' p q h = sym (ap (λ v. related r v b) p ∙ ap (related r a') q) ∙ h

cut_by_holds : (f : Fact) (t : Term) (env : List ℕ) (range : Range) (n : ℕ) → Holds f env → value_of t env ≡ pos n → Contains range n → Contains (cut_by f t range) n
cut_by_holds f t env range n h v i =
    cut_where_holds (same f.right t) (mirrored f.relation) (constant_of f.left) (cut_where (same f.left t) f.relation (constant_of f.right) range) n
    (λ e c k. related_mirrored f.relation (pos c) (pos n)
    (related_at f.relation (value_of f.left env) (value_of f.right env) (pos c) (pos n) (constant_is f.left c env k) (same_value f.right t env e ∙ v) h.relates))
    (cut_where_holds (same f.left t) f.relation (constant_of f.right) range n
    (λ e c k. related_at f.relation (value_of f.left env) (value_of f.right env) (pos n) (pos c) (same_value f.left t env e ∙ v) (constant_is f.right c env k) h.relates)
    i)

cuts_hold : (fs : List Fact) (t : Term) (env : List ℕ) (range : Range) (n : ℕ) → AllHold fs env → value_of t env ≡ pos n → Contains range n → Contains (cut_by_all fs t range) n
cuts_hold [] t env range n h v i = i
cuts_hold (f ∷ fs) t env range n h v i = cuts_hold fs t env (cut_by f t range) n h.1 v (cut_by_holds f t env range n h.0 v i)

pub narrowed_holds : (fs : List Fact) (t : Term) (env : List ℕ) (range : Range) (n : ℕ) → AllHold fs env → value_of t env ≡ pos n → Contains range n → Contains (narrowed fs t range) n
narrowed_holds fs t env range n h v i =
    cuts_hold fs t env (constant_or (constant_of t) range) n h v
    (constant_or_holds (constant_of t) range n (λ c k. ap natural (sym (constant_is t c env k) ∙ v)) i)

-- one of the facts that hold passes the test
pub record Found (test : Fact → Bool) (env : List ℕ) : Type 0 where
  pub fact : Fact
  pub passes : test fact ≡ true
  pub holds : Holds fact env

pub found : (test : Fact → Bool) (fs : List Fact) (env : List ℕ) → AllHold fs env → some_fact test fs ≡ true → Found test env
found test [] env h e = absurd (false≢true e)
found test (f ∷ fs) env h e = elim (or_cases (test f) (some_fact test fs) e) [
  | inl here ↦ record { fact = f; passes = here; holds = h.0 }
  | inr there ↦ found test fs env h.1 there
]
