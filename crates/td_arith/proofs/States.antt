-- Cited by other crates.
-- What is known where an expression stands: the values in scope are within bounds, and the facts are of them and hold.
use Rattle.std.proofs.Common.{◌≡◌, ℕ, suc, ◌+◌, ◌≤◌, Bool, true, false, List, [], ◌∷◌, ◌++◌, length, sym, subst, arith, None, length-append}
use Rattle.td_core.specs.Term.{Term, number, name, complement, negation, compute, compare, both, either, choice, range_okay}
use Rattle.td_core.specs.Types.{limit, type_of}
use Rattle.td_expr.specs.Value.{value_of}
use Rattle.td_expr.specs.Facts.{Fact, facts_of}
use Rattle.td_expr.specs.Safe.{first_unsafe}
use Rattle.td_expr.specs.Sound.{Sound, Known, Placed, AllPlaced, AllHold}
use Rattle.td_expr.proofs.Holding.{in_type, below_limit, all_append, facts_hold}
use Rattle.td_expr.proofs.Growing.{all_hold_more}
use Rattle.td_expr.proofs.Admitting.{admitted_is_sound}
use Rattle.td_meaning.specs.Doing.{natural_of, is_true}
use Rattle.td_core.specs.Formed.{Bound, AllFit, IsScoped}
use Rattle.td_arith.proofs.Fitting.{get_fits, fit_length, fit_push}
use Rattle.td_expr.proofs.Scoped.{scoped_placed as placed}

pub known : (scope : List Bound) (env : List ℕ) (t : Term) → AllFit scope env → IsScoped scope t → Known t env
known scope env (number n w) h s = s
known scope env (name i w most) h s = (get_fits scope env i (record { type = w; most = most }) s.0 h, s.1)
known scope env (complement a) h s = known scope env a h s
known scope env (negation a) h s = known scope env a h s
known scope env (compute op sp a b) h s = (known scope env a h s.0, known scope env b h s.1)
known scope env (compare r a b) h s = (known scope env a h s.0, known scope env b h s.1)
known scope env (both a b) h s = (known scope env a h s.0, known scope env b h s.1)
known scope env (either a b) h s = (known scope env a h s.0, known scope env b h s.1)
known scope env (choice c a b) h s = (known scope env c h s.0, (known scope env a h s.1.0, known scope env b h s.1.1))
known scope env (range_okay c a b) h s = (known scope env c h s.0, (known scope env a h s.1.0, known scope env b h s.1.1))

pub placed_append : (n : ℕ) (fs gs : List Fact) → AllPlaced n fs → AllPlaced n gs → AllPlaced n (fs ++ gs)
placed_append n [] gs h k = k
placed_append n (f ∷ fs) gs h k = (h.0, placed_append n fs gs h.1 k)

facts_placed : (n : ℕ) (truth : Bool) (t : Term) → Placed n t → AllPlaced n (facts_of truth t)
facts_placed n truth (number m w) p = tt
facts_placed n truth (name i w most) p = tt
facts_placed n truth (complement a) p = tt
facts_placed n true (negation a) p = facts_placed n false a p
facts_placed n false (negation a) p = facts_placed n true a p
facts_placed n truth (compute op sp a b) p = tt
facts_placed n true (compare r a b) p = (p, tt)
facts_placed n false (compare r a b) p = (p, tt)
facts_placed n true (both a b) p = placed_append n (facts_of true a) (facts_of true b) (facts_placed n true a p.0) (facts_placed n true b p.1)
facts_placed n false (both a b) p = tt
facts_placed n true (either a b) p = tt
facts_placed n false (either a b) p = placed_append n (facts_of false a) (facts_of false b) (facts_placed n false a p.0) (facts_placed n false b p.1)
facts_placed n truth (choice c a b) p = tt
facts_placed n true (range_okay s o a) p = ((p.1.1, p.0), ((p.1.0, (p.0, p.1.1)), tt))
facts_placed n false (range_okay s o a) p = tt

placed_more : (n : ℕ) (t : Term) → Placed n t → Placed (n + 1) t
placed_more n (number m w) p = tt
placed_more n (name i w most) p = omega (arith, p)
placed_more n (complement a) p = placed_more n a p
placed_more n (negation a) p = placed_more n a p
placed_more n (compute op sp a b) p = (placed_more n a p.0, placed_more n b p.1)
placed_more n (compare r a b) p = (placed_more n a p.0, placed_more n b p.1)
placed_more n (both a b) p = (placed_more n a p.0, placed_more n b p.1)
placed_more n (either a b) p = (placed_more n a p.0, placed_more n b p.1)
placed_more n (choice c a b) p = (placed_more n c p.0, (placed_more n a p.1.0, placed_more n b p.1.1))
placed_more n (range_okay c a b) p = (placed_more n c p.0, (placed_more n a p.1.0, placed_more n b p.1.1))

all_placed_more : (n : ℕ) (fs : List Fact) → AllPlaced n fs → AllPlaced (n + 1) fs
all_placed_more n [] p = tt
all_placed_more n (f ∷ fs) p = ((placed_more n f.left p.0.0, placed_more n f.right p.0.1), all_placed_more n fs p.1)

pub record State (scope : List Bound) (facts : List Fact) (env : List ℕ) : Type 0 where
  pub fits : AllFit scope env
  pub placed : AllPlaced (length env) facts
  pub holds : AllHold facts env

-- a value comes into scope
pub pushed : (scope : List Bound) (facts : List Fact) (env : List ℕ) (b : Bound) (v : ℕ) → State scope facts env → v ≤ b.most → State (scope ++ b ∷ []) facts (env ++ v ∷ [])
pushed scope facts env b v s le = record {
  fits = fit_push scope env b v s.fits le;
  placed = subst (λ n. AllPlaced n facts) (sym (length-append env (v ∷ []))) (all_placed_more (length env) facts s.placed);
  holds = all_hold_more facts env (v ∷ []) s.placed s.holds;
}

-- an expression that the rule admits
pub sound : (scope : List Bound) (facts : List Fact) (env : List ℕ) (e : Term) → State scope facts env → IsScoped scope e → first_unsafe facts e ≡ None → Sound e env
sound scope facts env e s i u = admitted_is_sound e env facts u (known scope env e s.fits i) s.holds

-- a condition was true, or false
pub told : (scope : List Bound) (facts : List Fact) (env : List ℕ) (e : Term) (truth : Bool) → State scope facts env → IsScoped scope e → Sound e env → is_true e env ≡ truth → State scope (facts ++ facts_of truth e) env
told scope facts env e truth s i g h = record {
  fits = s.fits;
  placed = placed_append (length env) facts (facts_of truth e) s.placed
      (facts_placed (length env) truth e (subst (λ n. Placed n e) (fit_length scope env s.fits) (placed scope e i)));
  holds = all_append facts (facts_of truth e) env s.holds (facts_hold e env truth g h);
}

-- its number, where a number of the machine stands
pub number_fits : (env : List ℕ) (e : Term) (most : ℕ) → Sound e env → limit (type_of e) ≤ suc most → natural_of e env ≤ most
number_fits env e most g wide = let small = below_limit (type_of e) (value_of e env) (in_type e env g) in omega (arith, small, wide)

-- more is known of the same values
pub known_too : (scope : List Bound) (facts more : List Fact) (env : List ℕ) → State scope facts env → AllPlaced (length env) more → AllHold more env → State scope (facts ++ more) env
known_too scope facts more env s p h = record { fits = s.fits; placed = placed_append (length env) facts more s.placed p; holds = all_append facts more env s.holds h }
