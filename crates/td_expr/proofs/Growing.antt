-- What holds of the values in scope holds when more values come into scope. Cited by other crates.
use Rattle.std.proofs.Common.{◌≡◌, ℕ, Bool, true, false, refl, sym, ap, subst, ◌∙◌, List, [], ◌∷◌, ◌++◌, length, pos}
use Rattle.std.proofs.lemmas.List.{get_or_append_left}
use Rattle.td_num.proofs.Equals.{three_same, two_same}
use Rattle.td_core.specs.Term.{Term, number, name, complement, negation, compute, compare, both, either, choice, range_okay}
use Rattle.td_core.specs.Types.{type_of}
use Rattle.td_expr.specs.Value.{value_of, truth_of, complemented, negated, computed, compared, both_of, either_of, choice_of, range_okay_of, related}
use Rattle.td_expr.specs.Facts.{Fact}
use Rattle.td_expr.specs.Sound.{FitsScalar, InType, Sound, Placed, Holds, AllHold, AllPlaced}

pub value_more : (t : Term) (env more : List ℕ) → Placed (length env) t → value_of t (env ++ more) ≡ value_of t env
value_more (number n w) env more p = refl
value_more (name i w most) env more p = ap pos (get_or_append_left env more 0 i p)
value_more (complement a) env more p = ap (complemented (type_of a)) (value_more a env more p)
value_more (negation a) env more p = ap negated (value_more a env more p)
value_more (compute op span a b) env more p =
    two_same (computed op (type_of a) (type_of b)) (value_of a (env ++ more)) (value_of a env) (value_of b (env ++ more)) (value_of b env) (value_more a env more p.0) (value_more b env more p.1)
value_more (compare r a b) env more p =
    two_same (compared r) (value_of a (env ++ more)) (value_of a env) (value_of b (env ++ more)) (value_of b env) (value_more a env more p.0) (value_more b env more p.1)
value_more (both a b) env more p =
    two_same both_of (value_of a (env ++ more)) (value_of a env) (value_of b (env ++ more)) (value_of b env) (value_more a env more p.0) (value_more b env more p.1)
value_more (either a b) env more p =
    two_same either_of (value_of a (env ++ more)) (value_of a env) (value_of b (env ++ more)) (value_of b env) (value_more a env more p.0) (value_more b env more p.1)
value_more (choice c a b) env more p =
    three_same choice_of (value_of c (env ++ more)) (value_of c env) (value_of a (env ++ more)) (value_of a env) (value_of b (env ++ more)) (value_of b env)
    (value_more c env more p.0) (value_more a env more p.1.0) (value_more b env more p.1.1)
value_more (range_okay s o a) env more p =
    three_same range_okay_of (value_of s (env ++ more)) (value_of s env) (value_of o (env ++ more)) (value_of o env) (value_of a (env ++ more)) (value_of a env)
    (value_more s env more p.0) (value_more o env more p.1.0) (value_more a env more p.1.1)

type_more : (t : Term) (env more : List ℕ) → Placed (length env) t → InType t env → InType t (env ++ more)
type_more t env more p i = subst (FitsScalar (type_of t)) (sym (value_more t env more p)) i

truth_more : (t : Term) (env more : List ℕ) (b : Bool) → Placed (length env) t → truth_of (value_of t (env ++ more)) ≡ b → truth_of (value_of t env) ≡ b
truth_more t env more b p h = sym (ap truth_of (value_more t env more p)) ∙ h

pub sound_more : (t : Term) (env more : List ℕ) → Placed (length env) t → Sound t env → Sound t (env ++ more)
sound_more (number n w) env more p s = s
sound_more (name i w most) env more p s = (type_more (name i w most) env more p s.0, tt)
sound_more (complement a) env more p s = (type_more (complement a) env more p s.0, sound_more a env more p s.1)
sound_more (negation a) env more p s = (type_more (negation a) env more p s.0, sound_more a env more p s.1)
sound_more (compute op span a b) env more p s = (type_more (compute op span a b) env more p s.0, (sound_more a env more p.0 s.1.0, sound_more b env more p.1 s.1.1))
sound_more (compare r a b) env more p s = (type_more (compare r a b) env more p s.0, (sound_more a env more p.0 s.1.0, sound_more b env more p.1 s.1.1))
sound_more (both a b) env more p s =
    (type_more (both a b) env more p s.0, (sound_more a env more p.0 s.1.0, λ h. sound_more b env more p.1 (s.1.1 (truth_more a env more true p.0 h))))
sound_more (either a b) env more p s =
    (type_more (either a b) env more p s.0, (sound_more a env more p.0 s.1.0, λ h. sound_more b env more p.1 (s.1.1 (truth_more a env more false p.0 h))))
sound_more (choice c a b) env more p s = (
  type_more (choice c a b) env more p s.0,
  (
    sound_more c env more p.0 s.1.0,
    (λ h. sound_more a env more p.1.0 (s.1.1.0 (truth_more c env more true p.0 h)), λ h. sound_more b env more p.1.1 (s.1.1.1 (truth_more c env more false p.0 h))),
  ),
)
sound_more (range_okay s o a) env more p t =
    (type_more (range_okay s o a) env more p t.0, (sound_more s env more p.0 t.1.0, (sound_more o env more p.1.0 t.1.1.0, sound_more a env more p.1.1 t.1.1.1)))

holds_more : (f : Fact) (env more : List ℕ) → Placed (length env) f.left × Placed (length env) f.right → Holds f env → Holds f (env ++ more)
holds_more f env more p h = record {
  relates = ap (λ v. related f.relation v (value_of f.right (env ++ more))) (value_more f.left env more p.0) ∙ ap (related f.relation (value_of f.left env)) (value_more f.right env more p.1) ∙ h.relates;
  left = sound_more f.left env more p.0 h.left;
  right = sound_more f.right env more p.1 h.right;
}

pub all_hold_more : (fs : List Fact) (env more : List ℕ) → AllPlaced (length env) fs → AllHold fs env → AllHold fs (env ++ more)
all_hold_more [] env more p h = h
all_hold_more (f ∷ fs) env more p h = (holds_more f env more p.0 h.0, all_hold_more fs env more p.1 h.1)
