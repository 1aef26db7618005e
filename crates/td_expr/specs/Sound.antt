-- Values in their types' ranges (own rule).
use Rattle.std.specs.Prelude.{◌≡◌, ℕ, ◌<◌, ◌≤◌, true, false, List, [], ◌∷◌, ℤ, pos, negsuc, slice_index}
use Rattle.td_expr.specs.Imports.{Scalar}
use Rattle.td_core.specs.Term.{Term, number, name, complement, negation, compute, compare, both, either, choice, range_okay}
use Rattle.td_core.specs.Types.{limit, type_of}
use Rattle.td_expr.specs.Value.{value_of, truth_of, related}
use Rattle.td_expr.specs.Facts.{Fact}

-- a value of a type: from 0 to 2 ^ bits - 1
abbrev pub FitsScalar : Scalar → ℤ → Type 0
FitsScalar w (pos n) = n < limit w
FitsScalar w (negsuc n) = ⊥

abbrev pub InType : Term → List ℕ → Type 0
InType t env = FitsScalar (type_of t) (value_of t env)

-- the expression and each part of it that is evaluated have values in their types' ranges
abbrev pub Sound : Term → List ℕ → Type 0
Sound (number n w) env = InType (number n w) env × Unit {0}
Sound (name i w most) env = InType (name i w most) env × Unit {0}
Sound (complement a) env = InType (complement a) env × Sound a env
Sound (negation a) env = InType (negation a) env × Sound a env
Sound (compute op span a b) env = InType (compute op span a b) env × (Sound a env × Sound b env)
Sound (compare r a b) env = InType (compare r a b) env × (Sound a env × Sound b env)
Sound (both a b) env = InType (both a b) env × (Sound a env × (truth_of (value_of a env) ≡ true → Sound b env))
Sound (either a b) env = InType (either a b) env × (Sound a env × (truth_of (value_of a env) ≡ false → Sound b env))
Sound (choice c a b) env =
    InType (choice c a b) env × (Sound c env × ((truth_of (value_of c env) ≡ true → Sound a env) × (truth_of (value_of c env) ≡ false → Sound b env)))
Sound (range_okay s o a) env = InType (range_okay s o a) env × (Sound s env × (Sound o env × Sound a env))

-- literals fit their types, and names have values in their ranges
abbrev pub Known : Term → List ℕ → Type 0
Known (number n w) env = n < limit w
Known (name i w most) env = (slice_index env i ≤ most) × (most < limit w)
Known (complement a) env = Known a env
Known (negation a) env = Known a env
Known (compute op span a b) env = Known a env × Known b env
Known (compare r a b) env = Known a env × Known b env
Known (both a b) env = Known a env × Known b env
Known (either a b) env = Known a env × Known b env
Known (choice c a b) env = Known c env × (Known a env × Known b env)
Known (range_okay s o a) env = Known s env × (Known o env × Known a env)

-- a fact is true, of sides that were evaluated
pub record Holds (f : Fact) (env : List ℕ) : Type 0 where
  pub relates : related f.relation (value_of f.left env) (value_of f.right env) ≡ true
  pub left : Sound f.left env
  pub right : Sound f.right env

abbrev pub AllHold : List Fact → List ℕ → Type 0
AllHold [] env = Unit {0}
AllHold (f ∷ fs) env = Holds f env × AllHold fs env

-- each name stands among the first so many values
abbrev pub Placed : ℕ → Term → Type 0
Placed size (number n w) = Unit {0}
Placed size (name i w most) = i < size
Placed size (complement a) = Placed size a
Placed size (negation a) = Placed size a
Placed size (compute op span a b) = Placed size a × Placed size b
Placed size (compare r a b) = Placed size a × Placed size b
Placed size (both a b) = Placed size a × Placed size b
Placed size (either a b) = Placed size a × Placed size b
Placed size (choice c a b) = Placed size c × (Placed size a × Placed size b)
Placed size (range_okay s o a) = Placed size s × (Placed size o × Placed size a)

abbrev pub AllPlaced : ℕ → List Fact → Type 0
AllPlaced size [] = Unit {0}
AllPlaced size (f ∷ fs) = (Placed size f.left × Placed size f.right) × AllPlaced size fs
