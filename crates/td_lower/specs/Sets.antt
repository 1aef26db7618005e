-- Sets of the values of enums.
use Rattle.std.specs.Prelude.{◌≡◌, ℕ, List, [], ◌∷◌, cond, nat_eq, length, slice_index_or}
use Rattle.td_num.specs.Lists.{is_among}
use Rattle.td_ir.specs.WellFormed.{Rises}

-- the same numbers, strictly rising
pub record IsSetOf (values set : List ℕ) : Type 0 where
  pub rises : Rises set
  pub same : (n : ℕ) → is_among set n ≡ is_among values n

-- the sets of the enums, one each
pub record AreSetsOf (all sets : List (List ℕ)) : Type 0 where
  pub count : length sets ≡ length all
  pub each : (k : ℕ) → IsSetOf (slice_index_or all k []) (slice_index_or sets k [])

-- of numbers in order, the last of each that are equal
abbrev pub once : List ℕ → List ℕ
once [] = []
once (x ∷ []) = x ∷ []
once (x ∷ y ∷ ys) = cond (nat_eq x y) (once (y ∷ ys)) (x ∷ once (y ∷ ys))
