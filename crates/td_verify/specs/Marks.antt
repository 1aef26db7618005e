-- The verifier's marks (own rule): places that are reached with no byte taken, and a table of the routines that may take none.
use Rattle.std.specs.Prelude.{◌≡◌, ℕ, ◌+◌, ◌⊎◌, List, Option, Some, Bool, true, false, slice_index_or}

-- by a table of the routines so far
abbrev pub IsEmptyBy : List Bool → ℕ → Type 0
IsEmptyBy empties m = slice_index_or empties m true ≡ true

abbrev pub marked : List Bool → ℕ → Bool
marked marks p = slice_index_or marks p false

-- where an instruction leads, as a jump and whether it goes on
abbrev pub IsTarget : ℕ → Option ℕ → Bool → ℕ → Type 0
IsTarget p jump next q = (jump ≡ Some q) ⊎ ((next ≡ true) × (q ≡ p + 1))
