-- Inputs: a module text, the first line that is exactly `%%`, and a job (own rule). A line ends at a line feed (10) or
-- at the end of the input.
use Rattle.std.specs.Prelude.{◌≡◌, ◌⊎◌, ℕ, ◌+◌, ◌-◌, ◌<◌, List, length, slice_index, take, drop}

-- a line begins at byte n
abbrev pub BeginsLine : List ℕ → ℕ → Type 0
BeginsLine input n = (n ≡ 0) ⊎ (slice_index input (n - 1) ≡ 10)

-- a line ends before byte n
abbrev pub EndsLine : List ℕ → ℕ → Type 0
EndsLine input n = (n ≡ length input) ⊎ (slice_index input n ≡ 10)

-- the line that begins at byte n is two percent signs (37)
pub record IsMarker (input : List ℕ) (n : ℕ) : Type 0 where
  pub within : n < length input
  pub first : slice_index input n ≡ 37
  pub second : slice_index input (n + 1) ≡ 37
  pub begins : BeginsLine input n
  pub ends : EndsLine input (n + 2)

-- and no line before it is
pub record IsFirstMarker (input : List ℕ) (n : ℕ) : Type 0 where
  pub marker : IsMarker input n
  pub before : (k : ℕ) → k < n → IsMarker input k → ⊥

-- the module text and the job of an input whose marker line begins at n
abbrev pub module_part : List ℕ → ℕ → List ℕ
module_part input n = take n input

abbrev pub job_part : List ℕ → ℕ → List ℕ
job_part input n = drop (n + 3) input
