-- When a field's bytes are copied; of use inside this crate alone.
use Rattle.std.specs.Prelude.{◌≡◌, ℕ, List, Option, Some}
use Rattle.td_core.specs.Term.{Term}
use Rattle.td_direct.specs.Imports.{CopyOut, Filling, Field}
use Rattle.td_meaning.specs.Words64.{content_meaning, shape_meaning}
use Rattle.td_meaning.specs.Meaning.{Sense}

-- they are validated as they stand
abbrev pub IsKept : Field → Type 0
IsKept f =
    (sets : List (List ℕ)) (senses : ℕ → Sense) (env places b : List ℕ) (end p : ℕ) (cells : List ℕ)
    → content_meaning sets senses f.element f.extent f.copy env places b end p cells ≡ shape_meaning sets senses f.element f.extent env places b end p cells

-- so many of them go there
pub record IsCopiedBy (f : Field) (c : CopyOut) (size : Term) : Type 0 where
  pub step : Option ℕ
  pub copy : f.copy ≡ Some c
  pub extent : f.extent ≡ Filling size step
