-- Sets of numbers as flags, as the code has them.
use Rattle.std.specs.Prelude.{◌≡◌, ◌<◌, ◌+◌, ℕ, Bool, true, false, cond, not, ◌&&◌, List, [], ◌∷◌, ◌++◌, length, Option, Some, None, slice_get}
use Rattle.std.specs.List.{list_all}
use Rattle.td_num.specs.Lists.{is_among}
use Rattle.td_front_order.specs.Order.{used_by}

abbrev pub flag_or_false : Option Bool → Bool
flag_or_false None = false
flag_or_false (Some b) = b

abbrev pub flag_at : List Bool → ℕ → Bool
flag_at flags i = flag_or_false (slice_get flags i)

abbrev pub is_ready_by : List (List ℕ) → (ℕ → Bool) → ℕ → Bool
is_ready_by graph taken i = not (taken i) && list_all taken (used_by graph i)

-- how many are flagged
abbrev pub flagged : List Bool → ℕ
flagged [] = 0
flagged (true ∷ flags) = flagged flags + 1
flagged (false ∷ flags) = flagged flags

-- the flags are those of the numbers, of which no two are equal
pub record AreFlags (flags : List Bool) (numbers : List ℕ) : Type 0 where
  pub each : (j : ℕ) → flag_at flags j ≡ is_among numbers j
  pub count : flagged flags ≡ length numbers

abbrev pub AreBelow : ℕ → List ℕ → Type 0
AreBelow n [] = Unit {0}
AreBelow n (j ∷ js) = (j < n) × AreBelow n js

-- those that aren't there, at the end
abbrev pub add_new : List ℕ → List ℕ → List ℕ
add_new reached [] = reached
add_new reached (j ∷ js) = add_new (cond (is_among reached j) reached (reached ++ j ∷ [])) js
