-- Names by their bytes: their numbers (own rule: a module's names are numbered as they are seen first), and what stands
-- beside them in a table (own rule: what stands beside a name is what was put there first).
use Rattle.std.specs.Prelude.{ℕ, Bool, List, [], ◌∷◌, ◌++◌, Option, Some, None, is_some, if◌then◌else◌}
use Rattle.std.specs.List.{list_any, position_or_len}
use Rattle.std.specs.Str.{bytes_eq}

-- whether a name is among names
abbrev pub is_seen : List (List ℕ) → List ℕ → Bool
is_seen names name = list_any (bytes_eq name) names

-- one more name at the end, unless it is there
abbrev pub with_name : List (List ℕ) → List ℕ → List (List ℕ)
with_name names name = if is_seen names name then names else names ++ name ∷ []

-- the place of a name, from 0; of one that isn't there the count of names
abbrev pub number_of : List (List ℕ) → List ℕ → ℕ
number_of names name = position_or_len (bytes_eq name) names

-- what stands beside a name
abbrev pub looked_up : {A : Type 0} → List (List ℕ × A) → List ℕ → Option A
looked_up [] name = None
looked_up (e ∷ es) name = if bytes_eq name e.0 then Some e.1 else looked_up es name

-- one more name with what stands beside it at the end, unless the name is there
abbrev pub declared : {A : Type 0} → List (List ℕ × A) → List ℕ → A → List (List ℕ × A)
declared es name a = if is_some (looked_up es name) then es else es ++ (name, a) ∷ []
