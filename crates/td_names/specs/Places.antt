-- Where names stand in a table, and what the table's order of names says of it.
use Rattle.std.specs.Prelude.{◌≡◌, ℕ, ◌+◌, ⊤, Bool, false, List, [], ◌∷◌, Option, Some, None, map, slice_get, if◌then◌else◌}
use Rattle.std.specs.Str.{bytes_eq}
use Rattle.std.specs.Option.{option_map}
use Rattle.std.specs.Ordering.{is_eq, nat_cmp}
use Rattle.std.specs.Cmp.Lexicographic.{slice_cmp}
use Rattle.std.specs.Map.{lookup}
use Rattle.std.specs.declared.vec.Vec.{Vec}

-- the place of a name among names with what stands beside them, the first of which is at place n; of one that isn't there none
abbrev pub place_of : {A : Type 0} → ℕ → List (List ℕ × A) → List ℕ → Option ℕ
place_of n [] name = None
place_of n (e ∷ es) name = if bytes_eq name e.0 then Some n else place_of (n + 1) es name

abbrev pub has_name : {A : Type 0} → List ℕ → Option (List ℕ × A) → Bool
has_name name None = false
has_name name (Some e) = bytes_eq name e.0

-- whether a name is the one at a place
abbrev pub is_at : {A : Type 0} → List (List ℕ × A) → ℕ → List ℕ → Bool
is_at es i name = has_name name (slice_get es i)

-- what stands beside the name at a place
abbrev pub value_at : {A : Type 0} → List (List ℕ × A) → ℕ → Option A
value_at es i = option_map (λ e. e.1) (slice_get es i)

-- the names alone
abbrev pub names_of : {A : Type 0} → List (List ℕ × A) → List (List ℕ)
names_of es = map (λ e. e.0) es

-- the entries of a table, by the bytes of their names
abbrev pub entries_of : {A B : Type 0} → List (Vec ℕ A × B) → List (List ℕ × B)
entries_of es = map (λ e. (e.0.items, e.1)) es

-- what an order of names has for a name
abbrev pub placed_at : {A : Type 0} → List (Vec ℕ A × ℕ) → List ℕ → Option ℕ
placed_at places name = lookup (λ k. is_eq (slice_cmp nat_cmp name k.items)) places

-- each of these names is known at its place, the first at n
abbrev pub ArePlaced : {A B : Type 0} → ℕ → List (List ℕ × B) → List (Vec ℕ A × ℕ) → Type 0
ArePlaced n [] places = ⊤
ArePlaced n (e ∷ es) places = (placed_at places e.0 ≡ Some n) × ArePlaced (n + 1) es places
