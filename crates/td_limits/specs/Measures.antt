-- What the names of a text stand for, as far as cells, depths and weights go (own rules). Sizes are looked at in a text
-- that breaks no rule. There a name in an expression is a local's, a member's or a constant's, and no local has the name of
-- one of these; and a name at a type's place is a type's.
use Rattle.std.specs.Prelude.{ℕ, List, Option, Some, None}
use Rattle.td_names.specs.Names.{looked_up}
use Rattle.td_limits.specs.declared.measures.NameSort.{NameSort}
use Rattle.td_limits.specs.declared.measures.NameSort.TheVariants.{Constant, TypeName, Member}
use Rattle.td_limits.specs.declared.measures.Measure.{Measure}

-- the names so far, and what each stands for
abbrev pub Measures : Type 0
Measures = List (List ℕ × Measure)

abbrev pub of_constant : NameSort → ℕ → ℕ
of_constant Constant depth = depth
of_constant TypeName depth = 0
of_constant Member depth = 0

-- the depth of the definition that a name in an expression names
abbrev pub constant_depth : Option Measure → ℕ
constant_depth None = 0
constant_depth (Some m) = of_constant m.sort m.depth

-- of that which a name at a type's place names
abbrev pub type_depth : Option Measure → ℕ
type_depth None = 0
type_depth (Some m) = m.depth

abbrev pub type_weight : Option Measure → ℕ
type_weight None = 0
type_weight (Some m) = m.weight

abbrev pub type_cells : Option Measure → ℕ
type_cells None = 1
type_cells (Some m) = m.cells

-- the same by names
abbrev pub constant_depth_of : Measures → List ℕ → ℕ
constant_depth_of known name = constant_depth (looked_up known name)

abbrev pub type_depth_of : Measures → List ℕ → ℕ
type_depth_of known name = type_depth (looked_up known name)

abbrev pub type_weight_of : Measures → List ℕ → ℕ
type_weight_of known name = type_weight (looked_up known name)

abbrev pub type_cells_of : Measures → List ℕ → ℕ
type_cells_of known name = type_cells (looked_up known name)
