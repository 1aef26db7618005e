-- The limits of a text by size (own rules).
use Rattle.std.specs.Prelude.{ℕ, ◌+◌, List, [], ◌∷◌, ◌++◌, length, Option}
use Rattle.td_limits.specs.Imports.{ItemTree, Def, Define, Enum, Alias, Struct, Casetype, Output, ModuleTree}
use Rattle.td_names.specs.Names.{declared}
use Rattle.td_core.specs.declared.limits.TheConstants.{MOST_CELLS, MOST_DEPTH, MOST_WEIGHT}
use Rattle.td_limits.specs.declared.limits.Limit.TheVariants.{Cells, Depth, Weight}
use Rattle.td_limits.specs.declared.limits.Excess.{Excess}
use Rattle.td_limits.specs.declared.measures.NameSort.{NameSort}
use Rattle.td_limits.specs.declared.measures.NameSort.TheVariants.{Constant, TypeName, Member}
use Rattle.td_limits.specs.declared.measures.Measure.{Measure}
use Rattle.td_limits.specs.Excesses.{above, first_excess, definition_name}
use Rattle.td_limits.specs.Measures.{Measures}
use Rattle.td_limits.specs.Depths.{uses_depth}
use Rattle.td_limits.specs.Weights.{definition_weight, count_cells}

abbrev pub sort_of : Def → NameSort
sort_of (Define d) = Constant
sort_of (Enum d) = TypeName
sort_of (Alias d) = TypeName
sort_of (Struct d) = TypeName
sort_of (Casetype d) = TypeName
sort_of (Output d) = TypeName

abbrev pub slots_of : Def → ℕ
slots_of (Define d) = 1
slots_of (Enum d) = 1
slots_of (Alias d) = 1
slots_of (Struct d) = 1
slots_of (Casetype d) = 1
slots_of (Output d) = length d.slots

-- how large a definition is after these
abbrev pub measure_of : Measures → Def → Measure
measure_of known d = record { sort = sort_of d; cells = slots_of d; depth = 1 + uses_depth known d; weight = definition_weight known d }

abbrev pub member : Measure
member = record { sort = Member; cells = 1; depth = 0; weight = 0 }

abbrev pub with_members : Measures → List ItemTree → Measures
with_members known [] = known
with_members known (i ∷ is) = with_members (declared known i.name.text member) is

abbrev pub items_of : Def → List ItemTree
items_of (Define d) = []
items_of (Enum d) = d.items
items_of (Alias d) = []
items_of (Struct d) = []
items_of (Casetype d) = []
items_of (Output d) = []

-- the names after one more definition: its own, and those of an enum's members
abbrev pub with_definition : Measures → Def → Measures
with_definition known d = with_members (declared known (definition_name d).text (measure_of known d)) (items_of d)

abbrev pub definition_sizes : ℕ → Measure → Def → List Excess
definition_sizes cells m d =
    above MOST_CELLS cells Cells (definition_name d).span
    ++ (above MOST_DEPTH m.depth Depth (definition_name d).span ++ above MOST_WEIGHT m.weight Weight (definition_name d).span)

abbrev pub size_excesses : Measures → List Def → List Excess
size_excesses known [] = []
size_excesses known (d ∷ ds) = definition_sizes (count_cells known d) (measure_of known d) d ++ size_excesses (with_definition known d) ds

-- the first limit by size that a text passes
abbrev pub sizes_passed : ModuleTree → Option Excess
sizes_passed tree = first_excess (size_excesses [] tree.definitions)
