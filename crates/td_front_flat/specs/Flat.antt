-- An input as one tree (own rule): that of a module is itself, that of parts has their definitions, part by part in the
-- order of parts, each with the names of the whole.
use Rattle.std.specs.Prelude.{◌≡◌, ℕ, List, [], map, flat_map, Option, Some, None, slice_get}
use Rattle.td_ast.specs.declared.token.Span.{Span}
use Rattle.td_ast.specs.declared.definitions.Def.{Def}
use Rattle.td_ast.specs.declared.definitions.ModuleTree.{ModuleTree}
use Rattle.td_ast.specs.declared.parts.PartTree.{PartTree}
use Rattle.td_ast.specs.declared.parts.InputTree.{InputTree}
use Rattle.td_ast.specs.declared.parts.InputTree.TheVariants.{Module, Parts}
use Rattle.td_front_flat.specs.declared.error.FlatError.{FlatError}
use Rattle.td_front_flat.specs.declared.error.FlatError.TheVariants.{Twice, Cycle, NoMemory}
use Rattle.td_front_flat.specs.Names.{spelled}
use Rattle.td_front_flat.specs.Definitions.{flat_part}
use Rattle.td_front_order.specs.Order.{order}
use Rattle.td_front_flat.specs.Order.{names_of, graph_of, first_twice, IsFirstCyclic, NoCycle}

abbrev pub flat_or_none : List (List ℕ) → ℕ → Option PartTree → List Def
flat_or_none names i None = []
flat_or_none names i (Some p) = flat_part names i p

-- the definitions of the part with the number i, where parts have these names
abbrev pub flat_in : List (List ℕ) → List PartTree → ℕ → List Def
flat_in names parts i = flat_or_none names i (slice_get parts i)

abbrev pub flat_at : List PartTree → ℕ → List Def
flat_at parts i = flat_in (names_of parts) parts i

abbrev pub flat_parts : List PartTree → ModuleTree
flat_parts parts = record { definitions = flat_map (flat_at parts) (order (graph_of parts)) }

abbrev pub flat : InputTree → ModuleTree
flat (Module tree) = tree
flat (Parts parts) = flat_parts parts

-- all definitions in the order of the text, as they are written: what is counted (X1)
abbrev pub written : InputTree → ModuleTree
written (Module tree) = tree
written (Parts parts) = record { definitions = flat_map (λ p. p.definitions) parts }

-- names of the one tree, as they are spelled
abbrev pub spelled_names : InputTree → List (List ℕ) → List (List ℕ)
spelled_names (Module tree) names = names
spelled_names (Parts parts) names = map (spelled (names_of parts)) names

-- a part has the name of an earlier one, first at this place
abbrev pub IsTwice : InputTree → Span → Type 0
IsTwice (Module tree) at = ⊥
IsTwice (Parts parts) at = first_twice [] parts ≡ Some at

-- distinct names, and uses in a cycle, first at this place
abbrev pub IsCycle : InputTree → Span → Type 0
IsCycle (Module tree) at = ⊥
IsCycle (Parts parts) at = (first_twice [] parts ≡ None) × IsFirstCyclic parts at

-- neither comes
abbrev pub IsLinked : InputTree → Type 0
IsLinked (Module tree) = Unit {0}
IsLinked (Parts parts) = (first_twice [] parts ≡ None) × NoCycle parts

-- why there is no tree
abbrev pub IsFault : InputTree → FlatError → Type 0
IsFault input (Twice at) = IsTwice input at
IsFault input (Cycle at) = IsCycle input at
IsFault (Module tree) NoMemory = ⊥
IsFault (Parts parts) NoMemory = Unit {0}
