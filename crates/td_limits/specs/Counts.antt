-- The limits of a text by count (own rules), each at the name of the definition in which it is passed: at one place in
-- the order of `Limit`.
use Rattle.std.specs.Prelude.{ℕ, ◌+◌, ◌≤◌, max, List, [], ◌∷◌, ◌++◌, map, flat_map, length, Option, Some, None}
use Rattle.td_limits.specs.Imports.{FieldTree, CaseTree, Def, Define, Enum, Alias, Struct, Casetype, Output, ModuleTree}
use Rattle.td_ast.specs.declared.parts.PartTree.{PartTree}
use Rattle.td_core.specs.declared.limits.TheConstants.{MOST_DEFINITIONS, MOST_FIELDS, MOST_CASES, MOST_PARAMETERS, MOST_NODES, MOST_ACTION_NODES}
use Rattle.td_limits.specs.declared.limits.Limit.TheVariants.{Definitions, Fields, Cases, Parameters, Nodes, Action}
use Rattle.td_limits.specs.declared.limits.Excess.{Excess}
use Rattle.td_limits.specs.Excesses.{above, first_excess, definition_name, greatest}
use Rattle.td_limits.specs.Nodes.{action_nodes, definition_nodes}

-- `default` is no case, but its fields are limited as a case's
abbrev pub longest_case : List CaseTree → ℕ
longest_case cs = greatest (map (λ c. length c.fields) cs)

abbrev pub default_count : Option (List FieldTree) → ℕ
default_count None = 0
default_count (Some fs) = length fs

-- how many fields the struct, or the case with the most, has, and how many slots the record
abbrev pub most_fields : Def → ℕ
most_fields (Define d) = 0
most_fields (Enum d) = 0
most_fields (Alias d) = 0
most_fields (Struct d) = length d.fields
most_fields (Casetype d) = max (longest_case d.cases) (default_count d.default)
most_fields (Output d) = length d.slots

abbrev pub count_cases : Def → ℕ
count_cases (Define d) = 0
count_cases (Enum d) = 0
count_cases (Alias d) = 0
count_cases (Struct d) = 0
count_cases (Casetype d) = length d.cases
count_cases (Output d) = 0

abbrev pub count_params : Def → ℕ
count_params (Define d) = 0
count_params (Enum d) = 0
count_params (Alias d) = 0
count_params (Struct d) = length d.head.params
count_params (Casetype d) = length d.head.params
count_params (Output d) = 0

-- the nodes of the action that has the most of these fields', and of this definition's: 0 where there is none
abbrev pub fields_action : List FieldTree → ℕ
fields_action fs = greatest (map (λ f. action_nodes f.action) fs)

abbrev pub default_action : Option (List FieldTree) → ℕ
default_action None = 0
default_action (Some fs) = fields_action fs

abbrev pub most_action : Def → ℕ
most_action (Define d) = 0
most_action (Enum d) = 0
most_action (Alias d) = 0
most_action (Struct d) = fields_action d.fields
most_action (Casetype d) = max (greatest (map (λ c. fields_action c.fields) d.cases)) (default_action d.default)
most_action (Output d) = 0

-- of one definition, which is the text's n-th, with so many nodes up to its end
abbrev pub definition_counts : ℕ → ℕ → Def → List Excess
definition_counts n nodes d =
    above MOST_DEFINITIONS n Definitions (definition_name d).span
    ++ (above MOST_FIELDS (most_fields d) Fields (definition_name d).span
    ++ (above MOST_CASES (count_cases d) Cases (definition_name d).span
    ++ (above MOST_PARAMETERS (count_params d) Parameters (definition_name d).span
    ++ (above MOST_NODES nodes Nodes (definition_name d).span
    ++ above MOST_ACTION_NODES (most_action d) Action (definition_name d).span))))

-- after so many definitions with so many nodes
abbrev pub count_excesses : ℕ → ℕ → List Def → List Excess
count_excesses n nodes [] = []
count_excesses n nodes (d ∷ ds) =
    definition_counts (n + 1) (nodes + definition_nodes d) d ++ count_excesses (n + 1) (nodes + definition_nodes d) ds

-- the first limit by count that a text passes
abbrev pub counts_passed : ModuleTree → Option Excess
counts_passed tree = first_excess (count_excesses 0 0 tree.definitions)

-- the definitions of parts in the order of the text
abbrev pub definitions_in : List PartTree → List Def
definitions_in parts = flat_map (λ p. p.definitions) parts

-- the first that they pass
abbrev pub counts_passed_in : List PartTree → Option Excess
counts_passed_in parts = first_excess (count_excesses 0 0 (definitions_in parts))

-- as many definitions as a text may have, with as many nodes
abbrev pub AreWithin : ℕ → ℕ → Type 0
AreWithin n nodes = (n ≤ MOST_DEFINITIONS) × (nodes ≤ MOST_NODES)
