-- The module that a tree stands for (own rule: a tree stands for at most one).
use Rattle.std.specs.Prelude.{◌≡◌, ℕ, List, [], ◌∷◌, Option, Some, None}
use Rattle.td_elab_rules.specs.Imports.{Name, FieldTree, ParamTree, CaseTree, StructTree, CasetypeTree, Def, Define, Enum, Alias, Struct, Casetype, Output, ModuleTree, Module}
use Rattle.td_ast.specs.declared.parameters.ParamTree.TheVariants as param
use Rattle.td_names.specs.Names.{with_name}
use Rattle.td_elab_rules.specs.declared.breach.Breach.{Breach}
use Rattle.td_elab_rules.specs.declared.known.Known.{Known}
use Rattle.td_elab_rules.specs.Known.{nothing_known}
use Rattle.td_elab_rules.specs.Records.{with_slots}
use Rattle.td_elab_rules.specs.Definitions.{definitions_breaches, known_after}

-- The names of a module, as they are seen first: the parameters and fields of a struct or casetype stand before its own
-- name, and its tag, which is never looked up, isn't among them. Of an output record the slots are.

abbrev pub param_name : ParamTree → Name
param_name (param.Value t n) = n
param_name (param.Mutable t n) = n
param_name (param.Bytes n room) = n

abbrev pub see_params : List (List ℕ) → List ParamTree → List (List ℕ)
see_params names [] = names
see_params names (p ∷ ps) = see_params (with_name names (param_name p).text) ps

abbrev pub see_fields : List (List ℕ) → List FieldTree → List (List ℕ)
see_fields names [] = names
see_fields names (f ∷ fs) = see_fields (with_name names f.name.text) fs

abbrev pub see_cases : List (List ℕ) → List CaseTree → List (List ℕ)
see_cases names [] = names
see_cases names (c ∷ cs) = see_cases (see_fields names c.fields) cs

abbrev pub see_default : List (List ℕ) → Option (List FieldTree) → List (List ℕ)
see_default names None = names
see_default names (Some fs) = see_fields names fs

abbrev pub see_struct : List (List ℕ) → StructTree → List (List ℕ)
see_struct names d = with_name (see_fields (see_params names d.head.params) d.fields) d.name.text

abbrev pub see_casetype : List (List ℕ) → CasetypeTree → List (List ℕ)
see_casetype names d = with_name (see_default (see_cases (see_params names d.head.params) d.cases) d.default) d.name.text

abbrev pub see_definition : List (List ℕ) → Def → List (List ℕ)
see_definition names (Define d) = names
see_definition names (Enum d) = names
see_definition names (Alias d) = names
see_definition names (Struct d) = see_struct names d
see_definition names (Casetype d) = see_casetype names d
see_definition names (Output d) = with_slots names d.slots

abbrev pub all_names : List (List ℕ) → List Def → List (List ℕ)
all_names names [] = names
all_names names (d ∷ ds) = all_names (see_definition names d) ds

abbrev pub names_of : ModuleTree → List (List ℕ)
names_of tree = all_names [] tree.definitions

-- all breaches of a tree
abbrev pub breaches : ModuleTree → List Breach
breaches tree = definitions_breaches (names_of tree) nothing_known tree.definitions

-- its module
abbrev pub module_from : List (List ℕ) → Known → Module
module_from names k = record { written = k.count; names = names; listed = k.listed; definitions = k.definitions; entries = k.entries }

abbrev pub module_of : ModuleTree → Module
module_of tree = module_from (names_of tree) (known_after (names_of tree) nothing_known tree.definitions)

-- a tree stands for a module where it breaks no rule, and in the module each name is replaced by the place of what it
-- names
abbrev pub StandsFor : ModuleTree → Module → Type 0
StandsFor tree m = (breaches tree ≡ []) × (m ≡ module_of tree)
