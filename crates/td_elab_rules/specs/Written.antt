-- The names that are written in a tree (own rule: a module's names are among them).
use Rattle.std.specs.Prelude.{ℕ, List, [], ◌∷◌, ◌++◌, Option, Some, None}
use Rattle.td_elab_rules.specs.Imports.{FieldTree, ParamTree, SlotTree, CaseTree, Def, Define, Enum, Alias, Struct, Casetype, Output, ModuleTree}
use Rattle.td_elab_rules.specs.Modules.{param_name}

abbrev pub params_written : List ParamTree → List (List ℕ)
params_written [] = []
params_written (p ∷ ps) = (param_name p).text ∷ params_written ps

abbrev pub fields_written : List FieldTree → List (List ℕ)
fields_written [] = []
fields_written (f ∷ fs) = f.name.text ∷ fields_written fs

abbrev pub cases_written : List CaseTree → List (List ℕ)
cases_written [] = []
cases_written (c ∷ cs) = fields_written c.fields ++ cases_written cs

abbrev pub default_written : Option (List FieldTree) → List (List ℕ)
default_written None = []
default_written (Some fs) = fields_written fs

abbrev pub slots_written : List SlotTree → List (List ℕ)
slots_written [] = []
slots_written (x ∷ xs) = x.name.text ∷ slots_written xs

-- of structs and casetypes with their parameters and fields, and of the slots of records
abbrev pub definition_written : Def → List (List ℕ)
definition_written (Define d) = []
definition_written (Enum d) = []
definition_written (Alias d) = []
definition_written (Struct d) = d.name.text ∷ (params_written d.head.params ++ fields_written d.fields)
definition_written (Casetype d) = d.name.text ∷ (params_written d.head.params ++ (cases_written d.cases ++ default_written d.default))
definition_written (Output d) = slots_written d.slots

abbrev pub definitions_written : List Def → List (List ℕ)
definitions_written [] = []
definitions_written (d ∷ ds) = definition_written d ++ definitions_written ds

abbrev pub names_written : ModuleTree → List (List ℕ)
names_written t = definitions_written t.definitions
