-- What holds of each module that a tree stands for.
use Rattle.std.specs.Prelude.{◌≡◌, length, Contains}
use Rattle.td_num.specs.Lists.{Each, AreApart}
use Rattle.td_elab_rules.specs.Imports.{ModuleTree, Module}
use Rattle.td_core.specs.Formed.{IsModuleFormed}
use Rattle.td_core.specs.Copies.{IsCopying}
use Rattle.td_core.specs.WellFormed.{EachField, IsWhole, IsFieldWhole, IsDefinitionSorted, IsDefinitionNamed}
use Rattle.td_elab_rules.specs.Modules.{StandsFor}
use Rattle.td_elab_rules.specs.Written.{names_written}

-- a tree stands for at most one
abbrev pub OneModule : Type 0
OneModule = (t : ModuleTree) (a b : Module) → StandsFor t a → StandsFor t b → a ≡ b

-- each name in an expression stands in its scope with the type that it has there; each type that is named stands
-- earlier, with arguments and cells that match; and what is assigned fits its cell
abbrev pub ModulesAreFormed : Type 0
ModulesAreFormed = (t : ModuleTree) (m : Module) → StandsFor t m → IsModuleFormed m

-- what is copied is a byte-sized array of UINT8, each buffer has a room, and buffers are given on with it
abbrev pub ModulesAreCopying : Type 0
ModulesAreCopying = (t : ModuleTree) (m : Module) → StandsFor t m → IsCopying m

-- each field has at least one part, and each entry point a definition
abbrev pub ModulesAreWhole : Type 0
ModulesAreWhole = (t : ModuleTree) (m : Module) → StandsFor t m → IsWhole m

-- truth values stand where truth values must, and numbers where numbers must
abbrev pub ModulesAreSorted : Type 0
ModulesAreSorted = (t : ModuleTree) (m : Module) → StandsFor t m → Each IsDefinitionSorted m.definitions

-- bit fields lie in their numbers, refinements stand on numbers, arrays up to a zero have numbers, and enums their values
abbrev pub FieldsAreWhole : Type 0
FieldsAreWhole =
    (t : ModuleTree) (m : Module) → StandsFor t m → Each (λ d. EachField (IsFieldWhole (length m.listed)) d.body) m.definitions

-- each name in a definition is among those of the module
abbrev pub ModulesAreNamed : Type 0
ModulesAreNamed = (t : ModuleTree) (m : Module) → StandsFor t m → Each (IsDefinitionNamed (length m.names)) m.definitions

-- no two names of a module have the same bytes
abbrev pub NamesAreApart : Type 0
NamesAreApart = (t : ModuleTree) (m : Module) → StandsFor t m → AreApart m.names

-- each name of a module is written in the tree, as that of a parameter, field, slot, struct or casetype
abbrev pub NamesAreWritten : Type 0
NamesAreWritten = (t : ModuleTree) (m : Module) → StandsFor t m → Each (λ name. Contains (names_written t) name) m.names
