-- What lowering asks of a module, and that its definitions then have their places in registers.
use Rattle.std.specs.Prelude.{◌≡◌, ℕ, ◌≤◌, [], length, Some, slice_get}
use Rattle.td_num.specs.Lists.{Each}
use Rattle.td_lower_means.specs.Imports.{TypeDef, Module}
use Rattle.td_core.specs.Formed.{IsModuleFormed}
use Rattle.td_core.specs.WellFormed.{EachField, IsFieldWhole, IsDefinitionSorted}
use Rattle.td_kinds.specs.KindRules.{kind_faults}
use Rattle.td_core.specs.Sizes.{IsFieldStepped}
use Rattle.td_lower_blocks.specs.Placed.{IsPlaced}
use Rattle.td_lower_blocks.specs.Tops.{definition_levels, definition_top}

-- each of it holds of every module that a checked text stands for
pub record IsReady (m : Module) : Type 0 where
  pub formed : IsModuleFormed m
  pub sorted : Each IsDefinitionSorted m.definitions
  pub fields : Each (λ d. EachField (IsFieldWhole (length m.listed)) d.body) m.definitions
  pub steps : Each (λ d. EachField IsFieldStepped d.body) m.definitions
  pub kinds : kind_faults m ≡ []

-- with the unit behind all levels, and as many registers as are used
abbrev pub DefinitionsArePlaced : Type 0
DefinitionsArePlaced =
    (m : Module) (n : ℕ) (d : TypeDef) (R t : ℕ) → IsReady m → slice_get m.definitions n ≡ Some d →
    definition_levels d ≤ t → definition_top t d ≤ R → IsPlaced m.definitions n R t d
