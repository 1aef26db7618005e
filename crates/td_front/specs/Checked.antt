-- What holds of each module that a text stands for (own rule). Layers above rest on this alone, and never look into trees.
use Rattle.std.specs.Prelude.{◌≡◌, ◌⊎◌, ◌≤◌, ℕ, [], length, None}
use Rattle.td_num.specs.Lists.{Each, AreApart}
use Rattle.td_front.specs.Imports.{Module}
use Rattle.td_core.specs.Formed.{IsModuleFormed}
use Rattle.td_core.specs.Copies.{IsCopying}
use Rattle.td_core.specs.declared.limits.TheConstants.{MOST_NODES, MOST_DEPTH, MOST_WEIGHT}
use Rattle.td_core.specs.Entries.{name_bytes}
use Rattle.td_core.specs.Weights.{depth_of, definitions_nodes, weight_of}
use Rattle.td_core.specs.WellFormed.{EachField, IsWhole, IsFieldWhole, IsDefinitionSorted, IsDefinitionNamed, IsWithin}
use Rattle.td_core.specs.Sizes.{IsFieldStepped}
use Rattle.td_lexer.specs.Splits.{IsName, IsDotted, IsLongName}
use Rattle.td_kinds.specs.KindRules.{kind_faults}
use Rattle.td_arith.specs.SafeModule.{module_unsafe}

pub record IsChecked (m : Module) : Type 0 where
  -- levels are in scope, literals fit, and earlier definitions are named with arguments and cells that match
  pub formed : IsModuleFormed m
  -- what is copied is a byte-sized array of UINT8, buffers are given on with their rooms, and actions name no cell of one
  pub copying : IsCopying m
  -- truth values stand where truth values must, and numbers where numbers must
  pub sorted : Each IsDefinitionSorted m.definitions
  -- fields have parts, and entry points definitions
  pub whole : IsWhole m
  -- bit fields lie in their numbers, refinements stand on numbers, enums have their values
  pub fields : Each (λ d. EachField (IsFieldWhole (length m.listed)) d.body) m.definitions
  -- the step of each array is the size of its elements
  pub steps : Each (λ d. EachField IsFieldStepped d.body) m.definitions
  -- each name in a definition has its bytes, and no other name has them
  pub named : Each (IsDefinitionNamed (length m.names)) m.definitions
  pub apart : AreApart m.names
  -- each name is a letter or `_`, then letters, digits and `_`, and no keyword, or two such joined by a dot
  pub words : Each IsLongName m.names
  -- those of types are all words, or all two joined by a dot
  pub types : Each (λ d. IsName (name_bytes m d.name)) m.definitions ⊎ Each (λ d. IsDotted (name_bytes m d.name)) m.definitions
  -- definitions, parameters, cells, fields and cases are no more than a text may have
  pub within : IsWithin m
  -- nor are nodes, the depth of each definition, and its weight
  pub nodes : definitions_nodes m.definitions ≤ MOST_NODES
  pub depth : (n : ℕ) → depth_of m.definitions n ≤ MOST_DEPTH
  pub weight : (n : ℕ) → weight_of m.definitions n ≤ MOST_WEIGHT
  -- no element of a byte-sized array may be empty, and what takes the rest stands last
  pub kinds : kind_faults m ≡ []
  -- each operator is safe under the facts at its place, and each copy has room
  pub safe : module_unsafe m ≡ None
