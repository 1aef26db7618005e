-- What holds of each module that an admitted tree stands for.
use Rattle.std.specs.Prelude.{◌≡◌, ◌⊎◌, ◌≤◌, ℕ, List, None, slice_get}
use Rattle.td_num.specs.Lists.{Each, AreApart}
use Rattle.td_front_facts.specs.Imports.{Token, ModuleTree, InputTree, NameId, Module}
use Rattle.td_ast.specs.declared.parts.InputTree.TheVariants.{Module as Parsed}
use Rattle.td_lexer.specs.Splits.{Splits, IsName, IsDotted, IsLongName}
use Rattle.td_grammar.specs.Parts.{input_text}
use Rattle.td_limits.specs.Counts.{counts_passed}
use Rattle.td_limits.specs.Sizes.{sizes_passed}
use Rattle.td_core.specs.declared.limits.TheConstants.{MOST_NODES, MOST_DEPTH, MOST_WEIGHT}
use Rattle.td_core.specs.Entries.{bytes_or_none}
use Rattle.td_core.specs.Weights.{depth_of, definitions_nodes, weight_of}
use Rattle.td_core.specs.WellFormed.{EachField, IsWithin}
use Rattle.td_core.specs.Sizes.{IsFieldStepped}
use Rattle.td_elab_rules.specs.Modules.{StandsFor}
use Rattle.td_front_flat.specs.Flat.{flat, spelled_names, IsLinked}

-- each name of a module of a text, as it is spelled, is a word, and no keyword, or two such words joined by a dot
abbrev pub NamesAreWords : Type 0
NamesAreWords =
    (text : List ℕ) (tokens : List Token) (input : InputTree) (m : Module) →
    Splits text tokens → input_text.Spells input tokens → StandsFor (flat input) m → Each IsLongName (spelled_names input m.names)

-- without parts, each is a word
abbrev pub PlainNamesAreWords : Type 0
PlainNamesAreWords =
    (text : List ℕ) (tokens : List Token) (t : ModuleTree) (m : Module) →
    Splits text tokens → input_text.Spells (Parsed t) tokens → StandsFor t m → Each IsName m.names

-- the bytes of a name of a module of a text, as it is spelled; none where the module has no such name
abbrev pub spelled_bytes : InputTree → Module → NameId → List ℕ
spelled_bytes input m name = bytes_or_none (slice_get (spelled_names input m.names) name.number)

-- the names of a module's types are all words, as those of a text without parts, or all two words joined by a dot
abbrev pub TypesAreAlike : Type 0
TypesAreAlike =
    (text : List ℕ) (tokens : List Token) (input : InputTree) (m : Module) →
    Splits text tokens → input_text.Spells input tokens → StandsFor (flat input) m →
    Each (λ d. IsName (spelled_bytes input m d.name)) m.definitions ⊎ Each (λ d. IsDotted (spelled_bytes input m d.name)) m.definitions

-- no two names of a module of a text are spelled with the same bytes
abbrev pub SpelledNamesAreApart : Type 0
SpelledNamesAreApart =
    (text : List ℕ) (tokens : List Token) (input : InputTree) (m : Module) →
    Splits text tokens → input_text.Spells input tokens → IsLinked input → StandsFor (flat input) m → AreApart (spelled_names input m.names)

-- no limit by count or by size is passed
pub record HasLimits (t : ModuleTree) : Type 0 where
  pub counts : counts_passed t ≡ None
  pub sizes : sizes_passed t ≡ None

-- definitions, parameters, cells, fields and cases are no more than a text may have
abbrev pub ModulesAreWithin : Type 0
ModulesAreWithin = (t : ModuleTree) (m : Module) → HasLimits t → StandsFor t m → IsWithin m

-- nodes are no more than a text may have
abbrev pub NodesAreWithin : Type 0
NodesAreWithin = (t : ModuleTree) (m : Module) → HasLimits t → StandsFor t m → definitions_nodes m.definitions ≤ MOST_NODES

-- no definition is deeper than a text's may be
abbrev pub DepthsAreWithin : Type 0
DepthsAreWithin = (t : ModuleTree) (m : Module) → HasLimits t → StandsFor t m → (n : ℕ) → depth_of m.definitions n ≤ MOST_DEPTH

-- no definition is heavier than a text's may be
abbrev pub WeightsAreWithin : Type 0
WeightsAreWithin = (t : ModuleTree) (m : Module) → HasLimits t → StandsFor t m → (n : ℕ) → weight_of m.definitions n ≤ MOST_WEIGHT

-- the step of each array is the size of its elements
abbrev pub StepsAreSizes : Type 0
StepsAreSizes = (t : ModuleTree) (m : Module) → StandsFor t m → Each (λ d. EachField IsFieldStepped d.body) m.definitions
