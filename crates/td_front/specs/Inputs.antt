-- Inputs: the counts are taken in the order of the text, then the breaches of parts, then the passes over the one tree
-- that the input is (own rules). Of a module without a name this is what the passes over its tree say.
use Rattle.std.specs.Prelude.{◌≡◌, ◌⊎◌, ◌<◌, ◌^◌, ℕ, List, length, Some, None}
use Rattle.td_front.specs.Imports.{InputTree, Module, Twice}
use Rattle.td_ast.specs.declared.parts.InputTree.TheVariants.{Module as Parsed, Parts}
use Rattle.td_limits.specs.Counts.{counts_passed}
use Rattle.td_elab_rules.specs.Modules.{module_of}
use Rattle.td_front_flat.specs.Flat.{flat, written, spelled_names, IsTwice, IsCycle, IsLinked}
use Rattle.td_front.specs.declared.error.FrontError.{FrontError}
use Rattle.td_front.specs.declared.error.FrontError.TheVariants.{Limit, Broken, Cycle}
use Rattle.td_front.specs.Passes.{IsAdmitted, RefusesTree}

-- no limit by count is passed, in the order of the text
abbrev pub HasInputCounts : InputTree → Type 0
HasInputCounts input = counts_passed (written input) ≡ None

abbrev pub IsAdmittedInput : InputTree → Type 0
IsAdmittedInput input = HasInputCounts input × IsLinked input × IsAdmitted (flat input)

-- a module with other names
abbrev pub with_names : List (List ℕ) → Module → Module
with_names names m = record { written = m.written; names = names; listed = m.listed; definitions = m.definitions; entries = m.entries }

-- the module of an input: that of its one tree, with its names as they are spelled
abbrev pub input_module : InputTree → Module
input_module input = with_names (spelled_names input (module_of (flat input)).names) (module_of (flat input))

-- X1 by count
abbrev pub RefusedByCounts : InputTree → FrontError → Type 0
RefusedByCounts input (Limit limit span) = counts_passed (written input) ≡ Some (record { limit = limit; span = span })
RefusedByCounts input _ = ⊥

-- N2 of parts, then N5
abbrev pub RefusedByParts : InputTree → FrontError → Type 0
RefusedByParts input (Broken Twice span) = IsTwice input span
RefusedByParts input (Cycle span) = IsCycle input span
RefusedByParts input _ = ⊥

-- The refusal of an input. Where no count is passed and neither breach of parts comes, it is that of the flat tree.
abbrev pub RefusesInput : InputTree → FrontError → Type 0
RefusesInput input e =
    RefusedByCounts input e
    ⊎ (HasInputCounts input × (RefusedByParts input e ⊎ (IsLinked input × RefusesTree (flat input) e)))

-- there is a part or a definition, for which memory may be wanted
abbrev pub IsFilled : InputTree → Type 0
IsFilled (Parsed tree) = 0 < length tree.definitions
IsFilled (Parts parts) = Unit {0}

-- as many parts as a number of 32 bits can tell
abbrev pub HasFewParts : InputTree → Type 0
HasFewParts (Parsed tree) = Unit {0}
HasFewParts (Parts parts) = length parts < 2 ^ 32
