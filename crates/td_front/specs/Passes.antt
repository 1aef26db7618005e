-- The passes over a tree, one after the other (own rules): its counts, its rules of names, types, constants and actions,
-- the kinds of its module, the safety of its module's operators and copies, its sizes. How far a tree comes, and where it is refused.
use Rattle.std.specs.Prelude.{◌≡◌, ◌⊎◌, [], Some, None}
use Rattle.td_front.specs.Imports.{ModuleTree}
use Rattle.td_limits.specs.Counts.{counts_passed}
use Rattle.td_limits.specs.Sizes.{sizes_passed}
use Rattle.td_elab_rules.specs.Modules.{breaches, module_of}
use Rattle.td_elab.specs.Firsts.{IsFirstIn, breaches_in}
use Rattle.td_kinds.specs.declared.error.KindFault.TheVariants as kind
use Rattle.td_kinds.specs.KindRules.{kind_faults, first_fault}
use Rattle.td_expr.specs.declared.safety.Unsafe.TheVariants as finding
use Rattle.td_arith.specs.SafeModule.{module_unsafe}
use Rattle.td_front.specs.declared.error.FrontError.{FrontError}
use Rattle.td_front.specs.declared.error.FrontError.TheVariants.{BadByte, OpenComment, BigNumber, Unexpected, Deep, Limit, Broken, Cycle, ZeroElement, RestNotLast, Unsafe, Room, Value, NoMemory}

-- no limit by count is passed
abbrev pub HasCounts : ModuleTree → Type 0
HasCounts tree = counts_passed tree ≡ None

-- and no rule is broken, so the tree stands for a module
abbrev pub HasModule : ModuleTree → Type 0
HasModule tree = HasCounts tree × (breaches tree ≡ [])

-- and no kind is refused
abbrev pub HasKinds : ModuleTree → Type 0
HasKinds tree = HasModule tree × (kind_faults (module_of tree) ≡ [])

-- and each operator is safe, and each copy has room
abbrev pub HasSafety : ModuleTree → Type 0
HasSafety tree = HasKinds tree × (module_unsafe (module_of tree) ≡ None)

-- and no limit by size is passed
abbrev pub IsAdmitted : ModuleTree → Type 0
IsAdmitted tree = HasSafety tree × (sizes_passed tree ≡ None)

-- The refusal of a tree: that of the first pass that refuses it, and in that pass the first in the order of the tree, in
-- which definitions stand in the order of the text, or of parts in theirs.
abbrev pub RefusesTree : ModuleTree → FrontError → Type 0
RefusesTree tree (BadByte at) = ⊥
RefusesTree tree (OpenComment at) = ⊥
RefusesTree tree (BigNumber at) = ⊥
RefusesTree tree (Unexpected token at) = ⊥
RefusesTree tree (Deep token at) = ⊥
RefusesTree tree (Limit limit span) =
    (counts_passed tree ≡ Some (record { limit = limit; span = span }))
    ⊎ (HasSafety tree × (sizes_passed tree ≡ Some (record { limit = limit; span = span })))
RefusesTree tree (Broken rule span) = HasCounts tree × IsFirstIn (record { rule = rule; span = span }) (breaches_in tree)
RefusesTree tree (Cycle span) = ⊥
RefusesTree tree (ZeroElement span) = HasModule tree × (first_fault (kind_faults (module_of tree)) ≡ Some (kind.ZeroElement span))
RefusesTree tree (RestNotLast span) = HasModule tree × (first_fault (kind_faults (module_of tree)) ≡ Some (kind.RestNotLast span))
RefusesTree tree (Unsafe span op) = HasKinds tree × (module_unsafe (module_of tree) ≡ Some (finding.Operator span op))
RefusesTree tree (Room span) = HasKinds tree × (module_unsafe (module_of tree) ≡ Some (finding.Room span))
RefusesTree tree (Value span) = HasKinds tree × (module_unsafe (module_of tree) ≡ Some (finding.Value span))
RefusesTree tree NoMemory = ⊥
