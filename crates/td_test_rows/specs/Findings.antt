-- Rows on what the later rules find in the module of a text, on limits, and on how large definitions are.
use Rattle.std.specs.Prelude.{◌≡◌, ℕ, List, [], ◌∷◌, map, Option, Some, None}
use Rattle.td_test_rows.specs.Imports.{Def, ModuleTree}
use Rattle.td_core.specs.declared.expressions.Binary.{Binary}
use Rattle.td_expr.specs.declared.safety.Unsafe.{Unsafe}
use Rattle.td_expr.specs.declared.safety.Unsafe.TheVariants.{Operator, Room, Value}
use Rattle.td_kinds.specs.declared.error.KindFault.{KindFault}
use Rattle.td_kinds.specs.KindRules.{kind_faults, first_fault}
use Rattle.td_limits.specs.declared.limits.Limit.{Limit}
use Rattle.td_limits.specs.declared.limits.Excess.{Excess}
use Rattle.td_limits.specs.declared.measures.Measure.{Measure}
use Rattle.td_limits.specs.Counts.{counts_passed}
use Rattle.td_limits.specs.Measures.{Measures}
use Rattle.td_limits.specs.Nodes.{definition_nodes}
use Rattle.td_limits.specs.Sizes.{sizes_passed, measure_of, with_definition}
use Rattle.td_arith.specs.SafeModule.{module_unsafe}
use Rattle.td_elab_rules.specs.Modules.{module_of}

abbrev tree_of : List Def → ModuleTree
tree_of definitions = record { definitions = definitions }

-- in each row that is what is found in the definitions
abbrev AreFound : {A : Type 0} → (List Def → A) → List (List Def × A) → Type 0
AreFound found rows = map (λ r. found r.0) rows ≡ map (λ r. r.1) rows

-- ---- the safety rule: the first operator that isn't safe, and its place

-- what lacks room, and a value that may not fit, isn't an operator
abbrev operator_at : Option Unsafe → Option (Binary × ℕ)
operator_at None = None
operator_at (Some (Operator span op)) = Some (op, span.from)
operator_at (Some (Room span)) = None
operator_at (Some (Value span)) = None

abbrev pub SafetyRow : Type 0
SafetyRow = List Def × Option (Binary × ℕ)

abbrev pub SafetyHolds : List SafetyRow → Type 0
SafetyHolds rows = AreFound (λ ds. operator_at (module_unsafe (module_of (tree_of ds)))) rows

-- ---- the safety rule: the place of the first copy that may lack room, where no operator before it isn't safe

abbrev room_at : Option Unsafe → Option ℕ
room_at None = None
room_at (Some (Operator span op)) = None
room_at (Some (Room span)) = Some span.from
room_at (Some (Value span)) = None

abbrev pub RoomRow : Type 0
RoomRow = List Def × Option ℕ

abbrev pub RoomsHold : List RoomRow → Type 0
RoomsHold rows = AreFound (λ ds. room_at (module_unsafe (module_of (tree_of ds)))) rows

-- ---- the safety rule: the place of the first value that may not fit its field, where nothing before it isn't safe

abbrev value_at : Option Unsafe → Option ℕ
value_at None = None
value_at (Some (Operator span op)) = None
value_at (Some (Room span)) = None
value_at (Some (Value span)) = Some span.from

abbrev pub ValueRow : Type 0
ValueRow = List Def × Option ℕ

abbrev pub ValuesHold : List ValueRow → Type 0
ValuesHold rows = AreFound (λ ds. value_at (module_unsafe (module_of (tree_of ds)))) rows

-- ---- kinds: the first refusal

abbrev pub KindRow : Type 0
KindRow = List Def × Option KindFault

abbrev pub KindsHold : List KindRow → Type 0
KindsHold rows = AreFound (λ ds. first_fault (kind_faults (module_of (tree_of ds)))) rows

-- ---- limits: the first by count that is passed, else the first by size, and the place of the definition's name

abbrev limit_at : Option Excess → Option Excess → Option (Limit × ℕ)
limit_at None None = None
limit_at None (Some e) = Some (e.limit, e.span.from)
limit_at (Some e) other = Some (e.limit, e.span.from)

abbrev pub LimitRow : Type 0
LimitRow = List Def × Option (Limit × ℕ)

abbrev pub LimitsHold : List LimitRow → Type 0
LimitsHold rows = AreFound (λ ds. limit_at (counts_passed (tree_of ds)) (sizes_passed (tree_of ds))) rows

-- ---- sizes: the nodes, the depth and the weight of the last definition

abbrev sizes_of : ℕ → Measure → ℕ × (ℕ × ℕ)
sizes_of nodes m = (nodes, (m.depth, m.weight))

abbrev last_sizes : Measures → List Def → ℕ × (ℕ × ℕ)
last_sizes known [] = (0, (0, 0))
last_sizes known (d ∷ []) = sizes_of (definition_nodes d) (measure_of known d)
last_sizes known (d ∷ e ∷ ds) = last_sizes (with_definition known d) (e ∷ ds)

abbrev pub SizeRow : Type 0
SizeRow = List Def × (ℕ × (ℕ × ℕ))

abbrev pub SizesHold : List SizeRow → Type 0
SizesHold rows = AreFound (λ ds. last_sizes [] ds) rows
