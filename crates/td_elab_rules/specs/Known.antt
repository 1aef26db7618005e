-- What names stand for where they are written (3D manual, "Scoping"; own rule: a local hides a definition).
use Rattle.std.specs.Prelude.{ℕ, ◌+◌, Bool, true, false, List, [], ◌∷◌, ◌++◌, Option, Some, None, slice_get}
use Rattle.td_elab_rules.specs.Imports.{Scalar, CellKind}
use Rattle.td_core.specs.declared.kind.Kind.{Kind}
use Rattle.td_kinds.specs.Kinds as kinds
use Rattle.td_names.specs.Names.{looked_up, declared, with_name}
use Rattle.td_elab_rules.specs.declared.known.Slot.{Slot}
use Rattle.td_elab_rules.specs.declared.known.Parameter.{Parameter}
use Rattle.td_elab_rules.specs.declared.known.Meaning.{Meaning}
use Rattle.td_elab_rules.specs.declared.known.Meaning.TheVariants as meaning
use Rattle.td_elab_rules.specs.declared.known.Local.{Local}
use Rattle.td_elab_rules.specs.declared.known.Local.TheVariants as local
use Rattle.td_elab_rules.specs.declared.known.Found.{Found}
use Rattle.td_elab_rules.specs.declared.known.Found.TheVariants as found
use Rattle.td_elab_rules.specs.declared.known.Known.{Known}
use Rattle.td_elab_rules.specs.declared.known.Scope.{Scope}
use Rattle.td_elab_rules.specs.declared.known.Taken.{Taken}

-- before the first definition
abbrev pub nothing_known : Known
nothing_known = record { count = 0; globals = []; used = []; records = []; signatures = []; kinds = []; definitions = []; listed = []; entries = [] }

-- before the first parameter, and outside structs and casetypes
abbrev pub no_scope : Scope
no_scope = record { locals = []; levels = 0; cells = []; buffers = []; start = None; this = None }

-- what a name stands for: the local of that name where there is one, else the definition, constant or member
abbrev pub global_found : Option Meaning → Found
global_found None = found.Nothing
global_found (Some m) = found.Global m

abbrev pub local_found : Option Local → Found → Found
local_found None other = other
local_found (Some l) other = found.Local l

abbrev pub found_in : Known → Scope → List ℕ → Found
found_in k s name = local_found (looked_up s.locals name) (global_found (looked_up k.globals name))

-- the kind, the parameters and the slots of what stands at a place
abbrev pub kind_at : Known → ℕ → Kind
kind_at k j = kinds.kind_at k.kinds j

abbrev pub signature_at : Known → ℕ → List Parameter
signature_at k j = elim (slice_get k.signatures j) [ None ↦ [] | Some ps ↦ ps ]

abbrev pub slots_at : Known → ℕ → List Slot
slots_at k r = elim (slice_get k.records r) [ None ↦ [] | Some slots ↦ slots ]

-- whether it is a constant or a member
abbrev pub is_literal : Option Meaning → Bool
is_literal None = false
is_literal (Some (meaning.Constant n)) = true
is_literal (Some (meaning.Member n)) = true
is_literal (Some (meaning.Number t)) = false
is_literal (Some (meaning.Enum t v)) = false
is_literal (Some (meaning.Type j)) = false
is_literal (Some (meaning.Record r)) = false

abbrev pub is_literal_name : Known → List ℕ → Bool
is_literal_name k name = is_literal (looked_up k.globals name)

-- one more local name; where it has a local already, that stays (N2 stands there)
abbrev pub with_local : Scope → List ℕ → Local → Scope
with_local s x l = record { locals = declared s.locals x l; levels = s.levels; cells = s.cells; buffers = s.buffers; start = s.start; this = s.this }

-- one more value in scope
abbrev pub with_level : Scope → Scope
with_level s = record { locals = s.locals; levels = s.levels + 1; cells = s.cells; buffers = s.buffers; start = s.start; this = s.this }

-- one more value in scope, by its name
abbrev pub with_value : Scope → List ℕ → Scalar → ℕ → Scope
with_value s x w most = with_level (with_local s x (local.Value s.levels w most))

abbrev pub with_this : Scope → Option ℕ → Scope
with_this s this = record { locals = s.locals; levels = s.levels; cells = s.cells; buffers = s.buffers; start = s.start; this = this }

abbrev pub with_cells : Scope → List CellKind → Scope
with_cells s cells = record { locals = s.locals; levels = s.levels; cells = cells; buffers = s.buffers; start = s.start; this = s.this }

-- one more copy buffer, of this room
abbrev pub with_buffer : Scope → ℕ → Scope
with_buffer s room = record { locals = s.locals; levels = s.levels; cells = s.cells; buffers = s.buffers ++ room ∷ []; start = s.start; this = s.this }

-- The names that a definition has given

abbrev pub none_taken : Taken
none_taken = record { outer = []; fields = []; all = [] }

-- that of a parameter or a `var`
abbrev pub with_outer : Taken → List ℕ → Taken
with_outer t x = record { outer = with_name t.outer x; fields = t.fields; all = with_name t.all x }

-- that of a field
abbrev pub with_field_name : Taken → List ℕ → Taken
with_field_name t x = record { outer = t.outer; fields = with_name t.fields x; all = with_name t.all x }

-- the next case: fields of two cases may have one name
abbrev pub next_case : Taken → Taken
next_case t = record { outer = t.outer; fields = []; all = t.all }
