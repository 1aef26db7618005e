-- The rules of parameters (3D manual, "Parameterized data types", "Output parameters"; own rules: flat output records, copy
-- buffers).
use Rattle.std.specs.Prelude.{ℕ, ◌-◌, Bool, true, false, cond, not, ◌||◌, ◌&&◌, nat_lt, nat_le, List, [], ◌∷◌, ◌++◌, length, map, Option, Some, None, is_some}
use Rattle.td_elab_rules.specs.Imports.{NumberType, Width, Span, Name, ConstTree, PlainTree, ParamTree, CellKind, Cell}
use Rattle.td_ast.specs.declared.names.PlainTree.TheVariants as plain
use Rattle.td_ast.specs.declared.parameters.TargetTree.{TargetTree}
use Rattle.td_ast.specs.declared.parameters.TargetTree.TheVariants as pointee
use Rattle.td_ast.specs.declared.parameters.ParamTree.TheVariants as param
use Rattle.td_core.specs.Types.{limit}
use Rattle.td_core.specs.Formed.{scalar_of}
use Rattle.td_core.specs.declared.module.CellKind.TheVariants as kind
use Rattle.td_core.specs.declared.limits.TheConstants.{MOST_ROOM}
use Rattle.td_names.specs.Names.{is_seen, number_of}
use Rattle.td_elab_rules.specs.declared.breach.Rule.TheVariants.{Unknown, Twice, Mismatch, Narrowing}
use Rattle.td_elab_rules.specs.declared.breach.Breach.{Breach}
use Rattle.td_elab_rules.specs.declared.known.CellType.{CellType}
use Rattle.td_elab_rules.specs.declared.known.CellType.TheVariants as cell
use Rattle.td_elab_rules.specs.declared.known.Slot.{Slot}
use Rattle.td_elab_rules.specs.declared.known.Parameter.TheVariants.{Value, Cells, Buffer}
use Rattle.td_elab_rules.specs.declared.known.Meaning.TheVariants as meaning
use Rattle.td_elab_rules.specs.declared.known.Local.{Local}
use Rattle.td_elab_rules.specs.declared.known.Local.TheVariants as local
use Rattle.td_elab_rules.specs.declared.known.Found.{Found}
use Rattle.td_elab_rules.specs.declared.known.Found.TheVariants as found
use Rattle.td_elab_rules.specs.declared.known.Known.{Known}
use Rattle.td_elab_rules.specs.declared.known.Scope.{Scope}
use Rattle.td_elab_rules.specs.declared.parameters.Head.{Head}
use Rattle.td_elab_rules.specs.Breach.{when}
use Rattle.td_elab_rules.specs.Known.{no_scope, none_taken, found_in, slots_at, is_literal_name, with_local, with_value, with_cells, with_buffer, with_outer}
use Rattle.td_elab_rules.specs.Constants.{constant_value, constant_span, constant_breaches}

-- before the first parameter
abbrev pub no_head : Head
no_head = record { scope = no_scope; parameters = []; params = []; cells = []; buffers = []; taken = none_taken }

-- Value parameters: of a number type or an enum

abbrev pub found_width : Found → Option Width
found_width found.Nothing = None
found_width (found.Local l) = None
found_width (found.Global (meaning.Constant n)) = None
found_width (found.Global (meaning.Member n)) = None
found_width (found.Global (meaning.Number t)) = Some t.width
found_width (found.Global (meaning.Enum t v)) = Some t.width
found_width (found.Global (meaning.Type j)) = None
found_width (found.Global (meaning.Record r)) = None

abbrev pub plain_width : Known → Scope → PlainTree → Option Width
plain_width k s (plain.Number t) = Some t.number.width
plain_width k s (plain.Named n) = found_width (found_in k s n.text)

-- `mutable` parameters: of a number type, `PUINT8` or an output record

abbrev pub found_cell : Found → Option CellType
found_cell found.Nothing = None
found_cell (found.Local l) = None
found_cell (found.Global (meaning.Constant n)) = None
found_cell (found.Global (meaning.Member n)) = None
found_cell (found.Global (meaning.Number t)) = Some (cell.Number t)
found_cell (found.Global (meaning.Enum t v)) = None
found_cell (found.Global (meaning.Type j)) = None
found_cell (found.Global (meaning.Record r)) = Some (cell.Record r)

abbrev pub cell_type : Known → Scope → TargetTree → Option CellType
cell_type k s (pointee.Number t) = Some (cell.Number t.number)
cell_type k s (pointee.Pointer at) = Some cell.Pointer
cell_type k s (pointee.Named n) = found_cell (found_in k s n.text)

-- the cells of a parameter with this name: one, or one for each slot of the record
abbrev pub slot_kind : Option NumberType → CellKind
slot_kind (Some t) = kind.Number t.width
slot_kind None = kind.Pointer

abbrev pub one_cell : List (List ℕ) → List ℕ → CellKind → Cell
one_cell names p c = record { name = record { number = number_of names p }; field = None; kind = c }

abbrev pub slot_cell : List (List ℕ) → List ℕ → Slot → Cell
slot_cell names p x = record { name = record { number = number_of names p }; field = Some (record { number = number_of names x.name }); kind = slot_kind x.number }

abbrev pub cells_of : List (List ℕ) → Known → List ℕ → CellType → List Cell
cells_of names k p (cell.Number t) = one_cell names p (kind.Number t.width) ∷ []
cells_of names k p cell.Pointer = one_cell names p kind.Pointer ∷ []
cells_of names k p (cell.Record r) = map (slot_cell names p) (slots_at k r)

abbrev pub kinds_of : List Cell → List CellKind
kinds_of cells = map (λ c. c.kind) cells

-- what the name stands for, where its first cell has that place
abbrev pub cells_local : ℕ → CellType → Local
cells_local c (cell.Number t) = local.Cell c (cell.Number t)
cells_local c cell.Pointer = local.Cell c cell.Pointer
cells_local c (cell.Record r) = local.Row c r

-- Copy buffers: of a room between 1 and the most

abbrev pub is_room : ℕ → Bool
is_room n = nat_lt 0 n && nat_le n MOST_ROOM

abbrev pub room_or_none : Option ℕ → Option ℕ
room_or_none None = None
room_or_none (Some n) = cond (is_room n) (Some n) None

abbrev pub buffer_room : Known → Scope → ConstTree → Option ℕ
buffer_room k s c = room_or_none (constant_value k s c)

-- Heads

-- one more parameter; of a broken type, it is no number
abbrev pub unread_head : Head → List ℕ → Head
unread_head h x = record h { scope = with_local h.scope x local.Unreadable; taken = with_outer h.taken x }

abbrev pub value_head : List (List ℕ) → Head → List ℕ → Option Width → Head
value_head names h x None = unread_head h x
value_head names h x (Some w) = record {
  scope = with_value h.scope x (scalar_of w) (limit (scalar_of w) - 1);
  parameters = h.parameters ++ Value (scalar_of w) ∷ [];
  params = h.params ++ record { name = record { number = number_of names x }; width = w } ∷ [];
  cells = h.cells;
  buffers = h.buffers;
  taken = with_outer h.taken x;
}

abbrev pub cell_head : List (List ℕ) → Known → Head → List ℕ → Option CellType → Head
cell_head names k h x None = unread_head h x
cell_head names k h x (Some t) = record {
  scope = with_cells (with_local h.scope x (cells_local (length h.cells) t)) (h.scope.cells ++ kinds_of (cells_of names k x t));
  parameters = h.parameters ++ Cells t ∷ [];
  params = h.params;
  cells = h.cells ++ cells_of names k x t;
  buffers = h.buffers;
  taken = with_outer h.taken x;
}

abbrev pub buffer_head : List (List ℕ) → Head → List ℕ → Option ℕ → Head
buffer_head names h x None = unread_head h x
buffer_head names h x (Some room) = record {
  scope = with_buffer (with_local h.scope x (local.Buffer (length h.buffers))) room;
  parameters = h.parameters ++ Buffer room ∷ [];
  params = h.params;
  cells = h.cells;
  buffers = h.buffers ++ record { name = record { number = number_of names x }; room = room } ∷ [];
  taken = with_outer h.taken x;
}

abbrev pub with_param : List (List ℕ) → Known → Head → ParamTree → Head
with_param names k h (param.Value t n) = value_head names h n.text (plain_width k h.scope t)
with_param names k h (param.Mutable t n) = cell_head names k h n.text (cell_type k h.scope t)
with_param names k h (param.Bytes n room) = buffer_head names h n.text (buffer_room k h.scope room)

abbrev pub head_of : List (List ℕ) → Known → Head → List ParamTree → Head
head_of names k h [] = h
head_of names k h (p ∷ ps) = head_of names k (with_param names k h p) ps

-- Rules

-- N1, Y1: a name that isn't known, or is of another sort
abbrev pub named_breaches : Found → Bool → Span → List Breach
named_breaches found.Nothing fits at = when true Unknown at
named_breaches (found.Local l) fits at = when (not fits) Mismatch at
named_breaches (found.Global m) fits at = when (not fits) Mismatch at

abbrev pub plain_breaches : Known → Scope → PlainTree → List Breach
plain_breaches k s (plain.Number t) = []
plain_breaches k s (plain.Named n) = named_breaches (found_in k s n.text) (is_some (found_width (found_in k s n.text))) n.span

abbrev pub pointee_breaches : Known → Scope → TargetTree → List Breach
pointee_breaches k s (pointee.Number t) = []
pointee_breaches k s (pointee.Pointer at) = []
pointee_breaches k s (pointee.Named n) = named_breaches (found_in k s n.text) (is_some (found_cell (found_in k s n.text))) n.span

-- Y2: a number that is no room; what is no number breaks its own rules
abbrev pub is_past_room : Option ℕ → Bool
is_past_room None = false
is_past_room (Some n) = not (is_room n)

abbrev pub room_breaches : Known → Scope → ConstTree → List Breach
room_breaches k s c = constant_breaches k s c ++ when (is_past_room (constant_value k s c)) Narrowing (constant_span c)

-- N2: a parameter has another name than those before it, than a constant and than a member
abbrev pub param_name_breaches : Known → Head → Name → List Breach
param_name_breaches k h n = when (is_seen h.taken.outer n.text || is_literal_name k n.text) Twice n.span

abbrev pub param_breaches : Known → Head → ParamTree → List Breach
param_breaches k h (param.Value t n) = plain_breaches k h.scope t ++ param_name_breaches k h n
param_breaches k h (param.Mutable t n) = pointee_breaches k h.scope t ++ param_name_breaches k h n
param_breaches k h (param.Bytes n room) = room_breaches k h.scope room ++ param_name_breaches k h n

abbrev pub params_breaches : List (List ℕ) → Known → Head → List ParamTree → List Breach
params_breaches names k h [] = []
params_breaches names k h (p ∷ ps) = param_breaches k h p ++ params_breaches names k (with_param names k h p) ps
