-- The rules of a field's type and of its arguments, and the core element (3D manual, "Structs", "Parameterized data
-- types", "Output parameters").
use Rattle.std.specs.Prelude.{ℕ, ◌+◌, ◌*◌, Bool, true, false, cond, not, ◌&&◌, nat_eq, nat_le, List, [], ◌∷◌, ◌++◌, length, Option, Some, None, is_some, slice_get}
use Rattle.td_num.specs.Numbers.{bytes_in, places_from}
use Rattle.td_elab_rules.specs.Imports.{NumberType, ByteOrder, LittleEndian, BigEndian, Span, TypeKind, TypeTree, Element, Param, CellKind, Number as NumberCell, Pointer as PointerCell, Cell, Buffer, TypeDef}
use Rattle.td_num.specs.declared.number.Width.TheVariants.{One}
use Rattle.td_ast.specs.declared.fields.TypeKind.TheVariants as type
use Rattle.td_ast.specs.Trees.{Tree}
use Rattle.td_ast.specs.Trees as tree
use Rattle.td_core.specs.Term.{Term}
use Rattle.td_core.specs.Types.{bits, type_of}
use Rattle.td_core.specs.Formed.{scalar_of}
use Rattle.td_core.specs.declared.module.Element.TheVariants as element
use Rattle.td_elab_rules.specs.declared.breach.Rule.TheVariants.{Unknown, WrongArgs, Mismatch}
use Rattle.td_elab_rules.specs.declared.breach.Breach.{Breach}
use Rattle.td_elab_rules.specs.declared.known.CellType.{CellType}
use Rattle.td_elab_rules.specs.declared.known.CellType.TheVariants as cell
use Rattle.td_elab_rules.specs.declared.known.Parameter.{Parameter}
use Rattle.td_elab_rules.specs.declared.known.Parameter.TheVariants.{Value, Cells, Buffer as BufferOf}
use Rattle.td_elab_rules.specs.declared.known.Meaning.TheVariants as meaning
use Rattle.td_elab_rules.specs.declared.known.Local.TheVariants as local
use Rattle.td_elab_rules.specs.declared.known.Found.{Found}
use Rattle.td_elab_rules.specs.declared.known.Found.TheVariants as found
use Rattle.td_elab_rules.specs.declared.known.Known.{Known}
use Rattle.td_elab_rules.specs.declared.known.Scope.{Scope}
use Rattle.td_elab_rules.specs.Breach.{when}
use Rattle.td_elab_rules.specs.Known.{found_in, signature_at, slots_at}
use Rattle.td_elab_rules.specs.Sorts.{core_of}
use Rattle.td_elab_rules.specs.ExprRules.{fitting_breaches}

-- Number types

abbrev pub same_order : ByteOrder → ByteOrder → Bool
same_order LittleEndian LittleEndian = true
same_order LittleEndian BigEndian = false
same_order BigEndian LittleEndian = false
same_order BigEndian BigEndian = true

abbrev pub same_number : NumberType → NumberType → Bool
same_number a b = nat_eq (bytes_in a.width) (bytes_in b.width) && same_order a.order b.order

-- the number type that a name stands for
abbrev pub number_found : Found → Option NumberType
number_found (found.Global (meaning.Number t)) = Some t
number_found (found.Global (meaning.Constant n)) = None
number_found (found.Global (meaning.Member n)) = None
number_found (found.Global (meaning.Enum t v)) = None
number_found (found.Global (meaning.Type j)) = None
number_found (found.Global (meaning.Record r)) = None
number_found (found.Local l) = None
number_found found.Nothing = None

abbrev pub number_of_kind : Known → Scope → TypeKind → Option NumberType
number_of_kind k s (type.Number t) = Some t
number_of_kind k s type.Unit = None
number_of_kind k s type.AllBytes = None
number_of_kind k s type.AllZeros = None
number_of_kind k s (type.Named n args) = number_found (found_in k s n)

-- the number type that a type is, or stands for
abbrev pub number_type : Known → Scope → TypeTree → Option NumberType
number_type k s t = number_of_kind k s t.kind

abbrev pub is_byte : Option NumberType → Bool
is_byte None = false
is_byte (Some t) = same_number t (record { width = One; order = LittleEndian })

-- Arguments

abbrev pub same_cell : CellType → CellType → Bool
same_cell (cell.Number a) (cell.Number b) = same_number a b
same_cell cell.Pointer cell.Pointer = true
same_cell (cell.Record a) (cell.Record b) = nat_eq a b
same_cell a b = false

-- the cells of a `mutable` parameter of this type
abbrev pub cells_found : Known → CellType → Found → Option (List ℕ)
cells_found k t (found.Local (local.Cell c u)) = cond (same_cell t u) (Some (c ∷ [])) None
cells_found k t (found.Local (local.Row c r)) = cond (same_cell t (cell.Record r)) (Some (places_from c (length (slots_at k r)))) None
cells_found k t (found.Local (local.Value i w most)) = None
cells_found k t (found.Local local.Unreadable) = None
cells_found k t (found.Local (local.Buffer n)) = None
cells_found k t found.Nothing = None
cells_found k t (found.Global m) = None

-- an argument for one is the plain name of a `mutable` parameter of that type (the tree drops parentheses)
abbrev pub cells_named : Known → Scope → CellType → Tree → Option (List ℕ)
cells_named k s t (tree.Name at n) = cells_found k t (found_in k s n.text)
cells_named k s t (tree.Number at n base) = None
cells_named k s t (tree.Truth at b) = None
cells_named k s t (tree.FieldPos at own) = None
cells_named k s t (tree.Sizeof at own z place) = None
cells_named k s t (tree.RangeOkay at z o a) = None
cells_named k s t (tree.Unary at op own a) = None
cells_named k s t (tree.Binary at op own a b) = None
cells_named k s t (tree.Choice at own c a b) = None

-- whether there is a room, and it is this
abbrev pub has_room : Option ℕ → ℕ → Bool
has_room None room = false
has_room (Some own) room = nat_eq own room

-- the copy buffer of this room
abbrev pub buffer_found : Scope → ℕ → Found → Option ℕ
buffer_found s room (found.Local (local.Buffer n)) = cond (has_room (slice_get s.buffers n) room) (Some n) None
buffer_found s room (found.Local (local.Cell c u)) = None
buffer_found s room (found.Local (local.Row c r)) = None
buffer_found s room (found.Local (local.Value i w most)) = None
buffer_found s room (found.Local local.Unreadable) = None
buffer_found s room found.Nothing = None
buffer_found s room (found.Global m) = None

-- an argument for one is the plain name of a copy buffer of that room
abbrev pub buffer_named : Known → Scope → ℕ → Tree → Option ℕ
buffer_named k s room (tree.Name at n) = buffer_found s room (found_in k s n.text)
buffer_named k s room (tree.Number at n base) = None
buffer_named k s room (tree.Truth at b) = None
buffer_named k s room (tree.FieldPos at own) = None
buffer_named k s room (tree.Sizeof at own z place) = None
buffer_named k s room (tree.RangeOkay at z o a) = None
buffer_named k s room (tree.Unary at op own a) = None
buffer_named k s room (tree.Binary at op own a b) = None
buffer_named k s room (tree.Choice at own c a b) = None

-- as many arguments as parameters, with cells and copy buffers where they are taken
abbrev pub are_applied : Known → Scope → List Parameter → List Tree → Bool
are_applied k s [] [] = true
are_applied k s [] (e ∷ es) = false
are_applied k s (p ∷ ps) [] = false
are_applied k s (Value w ∷ ps) (e ∷ es) = are_applied k s ps es
are_applied k s (Cells t ∷ ps) (e ∷ es) = is_some (cells_named k s t e) && are_applied k s ps es
are_applied k s (BufferOf room ∷ ps) (e ∷ es) = is_some (buffer_named k s room e) && are_applied k s ps es

-- the rules of the arguments for values
abbrev pub args_breaches : Known → Scope → List Parameter → List Tree → List Breach
args_breaches k s [] es = []
args_breaches k s (p ∷ ps) [] = []
args_breaches k s (Value w ∷ ps) (e ∷ es) = fitting_breaches k s w e ++ args_breaches k s ps es
args_breaches k s (Cells t ∷ ps) (e ∷ es) = args_breaches k s ps es
args_breaches k s (BufferOf room ∷ ps) (e ∷ es) = args_breaches k s ps es

-- N4: another number of arguments, or an argument for cells or for a copy buffer that isn't one
abbrev pub applied_breaches : Known → Scope → Span → List Parameter → List Tree → List Breach
applied_breaches k s at ps args = when (not (are_applied k s ps args)) WrongArgs at ++ args_breaches k s ps args

-- N1, Y1: the name of a type; a number type and an enum take no arguments
abbrev pub found_breaches : Known → Scope → Found → Span → List Tree → List Breach
found_breaches k s found.Nothing at args = when true Unknown at
found_breaches k s (found.Local l) at args = when true Mismatch at
found_breaches k s (found.Global (meaning.Constant n)) at args = when true Mismatch at
found_breaches k s (found.Global (meaning.Member n)) at args = when true Mismatch at
found_breaches k s (found.Global (meaning.Record r)) at args = when true Mismatch at
found_breaches k s (found.Global (meaning.Number t)) at args = applied_breaches k s at [] args
found_breaches k s (found.Global (meaning.Enum t v)) at args = applied_breaches k s at [] args
found_breaches k s (found.Global (meaning.Type j)) at args = applied_breaches k s at (signature_at k j) args

abbrev pub kind_breaches : Known → Scope → Span → TypeKind → List Breach
kind_breaches k s at (type.Number t) = []
kind_breaches k s at type.Unit = []
kind_breaches k s at type.AllBytes = []
kind_breaches k s at type.AllZeros = []
kind_breaches k s at (type.Named n args) = found_breaches k s (found_in k s n) at args

abbrev pub type_breaches : Known → Scope → TypeTree → List Breach
type_breaches k s t = kind_breaches k s t.span t.kind

-- The core arguments, cells and copy buffers. Where one doesn't fit, the type is applied to none and takes no bytes.

abbrev pub args_core : Known → Scope → List Parameter → List Tree → List Term
args_core k s [] es = []
args_core k s (p ∷ ps) [] = []
args_core k s (Value w ∷ ps) (e ∷ es) = core_of k s e ∷ args_core k s ps es
args_core k s (Cells t ∷ ps) (e ∷ es) = args_core k s ps es
args_core k s (BufferOf room ∷ ps) (e ∷ es) = args_core k s ps es

abbrev pub cells_or_none : Option (List ℕ) → List ℕ
cells_or_none None = []
cells_or_none (Some cells) = cells

abbrev pub args_cells : Known → Scope → List Parameter → List Tree → List ℕ
args_cells k s [] es = []
args_cells k s (p ∷ ps) [] = []
args_cells k s (Value w ∷ ps) (e ∷ es) = args_cells k s ps es
args_cells k s (Cells t ∷ ps) (e ∷ es) = cells_or_none (cells_named k s t e) ++ args_cells k s ps es
args_cells k s (BufferOf room ∷ ps) (e ∷ es) = args_cells k s ps es

abbrev pub buffer_or_none : Option ℕ → List ℕ
buffer_or_none None = []
buffer_or_none (Some n) = n ∷ []

abbrev pub args_buffers : Known → Scope → List Parameter → List Tree → List ℕ
args_buffers k s [] es = []
args_buffers k s (p ∷ ps) [] = []
args_buffers k s (Value w ∷ ps) (e ∷ es) = args_buffers k s ps es
args_buffers k s (Cells t ∷ ps) (e ∷ es) = args_buffers k s ps es
args_buffers k s (BufferOf room ∷ ps) (e ∷ es) = buffer_or_none (buffer_named k s room e) ++ args_buffers k s ps es

-- as many as the type has, each no wider than its parameter
abbrev pub fits_params : List Param → List Term → Bool
fits_params [] [] = true
fits_params [] (e ∷ es) = false
fits_params (p ∷ ps) [] = false
fits_params (p ∷ ps) (e ∷ es) = nat_le (bits (type_of e)) (bits (scalar_of p.width)) && fits_params ps es

abbrev pub same_kind : CellKind → CellKind → Bool
same_kind (NumberCell a) (NumberCell b) = nat_eq (bytes_in a) (bytes_in b)
same_kind (NumberCell a) PointerCell = false
same_kind PointerCell (NumberCell b) = false
same_kind PointerCell PointerCell = true

abbrev pub is_kind : Option CellKind → CellKind → Bool
is_kind None kind = false
is_kind (Some own) kind = same_kind own kind

-- as many as the type has, each holding what the type's cell holds
abbrev pub fits_cells : List CellKind → List Cell → List ℕ → Bool
fits_cells own [] [] = true
fits_cells own [] (c ∷ cs) = false
fits_cells own (b ∷ bs) [] = false
fits_cells own (b ∷ bs) (c ∷ cs) = is_kind (slice_get own c) b.kind && fits_cells own bs cs

-- as many as the type has, each of that room
abbrev pub fits_buffers : List ℕ → List Buffer → List ℕ → Bool
fits_buffers own [] [] = true
fits_buffers own [] (n ∷ ns) = false
fits_buffers own (b ∷ bs) [] = false
fits_buffers own (b ∷ bs) (n ∷ ns) = has_room (slice_get own n) b.room && fits_buffers own bs ns

-- both cells of each of these copy buffers, behind so many other cells
abbrev pub buffer_cells : ℕ → List ℕ → List ℕ
buffer_cells count [] = []
buffer_cells count (n ∷ ns) = (count + 2 * n) ∷ (count + 2 * n + 1) ∷ buffer_cells count ns

abbrev pub fits : Scope → TypeDef → List Term → List ℕ → List ℕ → Bool
fits s d es cells buffers = fits_params d.params es && (fits_cells s.cells d.cells cells && fits_buffers s.buffers d.buffers buffers)

abbrev pub applied : Scope → ℕ → Option TypeDef → List Term → List ℕ → List ℕ → Element
applied s j None es cells buffers = element.Unit
applied s j (Some d) es cells buffers =
    cond (fits s d es cells buffers) (element.Named j es (cells ++ buffer_cells (length s.cells) buffers)) element.Unit

abbrev pub found_element : Known → Scope → Found → List Tree → Element
found_element k s (found.Global (meaning.Number t)) args = element.Number t
found_element k s (found.Global (meaning.Enum t v)) args = element.Listed t v
found_element k s (found.Global (meaning.Type j)) args =
    applied s j (slice_get k.definitions j) (args_core k s (signature_at k j) args) (args_cells k s (signature_at k j) args) (args_buffers k s (signature_at k j) args)
found_element k s (found.Global (meaning.Constant n)) args = element.Unit
found_element k s (found.Global (meaning.Member n)) args = element.Unit
found_element k s (found.Global (meaning.Record r)) args = element.Unit
found_element k s (found.Local l) args = element.Unit
found_element k s found.Nothing args = element.Unit

abbrev pub kind_element : Known → Scope → TypeKind → Element
kind_element k s (type.Number t) = element.Number t
kind_element k s type.Unit = element.Unit
kind_element k s type.AllBytes = element.Rest
kind_element k s type.AllZeros = element.Zeros
kind_element k s (type.Named n args) = found_element k s (found_in k s n) args

abbrev pub element_of : Known → Scope → TypeTree → Element
element_of k s t = kind_element k s t.kind
