-- Entry points of code as C functions (own rule): what a caller of C sees, and the one call of a routine that each makes.
use Rattle.std.specs.Prelude.{ℕ, zero, suc, ◌+◌, ◌*◌, ◌&&◌, Bool, true, false, cond, List, [], ◌∷◌, ◌++◌, Option, Some, None, length, take, map, codes, decimal, flat_map, nat_eq, slice_index_or}
use Rattle.td_num.specs.declared.number.Width.{Width}
use Rattle.td_num.specs.declared.number.Width.TheVariants.{One, Two, Four, Eight}
use Rattle.td_core.specs.declared.module.NameId.{NameId}
use Rattle.td_core.specs.declared.module.Param.{Param}
use Rattle.td_core.specs.declared.module.Cell.{Cell}
use Rattle.td_core.specs.declared.module.CellKind.{CellKind}
use Rattle.td_core.specs.declared.module.CellKind.TheVariants.{Number, Pointer}
use Rattle.td_ir.specs.declared.tables.Parts.{Parts}
use Rattle.td_ir.specs.declared.tables.EntryPoint.{EntryPoint}
use Rattle.td_ir.specs.Tables.{routine_of}
use Rattle.td_prog_text.specs.Names.{name_of, routine_name, escaped, distinct, fresh}
use Rattle.td_prog_text.specs.Expressions.{Pieces}

-- of each element, by its number
abbrev pub indexed : {A B : Type 0} → (ℕ → A → B) → ℕ → List A → List B
indexed f k [] = []
indexed f k (x ∷ xs) = f k x ∷ indexed f (k + 1) xs

-- the pieces of several texts
abbrev pub lines : List Pieces → Pieces
lines texts = flat_map (λ ps. ps) texts

-- what stands before each but the first
abbrev pub comma : ℕ → List ℕ
comma zero = []
comma (suc k) = codes ", "

abbrev pub type_of : Width → List ℕ
type_of One = codes "uint8_t"
type_of Two = codes "uint16_t"
type_of Four = codes "uint32_t"
type_of Eight = codes "uint64_t"

-- a pointer is a place in the message
abbrev pub cell_type : CellKind → List ℕ
cell_type (Number width) = type_of width
cell_type Pointer = codes "uint32_t"

abbrev pub is_record : Option NameId → Bool
is_record None = false
is_record (Some field) = true

-- whether a cell is of the record of this name; the first that is
abbrev pub is_of : NameId → Cell → Bool
is_of name cell = nat_eq cell.name.number name.number && is_record cell.field

abbrev pub first_of : NameId → List Cell → ℕ
first_of name [] = 0
first_of name (cell ∷ cells) = cond (is_of name cell) 0 (suc (first_of name cells))

module _ (c : Parts) where
  abbrev pub own : NameId → List ℕ
  own name = escaped (name_of c name)

  -- The names of value parameters, of cells and of buffers, no two of them alike; of a record's cells the first one's counts
  abbrev pub all_names : EntryPoint → List (List ℕ)
  all_names e = distinct [] (map (λ (p : Param). own p.name) e.params ++ (map (λ (cell : Cell). own cell.name) e.cells ++ map own e.buffers))

  -- The names of members of the record of this name, as far as these cells are of it, no two of them alike
  abbrev pub field_by : Option NameId → List (List ℕ)
  field_by None = []
  field_by (Some field) = own field ∷ []

  abbrev pub field_in : NameId → Cell → List (List ℕ)
  field_in name cell = cond (nat_eq cell.name.number name.number) (field_by cell.field) []

  abbrev pub members_in : NameId → List Cell → List (List ℕ)
  members_in name cells = distinct [] (flat_map (field_in name) cells)

  -- of each cell: a member's name is another one than those that its record has before it
  abbrev pub member_by : List (List ℕ) → Option NameId → List ℕ
  member_by taken None = []
  member_by taken (Some field) = fresh (length taken) taken (own field)

  abbrev pub member_of : List Cell → ℕ → Cell → List ℕ
  member_of cells k cell = member_by (members_in cell.name (take k cells)) cell.field

  abbrev pub all_members : List Cell → List (List ℕ)
  all_members cells = indexed (member_of cells) 0 cells

  abbrev pub title : EntryPoint → List ℕ
  title e = name_of c (routine_of c e.routine).name

-- which of all names a cell has, and a buffer
module _ (e : EntryPoint) where
  abbrev pub cell_number_by : ℕ → Cell → Option NameId → ℕ
  cell_number_by k cell None = length e.params + k
  cell_number_by k cell (Some field) = length e.params + first_of cell.name e.cells

  abbrev pub cell_number : ℕ → Cell → ℕ
  cell_number k cell = cell_number_by k cell cell.field

  abbrev pub buffer_number : ℕ → ℕ
  buffer_number k = length e.params + length e.cells + k

  abbrev pub begins_record : ℕ → Cell → Bool
  begins_record k cell = is_record cell.field && nat_eq k (first_of cell.name e.cells)

  abbrev pub cell_count : ℕ
  cell_count = length e.cells + 2 * length e.buffers

-- by the names of parameters
module _ (e : EntryPoint) (names : List (List ℕ)) where
  abbrev pub parameter_name : ℕ → List ℕ
  parameter_name k = slice_index_or names k []

  abbrev pub cell_name : ℕ → Cell → List ℕ
  cell_name k cell = parameter_name (cell_number e k cell)

  abbrev pub buffer_name : ℕ → List ℕ
  buffer_name k = parameter_name (buffer_number e k)

  abbrev pub value_parameter : ℕ → Param → Pieces
  value_parameter k p = codes ", " ∷ type_of p.width ∷ codes " " ∷ parameter_name k ∷ []

  abbrev pub emptied : ℕ → NameId → Pieces
  emptied k name = codes "    " ∷ buffer_name k ∷ codes "->count = 0;\n" ∷ []

  abbrev pub argument : ℕ → Param → Pieces
  argument k p = codes ", " ∷ parameter_name k ∷ []

  abbrev pub buffer_argument : ℕ → NameId → Pieces
  buffer_argument k name = codes ", " ∷ buffer_name k ∷ codes "->bytes" ∷ []

  abbrev pub counted : ℕ → NameId → Pieces
  counted k name = codes "    " ∷ buffer_name k ∷ codes "->count = (uint32_t)td_cells[" ∷ decimal (length e.cells + 2 * k + 1) ∷ codes "];\n" ∷ []

  -- cells as arguments, and the two of each buffer
  abbrev pub cell_argument : ℕ → Cell → Pieces
  cell_argument k cell = codes ", &td_cells[" ∷ decimal k ∷ codes "]" ∷ []

  abbrev pub pair_argument : ℕ → NameId → Pieces
  pair_argument k name = codes ", &td_cells[" ∷ decimal (length e.cells + 2 * k) ∷ codes "], &td_cells[" ∷ decimal (length e.cells + 2 * k + 1) ∷ codes "]" ∷ []

  abbrev pub no_place : ℕ → NameId → Pieces
  no_place k name = comma (length e.cells + 2 * k) ∷ codes "0, 0" ∷ []

  -- by the names of members, too: the places of cells, `*n`, `out->x`
  module _ (members : List (List ℕ)) where
    abbrev pub member_name : ℕ → List ℕ
    member_name k = slice_index_or members k []

    abbrev pub place_by : ℕ → Cell → Option NameId → Pieces
    place_by k cell None = codes "*" ∷ cell_name k cell ∷ []
    place_by k cell (Some field) = cell_name k cell ∷ codes "->" ∷ member_name k ∷ []

    abbrev pub place : ℕ → Cell → Pieces
    place k cell = place_by k cell cell.field

    abbrev pub initial : ℕ → Cell → Pieces
    initial k cell = comma k ∷ place k cell

    abbrev pub stored : ℕ → Cell → Pieces
    stored k cell = codes "    " ∷ (place k cell ++ codes " = (" ∷ cell_type cell.kind ∷ codes ")td_cells[" ∷ decimal k ∷ codes "];\n" ∷ [])

    abbrev pub cells_line : ℕ → Pieces
    cells_line zero = []
    cells_line (suc n) =
        codes "    uint64_t td_cells[" ∷ decimal (suc n) ∷ codes "] = {" ∷ (lines (indexed initial 0 e.cells) ++ (lines (indexed no_place 0 e.buffers) ++ codes "};\n" ∷ []))

    abbrev pub member : NameId → ℕ → Cell → Pieces
    member name k cell = cond (is_of name cell) (codes "    " ∷ cell_type cell.kind ∷ codes " " ∷ member_name k ∷ codes ";\n" ∷ []) []

module _ (c : Parts) (prefix : List ℕ) (e : EntryPoint) (names : List (List ℕ)) where
  -- `point_POINT_out`
  abbrev pub struct_name : List ℕ → Pieces
  struct_name name = prefix ∷ codes "_" ∷ title c e ∷ codes "_" ∷ name ∷ []

  -- Structs: where a record has its first cell, with its members; and for each buffer
  abbrev pub begun : List ℕ → Pieces
  begun name = codes "struct " ∷ (struct_name name ++ codes " {\n" ∷ [])

  abbrev pub record_struct : List (List ℕ) → ℕ → Cell → Pieces
  record_struct members k cell = begun (cell_name e names k cell) ++ (lines (indexed (member e names members cell.name) 0 e.cells) ++ codes "};\n\n" ∷ [])

  abbrev pub record_structs : List (List ℕ) → ℕ → Cell → Pieces
  record_structs members k cell = cond (begins_record e k cell) (record_struct members k cell) []

  abbrev pub buffer_struct : ℕ → ℕ → Pieces
  buffer_struct k room =
      begun (buffer_name e names k) ++ (codes "    uint32_t count; /* so many of the bytes are the copy */\n    uint8_t bytes[" ∷ decimal room ∷ codes "];\n};\n\n" ∷ [])

  -- Parameters, a comma and a blank before each
  abbrev pub pointer_by : ℕ → Cell → Option NameId → Pieces
  pointer_by k cell None = codes ", " ∷ cell_type cell.kind ∷ codes " *" ∷ cell_name e names k cell ∷ []
  pointer_by k cell (Some field) = cond (begins_record e k cell) (codes ", struct " ∷ (struct_name (cell_name e names k cell) ++ codes " *" ∷ cell_name e names k cell ∷ [])) []

  abbrev pub pointer : ℕ → Cell → Pieces
  pointer k cell = pointer_by k cell cell.field

  abbrev pub buffer_parameter : ℕ → NameId → Pieces
  buffer_parameter k name = codes ", struct " ∷ (struct_name (buffer_name e names k) ++ codes " *" ∷ buffer_name e names k ∷ [])

  -- `bool point_validate_POINT(const uint64_t *words, uint32_t length, .., struct td_outcome *outcome)`
  abbrev pub head : Pieces
  head =
      codes "bool " ∷ prefix ∷ codes "_validate_" ∷ title c e ∷ codes "(const uint64_t *words, uint32_t length"
      ∷ (lines (indexed (value_parameter e names) 0 e.params) ++ (lines (indexed pointer 0 e.cells) ++ (lines (indexed buffer_parameter 0 e.buffers) ++ codes ", struct td_outcome *outcome)" ∷ [])))

  abbrev pub call : Pieces
  call =
      codes "    td_position = " ∷ routine_name c e.routine ∷ codes "(&td_run, 0, length"
      ∷ (lines (indexed (argument e names) 0 e.params)
      ++ (lines (indexed (cell_argument e names) 0 e.cells) ++ (lines (indexed (pair_argument e names) 0 e.buffers) ++ (lines (indexed (buffer_argument e names) 0 e.buffers) ++ codes ");\n" ∷ []))))

  abbrev pub declaration_by : List (List ℕ) → Pieces
  declaration_by members =
      lines (indexed (record_structs members) 0 e.cells) ++ (lines (indexed buffer_struct 0 (routine_of c e.routine).buffers) ++ (codes "TD_LOOK_AT_ANSWER " ∷ (head ++ codes ";\n\n" ∷ [])))

  abbrev pub function_by : List (List ℕ) → Pieces
  function_by members =
      head ++ (codes "\n{\n    struct td_run td_run = {words, 0, 0, outcome};\n" ∷ (cells_line e names members (cell_count e) ++ (codes "    uint64_t td_position;\n\n" ∷ (lines (indexed (emptied e names) 0 e.buffers)
      ++ (call ++ (codes "    if (td_position == TD_FAILED) {\n        return false;\n    }\n" ∷ (lines (indexed (stored e names members) 0 e.cells) ++ (lines (indexed (counted e names) 0 e.buffers)
      ++ codes "    outcome->reason = TD_NO_REASON;\n    outcome->position = (uint32_t)td_position;\n    outcome->count = 0;\n    return true;\n}\n\n" ∷ []))))))))

module _ (c : Parts) (prefix : List ℕ) (e : EntryPoint) where
  abbrev pub declaration : Pieces
  declaration = declaration_by c prefix e (all_names c e) (all_members c e.cells)

  abbrev pub function : Pieces
  function = function_by c prefix e (all_names c e) (all_members c e.cells)
