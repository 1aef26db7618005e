-- Entry points of code by name, and what fits them (own rule).
use Rattle.std.specs.Prelude.{◌≡◌, ℕ, ◌<◌, ◌^◌, ◌*◌, List, ◌++◌, length, replicate, slice_get, slice_index, Some}
use Rattle.td_num.specs.Numbers.{bytes_in}
use Rattle.td_core.specs.declared.module.Entry.{Entry}
use Rattle.td_core.specs.declared.module.Param.{Param}
use Rattle.td_core.specs.declared.module.Cell.{Cell}
use Rattle.td_core.specs.declared.module.CellKind.{CellKind}
use Rattle.td_core.specs.declared.module.CellKind.TheVariants.{Number, Pointer}
use Rattle.td_ir.specs.Tables.{entry_of, routine_of, param_of, cell_of}
use Rattle.td_ir.specs.declared.tables.Parts.{Parts}

-- entry point n's routine has this name
pub record IsEntryNamed (c : Parts) (name : List ℕ) (n : ℕ) : Type 0 where
  pub there : n < length c.entries
  pub is : slice_get c.names (routine_of c (entry_of c n).routine).name.number ≡ Some name

-- the first of this name
pub record IsFirstNamed (c : Parts) (name : List ℕ) (entry : Entry) : Type 0 where
  pub named : IsEntryNamed c name entry.number
  pub first : (n : ℕ) → n < entry.number → IsEntryNamed c name n → ⊥

-- how many bits a cell has: a pointer is a place in the message
abbrev pub cell_bits : CellKind → ℕ
cell_bits (Number width) = 8 * bytes_in width
cell_bits Pointer = 32

-- the first n arguments and cells fit
abbrev pub AreArguments : List Param → List ℕ → ℕ → Type 0
AreArguments params args n = (k : ℕ) → k < n → slice_index args k < 2 ^ (8 * bytes_in (param_of params k).width)

abbrev pub AreValues : List Cell → List ℕ → ℕ → Type 0
AreValues cells values n = (k : ℕ) → k < n → slice_index values k < 2 ^ cell_bits (cell_of cells k).kind

-- arguments and cells fit an entry point: there is such an entry point, there are as many, and each is within its width
pub record Fits (c : Parts) (entry : Entry) (args cells : List ℕ) : Type 0 where
  pub there : entry.number < length c.entries
  pub arg_count : length args ≡ length (entry_of c entry.number).params
  pub cell_count : length cells ≡ length (entry_of c entry.number).cells
  pub args_fit : AreArguments (entry_of c entry.number).params args (length args)
  pub cells_fit : AreValues (entry_of c entry.number).cells cells (length cells)

-- how many buffers an entry point has, and its cells with those of its buffers, which hold nothing at first
abbrev pub buffers_of : Parts → Entry → ℕ
buffers_of c entry = length (routine_of c (entry_of c entry.number).routine).buffers

abbrev pub opened_by : Parts → Entry → List ℕ → List ℕ
opened_by c entry cells = cells ++ replicate (2 * buffers_of c entry) 0
