-- What a frame has room for (own rule).
use Rattle.std.specs.Prelude.{◌≡◌, ℕ, ◌+◌, ◌≤◌, List, length, map, take, drop, slice_index}
use Rattle.td_vm.specs.Imports.{Outcome, TraceFrame, Verdict, Parts}
use Rattle.td_stream.specs.Copies.{BufferView, held_by, rooms_of, empty_with}
use Rattle.td_ir.specs.Tables.{first_of}
use Rattle.td_vm.specs.Need.{most_need, most_entry_cells, most_buffers, most_rooms, registers, cells, level}

-- how many elements each list of a frame has memory for, whatever it holds: registers, places of cells, cells, frames, beginnings of
-- routines, buffers for copies, and lists of what these held when an outcome is taken. What a buffer's bytes take isn't among these:
-- a buffer is seen by its bytes and its room alone
pub record FrameMemory : Type 0 where
  pub registers : ℕ
  pub places : ℕ
  pub cells : ℕ
  pub trace : ℕ
  pub begins : ℕ
  pub copies : ℕ
  pub kept : ℕ

-- a table of where routines begin, how many registers, places, frames and cells (with two for each buffer) there is room for, the
-- memory of these lists, the cells, the frames of the last failure, and the buffers, of which an entry point has the first ones
pub record FrameView : Type 0 where
  pub begins : List ℕ
  pub register_room : ℕ
  pub place_room : ℕ
  pub trace_room : ℕ
  pub cell_room : ℕ
  pub memory : FrameMemory
  pub cells : List ℕ
  pub trace : List TraceFrame
  pub copies : List BufferView

-- the outcome of a validation from an entry point with k buffers that had this verdict and left the frame so
abbrev pub outcome_in : FrameView → (k : ℕ) → Verdict → Outcome
outcome_in f k verdict = record { verdict = verdict; trace = f.trace; cells = f.cells; copies = held_by (take k f.copies) }

-- the buffers behind the first k are as a frame has them that was just armed for this code: they hold nothing
abbrev pub IsRestEmpty : Parts → (k : ℕ) → FrameView → Type 0
IsRestEmpty c k f = drop k f.copies ≡ drop k (map empty_with (most_rooms c))

-- where each routine begins, and where the last one ends
pub record AreBegins (c : Parts) (begins : List ℕ) : Type 0 where
  pub count : length begins ≡ length c.routines + 1
  pub each : (n : ℕ) → n ≤ length c.routines → slice_index begins n ≡ first_of c n

-- what this code needs
abbrev pub memory_for : Parts → FrameMemory
memory_for c = record {
  registers = most_need (registers c) c;
  places = most_need (cells c) c;
  cells = most_entry_cells c;
  trace = most_need level c;
  begins = length c.routines + 1;
  copies = most_buffers c;
  kept = most_buffers c;
}

-- a frame has the room that this code needs, and no more; and each of its lists has memory for just that, so none was ever let grow
pub record IsArmed (c : Parts) (f : FrameView) : Type 0 where
  pub begins : AreBegins c f.begins
  pub register_room : f.register_room ≡ most_need (registers c) c
  pub place_room : f.place_room ≡ most_need (cells c) c
  pub trace_room : f.trace_room ≡ most_need level c
  pub cell_room : f.cell_room ≡ most_entry_cells c
  pub memory : f.memory ≡ memory_for c
  pub rooms : rooms_of f.copies ≡ most_rooms c
