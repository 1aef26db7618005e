-- What the machine rests on, and what its calls keep; of use in this crate alone.
use Rattle.std.specs.Prelude.{◌≡◌, ℕ, ◌+◌, ◌<◌, ◌≤◌, List, length, slice_index}
use Rattle.td_vm.specs.Imports.{Parts, Call, TraceRoom, CodeView, Level, Slate}
use Rattle.td_ir.specs.Tables.{routine_of}
use Rattle.td_ir.specs.RunLaws.{RunGoes, RunFails, RunReturns, RunTurns, RunCalls, RunLoops}
use Rattle.td_verify.specs.Shape.{shapes_of}
use Rattle.td_verify.specs.Brackets.{shape_at}
use Rattle.td_verify.specs.Operands.{IsCellMap}
use Rattle.td_verify.specs.Verify.{IsIn}
use Rattle.td_stream.specs.Copies.{rooms_of}
use Rattle.td_vm_step.specs.Stepping.{HasPlaces}
use Rattle.td_verify_runs.specs.Stretches.{IsRunnable}
use Rattle.td_vm.specs.declared.level.Spare.{Spare}
use Rattle.td_vm.specs.Frames.{AreBegins}
use Rattle.td_vm.specs.Need.{room_below, registers, cells, level}

-- the laws of run
pub record AreLaws : Type 0 where
  pub goes : RunGoes
  pub fails : RunFails
  pub returns : RunReturns
  pub turns : RunTurns
  pub calls : RunCalls
  pub loops : RunLoops

-- what a run of a routine needs: runnable code, as many registers and places as the routine has, these among the first cells and the pairs of buffers, no frames, and room for its calls
pub record HasRoom (l : Level) (spare : Spare) (regs : List ℕ) (slate : Slate) : Type 0 where
  pub runnable : IsRunnable l.code.parts.now
  pub begins : AreBegins l.code.parts.now l.code.begins.now
  pub routine : l.n < length l.code.parts.now.routines
  pub place_room : room_below (cells l.code.parts.now) l.code.parts.now l.n ≤ length spare.places.now
  pub register_count : length regs ≡ registers l.code.parts.now l.n
  pub register_room : room_below (registers l.code.parts.now) l.code.parts.now l.n ≤ length spare.registers.now
  pub in_cells : HasPlaces l.code.parts.now l.n l.places.now l.first (length slate.cells.now) (rooms_of slate.copies.now)
  pub trace : slate.trace.now.count ≡ 0
  pub trace_room : room_below level l.code.parts.now l.n + 1 ≤ length slate.trace.now.frames.items

-- the same room is free again
pub record IsKept (s t : Spare) : Type 0 where
  pub same_places : t.places.ghost_name ≡ s.places.ghost_name
  pub same_registers : t.registers.ghost_name ≡ s.registers.ghost_name
  pub places : length t.places.now ≡ length s.places.now
  pub registers : length t.registers.now ≡ length s.registers.now

-- the routine that an instruction of routine n calls, with its arguments and its cells
pub record IsCallee (c : Parts) (n at m first map : ℕ) : Type 0 where
  pub place : IsIn c n at
  pub is : shape_at (shapes_of c) at ≡ Call m
  pub lower : m < n
  pub arguments : (j : ℕ) → j < (routine_of c m).params → first + j < registers c n
  pub cell_map : IsCellMap c n m map

-- room for routine n, run from outside, and for its calls
pub record HasEntryRoom (e : CodeView) (n : ℕ) (spare_places spare : List ℕ) (t : TraceRoom) : Type 0 where
  pub runnable : IsRunnable e.parts.now
  pub begins : AreBegins e.parts.now e.begins.now
  pub routine : n < length e.parts.now.routines
  pub place_room : cells e.parts.now n + room_below (cells e.parts.now) e.parts.now n ≤ length spare_places
  pub register_room : registers e.parts.now n + room_below (registers e.parts.now) e.parts.now n ≤ length spare
  pub trace_room : room_below level e.parts.now n + 1 ≤ length t.frames.items

-- for each buffer of a routine one, with room for it
pub record AreRoomy (wanted rooms : List ℕ) : Type 0 where
  pub count : length wanted ≤ length rooms
  pub each : (k : ℕ) → k < length wanted → slice_index wanted k ≤ slice_index rooms k
