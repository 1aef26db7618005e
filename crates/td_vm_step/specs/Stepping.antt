-- What one instruction does to the machine's values; of use in this crate and in td_vm alone.
use Rattle.std.specs.Prelude.{◌≡◌, ℕ, ◌+◌, ◌*◌, ◌^◌, ◌<◌, ◌≤◌, Bool, true, false, List, length, slice_index, vec_capacity}
use Rattle.td_core.specs.Held.{IsBufferAt, AreHeld}
use Rattle.td_stream.specs.Copies.{held_by, rooms_of}
use Rattle.td_stream.specs.declared.load.Load.{Load}
use Rattle.td_stream.specs.declared.stream.Stream.{Stream}
use Rattle.td_stream.specs.Loads.{Carries}
use Rattle.td_stream.specs.StreamInvariant.{Looked, position, end_of, layout_of, length_of, loads_of}
use Rattle.td_ir.specs.declared.instructions.Instr.{Instr}
use Rattle.td_ir.specs.declared.instructions.Instr.TheVariants as i
use Rattle.td_ir.specs.declared.tables.Parts.{Parts}
use Rattle.td_ir.specs.Tables.{routine_of}
use Rattle.td_ir.specs.State.{State}
use Rattle.td_ir.specs.Flow.{Flow, Goes, Fails, Calls, Returns, Loops, Turns, copied}
use Rattle.td_ir.specs.Flow as ir
use Rattle.td_ir.specs.Values.{is_zero, is_nonzero}
use Rattle.td_verify.specs.Shape.{shape}
use Rattle.td_verify.specs.Ways.{Leads}
use Rattle.td_verify.specs.Operands.{HasRegisters, HasTables, HasOperands, callee_params}
use Rattle.td_verify_runs.specs.Moves.{Passes}
use Rattle.td_vm_step.specs.declared.activation.Activation.{Activation}
use Rattle.td_vm_step.specs.declared.activation.Effect.{Effect}
use Rattle.td_vm_step.specs.declared.activation.Effect.TheVariants as effect
use Rattle.td_vm_step.specs.declared.slate.Slate.{Slate}

-- the state that the machine's values stand for
abbrev pub state_of : {W : Type 0} → (regs cells : List ℕ) → Activation → Stream W → State
state_of regs cells a s = record { regs = regs; cells = cells; start = a.start; pos = position s; end = end_of s; outer = a.outer }

-- where an instruction leads, from s to t; what fails leaves the position as it was
abbrev pub flow_of : Effect → (s t : State) → Flow
flow_of (effect.Goes target) s t = Goes target t
flow_of (effect.Fails reason site pos) s t = Fails reason site pos (record t { pos = s.pos })
flow_of (effect.Calls first routine map site) s t = Calls first routine map site t
flow_of effect.Returns s t = Returns t
flow_of (effect.Loops target) s t = Loops target t
flow_of (effect.Turns start) s t = Turns t

abbrev pub effect_of : Flow → List ℕ → ℕ → ir.Effect
effect_of flow touched steps = record { flow = flow; touched = touched; steps = steps }

-- from s to t the count of steps rose from one number to another and just the words of some places were loaded, and on every list that carries them P holds of it, of these places and of how much the count rose
pub record Ran {W : Type 0} (loads : W → List Load) (s t : Stream W) (from to : ℕ) (P : List ℕ → List ℕ → ℕ → Type 0) : Type 0 where
  pub touched : List ℕ
  pub taken : ℕ
  pub counted : to ≡ from + taken
  pub looked : Looked loads s t touched
  pub holds : (b : List ℕ) → Carries (layout_of s) b (loads_of loads t) → P b touched taken

-- from s to t buffers went on holding what the cells behind the first ones say, on every list that carries the words loaded
abbrev pub Hold : {W : Type 0} (loads : W → List Load) (s t : Stream W) (first : ℕ) (u v : Slate) → Type 0
Hold loads s t first u v = (b : List ℕ) → Carries (layout_of s) b (loads_of loads t) → AreHeld b first u.cells.now (held_by u.copies.now) → AreHeld b first v.cells.now (held_by v.copies.now)

-- the same cells, buffers and trace are lent, with as much room as before
pub record IsLent (s t : Slate) : Type 0 where
  pub same_cells : t.cells.ghost_name ≡ s.cells.ghost_name
  pub same_copies : t.copies.ghost_name ≡ s.copies.ghost_name
  pub same_trace : t.trace.ghost_name ≡ s.trace.ghost_name
  pub cells : length t.cells.now ≡ length s.cells.now
  pub copies : length t.copies.now ≡ length s.copies.now
  pub rooms : rooms_of t.copies.now ≡ rooms_of s.copies.now
  pub frames : length t.trace.now.frames.items ≡ length s.trace.now.frames.items
  pub memory : vec_capacity t.trace.now.frames ≡ vec_capacity s.trace.now.frames

-- what a copy to a buffer of routine n does, whose cells, and then those of its buffers, are at these places
abbrev pub copied_to : Parts → (n : ℕ) → (places : List ℕ) → (next size buffer site : ℕ) → State → ir.Effect
copied_to c n places next size buffer site s =
    let first = (routine_of c n).cells + 2 * buffer in
    copied next size (slice_index (routine_of c n).buffers buffer) (slice_index places first) (slice_index places (first + 1)) site s

-- the end and the one outside of the window lie within the message
pub record InWindow {W : Type 0} (a : Activation) (s : Stream W) : Type 0 where
  pub around : end_of s ≤ a.outer
  pub within : a.outer ≤ length_of s

-- an instruction of routine n, which has so many registers, as the verifier admits it
pub record IsFine (c : Parts) (n registers : ℕ) (j : Instr) : Type 0 where
  pub registers_in : HasRegisters registers (callee_params c j) j
  pub tables_in : HasTables c n j
  pub operands_in : HasOperands j

-- the places of routine n's cells, among the first ones, and those of its buffers' cells, among the pairs behind them
pub record HasPlaces (c : Parts) (n : ℕ) (places : List ℕ) (first size : ℕ) (rooms : List ℕ) : Type 0 where
  pub count : length places ≡ (routine_of c n).cells + 2 * length (routine_of c n).buffers
  pub size_is : size ≡ first + 2 * length rooms
  pub cells : (k : ℕ) → k < (routine_of c n).cells → slice_index places k < first
  pub buffers : (k : ℕ) → k < length (routine_of c n).buffers →
      IsBufferAt (slice_index places ((routine_of c n).cells + 2 * k)) (slice_index places ((routine_of c n).cells + 2 * k + 1)) (slice_index (routine_of c n).buffers k) first rooms

-- what an effect says of its instruction
abbrev pub LeadsTo : Effect → ℕ → Instr → Type 0
LeadsTo (effect.Goes target) pc j = Passes (shape j) × Leads pc (shape j) target
LeadsTo (effect.Fails reason site pos) pc j = Passes (shape j)
LeadsTo (effect.Calls first routine map site) pc j = j ≡ i.Call first routine map site
LeadsTo effect.Returns pc j = j ≡ i.Return
LeadsTo (effect.Loops target) pc j = j ≡ i.While target
LeadsTo (effect.Turns start) pc j = j ≡ i.Again start

-- the site that it names is one of so many
abbrev pub HasSite : Effect → ℕ → Type 0
HasSite (effect.Fails reason site pos) n = site < n
HasSite (effect.Calls first routine map site) n = site < n
HasSite j n = Unit {0}

-- where it fails, the position has 32 bits
abbrev pub IsSmall : Effect → Type 0
IsSmall (effect.Fails reason site pos) = pos < 2 ^ 32
IsSmall j = Unit {0}

abbrev pub WhenGoes : Effect → Type 0 → Type 0
WhenGoes (effect.Fails reason site pos) P = Unit {0}
WhenGoes j P = P

-- it goes on at a place, or fails at a site
abbrev pub OnOrOut : (next site : ℕ) → Effect → Type 0
OnOrOut next place (effect.Goes target) = target ≡ next
OnOrOut next place (effect.Fails reason site pos) = site ≡ place
OnOrOut next place j = ⊥

-- what is sought among elements: a zero, or one that isn't
abbrev pub sought : Bool → ℕ → Bool
sought true n = is_zero n
sought false n = is_nonzero n
