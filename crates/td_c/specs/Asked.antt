-- What C asks, and what it is answered (own rule; `td_call` of capi/td.h).
use Rattle.std.specs.Prelude.{◌≡◌, ℕ, ◌<◌, ◌≤◌, ◌↔◌, List, [], ◌∷◌, length, take, drop, Option, Result, IfOk, IfErr, IsOk, IfSome, IsSome, IsNone}
use Rattle.td_core.specs.declared.module.Entry.{Entry}
use Rattle.td_core.specs.declared.outcome.TraceFrame.{TraceFrame}
use Rattle.td_core.specs.declared.outcome.Verdict.{Verdict}
use Rattle.td_stream.specs.declared.load.Load.{Load}
use Rattle.td_stream.specs.declared.stretch.Stretch.{Stretch}
use Rattle.td_ir.specs.declared.tables.Parts.{Parts}
use Rattle.td_foreign.specs.declared.noted.TdLoad.{TdLoad}
use Rattle.td_foreign.specs.Noted.{AreRows, IsNoted}
use Rattle.td_ir.specs.Entries.{Fits, buffers_of}
use Rattle.td_stream.specs.Copies.{held_by}
use Rattle.td_vm.specs.Frames.{FrameView, IsRestEmpty}
use Rattle.td_session.specs.Validated.{IsValidated}
use Rattle.td_c.specs.declared.answers.Refusal.{Refusal}
use Rattle.td_c.specs.declared.answers.Refusal.TheVariants.{Past, NoEntry, Unfit}
use Rattle.td_c.specs.declared.call.TdCall.{TdCall}
use Rattle.td_c.specs.Numbers.{position_told, reason_told}

abbrev pub entry_asked : TdCall → Entry
entry_asked call = record { number = call.entry }

abbrev pub args_of : TdCall → List ℕ
args_of call = take call.arg_count call.args

abbrev pub cells_of : TdCall → List ℕ
cells_of call = take call.cell_count call.cells

-- what the buffers of an entry point hold, in a session's room
abbrev pub copied_by : Parts → Entry → FrameView → List (List ℕ)
copied_by c entry frame = held_by (take (buffers_of c entry) frame.copies)

-- the message where it is one stretch
abbrev pub layout_of : TdCall → List Stretch
layout_of call = (record { place = call.place; size = call.length }) ∷ []

-- what isn't answered is as before, the room behind the cells too
abbrev pub SameQuestion : TdCall → TdCall → Type 0
SameQuestion a b = (b.entry ≡ a.entry) × (b.place ≡ a.place) × (b.length ≡ a.length) × (b.arg_count ≡ a.arg_count) × (b.cell_count ≡ a.cell_count)
    × (b.unused ≡ a.unused) × (b.args ≡ a.args) × (drop a.cell_count b.cells ≡ drop a.cell_count a.cells)

-- nothing was loaded, and call and rows are as before
pub record IsUntouched (asked after : TdCall) (none_loaded : Type 0) (was rows : List TdLoad) : Type 0 where
  pub call_stays : after ≡ asked
  pub unloaded : none_loaded
  pub rows_stay : rows ≡ was

-- an entry point was run with these arguments and cells over a message that lies so: this was found, with a count of steps, these loads were
-- made, and so many were noted; the cells are left so, and the session's room and the rows were and are so
pub record IsRunOfCall (c : Parts) (entry : Entry) (args cells after : List ℕ) (layout : List Stretch) (loads : List Load) (before frame : FrameView)
    (was rows : List TdLoad) (found : Option (Verdict × ℕ)) (count : ℕ) : Type 0 where
  -- something is found just where arguments and cells fit the entry point
  pub fits : IsSome found ↔ Fits c entry args cells
  -- it is the verdict of the code's run, and so is the count of steps
  pub validated : IfSome found (λ v. IsValidated c entry args cells layout loads
      (record { verdict = v.0; trace = frame.trace; cells = after; copies = copied_by c entry frame }) v.1)
  -- the copy buffers behind the entry point's hold nothing
  pub rest : IfSome found (λ v. IsRestEmpty c (buffers_of c entry) frame)
  -- else nothing was loaded, and cells and room are as before
  pub unloaded : IsNone found → loads ≡ []
  pub cells_stay : IsNone found → after ≡ cells
  pub room_stays : IsNone found → frame ≡ before
  -- the loads are counted, and the rows begin with them
  pub noted : IsNoted layout loads was count rows

-- what is asked can be validated: the message is inside of its words, and arguments and cells fit the entry point
pub record IsAsked (c : Parts) (asked : TdCall) (within : Type 0) : Type 0 where
  pub inside : within
  pub args : asked.arg_count ≤ 16
  pub cells : asked.cell_count ≤ 64
  pub fits : Fits c (entry_asked asked) (args_of asked) (cells_of asked)

-- why it can't
abbrev pub IsCause : Parts → TdCall → Type 0 → Refusal → Type 0
IsCause c asked within Past = within → ⊥
IsCause c asked within NoEntry = within × (length c.entries ≤ asked.entry)
IsCause c asked within Unfit = within × (asked.entry < length c.entries) × (IsAsked c asked within → ⊥)

-- position, reason, count of frames and count of loads are those of a verdict with this trace and these loads
pub record IsTold (v : Verdict) (trace : List TraceFrame) (loads : List Load) (after : TdCall) : Type 0 where
  pub position : after.position ≡ position_told v
  pub reason : after.reason ≡ reason_told v
  pub frames : after.frame_count ≡ length trace
  pub counted : after.load_count ≡ length loads

-- this answer was found, with this room as it was before and is left, these loads of the message's words, and rows that were and are so; the
-- message is one that can be validated where it is inside of its words
pub record HasAnswered (c : Parts) (before frame : FrameView) (answer : Result Verdict Refusal) (loads : List Load) (was rows : List TdLoad)
    (asked after : TdCall) (layout : List Stretch) (within : Type 0) : Type 0 where
  -- a verdict is found just where what is asked can be validated
  pub asked_well : IsOk answer ↔ IsAsked c asked within
  -- the verdict is that of the code's run, and so is the count of steps
  pub validated : IfOk answer (λ v. IsValidated c (entry_asked asked) (args_of asked) (cells_of asked) layout loads
      (record { verdict = v; trace = frame.trace; cells = cells_of after; copies = copied_by c (entry_asked asked) frame }) after.step_count)
  -- the copy buffers behind the entry point's hold nothing
  pub rest : IfOk answer (λ v. IsRestEmpty c (buffers_of c (entry_asked asked)) frame)
  pub told : IfOk answer (λ v. IsTold v frame.trace loads after)
  pub same : SameQuestion asked after
  -- else nothing was loaded, and the call and the room are as before
  pub refused : IfErr answer (λ r. IsCause c asked within r)
  pub unloaded : IfErr answer (λ r. loads ≡ [])
  pub call_stays : IfErr answer (λ r. after ≡ asked)
  pub room_stays : IfErr answer (λ r. frame ≡ before)
  -- the rows begin with these loads, as far as there is room for them, and are as before behind them
  pub noted : AreRows layout loads was rows
