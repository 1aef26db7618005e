-- How many frames a failure has (own rule): an outcome of C has room for 32.
use Rattle.std.specs.Prelude.{◌≡◌, ℕ, ◌<◌, ◌≤◌, List, length}
use Rattle.td_core.specs.declared.module.Entry.{Entry}
use Rattle.td_core.specs.declared.outcome.Reason.{Reason}
use Rattle.td_core.specs.declared.outcome.TraceFrame.{TraceFrame}
use Rattle.td_ir.specs.declared.tables.Parts.{Parts}
use Rattle.td_ir.specs.State.{Failed}
use Rattle.td_ir.specs.Run.{run}
use Rattle.td_ir.specs.WellFormed.{IsCode}
use Rattle.td_verify.specs.Verify.{IsSound}

-- A failure of verified code has at most 32 frames: routines call each other at most 32 deep.
abbrev pub FewFrames : Type 0
FewFrames =
    (c : Parts) (entry : Entry) (args cells message : List ℕ) (reason : Reason) (pos : ℕ) (trace : List TraceFrame) (out : List ℕ) →
    IsCode c → IsSound c → entry.number < length c.entries → (run c entry args cells message).way ≡ Failed reason pos trace out → length trace ≤ 32
