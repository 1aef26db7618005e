-- What a contract knows of a source and of a sink, and what happened between two such states (own rule).
use Rattle.std.specs.Prelude.{◌≡◌, ℕ, List, [], Result, OnOk, OnErr}
use Rattle.std.specs.declared.option.Option.{Option}
use Rattle.std.specs.Io.KnownBytes.{Appends}
use Rattle.td_io.specs.declared.faults.Faults.{Faults}
use Rattle.td_io.specs.Faults.{after_work, after_fault}
use Rattle.td_io.specs.Causes.{StartsWritten}

-- of a source: the bytes that are left to be read, where it tells them, and its faults so far
pub record SourceState : Type 0 where
  pub left : Option (List ℕ)
  pub faults : Faults

-- of a sink: the bytes that were written, where it tells them, and its faults so far
pub record SinkState : Type 0 where
  pub written : Option (List ℕ)
  pub faults : Faults

-- one read of the source failed, and it was the latest: nothing was called after it
abbrev pub ReadFails : SourceState → SourceState → Type 0
ReadFails old new = new.faults ≡ after_fault old.faults.count

-- at least one read of the source was made, and the latest worked
abbrev pub ReadWorks : SourceState → SourceState → Type 0
ReadWorks old new = new.faults ≡ after_work old.faults.count

-- no read of the source failed
abbrev pub NoReadFails : SourceState → SourceState → Type 0
NoReadFails old new = new.faults.count ≡ old.faults.count

-- the text was written to the sink, and no write of it failed. For no text nothing was called
pub record Takes (old new : SinkState) (text : List ℕ) : Type 0 where
  pub written : Appends old.written new.written text
  pub faults : new.faults.count ≡ old.faults.count
  pub nothing : text ≡ [] → new ≡ old

-- a prefix of the text, and not all of it, was written to the sink, and then one write of it failed, the latest: nothing was
-- called after it
pub record WriteFails (old new : SinkState) (text : List ℕ) : Type 0 where
  pub written : StartsWritten old.written new.written text
  pub faults : new.faults ≡ after_fault old.faults.count

-- a text is written to a sink: all of it, or, where the call answers an error, a prefix of it, up to a write that failed
pub record Writes {T E : Type 0} (old new : SinkState) (text : List ℕ) (result : Result T E) : Type 0 where
  pub done : OnOk result (Takes old new text)
  pub failed : OnErr result (WriteFails old new text)
