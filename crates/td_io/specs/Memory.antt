-- Sources and sinks in memory, which fail at listed calls (own rule).
use Rattle.std.specs.Prelude.{◌≡◌, ◌⊎◌, ◌↔◌, ℕ, ◌+◌, ◌<◌, min, List, ◌++◌, length, take, drop, Result, IfOk, OnErr, IsErr}
use Rattle.std.specs.List.{Contains}
use Rattle.td_io.specs.declared.faults.Faults.{Faults}
use Rattle.td_io.specs.Faults.{next_count, after_work, after_fault}

-- the bytes that are left, the numbers of the calls that fail (counted from 1), how many calls were made, modulo 2^64, and
-- their faults
pub record Reading : Type 0 where
  pub left : List ℕ
  pub fails : List ℕ
  pub calls : ℕ
  pub faults : Faults

-- the bytes that were written, how many more there is room for, and the same of the calls
pub record Writing : Type 0 where
  pub written : List ℕ
  pub room : ℕ
  pub fails : List ℕ
  pub calls : ℕ
  pub faults : Faults

-- the bytes that were written to a page, and its faults
pub record PageView : Type 0 where
  pub written : List ℕ
  pub faults : Faults

-- the next call is one of those that fail
abbrev pub IsListed : List ℕ → ℕ → Type 0
IsListed fails calls = Contains fails (next_count calls)

-- a call into a buffer fails exactly where it is listed; else it reads as many bytes as are left and fit
pub record ReadsNext {E : Type 0} (old new : Reading) (before after : List ℕ) (result : Result ℕ E) : Type 0 where
  pub failed : IsErr result ↔ IsListed old.fails old.calls
  pub kept : OnErr result ((new.left ≡ old.left) × (after ≡ before) × (new.faults ≡ after_fault old.faults.count))
  pub taken : IfOk result (λ n. (n ≡ min (length before) (length old.left)) × (new.left ≡ drop n old.left) × (after ≡ take n old.left ++ drop n before) × (new.faults ≡ after_work old.faults.count))
  pub calls : new.calls ≡ next_count old.calls
  pub fails : new.fails ≡ old.fails

-- a call with a piece fails exactly where it is listed, or where the piece isn't empty and there is no room; else it
-- writes as many of its bytes as there is room for
pub record WritesNext {E : Type 0} (old new : Writing) (piece : List ℕ) (result : Result ℕ E) : Type 0 where
  pub failed : IsErr result ↔ (IsListed old.fails old.calls ⊎ ((0 < length piece) × (old.room ≡ 0)))
  pub kept : OnErr result ((new.written ≡ old.written) × (new.room ≡ old.room) × (new.faults ≡ after_fault old.faults.count))
  pub taken : IfOk result (λ n. (n ≡ min (length piece) old.room) × (new.written ≡ old.written ++ take n piece) × (new.room + n ≡ old.room) × (new.faults ≡ after_work old.faults.count))
  pub calls : new.calls ≡ next_count old.calls
  pub fails : new.fails ≡ old.fails
