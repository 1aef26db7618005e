-- Counts of faults of 64 bits (own rule).
use Rattle.std.specs.Prelude.{◌≡◌, ℕ, ◌+◌, ◌%◌, ◌^◌, true, false, Result, OnOk, OnErr}
use Rattle.td_io.specs.declared.faults.Faults.{Faults}

-- the number that follows in a count of 64 bits: it wraps round, so it always differs from the one before
abbrev pub next_count : ℕ → ℕ
next_count n = (n + 1) % 2 ^ 64

-- no call was made yet
abbrev pub none_yet : Faults
none_yet = record { count = 0; latest = false }

-- the latest call worked, and so many failed before it
abbrev pub after_work : ℕ → Faults
after_work count = record { count = count; latest = false }

-- the latest call failed, and so many failed before it
abbrev pub after_fault : ℕ → Faults
after_fault count = record { count = next_count count; latest = true }

-- a call leaves the count where it works, and is the next fault where it fails
pub record HasCause {T E : Type 0} (before now : Faults) (result : Result T E) : Type 0 where
  pub worked : OnOk result (now ≡ after_work before.count)
  pub failed : OnErr result (now ≡ after_fault before.count)
