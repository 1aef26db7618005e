-- What holds of counts of faults.
use Rattle.std.specs.Prelude.{◌≡◌, ◌≢◌}
use Rattle.td_io.specs.declared.faults.Faults.{Faults}
use Rattle.td_io.specs.Faults.{after_fault}

-- the count after a fault is never the one before it, and no later fault is taken for no fault: whoever tells of a fault
-- that there was none, or of none that there was one, is found out by the count
abbrev pub FaultsShow : Type 0
FaultsShow = (before now : Faults) → now ≡ after_fault before.count → now.count ≢ before.count
