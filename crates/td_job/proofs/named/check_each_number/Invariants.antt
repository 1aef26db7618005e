use Rattle.std.proofs.Common.{◌≡◌, drop}
use Rattle.td_job.specs.Slots.{slot_bounds}
use Rattle.td_job.specs.Named.{each_number_faults}
use Rattle.td_job.proofs.named.check_each_number.Given as goal

-- what is left of the numbers and of the slots, from here, decides
abbrev pub invariant-loop-index : goal.invariant-loop-index
invariant-loop-index l =
    each_number_faults l.key 0 (slot_bounds l.slots) l.numbers
    ≡ each_number_faults l.key l.index (drop l.index (slot_bounds l.slots)) (drop l.index l.numbers)
