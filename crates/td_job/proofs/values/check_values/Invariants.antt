use Rattle.std.proofs.Common.{◌≡◌, drop}
use Rattle.serde_json.specs.View.{items_view}
use Rattle.td_job.specs.Slots.{slot_bounds}
use Rattle.td_job.specs.Values.{each_value_faults}
use Rattle.td_job.proofs.values.check_values.Given as goal

-- what is left of the elements and of the slots, from here, decides
abbrev pub invariant-loop-index : goal.invariant-loop-index
invariant-loop-index l =
    each_value_faults l.key 0 (slot_bounds l.slots) (items_view l.values)
    ≡ each_value_faults l.key l.index (drop l.index (slot_bounds l.slots)) (items_view (drop l.index l.values))
