use Rattle.std.proofs.Common.{◌≡◌, ◌++◌, drop, map}
use Rattle.td_front_flat.specs.Definitions.{flat_slot}
use Rattle.td_front_flat.proofs.definitions.flat_slots.Given as goal

abbrev pub invariant-loop-slot : goal.invariant-loop-slot
invariant-loop-slot l = l.flat ++ map (flat_slot l.own) (drop l.slot-index l.slots) ≡ map (flat_slot l.own) l.slots
