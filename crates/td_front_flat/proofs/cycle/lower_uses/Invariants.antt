use Rattle.std.proofs.Common.{◌≤◌, ◌-◌, length, take}
use Rattle.td_front_flat.specs.Lower.{AreLowerIn}
use Rattle.td_front_flat.proofs.cycle.lower_uses.Given as goal

abbrev pub invariant-loop-at : goal.invariant-loop-at
invariant-loop-at l = record {
  within : l.at ≤ length l.uses;
  lower : AreLowerIn l.names l.heights l.part (take l.at l.uses);
}

abbrev pub decreases-loop-at : goal.decreases-loop-at
decreases-loop-at l = length l.uses - l.at
