use Rattle.std.proofs.Common.{◌≤◌, ◌-◌, length, take}
use Rattle.td_front_flat.specs.Order.{NoneCyclicIn}
use Rattle.td_front_flat.proofs.cycle.first_use.Given as goal

abbrev pub invariant-loop-at : goal.invariant-loop-at
invariant-loop-at l = record {
  within : l.at ≤ length l.uses;
  before : NoneCyclicIn l.names l.graph l.part (take l.at l.uses);
}

abbrev pub decreases-loop-at : goal.decreases-loop-at
decreases-loop-at l = length l.uses - l.at
