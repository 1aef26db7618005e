use Rattle.std.proofs.Common.{ℕ, ◌<◌, ◌≤◌, ◌-◌, length}
use Rattle.td_front_flat.specs.Order.{NoneCyclicIn}
use Rattle.td_front_flat.specs.Firsts.{listed_at}
use Rattle.td_front_flat.proofs.cycle.first_by_heights.Given as goal

abbrev pub invariant-loop-part : goal.invariant-loop-part
invariant-loop-part l = record {
  within : l.part ≤ length l.all;
  before : (i : ℕ) → i < l.part → NoneCyclicIn l.names l.graph i (listed_at l.all i);
}

abbrev pub decreases-loop-part : goal.decreases-loop-part
decreases-loop-part l = length l.all - l.part
