use Rattle.std.proofs.Common.{◌≡◌, ◌≤◌, ◌+◌, ◌++◌, length, take, reverse, vec_capacity}
use Rattle.td_stream.specs.Copies.{held_by}
use Rattle.td_vm.proofs.outcome.held_by_first.Given as goal

-- what was moved, and behind it what the buffers hold that are left, the last of which comes next
abbrev pub invariant-moving : goal.invariant-moving
invariant-moving l = record {
  held : l.list.items ++ held_by (reverse l.rest.items) ≡ held_by (take l.count l.fn.buffers.items);
  room : length l.list.items + length l.rest.items ≤ vec_capacity l.list;
}

abbrev pub decreases-moving : goal.decreases-moving
decreases-moving l = length l.rest.items
