use Rattle.std.proofs.Common.{◌≡◌, length, vec_capacity}
use Rattle.td_vm.proofs.validate.filled.Given as goal

-- an element was put at each turn, and the memory stayed
abbrev pub invariant-loop : goal.invariant-loop
invariant-loop g l = record {
  count : length l.list.items ≡ l.counter;
  memory : vec_capacity l.list ≡ l.count;
}
