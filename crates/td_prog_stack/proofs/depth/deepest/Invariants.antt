use Rattle.std.proofs.Common.{◌≡◌, ℕ, ◌+◌, ◌*◌, ◌^◌, ◌<◌, ◌≤◌, length, slice_index}
use Rattle.td_ir.specs.Tables.{first_of}
use Rattle.td_vm.specs.Need.{most as most_of, room_below}
use Rattle.td_prog_stack.specs.Counted.{counted_of}
use Rattle.td_prog_stack.proofs.depth.deepest.Given as goal

abbrev pub invariant-loop-n : goal.invariant-loop-n
invariant-loop-n l = record {
  from : l.from ≡ first_of l.parts l.n;
  count : length l.table.items ≡ l.n;
  each : (m : ℕ) → m < l.n → slice_index l.table.items m ≡ counted_of l.counted l.parts m + room_below (counted_of l.counted l.parts) l.parts m;
  small : (m : ℕ) → m < l.n → slice_index l.table.items m ≤ 196605 * (m + 1);
  most : l.most ≡ most_of (counted_of l.counted l.parts) l.parts l.n;
  low : l.most ≤ 2 ^ 50;
}
