use Rattle.std.proofs.Common.{◌≡◌, ℕ, ◌+◌, ◌*◌, ◌<◌, ◌≤◌, length, slice_index}
use Rattle.td_vm.specs.Need.{most as most_of, room_below}
use Rattle.td_vm.specs.Arm.{own_of}
use Rattle.td_vm.proofs.arm.need_of.Given as goal

abbrev pub invariant-loop-n : goal.invariant-loop-n
invariant-loop-n l = record {
  count : length l.needs.items ≡ l.n;
  each : (m : ℕ) → m < l.n → slice_index l.needs.items m ≡ own_of l.kind l.parts m + room_below (own_of l.kind l.parts) l.parts m;
  small : (m : ℕ) → m < l.n → slice_index l.needs.items m ≤ 196605 * (m + 1);
  most : l.most ≡ most_of (own_of l.kind l.parts) l.parts l.n;
}
