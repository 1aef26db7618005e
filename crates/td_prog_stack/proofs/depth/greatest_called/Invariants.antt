use Rattle.std.proofs.Common.{◌≡◌, ℕ, ◌-◌, ◌^◌, ◌<◌, ◌≤◌, slice_index}
use Rattle.td_verify.specs.Shape.{shapes_of}
use Rattle.td_vm.specs.Need.{greatest}
use Rattle.td_prog_stack.proofs.depth.greatest_called.Given as goal

abbrev pub invariant-loop-at : goal.invariant-loop-at
invariant-loop-at l = record {
  is : l.most ≡ greatest (shapes_of l.parts) (λ m. slice_index l.table m) l.from (l.at - l.from);
  small : (bound : ℕ) → ((m : ℕ) → m < 2 ^ 32 → slice_index l.table m ≤ bound) → l.most ≤ bound;
}
