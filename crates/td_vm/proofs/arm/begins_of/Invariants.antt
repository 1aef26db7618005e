use Rattle.std.proofs.Common.{◌≡◌, ℕ, ◌+◌, ◌≤◌, length, slice_index, vec_capacity}
use Rattle.td_ir.specs.Tables.{first_of}
use Rattle.td_vm.proofs.arm.begins_of.Given as goal

abbrev pub invariant-loop-n : goal.invariant-loop-n
invariant-loop-n l = record {
  from : l.from ≡ first_of l.parts l.n;
  count : length l.begins.items ≡ l.n + 1;
  each : (m : ℕ) → m ≤ l.n → slice_index l.begins.items m ≡ first_of l.parts m;
  memory : vec_capacity l.begins ≡ length l.parts.routines + 1;
}
