use Rattle.std.proofs.Common.{ℕ, ◌<◌, ◌≤◌, ◌↔◌, slice_index}
use Rattle.td_verify.proofs.operands.top_of.Given as goal

abbrev pub invariant-loop-j : goal.invariant-loop-j
invariant-loop-j l = (n : ℕ) → ((i : ℕ) → i < l.j → slice_index l.map i < n) ↔ (l.top ≤ n)
