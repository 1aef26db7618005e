use Rattle.std.proofs.Common.{◌≡◌, ℕ, ◌<◌, ◌≤◌, length, false}
use Rattle.td_verify.specs.Marks.{marked}
use Rattle.td_verify.proofs.ways.clear.Given as goal

abbrev pub invariant-loop-at : goal.invariant-loop-at
invariant-loop-at l = record {
  length : length l.marks ≡ length l.fn.marks;
  clear : (k : ℕ) → l.from ≤ k → k < l.at → marked l.marks k ≡ false;
}
