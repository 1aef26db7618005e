use Rattle.std.proofs.Common.{◌≡◌, ℕ, ◌<◌, ◌≤◌, length, true}
use Rattle.td_verify.specs.Brackets.{shape_at, opened}
use Rattle.td_verify.specs.Ways.{Leads, IsIdle, IdleWay}
use Rattle.td_verify.specs.Marks.{IsEmptyBy, marked}
use Rattle.td_verify.proofs.ways.mark.Given as goal

abbrev pub invariant-loop-at : goal.invariant-loop-at
invariant-loop-at l = record {
  length : length l.marks ≡ length l.shapes;
  begins : marked l.marks l.from ≡ true;
  sound : (q : ℕ) → l.from ≤ q → q ≤ l.to → marked l.marks q ≡ true → IdleWay l.shapes (IsEmptyBy l.empties) l.from q;
  closed : (p q : ℕ) → l.from ≤ p → p < l.at → p < q → q ≤ l.to → Leads p (shape_at l.shapes p) q → IsIdle (IsEmptyBy l.empties) (opened l.shapes p) (shape_at l.shapes p) → marked l.marks p ≡ true → marked l.marks q ≡ true;
}
