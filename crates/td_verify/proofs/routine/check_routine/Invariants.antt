use Rattle.std.proofs.Common.{◌≡◌, ℕ, ◌-◌, ◌^◌, ◌<◌, ◌≤◌, length}
use Rattle.td_verify.specs.Brackets.{opened}
use Rattle.td_verify.specs.Flat.{IsFlat}
use Rattle.td_verify.specs.Rules.{deepest, weigh}
use Rattle.td_verify.specs.Verify.{KeepsAll}
use Rattle.td_verify.specs.Findings.{KeepsNow}
use Rattle.td_verify.proofs.routine.check_routine.Given as goal

abbrev pub invariant-loop-at : goal.invariant-loop-at
invariant-loop-at l = record {
  size : length l.marks ≡ length l.known.shapes.now;
  flat : IsFlat (opened l.known.shapes.now l.at);
  weight : l.spent ≡ weigh l.known.shapes.now l.known.weights.now l.from (l.at - l.from);
  light : l.spent ≤ 2 ^ 40;
  depth : l.deepest ≡ deepest l.known.shapes.now l.known.depths.now l.from (l.at - l.from);
  shallow : l.deepest ≤ 31;
  sound : (p : ℕ) → l.from ≤ p → p < l.at → KeepsAll (KeepsNow l.known l.n l.from l.end p);
}
