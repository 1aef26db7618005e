use Rattle.std.proofs.Common.{◌≡◌, ℕ, ◌<◌, ◌≤◌, true}
use Rattle.td_verify.specs.declared.shape.Shape.TheVariants.{Return}
use Rattle.td_verify.specs.Brackets.{shape_at}
use Rattle.td_verify.specs.Marks.{marked}
use Rattle.td_verify.proofs.routine.any_return.Given as goal

abbrev pub invariant-loop-q : goal.invariant-loop-q
invariant-loop-q l = (k : ℕ) → l.from ≤ k → k < l.q → shape_at l.shapes k ≡ Return → marked l.marks k ≡ true → ⊥
