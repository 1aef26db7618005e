use Rattle.std.proofs.Common.{◌≡◌, take, map}
use Rattle.td_verify.specs.Shape.{shape}
use Rattle.td_verify.proofs.verify.shapes.Given as goal

abbrev pub invariant-loop-at : goal.invariant-loop-at
invariant-loop-at l = l.shapes.items ≡ map shape (take l.at l.instructions)
