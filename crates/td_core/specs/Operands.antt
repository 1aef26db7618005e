-- Each operand is smaller than its expression (own rule).
use Rattle.std.specs.Prelude.{◌≤◌}
use Rattle.std.proofs.Common.{arith}
use Rattle.td_core.specs.declared.expressions.CoreExpr.TheInside.{Inside}
use Rattle.td_core.specs.declared.expressions.CoreExpr.TheDeep.{deep-CoreExpr, deep-Node}
use Rattle.td_core.specs.declared.expressions.Node.{Node}
use Rattle.td_core.specs.declared.expressions.Node.TheVariants.{Number, Name, Complement, Not, Compute, Compare, Both, Either, Choice, RangeOkay}
use Rattle.td_core.specs.Term.{measure}
use Rattle.td_core.specs.Shown.{shown}

operands_are_smaller : (n : Node) → deep-Node n ≤ measure (shown n)
operands_are_smaller (Number n w) = omega arith
operands_are_smaller (Name i w most) = omega arith
operands_are_smaller (Complement a) = omega arith
operands_are_smaller (Not a) = omega arith
operands_are_smaller (Compute op s a b) = omega arith
operands_are_smaller (Compare r a b) = omega arith
operands_are_smaller (Both a b) = omega arith
operands_are_smaller (Either a b) = omega arith
operands_are_smaller (Choice c a b) = omega arith
operands_are_smaller (RangeOkay s o a) = omega arith

pub parts_are_smaller : (e : Inside) → deep-CoreExpr e ≤ measure (shown e.node)
parts_are_smaller e = omega (arith, operands_are_smaller e.node)
