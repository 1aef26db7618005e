use Rattle.std.proofs.Common.{◌+◌, ◌*◌}
use Rattle.td_core.specs.Term.{measure}
use Rattle.td_core.proofs.+copy_expression.Given as goal

abbrev pub decreases-expressions::CoreExpr::copy : goal.decreases-expressions::CoreExpr::copy
decreases-expressions::CoreExpr::copy l = 4 * measure l.self.now

abbrev pub decreases-copying::copy_operand : goal.decreases-copying::copy_operand
decreases-copying::copy_operand l = 4 * measure l.e.now + 1

abbrev pub decreases-copying::copy_two : goal.decreases-copying::copy_two
decreases-copying::copy_two l = 4 * (measure l.a.now + measure l.b.now) + 2

abbrev pub decreases-copying::copy_three : goal.decreases-copying::copy_three
decreases-copying::copy_three l = 4 * (measure l.a.now + (measure l.b.now + measure l.c.now)) + 3
