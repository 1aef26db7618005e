use Rattle.std.proofs.Common.{◌+◌, ◌*◌}
use Rattle.td_core.specs.Term.{measure}
use Rattle.td_arith.proofs.learning.+learning.Given as goal

abbrev pub decreases-learn_condition : goal.decreases-learn_condition
decreases-learn_condition l = 2 * measure l.condition.now

abbrev pub decreases-learn_both : goal.decreases-learn_both
decreases-learn_both l = 2 * (measure l.a.now + measure l.b.now) + 1
