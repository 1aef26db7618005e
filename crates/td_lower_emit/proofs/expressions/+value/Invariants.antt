use Rattle.std.proofs.Common.{◌+◌, ◌*◌}
use Rattle.td_core.specs.Term.{measure}
use Rattle.td_lower_emit.proofs.expressions.+value.Given as goal

abbrev pub decreases-write_both : goal.decreases-write_both
decreases-write_both l = 3 * (measure l.a.now + measure l.b.now) + 1

abbrev pub decreases-write_choice : goal.decreases-write_choice
decreases-write_choice l = 3 * (measure l.c.now + (measure l.a.now + measure l.b.now)) + 1

abbrev pub decreases-write_pair : goal.decreases-write_pair
decreases-write_pair l = 3 * (measure l.a.now + measure l.b.now) + 1

abbrev pub decreases-write_computed : goal.decreases-write_computed
decreases-write_computed l = 3 * (measure l.a.now + measure l.b.now) + 2

abbrev pub decreases-write_compared : goal.decreases-write_compared
decreases-write_compared l = 3 * (measure l.a.now + measure l.b.now) + 2

abbrev pub decreases-write_okay : goal.decreases-write_okay
decreases-write_okay l = 3 * (measure l.size.now + (measure l.offset.now + measure l.access.now)) + 2

abbrev pub decreases-write_value : goal.decreases-write_value
decreases-write_value l = 3 * measure l.e.now
