use Rattle.std.proofs.Common.{◌+◌, ◌*◌}
use Rattle.td_core.specs.Term.{measure}
use Rattle.td_arith.proofs.walk.+walk.Given as goal

abbrev pub decreases-expression_unsafe : goal.decreases-expression_unsafe
decreases-expression_unsafe l = 4 * measure l.e.now

abbrev pub decreases-unsafe_under : goal.decreases-unsafe_under
decreases-unsafe_under l = 4 * measure l.e.now + 1

abbrev pub decreases-look : goal.decreases-look
decreases-look l = 4 * measure l.e.now + 1

abbrev pub decreases-look_under : goal.decreases-look_under
decreases-look_under l = 4 * measure l.e.now + 2

abbrev pub decreases-pair_unsafe : goal.decreases-pair_unsafe
decreases-pair_unsafe l = 4 * (measure l.a.now + measure l.b.now) + 2

abbrev pub decreases-second_unsafe : goal.decreases-second_unsafe
decreases-second_unsafe l = 4 * (measure l.a.now + measure l.b.now) + 2

abbrev pub decreases-look_operands : goal.decreases-look_operands
decreases-look_operands l = 4 * (measure l.a.now + measure l.b.now) + 2

abbrev pub decreases-look_computed : goal.decreases-look_computed
decreases-look_computed l = 4 * (measure l.a.now + measure l.b.now) + 3

abbrev pub decreases-choice_unsafe : goal.decreases-choice_unsafe
decreases-choice_unsafe l = 4 * (measure l.c.now + measure l.a.now + measure l.b.now) + 2

abbrev pub decreases-look_choice : goal.decreases-look_choice
decreases-look_choice l = 4 * (measure l.c.now + measure l.a.now + measure l.b.now) + 3
