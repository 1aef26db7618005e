use Rattle.std.proofs.Common.{◌+◌, ◌*◌}
use Rattle.td_core.specs.Term.{length_of}
use Rattle.td_arith.proofs.actions.+steps.Given as goal

abbrev pub decreases-steps_unsafe : goal.decreases-steps_unsafe
decreases-steps_unsafe l = 2 * length_of l.action.now

abbrev pub decreases-branch_unsafe : goal.decreases-branch_unsafe
decreases-branch_unsafe l = 2 * length_of l.branch.now + 1
