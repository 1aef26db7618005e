use Rattle.std.proofs.Common.{◌+◌, ◌*◌}
use Rattle.td_core.specs.Term.{length_of}
use Rattle.td_lower_emit.proofs.actions.+statements.Given as goal

abbrev pub decreases-write_branches : goal.decreases-write_branches
decreases-write_branches l = 2 * (length_of l.one.now + length_of l.other.now) + 1

abbrev pub decreases-write_statements : goal.decreases-write_statements
decreases-write_statements l = 2 * length_of l.action.now
