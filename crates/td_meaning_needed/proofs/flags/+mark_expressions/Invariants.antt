use Rattle.std.proofs.Common.{length}
use Rattle.td_meaning_needed.proofs.flags.+mark_expressions.Given as goal

abbrev pub decreases-mark_expressions : goal.decreases-mark_expressions
decreases-mark_expressions l = length l.exprs.now
