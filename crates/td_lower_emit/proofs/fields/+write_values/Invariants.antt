use Rattle.std.proofs.Common.{length}
use Rattle.td_lower_emit.proofs.fields.+write_values.Given as goal

abbrev pub decreases-write_values : goal.decreases-write_values
decreases-write_values l = length l.args.now
