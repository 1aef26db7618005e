use Rattle.td_expr.proofs.Applying.{shifted_out}
use Rattle.td_expr.proofs.value.shift_left.Goals as goal

pub returns-else-amount-lt64 : goal.returns-else-amount-lt64
returns-else-amount-lt64 c = shifted_out c.args.scalar c.args.value c.args.amount c.if-amount-lt64.false
