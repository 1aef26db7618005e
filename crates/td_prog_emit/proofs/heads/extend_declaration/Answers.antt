use Rattle.td_prog_emit.proofs.heads.extend_declaration.Goals as goal
use Rattle.td_prog_emit.proofs.Texts.{joined}

pub returns : goal.returns
returns c = (joined (c.in_ok-push.ensures {u = tt}) (joined (c.in_ok-push_decimal.ensures {u = tt}) c.push-2.ensures)).on_ok
