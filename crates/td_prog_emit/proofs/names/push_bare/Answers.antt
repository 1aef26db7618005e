use Rattle.td_prog_emit.proofs.names.push_bare.Goals as goal
use Rattle.td_prog_emit.proofs.Texts.{joined, as_one}

pub returns : goal.returns
returns c = as_one (joined (c.in_ok-push.ensures {u = tt}) (joined (c.in_ok-push-2.ensures {u = tt}) c.push-3.ensures)) c.name_at-pieces.ensures
