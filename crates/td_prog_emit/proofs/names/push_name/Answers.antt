use Rattle.td_prog_emit.proofs.names.push_name.Goals as goal
use Rattle.std.proofs.Common.{refl}
use Rattle.td_prog_emit.proofs.Texts.{joined, as_one}

pub returns : goal.returns
returns c = as_one (joined (c.in_ok-push.ensures {u = tt}) (joined (c.in_ok-push_bare.ensures {u = tt}) c.push-2.ensures)) refl
