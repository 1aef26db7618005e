use Rattle.td_prog_emit.proofs.pieces.push_wide.Goals as goal
use Rattle.std.proofs.Common.{refl}
use Rattle.td_prog_emit.proofs.Texts.{joined, as_one}

pub returns : goal.returns
returns c = as_one (joined (c.in_ok-push.ensures {u = tt}) (joined (c.in_ok-push_decimal.ensures {u = tt}) c.push-2.ensures)) refl
