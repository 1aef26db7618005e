use Rattle.td_prog_emit.proofs.calls.push_numbered.Goals as goal
use Rattle.std.proofs.Common.{refl}
use Rattle.td_prog_emit.proofs.Texts.{joined, recut}

pub returns : goal.returns
returns c = recut (joined (c.in_ok-push.ensures {u = tt}) (joined (c.in_ok-push_decimal.ensures {u = tt}) (joined (c.in_ok-push-2.ensures {u = tt}) c.push_name_of.ensures))) refl
