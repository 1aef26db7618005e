use Rattle.std.proofs.Common.{refl}
use Rattle.td_prog_emit.proofs.Texts.{joined, recut}
use Rattle.td_prog_emit.proofs.prelude.push_big.Goals as goal

pub returns : goal.returns
returns c parts = recut (joined (c.in_ok-push.ensures {u = tt}) (joined (c.in_ok-push-2.ensures {u = tt}) (joined (c.in_ok-push-3.ensures {u = tt}) (joined (c.in_ok-push_helper.ensures {u = tt}) (joined (c.in_ok-push-4.ensures {u = tt}) c.push_numeral_in.ensures))))) refl
