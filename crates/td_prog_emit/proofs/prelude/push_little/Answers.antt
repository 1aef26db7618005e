use Rattle.std.proofs.Common.{refl}
use Rattle.td_prog_emit.proofs.Texts.{joined, recut}
use Rattle.td_prog_emit.proofs.prelude.push_little.Goals as goal

pub returns : goal.returns
returns c parts = recut (joined (c.in_ok-push.ensures {u = tt}) (joined (c.in_ok-push-2.ensures {u = tt}) (joined (c.in_ok-push-3.ensures {u = tt}) (joined (c.in_ok-push_found.ensures {u = tt}) (joined (c.in_ok-push-4.ensures {u = tt}) (joined (c.in_ok-push_numeral_in.ensures {u = tt}) (joined (c.in_ok-push_numeral_in-2.ensures {u = tt}) (joined (c.in_ok-push_numeral_in-3.ensures {u = tt}) (joined (c.in_ok-push_numeral_in-4.ensures {u = tt}) (joined (c.in_ok-push-5.ensures {u = tt}) (joined (c.in_ok-push_mask.ensures {u = tt}) c.push-6.ensures))))))))))) refl
