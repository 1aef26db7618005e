use Rattle.std.proofs.Common.{refl}
use Rattle.td_prog_emit.proofs.Texts.{joined, recut}
use Rattle.td_prog_emit.proofs.prelude.push_copy_helper.Goals as goal

pub returns : goal.returns
returns c parts = recut (joined (c.in_ok-push.ensures {u = tt}) (joined (c.in_ok-push_pointers.ensures {u = tt}) (joined (c.in_ok-push-2.ensures {u = tt}) (joined (c.in_ok-push_numeral_in.ensures {u = tt}) (joined (c.in_ok-push_numeral_in-2.ensures {u = tt}) (joined (c.in_ok-push_numeral_in-3.ensures {u = tt}) (joined (c.in_ok-push_whole.ensures {u = tt}) (joined (c.in_ok-push_single.ensures {u = tt}) c.push-3.ensures)))))))) refl
