use Rattle.std.proofs.Common.{refl}
use Rattle.td_prog_emit.proofs.Texts.{joined, recut}
use Rattle.td_prog_emit.proofs.prelude.push_prelude.Goals as goal

pub returns : goal.returns
returns c parts = recut (joined (c.in_ok-push_word.ensures {u = tt} parts) (joined (c.in_ok-push_little.ensures {u = tt} parts) (joined (c.in_ok-push_little-2.ensures {u = tt} parts) (joined (c.in_ok-push_little-3.ensures {u = tt} parts) (joined (c.in_ok-push_little-4.ensures {u = tt} parts) (joined (c.in_ok-push_big.ensures {u = tt} parts) (joined (c.in_ok-push_big-2.ensures {u = tt} parts) (joined (c.in_ok-push_big-3.ensures {u = tt} parts) (c.push_copy_helper.ensures parts))))))))) refl
