use Rattle.std.proofs.Common.{refl}
use Rattle.td_prog_emit.proofs.Texts.{joined, recut}
use Rattle.td_prog_emit.proofs.parts_prelude.push_parts_prelude.Goals as goal

pub returns : goal.returns
returns c parts = recut (joined (c.in_ok-push_little_1.ensures {u = tt} parts) (joined (c.in_ok-push_little_2.ensures {u = tt} parts) (joined (c.in_ok-push_little_4.ensures {u = tt} parts) (joined (c.in_ok-push_little_8.ensures {u = tt} parts) (joined (c.in_ok-push_big.ensures {u = tt} parts) (joined (c.in_ok-push_big-2.ensures {u = tt} parts) (joined (c.in_ok-push_big-3.ensures {u = tt} parts) (c.push_copy_in_parts.ensures parts)))))))) refl
