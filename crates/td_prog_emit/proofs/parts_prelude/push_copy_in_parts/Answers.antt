use Rattle.std.proofs.Common.{refl}
use Rattle.td_prog_emit.proofs.Texts.{joined, recut}
use Rattle.td_prog_emit.proofs.parts_prelude.push_copy_in_parts.Goals as goal

pub returns : goal.returns
returns c parts = recut (joined (c.in_ok-push.ensures {u = tt}) (joined (c.in_ok-push_pointers.ensures {u = tt}) (joined (c.in_ok-push-2.ensures {u = tt}) (joined (c.in_ok-push_decimal_in.ensures {u = tt}) (joined (c.in_ok-push_numeral_in.ensures {u = tt}) (joined (c.in_ok-push_numeral_in-2.ensures {u = tt}) c.push-3.ensures)))))) refl
