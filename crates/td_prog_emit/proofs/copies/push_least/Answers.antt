use Rattle.std.proofs.Common.{refl}
use Rattle.td_prog_emit.proofs.Texts.{joined, recut}
use Rattle.td_prog_emit.proofs.copies.push_least.Goals as goal

pub returns : goal.returns
returns c = recut (joined (c.in_ok-push_begun.ensures {u = tt}) (joined (c.in_ok-push_numeral_in.ensures {u = tt}) (joined (c.in_ok-push_begun-2.ensures {u = tt}) (joined (c.in_ok-push_register_in.ensures {u = tt}) (joined (c.in_ok-push_begun-3.ensures {u = tt}) (joined (c.in_ok-push_register_in-2.ensures {u = tt}) c.push_close.ensures)))))) refl
