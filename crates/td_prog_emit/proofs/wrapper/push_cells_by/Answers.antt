use Rattle.std.proofs.Common.{refl}
use Rattle.td_prog_emit.proofs.Texts.{joined, recut}
use Rattle.td_prog_emit.proofs.wrapper.push_cells_by.Goals as goal

pub returns : goal.returns
returns c = recut (joined (c.in_ok-push_decimal_in.ensures {u = tt}) (joined (c.in_ok-push_initials.ensures {u = tt}) (joined (c.in_ok-push_zeros.ensures {u = tt}) c.push.ensures))) refl
