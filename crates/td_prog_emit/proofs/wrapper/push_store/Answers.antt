use Rattle.std.proofs.Common.{refl}
use Rattle.td_prog_emit.proofs.Texts.{joined, recut}
use Rattle.td_prog_emit.proofs.wrapper.push_store.Goals as goal

pub returns : goal.returns
returns c = recut (joined (c.in_ok-push.ensures {u = tt}) (joined (c.in_ok-push_place.ensures {u = tt}) (joined (c.in_ok-push-2.ensures {u = tt}) (joined (c.in_ok-push_cell_type.ensures {u = tt}) c.push_decimal_in.ensures)))) refl
