use Rattle.std.proofs.Common.{refl}
use Rattle.td_prog_emit.proofs.Texts.{joined, recut}
use Rattle.td_prog_emit.proofs.copies.push_copy_by.Goals as goal

pub returns : goal.returns
returns c = recut (joined (c.in_ok-push_room.ensures {u = tt}) (joined (c.in_ok-push_least.ensures {u = tt}) (joined (c.in_ok-push_held.ensures {u = tt}) (joined (c.in_ok-push_copied.ensures {u = tt}) c.push_taken.ensures)))) refl
