use Rattle.std.proofs.Common.{refl}
use Rattle.td_prog_emit.proofs.Texts.{joined, recut}
use Rattle.td_prog_emit.proofs.structs.push_member_line.Goals as goal

pub returns : goal.returns
returns c = recut (joined (c.in_ok-push.ensures {u = tt}) (joined (c.in_ok-push_cell_type.ensures {u = tt}) (joined (c.in_ok-push-2.ensures {u = tt}) (joined (c.in_ok-push_nth.ensures {u = tt}) c.push-3.ensures)))) refl
