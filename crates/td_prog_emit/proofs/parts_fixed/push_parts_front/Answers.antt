use Rattle.std.proofs.Common.{refl}
use Rattle.td_prog_emit.proofs.Texts.{joined, recut}
use Rattle.td_prog_emit.proofs.parts_fixed.push_parts_front.Goals as goal

pub returns : goal.returns
returns c = recut (joined (c.in_ok-push.ensures {u = tt}) (joined (c.in_ok-push-2.ensures {u = tt}) (joined (c.in_ok-push-3.ensures {u = tt}) (joined (c.in_ok-push_machines.ensures {u = tt}) (joined (c.in_ok-push_primitives.ensures {u = tt}) (joined (c.in_ok-push_warnings.ensures {u = tt}) (joined (c.in_ok-push_failing.ensures {u = tt}) (joined (c.in_ok-push_table.ensures {u = tt}) c.push_byte_helper.ensures)))))))) refl
