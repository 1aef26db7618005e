use Rattle.std.proofs.Common.{refl}
use Rattle.td_prog_emit.proofs.Texts.{joined, recut}
use Rattle.td_prog_emit.proofs.parts_entry.push_parts_call.Goals as goal

pub returns : goal.returns
returns c prefix = recut (joined (c.in_ok-push.ensures {u = tt}) (joined (c.in_ok-push_routine_name.ensures {u = tt}) (joined (c.in_ok-push-2.ensures {u = tt}) (joined (c.in_ok-push_given_params.ensures {u = tt}) (joined (c.in_ok-push_given_cells.ensures {u = tt}) (joined (c.in_ok-push_given_pairs.ensures {u = tt}) (joined (c.in_ok-push_given_buffers.ensures {u = tt}) c.push-3.ensures))))))) refl
