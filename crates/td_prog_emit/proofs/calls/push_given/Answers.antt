use Rattle.std.proofs.Common.{refl}
use Rattle.td_prog_emit.proofs.Texts.{joined, recut}
use Rattle.td_prog_emit.proofs.calls.push_given.Goals as goal

pub returns : goal.returns
returns c = recut (joined (c.in_ok-push_registers.ensures {u = tt}) (joined (c.in_ok-push_cells.ensures {u = tt}) (joined (c.in_ok-push_pairs.ensures {u = tt}) c.push_buffers.ensures))) refl
