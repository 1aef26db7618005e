use Rattle.td_descr.proofs.Shaped.{shape_has_no_buffers}
use Rattle.td_descr.proofs.laws.shape_has_no_buffers.Goals as goal

pub returns : goal.returns
returns c = shape_has_no_buffers
