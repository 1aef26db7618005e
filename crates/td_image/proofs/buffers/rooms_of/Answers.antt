use Rattle.std.proofs.Common.{inr}
use Rattle.td_image.specs.Image.{rooms}
use Rattle.td_image.proofs.Kept.{memory_weaker}
use Rattle.td_image.proofs.buffers.rooms_of.Goals as goal

pub returns-clause-memory : goal.returns-clause-memory
unfolding rooms
returns-clause-memory c = memory_weaker c.so_many_rooms.result _ _ (λ out. inr (c.in_ok-n.n, c.in_ok-n.rest.now, c.in_ok-n.ensures.read, out)) c.so_many_rooms.ensures.memory
