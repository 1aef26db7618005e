use Rattle.std.proofs.Common.{◌≡◌, ◌-◌}
use Rattle.td_image.specs.Format.{read_all, times}
use Rattle.td_image.specs.Image.{buffer_room}
use Rattle.td_image.proofs.Loop.{with_front}
use Rattle.td_image.proofs.Kept.{Begun}
use Rattle.td_image.proofs.buffers.so_many_rooms.Given as goal

abbrev pub invariant-loop : goal.invariant-loop
invariant-loop l = (with_front l.rows (read_all (λ (s : Unit {0}). buffer_room) (λ s x. s) (l.count - l.counter) tt l.rest) ≡ (times l.count buffer_room).read l.bytes) × Begun (λ (s : Unit {0}). buffer_room) tt tt l.bytes l.rest
