use Rattle.std.proofs.Common.{◌≡◌, ◌-◌}
use Rattle.td_image.specs.Format.{read_all, times}
use Rattle.td_image.specs.Image.{name_place}
use Rattle.td_image.proofs.Loop.{with_front}
use Rattle.td_image.proofs.Kept.{Begun}
use Rattle.td_image.proofs.buffers.buffer_names_of.Given as goal

abbrev pub invariant-loop : goal.invariant-loop
invariant-loop l = (with_front l.rows (read_all (λ (s : Unit {0}). name_place l.names) (λ s x. s) (l.count - l.counter) tt l.rest) ≡ (times l.count (name_place l.names)).read l.bytes) × Begun (λ (s : Unit {0}). name_place l.names) tt tt l.bytes l.rest
