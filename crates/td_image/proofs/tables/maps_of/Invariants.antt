use Rattle.std.proofs.Common.{◌≡◌, ◌-◌}
use Rattle.td_image.specs.Format.{read_all, times}
use Rattle.td_image.specs.Image as format
use Rattle.td_image.proofs.Loop.{with_front}
use Rattle.td_image.proofs.Kept.{Begun}
use Rattle.td_image.proofs.tables.maps_of.Given as goal

abbrev pub invariant-loop : goal.invariant-loop
invariant-loop l = (with_front l.rows (read_all (λ (s : Unit {0}). format.map_format l.fn.version) (λ s x. s) (l.count - l.counter) tt l.rest) ≡ (times l.count (format.map_format l.fn.version)).read l.bytes) × Begun (λ (s : Unit {0}). format.map_format l.fn.version) tt tt l.bytes l.rest
