use Rattle.std.proofs.Common.{◌≡◌, ◌-◌, Some, None}
use Rattle.td_image.specs.Format.{read_all}
use Rattle.td_image.specs.Image as format
use Rattle.td_image.proofs.Loop.{with_front}
use Rattle.td_image.proofs.Kept.{Begun}
use Rattle.td_image.proofs.tables.elements_of.Given as goal

abbrev pub invariant-loop : goal.invariant-loop
invariant-loop l = (with_front l.rows (read_all format.element (λ last x. Some x) (l.count - l.counter) l.last l.rest) ≡ (format.elements l.count).read l.bytes) × Begun format.element None l.last l.bytes l.rest
