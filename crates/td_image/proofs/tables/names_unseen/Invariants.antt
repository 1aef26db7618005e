use Rattle.std.proofs.Common.{◌≡◌, ◌-◌, []}
use Rattle.td_names.specs.Names.{with_name}
use Rattle.td_image.specs.Format.{read_all}
use Rattle.td_image.specs.Image as format
use Rattle.td_image.proofs.Loop.{with_front}
use Rattle.td_image.proofs.Kept.{Begun}
use Rattle.td_image.proofs.tables.names_unseen.Given as goal

abbrev pub invariant-loop : goal.invariant-loop
invariant-loop l = (with_front l.rows (read_all (format.name l.fn.version) with_name (l.count - l.counter) l.seen l.rest) ≡ (format.names l.fn.version l.count).read l.bytes) × Begun (format.name l.fn.version) [] l.seen l.bytes l.rest
