use Rattle.std.proofs.Common.{◌≡◌, ◌-◌}
use Rattle.td_image.specs.Format.{read_all}
use Rattle.td_image.specs.Image as format
use Rattle.td_image.proofs.Loop.{with_front}
use Rattle.td_image.proofs.Kept.{Begun}
use Rattle.td_image.proofs.routines.routines_of.Given as goal

abbrev pub invariant-loop : goal.invariant-loop
invariant-loop l = (with_front l.rows (read_all (format.routine l.fn.version l.names) format.after_routine (l.count - l.counter) l.room l.rest) ≡ (format.routines l.fn.version l.names l.count l.instructions).read l.bytes) × Begun (format.routine l.fn.version l.names) (record { left = l.instructions; more = l.count }) l.room l.bytes l.rest
