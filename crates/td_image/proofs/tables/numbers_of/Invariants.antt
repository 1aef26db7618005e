use Rattle.std.proofs.Common.{◌≡◌, ◌-◌}
use Rattle.std.specs.Int.{w32}
use Rattle.td_image.specs.Format.{read_all, times, number}
use Rattle.td_image.proofs.Loop.{with_front}
use Rattle.td_image.proofs.Kept.{Begun}
use Rattle.td_image.proofs.tables.numbers_of.Given as goal

abbrev pub invariant-loop : goal.invariant-loop
invariant-loop l = (with_front l.rows (read_all (λ (s : Unit {0}). number w32) (λ s x. s) (l.count - l.counter) tt l.rest) ≡ (times l.count (number w32)).read l.bytes) × Begun (λ (s : Unit {0}). number w32) tt tt l.bytes l.rest
