use Rattle.std.proofs.Common.{◌≡◌}
use Rattle.td_num.specs.Numbers.{places_from}
use Rattle.td_core.specs.Outcome.{bytes_at}
use Rattle.td_meaning_plain.proofs.copies.bytes_from.Given as goal

abbrev pub invariant-loop-k : goal.invariant-loop-k
invariant-loop-k l = l.bytes ≡ bytes_at l.message (places_from l.place l.k)
