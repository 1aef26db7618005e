use Rattle.std.proofs.Common.{◌≡◌}
use Rattle.td_num.specs.Numbers.{places_from}
use Rattle.td_meaning.proofs.parameters.places_below.Given as goal

abbrev pub invariant-loop-place : goal.invariant-loop-place
invariant-loop-place l = l.places.items ≡ places_from 0 l.place
