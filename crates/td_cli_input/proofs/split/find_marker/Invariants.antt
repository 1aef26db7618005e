use Rattle.std.proofs.Common.{ℕ, ◌<◌}
use Rattle.td_cli_input.specs.Marker.{IsMarker}
use Rattle.td_cli_input.proofs.split.find_marker.Given as goal

abbrev pub invariant-loop-n : goal.invariant-loop-n
invariant-loop-n l = (k : ℕ) → k < l.n → IsMarker l.input k → ⊥
