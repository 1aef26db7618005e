use Rattle.std.proofs.Common.{◌≡◌, ◌++◌, drop, map, slice_index}
use Rattle.td_meaning.proofs.parameters.cells_of.Given as goal

-- the places found, and those of what is left
abbrev pub invariant-loop-number : goal.invariant-loop-number
invariant-loop-number l = l.cells.items ++ map (slice_index l.places) (drop l.number-index l.own) ≡ map (slice_index l.places) l.own
