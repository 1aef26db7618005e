use Rattle.std.proofs.Common.{◌≡◌, ◌++◌}
use Rattle.td_num.specs.Numbers.{places_from}
use Rattle.td_elab_types.proofs.arguments.add_places.Given as goal

-- so many of the places are there
abbrev pub invariant-loop-offset : goal.invariant-loop-offset
invariant-loop-offset l = l.cells ≡ l.fn.cells ++ places_from l.first l.offset
