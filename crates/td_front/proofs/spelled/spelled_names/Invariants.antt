use Rattle.std.proofs.Common.{◌≡◌, ◌++◌, drop, map}
use Rattle.td_front_flat.specs.Names.{spelled}
use Rattle.td_front.proofs.spelled.spelled_names.Given as goal

-- what was told, and what is left
abbrev pub invariant-loop-name : goal.invariant-loop-name
invariant-loop-name l = l.told ++ map (spelled l.parts) (drop l.name-index l.names) ≡ map (spelled l.parts) l.names
