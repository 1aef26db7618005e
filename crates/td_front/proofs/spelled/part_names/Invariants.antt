use Rattle.std.proofs.Common.{◌≡◌, ◌++◌, drop}
use Rattle.td_front_flat.specs.Order.{names_of}
use Rattle.td_front.proofs.spelled.part_names.Given as goal

-- what was copied, and what is left
abbrev pub invariant-loop-part : goal.invariant-loop-part
invariant-loop-part l = l.names ++ names_of (drop l.part-index l.parts) ≡ names_of l.parts
