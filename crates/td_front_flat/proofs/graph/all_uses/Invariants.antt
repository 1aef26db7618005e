use Rattle.std.proofs.Common.{◌≡◌, ◌++◌, drop, map}
use Rattle.td_front_flat.specs.Uses.{part_uses}
use Rattle.td_front_flat.proofs.graph.all_uses.Given as goal

abbrev pub invariant-loop-part : goal.invariant-loop-part
invariant-loop-part l = l.all ++ map part_uses (drop l.part-index l.parts) ≡ map part_uses l.parts
