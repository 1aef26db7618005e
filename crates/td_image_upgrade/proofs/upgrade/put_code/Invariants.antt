use Rattle.std.proofs.Common.{◌≡◌, ◌++◌, map, take}
use Rattle.td_image_upgrade.specs.Upgrade.{renumbered, new_number}
use Rattle.td_image_upgrade.proofs.upgrade.put_code.Given as goal

abbrev pub invariant-loop-instruction : goal.invariant-loop-instruction
invariant-loop-instruction l = l.instructions ≡ l.fn.instructions ++ map (renumbered (new_number l.old l.base l.used)) (take l.instruction-index l.code)
