use Rattle.std.proofs.Common.{◌≡◌, false, take}
use Rattle.std.specs.List.{list_any}
use Rattle.td_image.specs.Versions.{is_newer}
use Rattle.td_image.proofs.version.version_for.Given as goal

abbrev pub invariant-loop-instruction : goal.invariant-loop-instruction
invariant-loop-instruction l = list_any is_newer (take l.instruction-index l.instructions) ≡ false
