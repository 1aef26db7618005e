use Rattle.std.proofs.Common.{◌≡◌, take}
use Rattle.td_c.specs.Parts.{stretches_told}
use Rattle.td_c.proofs.parts.stretches.Given as goal

abbrev pub invariant-loop-part : goal.invariant-loop-part
invariant-loop-part l = l.list ≡ stretches_told (take l.part-index l.parts)
