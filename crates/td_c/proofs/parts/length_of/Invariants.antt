use Rattle.std.proofs.Common.{◌≡◌, ◌≤◌, ◌*◌, take}
use Rattle.td_stream.specs.Layouts.{length_in}
use Rattle.td_c.specs.Parts.{stretches_told}
use Rattle.td_c.proofs.parts.length_of.Given as goal

abbrev pub invariant-loop-part : goal.invariant-loop-part
invariant-loop-part l = record {
  sum : l.sum ≡ length_in (stretches_told (take l.part-index l.parts));
  bound : l.sum ≤ 4294967296 * l.part-index;
}
