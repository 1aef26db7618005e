use Rattle.std.proofs.Common.{◌≡◌, map, take}
use Rattle.td_limits.specs.Excesses.{greatest}
use Rattle.td_limits.specs.Depths.{field_depth}
use Rattle.td_limits.proofs.depths.fields_depth.Given as goal

abbrev pub invariant-loop-field : goal.invariant-loop-field
invariant-loop-field l = l.depth ≡ greatest (map (field_depth l.known) (take l.field-index l.fields))
