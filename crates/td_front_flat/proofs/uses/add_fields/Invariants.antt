use Rattle.std.proofs.Common.{◌≡◌, ◌++◌, drop, flat_map}
use Rattle.td_front_flat.specs.Uses.{field_uses}
use Rattle.td_front_flat.proofs.uses.add_fields.Given as goal

abbrev pub invariant-loop-field : goal.invariant-loop-field
invariant-loop-field l = l.uses ++ flat_map field_uses (drop l.field-index l.fields) ≡ l.fn.uses ++ flat_map field_uses l.fields
