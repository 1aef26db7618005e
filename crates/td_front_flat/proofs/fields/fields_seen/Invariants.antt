use Rattle.std.proofs.Common.{◌≡◌, ◌++◌, drop}
use Rattle.td_front_flat.specs.Definitions.{flat_fields, with_fields}
use Rattle.td_front_flat.proofs.fields.fields_seen.Given as goal

abbrev pub invariant-loop-field : goal.invariant-loop-field
invariant-loop-field l = (l.flat ++ flat_fields l.own l.params l.scope (drop l.field-index l.fields) ≡ flat_fields l.own l.params l.fn.scope l.fields) × (with_fields l.scope (drop l.field-index l.fields) ≡ with_fields l.fn.scope l.fields)
