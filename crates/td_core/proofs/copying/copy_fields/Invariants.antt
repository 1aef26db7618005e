use Rattle.std.proofs.Common.{◌≡◌, ◌++◌, drop}
use Rattle.td_core.proofs.copying.copy_fields.Given as goal

-- what was copied, and what is left
abbrev pub invariant-loop-field : goal.invariant-loop-field
invariant-loop-field l = l.copied ++ drop l.field-index l.fields ≡ l.fields
