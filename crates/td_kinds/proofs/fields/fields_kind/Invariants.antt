use Rattle.std.proofs.Common.{◌≡◌, ◌-◌, length, drop}
use Rattle.td_kinds.specs.Kinds.{kind_at, fields_kind}
use Rattle.td_kinds.proofs.fields.fields_kind.Given as goal

-- the kind of the last fields
abbrev pub invariant-loop-k : goal.invariant-loop-k
invariant-loop-k l = l.kind ≡ fields_kind (kind_at l.kinds) (drop (length l.fields - l.k) l.fields)
