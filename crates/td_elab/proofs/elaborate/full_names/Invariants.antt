use Rattle.std.proofs.Common.{◌≡◌, take}
use Rattle.td_elab.proofs.elaborate.full_names.Given as goal

-- the names before this one
abbrev pub invariant-loop-number : goal.invariant-loop-number
invariant-loop-number l = l.full ≡ take l.number l.names
