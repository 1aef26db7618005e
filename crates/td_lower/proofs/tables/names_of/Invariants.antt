use Rattle.std.proofs.Common.{◌≡◌, take}
use Rattle.td_lower.proofs.tables.names_of.Given as goal

-- the names so far
abbrev pub invariant-loop-name : goal.invariant-loop-name
invariant-loop-name l = record {
  names : l.names ≡ take l.name-index l.name-items;
  items : l.name-items ≡ l.m.names;
}
