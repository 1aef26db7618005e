use Rattle.std.proofs.Common.{take}
use Rattle.std.specs.List.{All}
use Rattle.td_host.specs.Gathered.{AreReadersOf, IsReaderBy}
use Rattle.td_cli_host.proofs.rings.readers_of.Given as goal

-- those of the rings so far
abbrev pub invariant-loop-ring : goal.invariant-loop-ring
invariant-loop-ring l = record {
  readers : AreReadersOf l.room (take l.ring-index l.rings) l.descrs.items;
  by : All (IsReaderBy l.m) l.descrs.items;
}
