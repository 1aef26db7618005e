use Rattle.std.proofs.Common.{◌≤◌, ◌-◌, length}
use Rattle.std.specs.Io.KnownBytes.{Consumes}
use Rattle.td_io.specs.States.{NoReadFails}
use Rattle.td_io.proofs.reading.read_whole.Given as goal

abbrev pub invariant-pieces : goal.invariant-pieces
invariant-pieces g l = record {
  read : Consumes (g.S.Source.state l.fn.src).left (g.S.Source.state l.src).left l.bytes.items;
  short : length l.bytes.items ≤ l.limit;
  quiet : NoReadFails (g.S.Source.state l.fn.src) (g.S.Source.state l.src);
}

abbrev pub decreases-pieces : goal.decreases-pieces
decreases-pieces g l = l.limit - length l.bytes.items
