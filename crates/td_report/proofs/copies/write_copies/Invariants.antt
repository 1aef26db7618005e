use Rattle.std.proofs.Common.{Ok, flat_map, map, take}
use Rattle.td_report.specs.Imports.{WriteFault}
use Rattle.td_io.specs.States.{Writes}
use Rattle.td_report.specs.Report.{copy_line, with_bytes}
use Rattle.td_report.proofs.copies.write_copies.Given as goal

abbrev pub invariant-loop-index : goal.invariant-loop-index
invariant-loop-index g l =
    Writes {T = Unit {0}} {E = WriteFault} (g.O.Sink.state l.fn.out) (g.O.Sink.state l.out) (flat_map (copy_line l.m) (take l.index (with_bytes l.buffers (map g.B.CopyBuffer.held l.copies)))) (Ok tt)
