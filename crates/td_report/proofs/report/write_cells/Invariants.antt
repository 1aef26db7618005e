use Rattle.std.proofs.Common.{Ok, flat_map, take}
use Rattle.td_report.specs.Imports.{WriteFault}
use Rattle.td_io.specs.States.{Writes}
use Rattle.td_report.specs.Report.{cell_line, with_values}
use Rattle.td_report.proofs.report.write_cells.Given as goal

abbrev pub invariant-loop-index : goal.invariant-loop-index
invariant-loop-index g l =
    Writes {T = Unit {0}} {E = WriteFault} (g.O.Sink.state l.fn.out) (g.O.Sink.state l.out) (flat_map (cell_line l.m) (take l.index (with_values l.cells l.values))) (Ok tt)
