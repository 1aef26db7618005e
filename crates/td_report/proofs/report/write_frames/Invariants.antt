use Rattle.std.proofs.Common.{Ok, flat_map, take}
use Rattle.td_report.specs.Imports.{WriteFault}
use Rattle.td_report.specs.Report.{frame_line}
use Rattle.td_io.specs.States.{Writes}
use Rattle.td_report.proofs.report.write_frames.Given as goal

abbrev pub invariant-loop-place : goal.invariant-loop-place
invariant-loop-place g l = Writes {T = Unit {0}} {E = WriteFault} (g.O.Sink.state l.fn.out) (g.O.Sink.state l.out) (flat_map (frame_line l.m) (take l.place l.frames)) (Ok tt)
