use Rattle.td_report.specs.Report.{frame_line}
use Rattle.td_report.proofs.Composing.{each_written, each_stopped}
use Rattle.td_report.proofs.report.write_frames.Goals as goal

pub returns-in_err-write_frame : goal.returns-in_err-write_frame
returns-in_err-write_frame g c = each_stopped (frame_line c.args.m.now) c.args.frames.now c.loop-place.place _ c.from_residual.result c.loop-place-test.true c.from_residual.ensures.0 c.loop-place.invariant c.in_err-write_frame.ensures

pub loop-place-preserved : goal.loop-place-preserved
loop-place-preserved g c = each_written (frame_line c.args.m.now) c.args.frames.now c.loop-place.place _ c.loop-place-test.true c.loop-place.invariant c.in_ok-write_frame.ensures
