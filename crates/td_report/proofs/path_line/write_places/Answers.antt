use Rattle.std.proofs.Common.{[], Some}
use Rattle.td_core.specs.Paths.{indexed}
use Rattle.td_report.proofs.Composing.{each_written, each_stopped}
use Rattle.td_report.proofs.path_line.write_places.Goals as goal

pub returns-in_err-write_place : goal.returns-in_err-write_place
returns-in_err-write_place g c = each_stopped (λ place. indexed [] (Some place)) c.args.places.now c.loop-place.place-index _ c.from_residual.result c.loop-place-test.true c.from_residual.ensures.0 c.loop-place.invariant c.in_err-write_place.ensures

pub loop-place-preserved : goal.loop-place-preserved
loop-place-preserved g c = each_written (λ place. indexed [] (Some place)) c.args.places.now c.loop-place.place-index _ c.loop-place-test.true c.loop-place.invariant c.in_ok-write_place.ensures
