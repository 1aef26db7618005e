use Rattle.std.proofs.Common.{Ok, Some, [], take, flat_map}
use Rattle.td_core.specs.Paths.{indexed}
use Rattle.td_report.specs.Imports.{WriteFault}
use Rattle.td_io.specs.States.{Writes}
use Rattle.td_report.proofs.path_line.write_places.Given as goal

abbrev pub invariant-loop-place : goal.invariant-loop-place
invariant-loop-place g l = Writes {T = Unit {0}} {E = WriteFault} (g.E.Sink.state l.fn.err) (g.E.Sink.state l.err) (flat_map (λ place. indexed [] (Some place)) (take l.place-index l.places)) (Ok tt)
