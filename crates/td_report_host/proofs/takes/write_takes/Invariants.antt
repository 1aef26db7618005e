use Rattle.std.proofs.Common.{[], Bor, option_map, flat_map, take}
use Rattle.td_report_host.specs.Imports.{Module, Entry}
use Rattle.td_report.specs.Paged.{IsMoved}
use Rattle.td_report_host.specs.Report.{take_report}
use Rattle.td_report_host.proofs.takes.write_takes.Given as goal

-- of the lines of the takes so far the first bytes were written, and the others wait in the page
abbrev pub invariant-loop-take : goal.invariant-loop-take
invariant-loop-take g l =
    IsMoved (g.O.Sink.state l.fn.out) (g.O.Sink.state l.out) [] l.page.written
    (flat_map (take_report l.formats l.entries (option_map (λ (r : Bor Module × Entry). (r.0.now, r.1)) l.ring)) (take l.take-index l.takes))
