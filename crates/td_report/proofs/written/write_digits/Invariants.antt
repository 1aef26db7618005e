use Rattle.std.proofs.Common.{[], take}
use Rattle.td_report.specs.Paged.{IsMoved}
use Rattle.td_report.specs.Report.{byte_digits}
use Rattle.td_report.proofs.written.write_digits.Given as goal

-- of the digits so far the first were written, and the others wait in the page
abbrev pub invariant-loop-byte : goal.invariant-loop-byte
invariant-loop-byte g l = IsMoved (g.O.Sink.state l.fn.out) (g.O.Sink.state l.out) [] l.page.written (byte_digits (take l.byte-index l.bytes))
