use Rattle.std.proofs.Common.{[], flat_map, take}
use Rattle.td_report.specs.Paged.{IsMoved}
use Rattle.td_report_host.specs.Report.{reply_report}
use Rattle.td_report_host.proofs.report.write_replies.Given as goal

-- of the reports of the replies so far the first bytes were written, and the others wait in the page
abbrev pub invariant-loop-reply : goal.invariant-loop-reply
invariant-loop-reply g l = IsMoved (g.O.Sink.state l.fn.out) (g.O.Sink.state l.out) [] l.page.written (flat_map (reply_report l.formats l.entries) (take l.reply-index l.replies))
