use Rattle.std.proofs.Common.{ℕ, List, [], ◌++◌, flat_map, subst}
use Rattle.std.proofs.lemmas.List.{take_all}
use Rattle.td_report_host.specs.Imports.{Reply}
use Rattle.td_io.specs.States.{WriteFails, Writes}
use Rattle.td_report.specs.Paged.{IsMoved}
use Rattle.td_report_host.specs.Report.{reply_report}
use Rattle.td_report.proofs.Pages.{moved_more, moved_stopped, moved_all}
use Rattle.td_report_host.proofs.report.write_replies.Goals as goal

pub returns-in_err-put_reply : goal.returns-in_err-put_reply
returns-in_err-put_reply g c =
    let text : Reply → List ℕ = reply_report c.args.formats.now c.args.entries.now in
    let before = g.O.Sink.state c.loop-reply.out in
    let after = g.O.Sink.state c.put_reply.new.out in
    let page = c.loop-reply.page.written in
    moved_stopped text c.args.replies.now c.loop-reply.reply-index c.reply-item.result (g.O.Sink.state c.args.out.now) before after page c.from_residual.result c.loop-reply-test.true
    c.from_residual.ensures.0 c.loop-reply.invariant
    (subst (λ (r : Reply). WriteFails before after (page ++ text r)) c.reply-item.is c.in_err-put_reply.ensures.failed)

pub loop-reply-preserved : goal.loop-reply-preserved
loop-reply-preserved g c =
    let text : Reply → List ℕ = reply_report c.args.formats.now c.args.entries.now in
    let before = g.O.Sink.state c.loop-reply.out in
    let after = g.O.Sink.state c.put_reply.new.out in
    let page = c.loop-reply.page.written in
    let next = c.put_reply.new.page.written in
    moved_more text c.args.replies.now c.loop-reply.reply-index c.reply-item.result (g.O.Sink.state c.args.out.now) before after page next c.loop-reply-test.true c.loop-reply.invariant
    (subst (λ (r : Reply). IsMoved before after page next (text r)) c.reply-item.is c.in_ok-put_reply.ensures.done)

pub returns : goal.returns
returns g c =
    let text : Reply → List ℕ = reply_report c.args.formats.now c.args.entries.now in
    let start = g.O.Sink.state c.args.out.now in
    let before = g.O.Sink.state c.loop-reply.out in
    let after = g.O.Sink.state c.write_all.new.out in
    let page = c.loop-reply.page.written in
    let whole = subst (λ (l : List Reply). IsMoved start before [] page (flat_map text l)) (take_all c.loop-reply.reply-index c.args.replies.now c.loop-reply-test.false) c.loop-reply.invariant in
    moved_all start before after page (flat_map text c.args.replies.now) c.write_all.result whole
    (subst (λ (l : List ℕ). Writes before after l c.write_all.result) c.written.ensures c.write_all.ensures)
