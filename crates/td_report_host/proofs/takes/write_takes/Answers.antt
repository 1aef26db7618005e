use Rattle.std.proofs.Common.{ℕ, List, [], ◌++◌, Bor, option_map, flat_map, subst}
use Rattle.std.proofs.lemmas.List.{take_all}
use Rattle.td_report_host.specs.Imports.{Module, Entry, Take}
use Rattle.td_io.specs.States.{WriteFails, Writes}
use Rattle.td_report.specs.Paged.{IsMoved}
use Rattle.td_report_host.specs.Report.{take_report}
use Rattle.td_report.proofs.Pages.{moved_more, moved_stopped, moved_all}
use Rattle.td_report_host.proofs.takes.write_takes.Goals as goal

pub returns-in_err-put_take : goal.returns-in_err-put_take
returns-in_err-put_take g c =
    let text : Take → List ℕ = take_report c.args.formats.now c.args.entries.now (option_map (λ (r : Bor Module × Entry). (r.0.now, r.1)) c.args.ring) in
    let before = g.O.Sink.state c.loop-take.out in
    let after = g.O.Sink.state c.put_take.new.out in
    let page = c.loop-take.page.written in
    moved_stopped text c.args.takes.now c.loop-take.take-index c.take-item.result (g.O.Sink.state c.args.out.now) before after page c.from_residual.result c.loop-take-test.true
    c.from_residual.ensures.0 c.loop-take.invariant
    (subst (λ (t : Take). WriteFails before after (page ++ text t)) c.take-item.is c.in_err-put_take.ensures.failed)

pub loop-take-preserved : goal.loop-take-preserved
loop-take-preserved g c =
    let text : Take → List ℕ = take_report c.args.formats.now c.args.entries.now (option_map (λ (r : Bor Module × Entry). (r.0.now, r.1)) c.args.ring) in
    let before = g.O.Sink.state c.loop-take.out in
    let after = g.O.Sink.state c.put_take.new.out in
    let page = c.loop-take.page.written in
    let next = c.put_take.new.page.written in
    moved_more text c.args.takes.now c.loop-take.take-index c.take-item.result (g.O.Sink.state c.args.out.now) before after page next c.loop-take-test.true c.loop-take.invariant
    (subst (λ (t : Take). IsMoved before after page next (text t)) c.take-item.is c.in_ok-put_take.ensures.done)

pub returns : goal.returns
returns g c =
    let text : Take → List ℕ = take_report c.args.formats.now c.args.entries.now (option_map (λ (r : Bor Module × Entry). (r.0.now, r.1)) c.args.ring) in
    let start = g.O.Sink.state c.args.out.now in
    let before = g.O.Sink.state c.loop-take.out in
    let after = g.O.Sink.state c.write_all.new.out in
    let page = c.loop-take.page.written in
    let whole = subst (λ (l : List Take). IsMoved start before [] page (flat_map text l)) (take_all c.loop-take.take-index c.args.takes.now c.loop-take-test.false) c.loop-take.invariant in
    moved_all start before after page (flat_map text c.args.takes.now) c.write_all.result whole
    (subst (λ (l : List ℕ). Writes before after l c.write_all.result) c.written.ensures c.write_all.ensures)
