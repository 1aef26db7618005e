use Rattle.std.proofs.Common.{ℕ, List, [], flat_map, subst}
use Rattle.std.proofs.lemmas.List.{take_all}
use Rattle.td_io.specs.States.{Writes}
use Rattle.td_report.specs.Paged.{IsMoved}
use Rattle.td_report.specs.Report.{hex_digits}
use Rattle.td_report.proofs.Pages.{moved_more, moved_stopped, moved_all}
use Rattle.td_report.proofs.written.write_digits.Goals as goal

pub returns-in_err-put_byte : goal.returns-in_err-put_byte
returns-in_err-put_byte g c =
    moved_stopped (hex_digits 2) c.args.bytes.now c.loop-byte.byte-index _ (g.O.Sink.state c.args.out.now) (g.O.Sink.state c.loop-byte.out) (g.O.Sink.state c.put_byte.new.out) c.loop-byte.page.written
    c.from_residual.result c.loop-byte-test.true c.from_residual.ensures.0 c.loop-byte.invariant c.in_err-put_byte.ensures.failed

pub loop-byte-preserved : goal.loop-byte-preserved
loop-byte-preserved g c =
    moved_more (hex_digits 2) c.args.bytes.now c.loop-byte.byte-index _ (g.O.Sink.state c.args.out.now) (g.O.Sink.state c.loop-byte.out) (g.O.Sink.state c.put_byte.new.out) c.loop-byte.page.written
    c.put_byte.new.page.written c.loop-byte-test.true c.loop-byte.invariant c.in_ok-put_byte.ensures.done

pub returns : goal.returns
returns g c =
    let start = g.O.Sink.state c.args.out.now in
    let before = g.O.Sink.state c.loop-byte.out in
    let after = g.O.Sink.state c.write_all.new.out in
    let page = c.loop-byte.page.written in
    let whole = subst (λ (l : List ℕ). IsMoved start before [] page (flat_map (hex_digits 2) l)) (take_all c.loop-byte.byte-index c.args.bytes.now c.loop-byte-test.false) c.loop-byte.invariant in
    moved_all start before after page (flat_map (hex_digits 2) c.args.bytes.now) c.write_all.result whole
    (subst (λ (l : List ℕ). Writes before after l c.write_all.result) c.written.ensures c.write_all.ensures)
