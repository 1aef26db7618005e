use Rattle.std.proofs.Common.{ℕ, List, Bor, option_map, subst}
use Rattle.td_report_host.specs.Imports.{Module, Entry}
use Rattle.td_io.specs.States.{Takes}
use Rattle.td_report_host.specs.Report.{take_report}
use Rattle.td_report.proofs.Pages.{waits_no_more}
use Rattle.td_report_host.proofs.takes.put_take.Goals as goal

pub returns : goal.returns
returns g c =
    let before = g.O.Sink.state c.args.out.now in
    let between = g.O.Sink.state c.hand_on.new.out in
    let ring = option_map (λ (r : Bor Module × Entry). (r.0.now, r.1)) c.args.ring in
    let taken = subst (λ (l : List ℕ). Takes before between l) (c.fits_page.ensures.kept c.if-fits_page.false) c.in_ok-hand_on.ensures.handed.done in
    waits_no_more before between (g.O.Sink.state c.write_take.new.out) c.args.page.now.written c.hand_on.new.page.written c.fits_page-2.new.page.written
    (take_report c.args.formats.now c.args.entries.now ring c.args.take.now) c.write_take.result taken c.in_ok-hand_on.ensures.empty (c.fits_page-2.ensures.kept c.if-fits_page-2.false) c.write_take.ensures
