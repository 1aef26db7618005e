use Rattle.std.proofs.Common.{ℕ, List, subst}
use Rattle.td_io.specs.States.{Takes}
use Rattle.td_report.specs.Report.{hex_digits}
use Rattle.td_report.proofs.Pages.{waits_no_more}
use Rattle.td_report.proofs.written.put_byte.Goals as goal

pub returns : goal.returns
returns g c =
    let before = g.O.Sink.state c.args.out.now in
    let between = g.O.Sink.state c.hand_on.new.out in
    let taken = subst (λ (l : List ℕ). Takes before between l) (c.fits_page.ensures.kept c.if-fits_page.false) c.in_ok-hand_on.ensures.handed.done in
    waits_no_more before between (g.O.Sink.state c.write_byte.new.out) c.args.page.now.written c.hand_on.new.page.written c.fits_page-2.new.page.written
    (hex_digits 2 c.args.byte) c.write_byte.result taken c.in_ok-hand_on.ensures.empty (c.fits_page-2.ensures.kept c.if-fits_page-2.false) c.write_byte.ensures
