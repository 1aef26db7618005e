use Rattle.std.proofs.Common.{rules, ◌≡◌, Some, List, ap, ◌∙◌}
use Rattle.std.specs.Prelude.{slice_get, slice_index_or}
use Rattle.std.proofs.lemmas.Option.{slice_get-get_or}
use Rattle.td_report_host.specs.Imports.{Module, Entry}
use Rattle.td_report.proofs.Composing.{writes_both, writes_stopped, writes_as}
use Rattle.td_report_host.specs.Report.{run_by, run_under, reply_report}
use Rattle.td_report_host.proofs.report.write_reply.Goals as goal

pub returns-in_err-write_heading : goal.returns-in_err-write_heading
unfolding reply_report
returns-in_err-write_heading g c =
    let r = c.args.reply.now in
    writes_stopped (run_under (slice_get c.args.formats.now r.version) (slice_get c.args.entries.now r.version) r) c.from_residual.result c.from_residual.ensures.0 c.in_err-write_heading.ensures

abbrev no_entry : Entry
no_entry = record { number = 0 }

pub returns : goal.returns
unfolding reply_report
returns g c =
    let r = c.args.reply.now in
    let ms : List Module = c.args.formats.now in
    let es : List Entry = c.args.entries.now in
    let m : Module = c.index-formats-at.result in
    let is : slice_index_or ms r.version m ≡ m = search rules in
    let e : Entry = slice_index_or es r.version no_entry in
    let own : slice_get ms r.version ≡ Some m = slice_get-get_or ms r.version m c.requires.version.format ∙ ap Some is in
    let begins : slice_get es r.version ≡ Some e = slice_get-get_or es r.version no_entry c.requires.version.entry in
    let same : run_under (slice_get ms r.version) (slice_get es r.version) r ≡ run_by m e r = λ i. run_under (own i) (begins i) r in
    writes_both c.in_ok-write_heading.ensures (writes_as same c.write_run.ensures)
