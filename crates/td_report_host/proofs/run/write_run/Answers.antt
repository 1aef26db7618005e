use Rattle.std.proofs.Common.{◌≡◌, ℕ, Option, None, List, sym}
use Rattle.std.specs.Option.{option_copied}
use Rattle.td_report_host.specs.Imports.{TraceFrame, Outcome, Load, Stretch}
use Rattle.td_stream.specs.Copies.{BufferView, held_by}
use Rattle.td_report.specs.Report.{report}
use Rattle.td_report.proofs.Composing.{writes_as}
use Rattle.td_report_host.specs.Report.{run_by}
use Rattle.td_report_host.proofs.run.write_run.Goals as goal

pub returns : goal.returns
returns g c =
    let r = c.args.reply.now in
    let m = c.args.format.now in
    let e = c.args.entry in
    let outcome : List TraceFrame → List ℕ → List BufferView → Outcome = λ trace cells copies. record { verdict = r.verdict; trace = trace; cells = cells; copies = held_by copies } in
    let trace : c.as_slice.result.now ≡ r.trace.items = c.as_slice.ensures.value in
    let cells : c.deref.result.now ≡ r.cells.items = c.deref.ensures.value in
    let copies : c.deref-2.result.now ≡ r.copies.buffers.items = c.deref-2.ensures.value in
    let loads : c.as_slice-2.result.now ≡ r.loads.list = c.as_slice-2.ensures in
    let given : Option (List Stretch) = option_copied c.as_ref.result in
    let layout : given ≡ r.layout = c.as_ref.ensures.value in
    let told : List TraceFrame → List ℕ → List BufferView → List Load → Option (List Stretch) → List ℕ = λ t v h l k. report (outcome t v h) m e l k None in
    let same : run_by m e r ≡ told c.as_slice.result.now c.deref.result.now c.deref-2.result.now c.as_slice-2.result.now given =
    λ i. told (sym trace i) (sym cells i) (sym copies i) (sym loads i) (sym layout i) in
    writes_as same c.report_of_parts.ensures
