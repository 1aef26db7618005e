use Rattle.std.proofs.Common.{◌≡◌, List, ℕ, map, sym, ◌∙◌}
use Rattle.std.specs.Prelude.{option_map}
use Rattle.td_report.specs.Imports.{Outcome, TraceFrame, Load}
use Rattle.td_report.specs.Report.{report}
use Rattle.td_report.proofs.Composing.{writes_as}
use Rattle.td_report.proofs.Zipped.{mapped_same}
use Rattle.td_report.proofs.report.report_by_line.Goals as goal

pub returns : goal.returns
unfolding report
returns g c =
    let o : Outcome = c.args.outcome.now in
    let told : List TraceFrame → List ℕ → List (List ℕ) → List Load → List ℕ =
    λ trace cells copies loads. report (record { verdict = o.verdict; trace = trace; cells = cells; copies = copies }) c.args.m.now c.args.entry loads (option_map (λ l. l.now) c.args.layout) (option_map (λ w. w.now) c.args.written) in
    let trace : c.as_slice.result.now ≡ o.trace = c.as_slice.ensures in
    let cells : c.as_slice-2.result.now ≡ o.cells = c.as_slice-2.ensures in
    let copies : map (λ (b : List ℕ). b) c.as_slice-3.result.now ≡ o.copies = mapped_same c.as_slice-3.result.now ∙ c.as_slice-3.ensures in
    let loads : c.as_slice-4.result.now ≡ c.args.loads.now.list = c.as_slice-4.ensures in
    let same : told o.trace o.cells o.copies c.args.loads.now.list ≡ told c.as_slice.result.now c.as_slice-2.result.now (map (λ (b : List ℕ). b) c.as_slice-3.result.now) c.as_slice-4.result.now =
    λ i. told (sym trace i) (sym cells i) (sym copies i) (sym loads i) in
    writes_as same c.report_of_parts.ensures
