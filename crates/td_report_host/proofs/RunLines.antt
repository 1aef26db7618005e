-- What the lines of a run's report determine, in the report of a host.
use Rattle.std.proofs.Common.{◌≡◌, ◌≢◌, ℕ, List, [], ◌∷◌, ◌++◌, map, flat_map, Option, Some, None, refl, sym, ap, ◌∙◌, subst}
use Rattle.std.specs.Prelude.{slice_get}
use Rattle.std.proofs.lemmas.Option.{slice_get_within, get_or_from_slice_get, same_Some}
use Rattle.std.proofs.lemmas.List.Elements.{All-cons, All-nil}
use Rattle.std.specs.List.{All}
use Rattle.td_report_host.specs.Imports.{Module, Entry, Outcome, Verdict, Accept, Reject, TraceFrame, Load, Stretch, Reply}
use Rattle.td_report.specs.Report.{line, report}
use Rattle.td_report.specs.Laws.{HasWords, HasNoSpotWord, frames_of, ShownLoad}
use Rattle.td_report.proofs.Cutting.{AreLines}
use Rattle.td_report.proofs.Copied.{copy_words}
use Rattle.td_report.proofs.Lines.{verdict_words, frame_words, cell_words, load_words}
use Rattle.td_report.proofs.Determining.{shown_cells, shown_copies, part_words, report_by_lines, parts_are_lines, all_begin, both_all, reports_determine_outcomes}
use Rattle.td_posts.specs.Posts.{outcome_in}
use Rattle.td_report_host.specs.Report.{run_by, run_under}
use Rattle.td_report_host.specs.Laws.{ReportedRun, reported_run, IsReportableRun}
use Rattle.td_report_host.proofs.Lines.{Others}

abbrev pub run_words : Module → Entry → Reply → List (List ℕ)
run_words m entry r = verdict_words r.verdict ∷ part_words m entry (outcome_in r) r.loads.list r.layout

abbrev pub words_under : Option Module → Option Entry → Reply → List (List ℕ)
words_under (Some m) (Some entry) r = run_words m entry r
words_under (Some m) None r = []
words_under None entry r = []

pub run_by_lines : (m : Module) (entry : Entry) (r : Reply) → run_by m entry r ≡ flat_map line (run_words m entry r)
run_by_lines m entry r = report_by_lines m (outcome_in r) entry r.loads.list r.layout None

pub under_by_lines : (m : Option Module) (entry : Option Entry) (r : Reply) → run_under m entry r ≡ flat_map line (words_under m entry r)
under_by_lines (Some m) (Some entry) r = run_by_lines m entry r
under_by_lines (Some m) None r = refl
under_by_lines None entry r = refl

pub run_are_lines : (m : Module) (entry : Entry) (r : Reply) → HasWords m → IsReportableRun m entry r → AreLines (run_words m entry r)
run_are_lines m entry r words h = parts_are_lines m entry (outcome_in r) r.loads.list r.layout words h.named h.cells h.copies h.loads

-- a fourth byte that no line of a run's report has
pub record IsApart (c : ℕ) : Type 0 where
  pub verdict : 101 ≢ c
  pub frame : 109 ≢ c
  pub out : 32 ≢ c
  pub copy : 121 ≢ c
  pub load : 100 ≢ c

verdict_others : (c : ℕ) (v : Verdict) → IsApart c → Others c (verdict_words v)
verdict_others c (Accept pos) apart e = apart.verdict e
verdict_others c (Reject reason pos) apart e = apart.verdict e

pub run_others : (c : ℕ) (m : Module) (entry : Entry) (r : Reply) → IsApart c → All (Others c) (run_words m entry r)
run_others c m entry r apart =
    let P : List ℕ → Type 0 = Others c in
    let o : Outcome = outcome_in r in
    let loads : List Load = r.loads.list in
    let layout : Option (List Stretch) = r.layout in
    let frames = map (frame_words m) (frames_of o.verdict o.trace) in
    let cells = map (cell_words m) (shown_cells m entry o) in
    let copies = map (copy_words m) (shown_copies m entry o) in
    All-cons P (verdict_words o.verdict) (part_words m entry o loads layout) (verdict_others c o.verdict apart)
    (both_all P frames (cells ++ (copies ++ map (load_words layout) loads))
    (all_begin P (frame_words m) (λ f e. apart.frame e) (frames_of o.verdict o.trace))
    (both_all P cells (copies ++ map (load_words layout) loads)
    (all_begin P (cell_words m) (λ d e. apart.out e) (shown_cells m entry o))
    (both_all P copies (map (load_words layout) loads)
    (all_begin P (copy_words m) (λ k e. apart.copy e) (shown_copies m entry o))
    (all_begin P (load_words layout) (λ l e. apart.load e) loads))))

pub same_run : (m : Module) (e f : Entry) (r q : Reply) → HasWords m → HasNoSpotWord m → IsReportableRun m e r → IsReportableRun m f q → run_words m e r ≡ run_words m f q → reported_run r ≡ reported_run q
same_run m e f r q words none hr hq lines =
    let reports : run_by m e r ≡ run_by m f q = run_by_lines m e r ∙ ap (flat_map line) lines ∙ sym (run_by_lines m f q) in
    let parts =
    reports_determine_outcomes m (outcome_in r) (outcome_in q) e f r.layout q.layout None None r.loads.list q.loads.list words none
    hr.named hq.named hr.frames hq.frames hr.cells hq.cells hr.copies hq.copies hr.loads hq.loads tt tt reports in
    let make : Verdict → List TraceFrame → List ℕ → List (List ℕ) → List ShownLoad → ReportedRun =
    λ verdict trace cells copies loads. record { outcome = record { verdict = verdict; trace = trace; cells = cells; copies = copies }; loads = loads } in
    λ i. make (parts.0 i) (parts.1 i) (parts.2 i) (parts.3 i) (parts.4 i)

-- ---- under a version

-- what is said of all modules is said of a version's
pub at_version : (P : Module → Type 0) (ms : List Module) (n : ℕ) (m : Module) → All P ms → slice_get ms n ≡ Some m → P m
at_version P ms n m all is = subst P (get_or_from_slice_get ms n m m is) (all n m (slice_get_within ms n m is))

-- the lines by this number's module and entry point, where they are these
pub words_at : (ms : List Module) (es : List Entry) (n : ℕ) (m : Module) (entry : Entry) (r : Reply) → slice_get ms n ≡ Some m → slice_get es n ≡ Some entry
    → words_under (slice_get ms n) (slice_get es n) r ≡ run_words m entry r
words_at ms es n m entry r is begins = λ i. words_under (is i) (begins i) r

pub under_are_lines : (ms : List Module) (es : List Entry) (n : ℕ) (m : Module) (entry : Entry) (r : Reply) → All HasWords ms → slice_get ms n ≡ Some m → slice_get es n ≡ Some entry → IsReportableRun m entry r
    → AreLines (words_under (slice_get ms n) (slice_get es n) r)
under_are_lines ms es n m entry r words is begins h = subst AreLines (sym (words_at ms es n m entry r is begins)) (run_are_lines m entry r (at_version HasWords ms n m words is) h)

pub under_others : (c : ℕ) (m : Option Module) (entry : Option Entry) (r : Reply) → IsApart c → All (Others c) (words_under m entry r)
under_others c (Some m) (Some entry) r apart = run_others c m entry r apart
under_others c (Some m) None r apart = All-nil (Others c)
under_others c None entry r apart = All-nil (Others c)

pub same_under : (ms : List Module) (es fs : List Entry) (n : ℕ) (m k : Module) (e f : Entry) (r q : Reply) → All HasWords ms → All HasNoSpotWord ms
    → slice_get ms n ≡ Some m → slice_get ms n ≡ Some k → slice_get es n ≡ Some e → slice_get fs n ≡ Some f → IsReportableRun m e r → IsReportableRun k f q
    → words_under (slice_get ms n) (slice_get es n) r ≡ words_under (slice_get ms n) (slice_get fs n) q → reported_run r ≡ reported_run q
same_under ms es fs n m k e f r q words none is other begins starts hr hq lines =
    let one : k ≡ m = same_Some k m (sym other ∙ is) in
    same_run m e f r q (at_version HasWords ms n m words is) (at_version HasNoSpotWord ms n m none is) hr (subst (λ (x : Module). IsReportableRun x f q) one hq)
    (sym (words_at ms es n m e r is begins) ∙ lines ∙ words_at ms fs n m f q is starts)
