-- What the report of a good job's run tells.
use Rattle.std.proofs.Common.{◌≡◌, ℕ, ◌+◌, ◌*◌, ◌<◌, ◌≤◌, List, length, replicate, Option, Some, None, sym, ap, subst, arith, length-append}
use Rattle.std.proofs.lemmas.List.{length-replicate}
use Rattle.td_report_facts.specs.Imports.{Load, Stretch, TypeDef}
use Rattle.td_stream.specs.Layouts.{length_in, plain, layout_or_plain}
use Rattle.td_stream.specs.Loads.{Inside}
use Rattle.std.specs.List.{All}
use Rattle.td_core.specs.Entries.{entry_definition}
use Rattle.td_core.specs.Formed.{AllFit, params_at, cells_at}
use Rattle.td_core.specs.WellFormed.{IsDefinitionNamed}
use Rattle.td_core.specs.Outcome.{outcome_of}
use Rattle.td_meaning.specs.Meaning.{meaning}
use Rattle.td_meaning.specs.Copies.{buffers_at, opened}
use Rattle.td_meaning.specs.Framing.{RejectionsAreFramed, FramesAreNamed}
use Rattle.td_meaning.proofs.CopiesWhole.{opened_small}
use Rattle.td_meaning.specs.Endings.{IsEndingWithin, EndingsAreWithin}
use Rattle.td_arith.specs.Laws.{EvaluatedIsSound}
use Rattle.td_job.specs.declared.checks.TheConstants.{MOST_BYTES}
use Rattle.td_report.specs.Laws.{IsShownLoad}
use Rattle.td_report_facts.specs.Laws.{AreSized, IsReportableOutcome, ModulesHaveWords, OutcomesAreReportable, RunsAreReportable, LoadsAreReportable}
use Rattle.td_report_facts.proofs.Laid.{SmallLoad, of_64_bits, plainly_shown, shown_by_stretches}
use Rattle.td_report_facts.proofs.Names.{words_of, types_of, no_spots}
use Rattle.td_report_facts.proofs.Reportable.{given_cells, loads_small, ending_told}
use Rattle.td_num.proofs.Lists.{got, each_at}
use Rattle.td_core.proofs.Found.{entry_found as entry_of}

pub modules_have_words : ModulesHaveWords
modules_have_words m c = (record { words = words_of m.names c.words; types = types_of m c.types; apart = c.apart }, no_spots m.names c.words)

by_layout : (n : ℕ) (o : Option (List Stretch)) (loads : List Load) → AreSized o → length_in (layout_or_plain n o) ≤ MOST_BYTES → Inside (layout_or_plain n o) loads → All SmallLoad loads → All (IsShownLoad o) loads
by_layout n None loads sized short inside small = plainly_shown loads (of_64_bits (plain n) loads short inside small)
by_layout n (Some layout) loads sized short inside small = shown_by_stretches layout loads sized short inside (of_64_bits layout loads short inside small)

pub loads_are_reportable : LoadsAreReportable
loads_are_reportable m j loads s inside held =
    let long = s.long in
    let limit = s.limit in
    by_layout j.length j.layout loads s.stretches (omega (arith, long, limit)) inside (loads_small j.layout j.words j.stores 0 loads s.words s.stores held)

pub outcomes_are_reportable : EvaluatedIsSound → EndingsAreWithin → FramesAreNamed → RejectionsAreFramed → OutcomesAreReportable
outcomes_are_reportable sound within named framed m entry args cells message c inside fit_args fit_cells bytes long =
    let place = got m.entries entry.number inside in
    let there : place.0 < length m.definitions = each_at (λ p. p < length m.definitions) m.entries entry.number place.0 c.whole.entries place.1 in
    let found = got m.definitions place.0 there in
    let d : TypeDef = found.0 in
    let is : entry_definition m entry.number ≡ Some d = entry_of m entry.number place.0 d place.1 found.1 in
    let own_args : AllFit (params_at (Some d)) args = subst (λ x. AllFit (params_at x) args) is fit_args in
    let own_cells : AllFit (cells_at (Some d)) cells = subst (λ x. AllFit (cells_at x) cells) is fit_cells in
    let given = given_cells d.cells cells own_cells in
    let all_cells = opened m entry cells in
    let ending = (meaning m entry args all_cells message).ending in
    let all = sound m entry place.0 d args cells message c.formed c.copying c.safe place.1 found.1 own_args own_cells bytes (omega (arith, long)) in
    let ends : IsEndingWithin (length message) (length all_cells) ending = within m entry args all_cells message all (omega (arith, long)) (opened_small m entry cells given.1) in
    let buffers : buffers_at (entry_definition m entry.number) ≡ length d.buffers = ap buffers_at is in
    let behind = 2 * buffers_at (entry_definition m entry.number) in
    let nothing : ℕ = 0 in
    let all_of : length all_cells ≡ length d.cells + 2 * length d.buffers = omega (arith, given.0, buffers, length-replicate behind nothing, length-append cells (replicate behind nothing)) in
    subst (λ n. IsReportableOutcome m entry (outcome_of n message ending)) (sym given.0)
    (ending_told m entry d message (length message) (length all_cells) ending bytes all_of (omega (arith, long)) is c.named
    (each_at (IsDefinitionNamed (length m.names)) m.definitions place.0 d c.named found.1) ends
    (framed m entry place.0 d args all_cells message c.formed place.1 found.1)
    (named m entry place.0 d args all_cells message c.whole place.1 found.1))

pub runs_are_reportable : OutcomesAreReportable → RunsAreReportable
runs_are_reportable told m j message c s bytes long =
    let own = entry_definition m j.entry.number in
    let limit = s.limit in
    told m j.entry j.args j.cells message c s.entry s.values.args s.values.cells bytes (omega (arith, limit, long))
