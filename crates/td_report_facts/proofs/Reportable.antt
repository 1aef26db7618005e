-- Loads, cells, copies and endings as a report prints them: names, numbers of 64 bits, a value for each cell, and bytes for each buffer.
use Rattle.std.proofs.Common.{◌≡◌, inl, inr, ℕ, zero, suc, ◌^◌, ◌<◌, ◌≤◌, List, [], ◌∷◌, ◌+◌, ◌*◌, length, length-drop, take, drop, Option, Some, None, refl, sym, ap, subst, ◌∙◌, arith, slice_index}
use Rattle.std.specs.List.{All}
use Rattle.std.proofs.lemmas.Bool.{cases_order}
use Rattle.std.proofs.lemmas.List.Elements.{All-nil, All-cons, All-head, All-tail, All-append, All-filter}
use Rattle.std.proofs.lemmas.List.{length-take-le}
use Rattle.std.proofs.Math.ListN.{get_or-eq_default}
use Rattle.td_num.specs.declared.number.Width.{Width}
use Rattle.td_num.specs.declared.number.Width.TheVariants.{One, Two, Four, Eight}
use Rattle.td_num.specs.Lists.{Each, AreBytes}
use Rattle.td_num.specs.Numbers.{places_from}
use Rattle.td_report_facts.specs.Imports.{Module, Entry, Cell, Buffer, TypeDef, TraceFrame, Outcome, Load, Stretch, PlannedStore}
use Rattle.td_core.specs.declared.module.CellKind.{CellKind}
use Rattle.td_core.specs.declared.module.CellKind.TheVariants.{Number, Pointer}
use Rattle.td_core.specs.declared.outcome.Reason.{Reason}
use Rattle.td_core.specs.Outcome.{Ending, Accepted, Rejected, bytes_at, copies_by, outcome_of}
use Rattle.td_core.specs.Entries.{entry_definition}
use Rattle.td_core.specs.Formed.{AllFit, cell_bound, cell_bounds}
use Rattle.td_core.specs.WellFormed.{IsNameThere, IsDefinitionNamed}
use Rattle.td_stream.specs.Layouts.{buffer_word}
use Rattle.td_stream.specs.Loads.{buffered}
use Rattle.td_sched.specs.Plan.{numbered, up_to, to_word, last_value, at, ArePlanned}
use Rattle.td_meaning.specs.Framing.{AllFor, IsFramed, AreNamed}
use Rattle.td_meaning.specs.Endings.{AreCells, IsEndingWithin}
use Rattle.td_report.specs.Laws.{IsNamed, IsNamedFrame, IsNamedCell, HasCells, HasBytes, HasCopies}
use Rattle.td_report.specs.Report.{entry_cells, entry_buffers}
use Rattle.td_report_facts.specs.Laws.{IsReportableOutcome}
use Rattle.td_report_facts.proofs.Laid.{SmallLoad}
use Rattle.td_report_facts.proofs.Names.{frames_named, cells_named}

-- ---- loads

abbrev Small : PlannedStore → Type 0
Small s = s.value < 2 ^ 64

up_to_small : (k : ℕ) (stores : List PlannedStore) → All Small stores → All Small (up_to k stores)
up_to_small zero stores h = All-filter _ Small stores h
up_to_small (suc k) stores h = All-append Small (up_to k stores) (numbered (suc k) stores) (up_to_small k stores h) (All-filter _ Small stores h)

last_small : (v : ℕ) (stores : List PlannedStore) → v < 2 ^ 64 → All Small stores → last_value v stores < 2 ^ 64
last_small v [] lt h = lt
last_small v (s ∷ stores) lt h = last_small s.value stores (All-head Small s stores h) (All-tail Small s stores h)

pub index_small : (words : List ℕ) (i : ℕ) → All (λ w. w < 2 ^ 64) words → slice_index words i < 2 ^ 64
index_small words i h = elim (cases_order i (length words)) [
  | inl same ↦ past (omega (arith, same))
  | inr other ↦ elim other [ inl inside ↦ h i 0 inside | inr outside ↦ past (omega (arith, outside)) ]
]
  where
    past : length words ≤ i → slice_index words i < 2 ^ 64
    past le = let none : slice_index words i ≡ 0 = get_or-eq_default words 0 le in omega (arith, none)

planned_small : (words : List ℕ) (stores : List PlannedStore) (k i : ℕ) → All (λ w. w < 2 ^ 64) words → All Small stores → at words stores k i < 2 ^ 64
planned_small words stores k i h g = last_small (slice_index words i) (to_word i (up_to k stores)) (index_small words i h) (All-filter _ Small (up_to k stores) (up_to_small k stores g))

pub loads_small : (layout : Option (List Stretch)) (words : List ℕ) (stores : List PlannedStore) (k : ℕ) (loads : List Load) → All (λ w. w < 2 ^ 64) words → All Small stores
    → ArePlanned words stores k (buffered layout loads) → All SmallLoad loads
loads_small layout words stores k [] h g planned = All-nil SmallLoad
loads_small None words stores k (l ∷ loads) h g planned =
    All-cons SmallLoad l loads (omega (arith, planned.0, planned_small words stores k l.word h g)) (loads_small None words stores (suc k) loads h g planned.1)
loads_small (Some layout) words stores k (l ∷ loads) h g planned =
    All-cons SmallLoad l loads (omega (arith, planned.0, planned_small words stores k (buffer_word layout l.word) h g)) (loads_small (Some layout) words stores (suc k) loads h g planned.1)

-- ---- cells

width_small : (w : Width) (v : ℕ) → v ≤ (cell_bound (Number w)).most → v < 2 ^ 64
width_small One v le = omega (arith, le)
width_small Two v le = omega (arith, le)
width_small Four v le = omega (arith, le)
width_small Eight v le = omega (arith, le)

cell_small : (kind : CellKind) (v : ℕ) → v ≤ (cell_bound kind).most → v < 2 ^ 64
cell_small (Number w) v le = width_small w v le
cell_small Pointer v le = omega (arith, le)

pub given_cells : (cells : List Cell) (values : List ℕ) → AllFit (cell_bounds cells) values → AreCells (length cells) values
given_cells [] [] h = (refl, tt)
given_cells [] (v ∷ vs) h = absurd h
given_cells (c ∷ cs) [] h = absurd h
given_cells (c ∷ cs) (v ∷ vs) h = let rest = given_cells cs vs h.1 in (ap suc rest.0, (cell_small c.kind v h.0, rest.1))

all_small : (values : List ℕ) → Each (λ v. v < 2 ^ 64) values → All (λ v. v < 2 ^ 64) values
all_small [] h = All-nil (λ v. v < 2 ^ 64)
all_small (v ∷ vs) h = All-cons (λ v. v < 2 ^ 64) v vs h.0 (all_small vs h.1)

-- ---- endings

one_reason : (reason : Reason) (trace : List TraceFrame) → AllFor reason trace → All (λ f. f.reason ≡ reason) trace
one_reason reason [] h = All-nil (λ f. f.reason ≡ reason)
one_reason reason (f ∷ fs) h = All-cons (λ f. f.reason ≡ reason) f fs h.0 (one_reason reason fs h.1)

has_cells : (m : Module) (entry : Entry) (d : TypeDef) (o : Outcome) → entry_definition m entry.number ≡ Some d → IsDefinitionNamed (length m.names) d → AreCells (length d.cells) o.cells → HasCells m entry o
has_cells m entry d o e named h = record {
  named = subst (λ x. All (IsNamedCell m) (entry_cells x)) (sym e) (cells_named m d.cells named.cells);
  each = subst (λ x. length o.cells ≡ length (entry_cells x)) (sym e) h.0;
  small = all_small o.cells h.1;
}

-- the first of so many cells
front_cells : (n count : ℕ) (cells : List ℕ) → n ≤ count → AreCells count cells → AreCells n (take n cells)
front_cells n count cells le h = (length-take-le n cells (omega (arith, le, h.0)), firsts n cells h.1)
  where
    firsts : (k : ℕ) (xs : List ℕ) → Each (λ v. v < 2 ^ 64) xs → Each (λ v. v < 2 ^ 64) (take k xs)
    firsts zero xs g = tt
    firsts (suc k) [] g = tt
    firsts (suc k) (x ∷ xs) g = (g.0, firsts k xs g.1)

-- ---- copies

buffers_named : (m : Module) (buffers : List Buffer) → Each (λ b. IsNameThere (length m.names) b.name) buffers → All (λ (b : Buffer). IsNamed m b.name) buffers
buffers_named m [] h = All-nil (λ (b : Buffer). IsNamed m b.name)
buffers_named m (b ∷ bs) h = All-cons (λ (b : Buffer). IsNamed m b.name) b bs h.0 (buffers_named m bs h.1)

-- two cells are of one buffer
copies_count : (message cells : List ℕ) (k : ℕ) → length cells ≡ 2 * k → length (copies_by message cells) ≡ k
copies_count message [] k e = omega (arith, e)
copies_count message (place ∷ []) k e = absurd (omega (arith, e))
copies_count message (place ∷ count ∷ cells) zero e = absurd (omega (arith, e))
copies_count message (place ∷ count ∷ cells) (suc k) e = ap suc (copies_count message cells k (omega (arith, e)))

at_places : (message places : List ℕ) → AreBytes message → HasBytes (bytes_at message places)
at_places message [] bytes = All-nil (λ b. b < 256)
at_places message (i ∷ places) bytes = All-cons (λ b. b < 256) (slice_index message i) (bytes_at message places) (bytes i) (at_places message places bytes)

copies_bytes : (message cells : List ℕ) → AreBytes message → All HasBytes (copies_by message cells)
copies_bytes message [] bytes = All-nil HasBytes
copies_bytes message (place ∷ []) bytes = All-nil HasBytes
copies_bytes message (place ∷ count ∷ cells) bytes =
    All-cons HasBytes (bytes_at message (places_from place count)) (copies_by message cells) (at_places message (places_from place count) bytes) (copies_bytes message cells bytes)

has_copies : (m : Module) (entry : Entry) (d : TypeDef) (o : Outcome) (message cells : List ℕ) → entry_definition m entry.number ≡ Some d → IsDefinitionNamed (length m.names) d → AreBytes message
    → length cells ≡ length d.cells + 2 * length d.buffers → o.copies ≡ copies_by message (drop (length d.cells) cells) → HasCopies m entry o
has_copies m entry d o message cells e named bytes count is =
    let behind = drop (length d.cells) cells in
    let many : length behind ≡ 2 * length d.buffers = omega (arith, count, length-drop (length d.cells) cells) in
    record {
      named = subst (λ x. All (λ (b : Buffer). IsNamed m b.name) (entry_buffers x)) (sym e) (buffers_named m d.buffers named.buffers);
      each = subst (λ x. length o.copies ≡ length (entry_buffers x)) (sym e) (ap length is ∙ copies_count message behind (length d.buffers) many);
      bytes = subst (All HasBytes) (sym is) (copies_bytes message behind bytes);
    }

pub ending_told : (m : Module) (entry : Entry) (d : TypeDef) (message : List ℕ) (end count : ℕ) (o : Ending) → AreBytes message → count ≡ length d.cells + 2 * length d.buffers → end ≤ 1048576 → entry_definition m entry.number ≡ Some d → Each (IsDefinitionNamed (length m.names)) m.definitions → IsDefinitionNamed (length m.names) d
    → IsEndingWithin end count o → IsFramed o → AreNamed m.definitions d o → IsReportableOutcome m entry (outcome_of (length d.cells) message o)
ending_told m entry d message end count (Accepted q cells) bytes all low e each own h framed named = record {
  named = record { position = omega (arith, low, h.0); frames = All-nil (IsNamedFrame m) };
  frames = refl;
  cells = has_cells m entry d _ e own (front_cells (length d.cells) count cells (omega (arith, all)) h.1);
  copies = has_copies m entry d _ message cells e own bytes (h.1.0 ∙ all) refl;
}
ending_told m entry d message end count (Rejected reason q [] cells) bytes all low e each own h framed named = absurd framed
ending_told m entry d message end count (Rejected reason q (f ∷ fs) cells) bytes all low e each own h framed named = record {
  named = record { position = omega (arith, low, h.0); frames = frames_named m end (f ∷ fs) (omega (arith, low)) h.1.0 named.0 each };
  frames = one_reason reason (f ∷ fs) framed.1;
  cells = has_cells m entry d _ e own (front_cells (length d.cells) count cells (omega (arith, all)) h.1.1);
  copies = has_copies m entry d _ message cells e own bytes (h.1.1.0 ∙ all) refl;
}
