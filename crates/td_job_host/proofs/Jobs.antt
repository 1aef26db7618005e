-- Bytes stand for one host job alone, or are refused for one cause alone; and they always do one of the two.
use Rattle.std.proofs.Common.{length, ◌≡◌, ℕ, zero, suc, List, [], ◌∷◌, map, Option, Some, None, Result, Ok, Err, ◌⊎◌, inl, inr, refl, sym, ap, ◌∙◌, subst}
use Rattle.std.specs.Prelude.{IfOk}
use Rattle.serde_json.specs.Data.{Data}
use Rattle.td_job_host.specs.Imports.{Module, Entry, JobError, HostJob, Step, RingJob}
use Rattle.td_core.specs.Entries.{entry_definition}
use Rattle.td_core.specs.Formed.{cells_at}
use Rattle.td_front.specs.Laws.{AlwaysOne}
use Rattle.td_job.specs.declared.error.Key.TheVariants as key
use Rattle.td_job.specs.Fields.{Reads, text_of, IsFirst}
use Rattle.td_job.specs.Values.{given_args}
use Rattle.td_job.specs.Jobs.{EntryFault, IsEntry}
use Rattle.td_job.proofs.Bytes.{filled_once, filled}
use Rattle.td_job.proofs.Existing.{made_or_refused, spelled_small, entry_or_fault}
use Rattle.td_job.proofs.Numbers.{both_empty}
use Rattle.td_job.proofs.Unique.{one_entry, one_entry_fault, one_first, one_value}
use Rattle.td_job.proofs.Unique.{entry_or_fault as never_both_entry}
use Rattle.td_job_host.specs.Guests.{workers_faults, given_guests}
use Rattle.td_job_host.specs.Rings.{given_rings}
use Rattle.td_job_host.specs.Swaps.{given_swaps}
use Rattle.td_job_host.specs.HostJobs.{given_buffer, buffer_words, rooms_in, before_faults, after_faults, AreSwapsOf, LaterFault, FirstFault, IsHost, IsHostJob, RefusedHostJob}
use Rattle.td_job_host.proofs.Swapping.{Texts, one_versions, fault_or_versions, one_swap_fault, versions_or_fault}

abbrev name_in : Data → Option (List ℕ)
name_in job = text_of key.Entry job

module _ (texts : Texts) where
  one_host : (m : Module) (job : Data) (a b : HostJob) → IsHost m job a → IsHost m job b → a ≡ b
  one_host m job a b ha hb =
      let entry = one_entry m (name_in job) ha.entry hb.entry ha.named hb.named in
      let swaps : AreSwapsOf m job ha.entry hb.formats hb.entries = subst (λ (e : Entry). AreSwapsOf m job e hb.formats hb.entries) (sym entry) hb.swaps in
      let versions = one_versions m ha.entry (name_in job) texts (given_swaps job) ha.formats hb.formats ha.entries hb.entries ha.swaps swaps in
      let formats : a.formats ≡ b.formats = ha.by ∙ (ap (λ (fs : List Module). m ∷ fs) versions.0 ∙ sym hb.by) in
      let entries : a.entries ≡ b.entries = ha.begins ∙ ((λ i. entry i ∷ versions.1 i) ∙ sym hb.begins) in
      let args = ha.args ∙ ap (λ (e : Entry). given_args (entry_definition m e.number) job) entry ∙ sym hb.args in
      let cells = ha.cells ∙ ap (λ (e : Entry). length (cells_at (entry_definition m e.number))) entry ∙ sym hb.cells in
      let rooms = ha.roomy ∙ ap (λ (e : Entry). rooms_in (entry_definition m e.number)) entry ∙ sym hb.roomy in
      let words = filled_once (given_buffer job) (buffer_words job) a.words b.words ha.filled hb.filled in
      let wa = ha.worked in
      let wb = hb.worked in
      let workers : a.workers ≡ b.workers = cc in
      let guests = ha.scripted ∙ sym hb.scripted in
      let rings = ha.looked_at ∙ sym hb.looked_at in
      let make : List Module → List Entry → List ℕ → ℕ → List ℕ → List ℕ → ℕ → List (List Step) → List RingJob → HostJob =
      λ formats entries args cells rooms words workers guests rings.
      record { formats = formats; entries = entries; args = args; cells = cells; rooms = rooms; words = words; workers = workers; guests = guests; rings = rings } in
      λ i. make (formats i) (entries i) (args i) (cells i) (rooms i) (words i) (workers i) (guests i) (rings i)

  pub one_host_job : (bytes : List ℕ) (m : Module) (a b : HostJob) → IsHostJob bytes m a → IsHostJob bytes m b → a ≡ b
  one_host_job bytes m a b ha hb =
      let same = one_value bytes hb.0 ha.0 hb.1 ha.1 in
      one_host m ha.0 a b ha.2 (subst (λ job. IsHost m job b) same hb.2)

  -- a job without a fault has no first one
  never_later : (m : Module) (job : Data) (j : HostJob) (e : JobError) → (h : IsHost m job j) → LaterFault m job h.entry e → ⊥
  never_later m job j e h (inl first) = let some = first.is in let none = h.before in cc
  never_later m job j e h (inr later) =
      elim later.1 [
        | inl swap ↦ fault_or_versions m h.entry (name_in job) texts 0 (given_swaps job) e h.formats h.entries swap h.swaps
        | inr after ↦ let some = after.3.is in let none = h.after in cc
      ]

  host_or_fault : (m : Module) (job : Data) (j : HostJob) (e : JobError) → IsHost m job j → FirstFault m job e → ⊥
  host_or_fault m job j e h (inl wrong) = never_both_entry m (name_in job) h.entry e h.named wrong
  host_or_fault m job j e h (inr wrong) =
      let same = one_entry m (name_in job) wrong.0 h.entry wrong.1 h.named in
      never_later m job j e h (subst (λ (x : Entry). LaterFault m job x e) same wrong.2)

  pub job_or_refusal : (bytes : List ℕ) (m : Module) (j : HostJob) (e : JobError) → IsHostJob bytes m j → RefusedHostJob bytes m e → ⊥
  job_or_refusal bytes m j e h (inl wrong) = wrong.1 h.0 h.1
  job_or_refusal bytes m j e h (inr wrong) =
      let same = one_value bytes wrong.0 h.0 wrong.1 h.1 in
      host_or_fault m h.0 j e h.2 (subst (λ job. FirstFault m job e) same wrong.2)

  one_later : (m : Module) (job : Data) (entry : Entry) (a b : JobError) → LaterFault m job entry a → LaterFault m job entry b → a ≡ b
  one_later m job entry a b (inl x) (inl y) = one_first (before_faults (entry_definition m entry.number) job) a b x y
  one_later m job entry a b (inl x) (inr y) = let some = x.is in let none = y.0 in absurd (cc)
  one_later m job entry a b (inr x) (inl y) = let some = y.is in let none = x.0 in absurd (cc)
  one_later m job entry a b (inr x) (inr y) =
      elim x.1 [
        | inl s ↦ elim y.1 [
          | inl t ↦ one_swap_fault m entry (name_in job) texts 0 (given_swaps job) a b s t
          | inr t ↦ absurd (fault_or_versions m entry (name_in job) texts 0 (given_swaps job) a t.0 t.1 s t.2)
        ]
        | inr s ↦ elim y.1 [
          | inl t ↦ absurd (fault_or_versions m entry (name_in job) texts 0 (given_swaps job) b s.0 s.1 t s.2)
          | inr t ↦ one_first (after_faults (entry_definition m entry.number) job) a b s.3 t.3
        ]
      ]

  one_fault : (m : Module) (job : Data) (a b : JobError) → FirstFault m job a → FirstFault m job b → a ≡ b
  one_fault m job a b (inl ha) (inl hb) = one_entry_fault m (name_in job) a b ha hb
  one_fault m job a b (inl ha) (inr hb) = absurd (never_both_entry m (name_in job) hb.0 a hb.1 ha)
  one_fault m job a b (inr ha) (inl hb) = absurd (never_both_entry m (name_in job) ha.0 b ha.1 hb)
  one_fault m job a b (inr ha) (inr hb) =
      let same = one_entry m (name_in job) hb.0 ha.0 hb.1 ha.1 in
      one_later m job ha.0 a b ha.2 (subst (λ (entry : Entry). LaterFault m job entry b) same hb.2)

  pub one_refusal : (bytes : List ℕ) (m : Module) (a b : JobError) → RefusedHostJob bytes m a → RefusedHostJob bytes m b → a ≡ b
  one_refusal bytes m a b (inl ha) (inl hb) = ha.0 ∙ sym hb.0
  one_refusal bytes m a b (inl ha) (inr hb) = absurd (ha.1 hb.0 hb.1)
  one_refusal bytes m a b (inr ha) (inl hb) = absurd (hb.1 ha.0 ha.1)
  one_refusal bytes m a b (inr ha) (inr hb) =
      let same = one_value bytes hb.0 ha.0 hb.1 ha.1 in
      one_fault m ha.0 a b ha.2 (subst (λ job. FirstFault m job b) same hb.2)

-- ---- one of the two

has_workers : (number : Option ℕ) → workers_faults number ≡ [] → (n : ℕ) × (number ≡ Some n)
has_workers None h = absurd (cc)
has_workers (Some n) h = (n, refl)

faultless_job : (m : Module) (job : Data) (entry : Entry) (fs : List Module) (gs : List Entry) → IsEntry m (name_in job) entry → before_faults (entry_definition m entry.number) job ≡ []
    → AreSwapsOf m job entry fs gs → after_faults (entry_definition m entry.number) job ≡ [] → (j : HostJob) × IsHost m job j
faultless_job m job entry fs gs named before swaps after =
    let d = entry_definition m entry.number in
    let list = both_empty _ _ before in
    let rings = both_empty _ _ list.0 in
    let guests = both_empty _ _ rings.0 in
    let workers = both_empty _ _ guests.0 in
    let number = has_workers _ workers.1 in
    let words = filled (given_buffer job) (buffer_words job) (spelled_small (text_of key.Buffer job)) in (
      record {
        formats = m ∷ fs;
        entries = entry ∷ gs;
        args = given_args d job;
        cells = length (cells_at d);
        rooms = rooms_in d;
        words = words.0;
        workers = number.0;
        guests = given_guests job;
        rings = given_rings job;
      },
      record {
        entry = entry;
        formats = fs;
        entries = gs;
        named = named;
        before = before;
        swaps = swaps;
        after = after;
        by = refl;
        begins = refl;
        args = refl;
        cells = refl;
        roomy = refl;
        filled = words.1;
        worked = number.1;
        scripted = refl;
        looked_at = refl;
      },
    )

-- a job has no fault, and then there is what is made of it, or a first one
abbrev Made : Module → Data → Type 0
Made m job = ((j : HostJob) × IsHost m job j) ⊎ ((e : JobError) × FirstFault m job e)

module _ (always : AlwaysOne) where
  by_after : (m : Module) (job : Data) (entry : Entry) (fs : List Module) (gs : List Entry) → IsEntry m (name_in job) entry → before_faults (entry_definition m entry.number) job ≡ []
      → AreSwapsOf m job entry fs gs → (faults : List JobError) → after_faults (entry_definition m entry.number) job ≡ faults → Made m job
  by_after m job entry fs gs named before swaps [] h = inl (faultless_job m job entry fs gs named before swaps h)
  by_after m job entry fs gs named before swaps (e ∷ others) h = inr (e, inr (entry, named, inr (before, inr (fs, gs, swaps, record { others = others; is = h }))))

  by_before : (m : Module) (job : Data) (entry : Entry) → IsEntry m (name_in job) entry → (faults : List JobError) → before_faults (entry_definition m entry.number) job ≡ faults → Made m job
  by_before m job entry named (e ∷ others) h = inr (e, inr (entry, named, inl (record { others = others; is = h })))
  by_before m job entry named [] h =
      elim (versions_or_fault m entry (name_in job) always 0 (given_swaps job)) [
        | inr wrong ↦ inr (wrong.0, inr (entry, named, inr (h, inl wrong.1)))
        | inl good ↦ by_after m job entry good.0 good.1 named h good.2 (after_faults (entry_definition m entry.number) job) refl
      ]

  made : (m : Module) (job : Data) → Made m job
  made m job =
      elim (entry_or_fault m (name_in job)) [
        | inr wrong ↦ inr (wrong.0, inl wrong.1)
        | inl found ↦ by_before m job found.0 found.1 (before_faults (entry_definition m found.0.number) job) refl
      ]

  -- bytes that stand for this text stand for a job or have a fault
  read_as : (bytes : List ℕ) (m : Module) (job : Data) → Reads bytes job → ((j : HostJob) × IsHostJob bytes m j) ⊎ ((e : JobError) × RefusedHostJob bytes m e)
  read_as bytes m job reads =
      elim (made m job) [
        | inl good ↦ inl (good.0, (job, reads, good.1))
        | inr bad ↦ inr (bad.0, inr (job, reads, bad.1))
      ]

  pub always_one : (bytes : List ℕ) (m : Module) → ((j : HostJob) × IsHostJob bytes m j) ⊎ ((e : JobError) × RefusedHostJob bytes m e)
  always_one bytes m =
      elim (made_or_refused (λ d job. []) (λ job. Unit {0}) bytes m (λ job. inl tt)) [
        | inl found ↦ read_as bytes m found.0 found.1
        | inr refused ↦ elim refused.1 [
          | inl none ↦ inr (refused.0, inl none)
          | inr odd ↦ read_as bytes m odd.0 odd.1
        ]
      ]
