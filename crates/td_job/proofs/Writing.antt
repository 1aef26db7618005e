-- Jobs of a value, which is written. Cited by other crates.
use Rattle.std.proofs.Common.{◌≡◌, ℕ, ◌≤◌, List, [], ◌∷◌, ◌++◌, length, Option, Some, None, Result, Err, ◌⊎◌, inl, inr, refl, sym, ap, subst, ◌∙◌, arith}
use Rattle.std.proofs.lemmas.Option.{same_Some}
use Rattle.std.specs.Prelude.{IfOk, IfErr}
use Rattle.serde_json.specs.Data.{Data}
use Rattle.serde_json.specs.Find.{as_object}
use Rattle.td_job.specs.Imports.{Module, Entry, WriteRule, PlannedStore}
use Rattle.td_core.specs.declared.outcome.Outcome.{Outcome}
use Rattle.td_core.specs.Entries.{entry_definition}
use Rattle.td_core.specs.Formed.{params_at, cells_at}
use Rattle.td_meaning.specs.Meaning.{meaning}
use Rattle.td_meaning.specs.Copies.{opened}
use Rattle.td_write_values.specs.declared.limits.TheConstants.{MOST_WRITTEN}
use Rattle.td_write_values.specs.Datum.{Datum}
use Rattle.td_write_values.specs.Spelling.{spelling}
use Rattle.td_write_values.specs.Writing.{Written, Done, Refused, writing, whole}
use Rattle.td_write_spells.specs.Laws.{IsExact, WritingIsExact, KindsAreAdmitted}
use Rattle.td_write.specs.Answers.{IsWritable, IsAccepted, IsAppended}
use Rattle.td_write.proofs.Whole.{nowhere}
use Rattle.td_job.specs.declared.error.JobError.{JobError}
use Rattle.td_job.specs.declared.error.JobError.TheVariants.{NoMemory}
use Rattle.td_job.specs.declared.error.Key.TheVariants as key
use Rattle.td_job.specs.declared.error.Path.TheVariants as path
use Rattle.td_job.specs.declared.run_job.RunJob.{RunJob}
use Rattle.td_job.specs.Fields.{field_of, IsFirst}
use Rattle.td_job.specs.Stretches.{words_with}
use Rattle.td_job.specs.Values.{args_faults, cells_faults, given_args, given_cells}
use Rattle.td_job.specs.Written.{form_of, form_faults, datum_of, write_faults}
use Rattle.td_job.specs.Jobs.{beside_faults, faults_by, first_unknown, from_value, given_by, given_stores, run_keys, spelled_or_none, stores_faults, unknown_faults, BeginsWithValue, FirstFault, FirstFaultBy, IsJob, IsJobWith, MayLackBy, MayLackMemory}
use Rattle.td_job.specs.Valued.{IsStarted, IsWrittenAs}
use Rattle.td_job.specs.Words.{IsFilled}
use Rattle.td_job.proofs.Numbers.{first_of_more}

-- what is accepted to its end is refused by nothing
none_refused : WritingIsExact → KindsAreAdmitted → (m : Module) (entry : Entry) (args cells : List ℕ) (v : Datum) → IsWritable m → (bytes : List ℕ) → IsAccepted m entry args cells v bytes
    → write_faults (writing whole m entry args (opened m entry cells) v) ≡ []
none_refused law kinds m entry args cells v h bytes a = by (writing whole m entry args (opened m entry cells) v) refl
  where
    by : (w : Written) → writing whole m entry args (opened m entry cells) v ≡ w → write_faults w ≡ []
    by (Done b last claims) e = refl
    by (Refused r places) e = absurd (nowhere m entry args cells v law kinds h r places e bytes a)

pub written_as : WritingIsExact → KindsAreAdmitted → (m : Module) (entry : Entry) (args cells : List ℕ) (v : Datum) → IsWritable m → (bytes : List ℕ) (answer : Outcome)
    → IsAppended m entry args cells v [] bytes answer → IsWrittenAs m entry args cells v bytes
written_as law kinds m entry args cells v h bytes answer x =
    subst (IsWrittenAs m entry args cells v) (sym x.1.1.0)
    (record { faultless = none_refused law kinds m entry args cells v h x.0 x.1.0; spelled = x.1.0.spelled; short = x.1.0.short })

-- a value without a fault is spelled within the limit
pub faultless_short : WritingIsExact → KindsAreAdmitted → (m : Module) (entry : Entry) (args cells : List ℕ) (v : Datum) → IsWritable m → write_faults (writing whole m entry args (opened m entry cells) v) ≡ []
    → length (spelled_or_none (spelling m entry args (opened m entry cells) v)) ≤ MOST_WRITTEN
faultless_short law kinds m entry args cells v h none = by (writing whole m entry args (opened m entry cells) v) none (law m entry args (opened m entry cells) v h.copying (kinds m h.formed h.kinds))
  where
    by : (w : Written) → write_faults w ≡ [] → IsExact w (spelling m entry args (opened m entry cells) v) (λ bytes. (meaning m entry args (opened m entry cells) bytes).ending) → length (spelled_or_none (spelling m entry args (opened m entry cells) v)) ≤ MOST_WRITTEN
    by (Done bytes last claims) e x = subst (λ o. length (spelled_or_none o) ≤ MOST_WRITTEN) (sym x.0) x.1.0
    by (Refused r places) e x = absurd (cc)

front : (a b c d w s u : List JobError) → a ≡ [] → b ≡ [] → c ≡ [] → d ≡ [] → a ++ b ++ (c ++ d ++ w) ++ s ++ u ≡ w ++ s ++ u
front a b c d w s u ha hb hc hd = rw (ha, hb, hc, hd) refl

module _ (m : Module) (job value : Data) (entry : Entry) (begins : BeginsWithValue m job value entry) where
  abbrev stores_left : ℕ → List JobError
  stores_left words = stores_faults words (field_of key.Stores job)

  abbrev names_left : List JobError
  names_left = unknown_faults path.Unknown (first_unknown run_keys (as_object job))

  -- the faults are those of writing, and those after the value
  written_front : faults_by (Some value) m entry job
      ≡ write_faults (writing whole m entry (given_args (entry_definition m entry.number) job) (opened m entry (given_cells (entry_definition m entry.number) job)) (datum_of value))
      ++ stores_left (words_with (length (spelled_or_none (spelling m entry (given_args (entry_definition m entry.number) job) (opened m entry (given_cells (entry_definition m entry.number) job)) (datum_of value)))))
      ++ names_left
  written_front =
      let d = entry_definition m entry.number in
      front (args_faults (params_at d) (field_of key.Args job)) (cells_faults (cells_at d) (field_of key.Cells job)) (beside_faults job) (form_faults key.Value (form_of value))
      (write_faults (writing whole m entry (given_args d job) (opened m entry (given_cells d job)) (datum_of value)))
      (stores_left (words_with (length (spelled_or_none (spelling m entry (given_args d job) (opened m entry (given_cells d job)) (datum_of value)))))) names_left
      begins.args begins.cells begins.alone begins.form

  pub written_first : (args cells : List ℕ) → args ≡ given_args (entry_definition m entry.number) job → cells ≡ given_cells (entry_definition m entry.number) job → (e : JobError)
      → (e ≡ NoMemory) ⊎ IsFirst (write_faults (writing whole m entry args (opened m entry cells) (datum_of value))) e → (e ≡ NoMemory) ⊎ FirstFaultBy (faults_by (Some value)) m job e
  written_first args cells ha hc e (inl memory) = inl memory
  written_first args cells ha hc e (inr first) =
      let d = entry_definition m entry.number in
      let here = subst (λ faults. IsFirst faults e) (λ i. write_faults (writing whole m entry (ha i) (opened m entry (hc i)) (datum_of value))) first in
      let w = write_faults (writing whole m entry (given_args d job) (opened m entry (given_cells d job)) (datum_of value)) in
      let s = stores_left (words_with (length (spelled_or_none (spelling m entry (given_args d job) (opened m entry (given_cells d job)) (datum_of value))))) in
      let more = first_of_more (w ++ s) names_left e (first_of_more w s e here) in
      inr (inr (entry, begins.named, record { others = more.others; is = written_front ∙ more.is }))

module _ (m : Module) (job value : Data) (entry : Entry) (args cells bytes : List ℕ) (s : IsStarted m job value entry args cells bytes) where
  spelled_there : spelled_or_none (spelling m entry (given_args (entry_definition m entry.number) job) (opened m entry (given_cells (entry_definition m entry.number) job)) (datum_of value)) ≡ bytes
  spelled_there = (λ i. spelled_or_none (spelling m entry (sym s.args_are i) (opened m entry (sym s.cells_are i)) (datum_of value))) ∙ ap spelled_or_none s.written.spelled

  none_written : write_faults (writing whole m entry (given_args (entry_definition m entry.number) job) (opened m entry (given_cells (entry_definition m entry.number) job)) (datum_of value)) ≡ []
  none_written = (λ i. write_faults (writing whole m entry (sym s.args_are i) (opened m entry (sym s.cells_are i)) (datum_of value))) ∙ s.written.faultless

  -- what is left are the faults after the value
  pub rest_faults : faults_by (Some value) m entry job ≡ stores_faults (words_with (length bytes)) (field_of key.Stores job) ++ unknown_faults path.Unknown (first_unknown run_keys (as_object job))
  rest_faults =
      let last = unknown_faults path.Unknown (first_unknown run_keys (as_object job)) in
      written_front m job value entry s.begins
      ∙ ap (λ w. w ++ stores_faults (words_with (length (spelled_or_none (spelling m entry (given_args (entry_definition m entry.number) job) (opened m entry (given_cells (entry_definition m entry.number) job)) (datum_of value))))) (field_of key.Stores job) ++ last) none_written
      ∙ ap (λ b. stores_faults (words_with (length b)) (field_of key.Stores job) ++ last) spelled_there

  pub rest_first : (count : ℕ) → count ≡ words_with (length bytes) → (e : JobError)
      → (e ≡ NoMemory) ⊎ IsFirst (stores_faults count (field_of key.Stores job) ++ unknown_faults path.Unknown (first_unknown run_keys (as_object job))) e
      → (e ≡ NoMemory) ⊎ FirstFaultBy (faults_by (Some value)) m job e
  rest_first count h e (inl memory) = inl memory
  rest_first count h e (inr first) =
      let here = subst (λ n. IsFirst (stores_faults n (field_of key.Stores job) ++ unknown_faults path.Unknown (first_unknown run_keys (as_object job))) e) h first in
      inr (inr (entry, s.begins.named, record { others = here.others; is = rest_faults ∙ here.is }))

  -- the job that it is
  pub finished : (words : List ℕ) (stores : List PlannedStore) (n count : ℕ) → n ≡ length bytes → stores ≡ given_stores job
      → count ≡ words_with (length bytes) → IsFilled bytes count words → stores_faults count (field_of key.Stores job) ++ unknown_faults path.Unknown (first_unknown run_keys (as_object job)) ≡ []
      → IsJobWith (from_value m entry job value) m job (record { entry = entry; args = args; cells = cells; words = words; length = n; layout = None; stores = stores; written = Some bytes })
  finished words stores n count long stored hn filled none =
      let last = unknown_faults path.Unknown (first_unknown run_keys (as_object job)) in
      record {
        named = s.begins.named;
        faultless = rest_faults ∙ ap (λ k. stores_faults k (field_of key.Stores job) ++ last) (sym hn) ∙ none;
        args = s.args_are;
        cells = s.cells_are;
        filled = subst (λ b. IsFilled b (words_with (length b)) words) (sym spelled_there) (subst (λ k. IsFilled bytes k words) hn filled);
        as_long = ap (λ b. Some (length b)) spelled_there ∙ ap Some (sym long);
        layout = refl;
        written = ap Some (sym spelled_there);
        stored = stored;
      }

-- a job is one of a value or one of bytes by what stands there
module _ (o : Option Data) (m : Module) (job : Data) (same : field_of key.Value job ≡ o) where
  pub by_field : (r : Result RunJob JobError) → IfOk r (λ j. IsJobWith (given_by o m j.entry job) m job j) → IfOk r (IsJob m job)
  by_field r h = subst (λ o. IfOk r (λ j. IsJobWith (given_by o m j.entry job) m job j)) (sym same) h

  pub fault_by_field : (r : Result RunJob JobError) → IfErr r (λ e. (e ≡ NoMemory) ⊎ FirstFaultBy (faults_by o) m job e) → IfErr r (λ e. (e ≡ NoMemory) ⊎ FirstFault m job e)
  fault_by_field r h = subst (λ o. IfErr r (λ e. (e ≡ NoMemory) ⊎ FirstFaultBy (faults_by o) m job e)) (sym same) h

  pub memory_by_field : (r : Result RunJob JobError) → (r ≡ Err NoMemory → MayLackBy o m job) → r ≡ Err NoMemory → MayLackMemory m job
  memory_by_field r h = subst (λ o. r ≡ Err NoMemory → MayLackBy o m job) (sym same) h
