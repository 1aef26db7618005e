-- Bytes stand for one run job alone, or are refused for one cause alone. Cited by other crates.
use Rattle.std.proofs.Common.{length, ◌<◌, ◌≡◌, ℕ, List, [], Option, Some, None, Result, Ok, Err, ◌⊎◌, inl, inr, sym, ap, ◌∙◌, subst}
use Rattle.std.proofs.lemmas.Bool.{cases_order}
use Rattle.std.proofs.lemmas.Option.{same_Some}
use Rattle.std.specs.Prelude.{IfOk, IfErr, MatchResult}
use Rattle.serde_json.specs.Data.{Data}
use Rattle.td_job.specs.Imports.{Module, Entry, TypeDef, PlannedStore, Stretch}
use Rattle.td_core.specs.Entries.{IsFirstNamed, entry_definition}
use Rattle.td_job.specs.declared.error.Key.TheVariants as key
use Rattle.td_job.specs.declared.error.JobError.{JobError}
use Rattle.td_job.specs.declared.error.JobError.TheVariants.{NoMemory}
use Rattle.td_job.specs.declared.run_job.RunJob.{RunJob}
use Rattle.td_core.specs.Formed.{AllFit, params_at, cells_at}
use Rattle.td_job.specs.Fields.{Reads, text_of, field_of, IsFirst}
use Rattle.td_job.specs.Values.{given_args, given_cells}
use Rattle.td_job.specs.Jobs.{Given, given, EntryFault, IsEntry, FirstFaultBy, later_faults, IsJob, IsRunJob, RefusedJobBy, RefusedJobOf, RefusedJob, HasValues}
use Rattle.td_job.specs.Words.{IsFilled}
use Rattle.td_job.proofs.Bytes.{filled_once}
use Rattle.td_job.proofs.Numbers.{both_empty, args_fit, cells_fit}

one_number : (m : Module) (name : List ℕ) (a b : Entry) → IsFirstNamed m name a → IsFirstNamed m name b → a.number ≡ b.number
one_number m name a b ha hb =
    elim (cases_order a.number b.number) [
      | inl same ↦ same
      | inr (inl less) ↦ absurd (hb.first a.number less ha.named)
      | inr (inr more) ↦ absurd (ha.first b.number more hb.named)
    ]

pub one_entry : (m : Module) (name : Option (List ℕ)) (a b : Entry) → IsEntry m name a → IsEntry m name b → a ≡ b
one_entry m None a b ha hb = absurd ha
one_entry m (Some name) a b ha hb =
    let numbered : ℕ → Entry = λ n. record { number = n } in
    ap numbered (one_number m name a b ha.1 hb.1)

pub one_entry_fault : (m : Module) (name : Option (List ℕ)) (a b : JobError) → EntryFault m name a → EntryFault m name b → a ≡ b
one_entry_fault m None a b ha hb = ha ∙ sym hb
one_entry_fault m (Some name) a b ha hb = ha.0 ∙ sym hb.0

pub entry_or_fault : (m : Module) (name : Option (List ℕ)) (entry : Entry) (e : JobError) → IsEntry m name entry → EntryFault m name e → ⊥
entry_or_fault m None entry e h wrong = h
entry_or_fault m (Some name) entry e h wrong = wrong.1 entry.number h.0 h.1.named

pub one_first : (faults : List JobError) (a b : JobError) → IsFirst faults a → IsFirst faults b → a ≡ b
one_first faults a b ha hb = let ia = ha.is in let ib = hb.is in cc

-- what is wrong with a job after its entry point, by the entry point or by its definition
abbrev pub LaterBy : Type 0
LaterBy = Module → Entry → Data → List JobError

abbrev pub Later : Type 0
Later = Option TypeDef → Data → List JobError

abbrev pub by_definition : Later → LaterBy
by_definition later m entry job = later (entry_definition m entry.number) job

one_fault : (later : LaterBy) (m : Module) (job : Data) (a b : JobError) → FirstFaultBy later m job a → FirstFaultBy later m job b → a ≡ b
one_fault later m job a b (inl ha) (inl hb) = one_entry_fault m (text_of key.Entry job) a b ha hb
one_fault later m job a b (inl ha) (inr hb) = absurd (entry_or_fault m (text_of key.Entry job) hb.0 a hb.1 ha)
one_fault later m job a b (inr ha) (inl hb) = absurd (entry_or_fault m (text_of key.Entry job) ha.0 b ha.1 hb)
one_fault later m job a b (inr ha) (inr hb) =
    let same = one_entry m (text_of key.Entry job) hb.0 ha.0 hb.1 ha.1 in
    one_first (later m ha.0 job) a b ha.2 (subst (λ (entry : Entry). IsFirst (later m entry job) b) same hb.2)

faultless_or_fault : (later : LaterBy) (m : Module) (job : Data) (entry : Entry) (e : JobError) → IsEntry m (text_of key.Entry job) entry
    → later m entry job ≡ [] → FirstFaultBy later m job e → ⊥
faultless_or_fault later m job entry e named none (inl wrong) = entry_or_fault m (text_of key.Entry job) entry e named wrong
faultless_or_fault later m job entry e named none (inr wrong) =
    let same = one_entry m (text_of key.Entry job) wrong.0 entry wrong.1 named in
    let first = subst (λ (entry : Entry). IsFirst (later m entry job) e) same wrong.2 in
    let some = first.is in
    absurd (cc)

-- jobs with the same parts are the same
pub same_jobs : (a b : RunJob) → a.entry ≡ b.entry → a.args ≡ b.args → a.cells ≡ b.cells → a.words ≡ b.words → a.length ≡ b.length → a.layout ≡ b.layout → a.stores ≡ b.stores → a.written ≡ b.written → a ≡ b
same_jobs a b entry args cells words length layout stores written =
    λ i. record { entry = entry i; args = args i; cells = cells i; words = words i; length = length i; layout = layout i; stores = stores i; written = written i }

one_job : (m : Module) (job : Data) (a b : RunJob) → IsJob m job a → IsJob m job b → a ≡ b
one_job m job a b ha hb =
    let entry = one_entry m (text_of key.Entry job) a.entry b.entry ha.named hb.named in
    let args = ha.args ∙ ap (λ (e : Entry). given_args (entry_definition m e.number) job) entry ∙ sym hb.args in
    let cells = ha.cells ∙ ap (λ (e : Entry). given_cells (entry_definition m e.number) job) entry ∙ sym hb.cells in
    let same : given m a.entry job ≡ given m b.entry job = ap (λ (e : Entry). given m e job) entry in
    let filled = subst (λ (g : Given). IsFilled g.bytes g.words b.words) (sym same) hb.filled in
    let words = filled_once (given m a.entry job).bytes (given m a.entry job).words a.words b.words ha.filled filled in
    let length = same_Some a.length b.length (sym ha.as_long ∙ ap (λ (g : Given). g.length) same ∙ hb.as_long) in
    let layout = ha.layout ∙ ap (λ (g : Given). g.layout) same ∙ sym hb.layout in
    let written = ha.written ∙ ap (λ (g : Given). g.written) same ∙ sym hb.written in
    same_jobs a b entry args cells words length layout (ha.stored ∙ sym hb.stored) written

pub one_value : (bytes : List ℕ) (a b : Data) → Reads bytes a → Reads bytes b → a ≡ b
one_value bytes a b ha hb = let ia = ha.1 in let ib = hb.1 in cc

pub one_run_job : (bytes : List ℕ) (m : Module) (a b : RunJob) → IsRunJob bytes m a → IsRunJob bytes m b → a ≡ b
one_run_job bytes m a b ha hb =
    let same = one_value bytes hb.0 ha.0 hb.1 ha.1 in
    one_job m ha.0 a b ha.2 (subst (λ job. IsJob m job b) same hb.2)

-- bytes are refused for one cause alone
pub one_refusal_by : (later : LaterBy) (bytes : List ℕ) (m : Module) (a b : JobError) → RefusedJobBy later bytes m a → RefusedJobBy later bytes m b → a ≡ b
one_refusal_by later bytes m a b (inl ha) (inl hb) = ha.0 ∙ sym hb.0
one_refusal_by later bytes m a b (inl ha) (inr hb) = absurd (ha.1 hb.0 hb.1)
one_refusal_by later bytes m a b (inr ha) (inl hb) = absurd (hb.1 ha.0 ha.1)
one_refusal_by later bytes m a b (inr ha) (inr hb) =
    let same = one_value bytes hb.0 ha.0 hb.1 ha.1 in
    one_fault later m ha.0 a b ha.2 (subst (λ job. FirstFaultBy later m job b) same hb.2)

pub one_refusal : (later : Later) (bytes : List ℕ) (m : Module) (a b : JobError) → RefusedJobOf later bytes m a → RefusedJobOf later bytes m b → a ≡ b
one_refusal later = one_refusal_by (by_definition later)

-- bytes that stand for a job without a fault aren't refused
faultless_or_refusal_by : (later : LaterBy) (bytes : List ℕ) (m : Module) (job : Data) (entry : Entry) (e : JobError) → Reads bytes job
    → IsEntry m (text_of key.Entry job) entry → later m entry job ≡ [] → RefusedJobBy later bytes m e → ⊥
faultless_or_refusal_by later bytes m job entry e reads named none (inl wrong) = wrong.1 job reads
faultless_or_refusal_by later bytes m job entry e reads named none (inr wrong) =
    let same = one_value bytes wrong.0 job wrong.1 reads in
    faultless_or_fault later m job entry e named none (subst (λ job. FirstFaultBy later m job e) same wrong.2)

pub faultless_or_refusal : (later : Later) (bytes : List ℕ) (m : Module) (job : Data) (entry : Entry) (e : JobError) → Reads bytes job
    → IsEntry m (text_of key.Entry job) entry → later (entry_definition m entry.number) job ≡ [] → RefusedJobOf later bytes m e → ⊥
faultless_or_refusal later = faultless_or_refusal_by (by_definition later)

pub job_or_refusal : (bytes : List ℕ) (m : Module) (j : RunJob) (e : JobError) → IsRunJob bytes m j → RefusedJob bytes m e → ⊥
job_or_refusal bytes m j e h wrong = faultless_or_refusal_by later_faults bytes m h.0 j.entry e h.1 h.2.named h.2.faultless wrong

abbrev pub Answer : Type 0
Answer = Result RunJob JobError

-- an answer that is right where it is a job, and has a cause where it is an error, is the only one
pub complete : {J : Type 0} (Is : J → Type 0) (Refuses : JobError → Type 0) (answer : Result J JobError) → ((a b : J) → Is a → Is b → a ≡ b) → ((j : J) (e : JobError) → Is j → Refuses e → ⊥)
    → IfOk answer Is → IfErr answer (λ e. (e ≡ NoMemory) ⊎ Refuses e)
    → (j : J) → Is j → MatchResult answer (λ found. found ≡ j) (λ e. e ≡ NoMemory)
complete Is Refuses (Ok found) one never right cause j h = one found j right h
complete Is Refuses (Err e) one never right (inl memory) j h = memory
complete Is Refuses (Err e) one never right (inr wrong) j h = absurd (never j e h wrong)

pub exact : {J : Type 0} (Is : J → Type 0) (Refuses : JobError → Type 0) (answer : Result J JobError) → ((a b : JobError) → Refuses a → Refuses b → a ≡ b) → ((j : J) (e : JobError) → Is j → Refuses e → ⊥)
    → IfOk answer Is → IfErr answer (λ e. (e ≡ NoMemory) ⊎ Refuses e)
    → (e : JobError) → Refuses e → (answer ≡ Err e) ⊎ (answer ≡ Err NoMemory)
exact Is Refuses (Ok found) one never right cause e h = absurd (never found e right h)
exact Is Refuses (Err other) one never right (inl memory) e h = inr (ap Err memory)
exact Is Refuses (Err other) one never right (inr wrong) e h = inl (ap Err (one other e wrong h))

pub named_within : (m : Module) (name : Option (List ℕ)) (entry : Entry) → IsEntry m name entry → entry.number < length m.entries
named_within m None entry h = absurd h
named_within m (Some name) entry h = h.1.named.0

-- the entry point of a job is one of the module's
pub within : (bytes : List ℕ) (m : Module) (answer : Answer) → IfOk answer (IsRunJob bytes m)
    → IfOk answer (λ j. j.entry.number < length m.entries)
within bytes m (Ok j) h = named_within m (text_of key.Entry h.0) j.entry h.2.named
within bytes m (Err e) h = tt

values : (m : Module) (job : Data) (j : RunJob) → IsJob m job j → HasValues m j
values m job j h =
    let d = entry_definition m j.entry.number in
    let names = both_empty _ _ h.faultless in
    let stores = both_empty _ _ names.0 in
    let message = both_empty _ _ stores.0 in
    let lists = both_empty _ _ message.0 in
    record {
      args = subst (AllFit (params_at d)) (sym h.args) (args_fit (params_at d) (field_of key.Args job) lists.0);
      cells = subst (AllFit (cells_at d)) (sym h.cells) (cells_fit (cells_at d) (field_of key.Cells job) lists.1);
    }

-- each parameter and cell of a job has a value that fits
pub all_fit : (bytes : List ℕ) (m : Module) (answer : Answer) → IfOk answer (IsRunJob bytes m) → IfOk answer (HasValues m)
all_fit bytes m (Ok j) h = values m h.0 j h.2
all_fit bytes m (Err e) h = tt
