-- Each list of bytes stands for a run job or is refused. Cited by other crates.
use Rattle.std.proofs.Common.{◌≡◌, ℕ, zero, suc, ◌%◌, ◌==◌, ◌<◌, ◌^◌, List, [], ◌∷◌, length, Bool, true, false, if◌then◌else◌, Option, Some, None, Result, Ok, Err, ◌⊎◌, inl, inr, refl, ap, subst, arith, lit<}
use Rattle.std.proofs.lemmas.Bool.{cases_lt}
use Rattle.std.proofs.lemmas.Str.{IsUtf8-from_is_utf8, is_utf8-from_IsUtf8}
use Rattle.std.proofs.lemmas.Slice.Eq.{bytes_eq-Decides}
use Rattle.std.specs.Prelude.{bytes_eq, slice_get, IsUtf8}
use Rattle.std.specs.Str.{is_utf8}
use Rattle.std.specs.List.{All}
use Rattle.std.proofs.lemmas.List.Elements.{All-nil, All-from_get_or}
use Rattle.serde_json.specs.Data.{Data, null, boolean, number, string, array, object, Items, no_items, item}
use Rattle.serde_json.specs.Find.{as_u64}
use Rattle.serde_json.specs.Read.{read as read_text}
use Rattle.hex.specs.Hex.{decode_of, decode_pairs}
use Rattle.hex.specs.declared.error.FromHexError.{FromHexError}
use Rattle.hex.specs.declared.error.FromHexError.TheVariants.{OddLength}
use Rattle.hex.proofs.HexLemmas.{decode_pairs-ok}
use Rattle.td_num.specs.Lists.{AreBytes}
use Rattle.td_num.proofs.Digits.{are_bytes}
use Rattle.td_job.specs.Imports.{Module, Entry, TypeDef}
use Rattle.td_core.specs.Entries.{IsEntryNamed, HasName, entry_definition}
use Rattle.td_write_values.specs.Datum.{data_of}
use Rattle.td_write_values.specs.Spelling.{spelling}
use Rattle.td_write_spells.specs.Laws.{HoldsBytes, HoldBytes}
use Rattle.td_write_spells.proofs.Small.{spelled_are_bytes}
use Rattle.td_job.specs.declared.error.Key.TheVariants as key
use Rattle.td_job.specs.declared.error.Path.TheVariants as path
use Rattle.td_job.specs.declared.error.JobError.{JobError}
use Rattle.td_job.specs.declared.error.JobRule.TheVariants as rule
use Rattle.td_job.specs.declared.error.JobError.TheVariants.{Fault}
use Rattle.td_job.specs.declared.run_job.RunJob.{RunJob}
use Rattle.td_job.specs.Fields.{Reads, field_of, text_of, bytes_or_none}
use Rattle.td_meaning.specs.Copies.{opened}
use Rattle.td_job.specs.Values.{given_args, given_cells}
use Rattle.td_job.specs.Written.{number_datum, datum_of, datums_of}
use Rattle.td_job.specs.Jobs.{given, given_by, given_stores, spelled_bytes, spelled_or_none, EntryFault, IsEntry, FirstFaultBy, FirstFaultOf, later_faults, length_faults, IsJob, IsRunJob, RefusedJobBy, RefusedJobOf, RefusedJob}
use Rattle.td_job.proofs.Bytes.{filled}
use Rattle.td_job.proofs.Numbers.{both_empty}
use Rattle.td_job.proofs.Unique.{Later, LaterBy, by_definition}

none_small : AreBytes []
none_small i = lit< tt

by_parity : (odd : Bool) (text bytes : List ℕ) → (if odd then Err OddLength else decode_pairs 0 text) ≡ Ok bytes → decode_pairs 0 text ≡ Ok bytes
by_parity true text bytes h = absurd (cc)
by_parity false text bytes h = h

decoded_small : (text : List ℕ) (r : Result (List ℕ) FromHexError) → decode_of text ≡ r → AreBytes (bytes_or_none r)
decoded_small text (Ok bytes) h = (decode_pairs-ok 0 text bytes (by_parity (length text % 2 == 1) text bytes h)).2
decoded_small text (Err e) h = none_small

-- what a job gives are bytes
pub spelled_small : (text : Option (List ℕ)) → AreBytes (spelled_bytes text)
spelled_small None = none_small
spelled_small (Some text) = decoded_small text (decode_of text) refl

-- so are those in a value
number_holds : (n : Option ℕ) → HoldsBytes (number_datum n)
number_holds None = tt
number_holds (Some n) = tt

bytes_hold : (bytes : List ℕ) → AreBytes bytes → All (λ b. b < 256) bytes
bytes_hold bytes small = All-from_get_or (λ b. b < 256) bytes 0 (λ i h. small i)

mutual
  datum_holds : (value : Data) → HoldsBytes (datum_of value)
  datum_holds null = tt
  datum_holds (boolean b) = tt
  datum_holds (number n) = number_holds (as_u64 n)
  datum_holds (string text) = bytes_hold (bytes_or_none (decode_of text)) (decoded_small text (decode_of text) refl)
  datum_holds (array values) = data_hold values
  datum_holds (object fields) = tt

  data_hold : (values : Items) → HoldBytes (data_of (datums_of values))
  data_hold no_items = tt
  data_hold (item value values) = (datum_holds value, data_hold values)

-- and those that spell one
pub written_bytes : (m : Module) (entry : Entry) (args cells : List ℕ) (value : Data) (o : Option (List ℕ)) → spelling m entry args cells (datum_of value) ≡ o → All (λ b. b < 256) (spelled_or_none o)
written_bytes m entry args cells value None e = All-nil (λ b. b < 256)
written_bytes m entry args cells value (Some bytes) e = spelled_are_bytes m entry args cells (datum_of value) bytes (datum_holds value) e

written_small : (m : Module) (entry : Entry) (args cells : List ℕ) (value : Data) → AreBytes (spelled_or_none (spelling m entry args cells (datum_of value)))
written_small m entry args cells value =
    are_bytes (spelled_or_none (spelling m entry args cells (datum_of value))) (written_bytes m entry args cells value (spelling m entry args cells (datum_of value)) refl)

same_name : (found : Option (List ℕ)) (name : List ℕ) → (found ≡ Some name) ⊎ (found ≡ Some name → ⊥)
same_name None name = inr (λ h. cc)
same_name (Some x) name = by_test (bytes_eq x name) refl
  where
    by_test : (test : Bool) → bytes_eq x name ≡ test → (Some x ≡ Some name) ⊎ (Some x ≡ Some name → ⊥)
    by_test true e = inl (ap Some ((bytes_eq-Decides x name).0 e))
    by_test false e = inr (λ h. let same : x ≡ name = cc in let yes = (bytes_eq-Decides x name).1 same in cc)

has_name : (m : Module) (name : List ℕ) (d : Option TypeDef) → HasName m name d ⊎ (HasName m name d → ⊥)
has_name m name None = inr (λ h. h)
has_name m name (Some d) = same_name (slice_get m.names d.name.number) name

is_named : (m : Module) (name : List ℕ) (n : ℕ) → IsEntryNamed m name n ⊎ (IsEntryNamed m name n → ⊥)
is_named m name n =
    elim (cases_lt n (length m.entries)) [
      | inl within ↦
          elim (has_name m name (entry_definition m n)) [
            | inl has ↦ inl (within, has)
            | inr lacks ↦ inr (λ h. lacks h.1)
          ]
      | inr past ↦ inr (λ h. let within = h.0 in absurd (omega (arith, within, past)))
    ]

pub record Found (m : Module) (name : List ℕ) : Type 0 where
  pub number : ℕ
  pub named : IsEntryNamed m name number
  pub first : (n : ℕ) → n < number → IsEntryNamed m name n → ⊥

-- the first entry point of a name, among so many
searched : (m : Module) (name : List ℕ) (count : ℕ) → Found m name ⊎ ((n : ℕ) → n < count → IsEntryNamed m name n → ⊥)
searched m name zero = inr (λ n less h. absurd (omega (arith, less)))
searched m name (suc k) =
    elim (searched m name k) [
      | inl found ↦ inl found
      | inr none ↦
          elim (is_named m name k) [
            | inl here ↦ inl (record { number = k; named = here; first = none })
            | inr other ↦ inr (λ n less h. elim (cases_lt n k) [
              | inl before ↦ none n before h
              | inr at ↦ let same : n ≡ k = omega (arith, less, at) in other (subst (IsEntryNamed m name) same h)
            ])
          ]
    ]

pub entry_or_fault : (m : Module) (name : Option (List ℕ)) → ((entry : Entry) × IsEntry m name entry) ⊎ ((e : JobError) × EntryFault m name e)
entry_or_fault m None = inr (Fault rule.Form (path.Whole key.Entry), refl)
entry_or_fault m (Some name) =
    elim (searched m name (length m.entries)) [
      | inl found ↦
          elim (cases_lt found.number (2 ^ 32)) [
            | inl small ↦ inl (record { number = found.number }, (small, record { named = found.named; first = found.first }))
            | inr large ↦ inr (Fault rule.NoEntry (path.Whole key.Entry), (refl, λ n less h. found.first n (omega (arith, less, large)) h))
          ]
      | inr none ↦ inr (Fault rule.NoEntry (path.Whole key.Entry), (refl, λ n less h. none n h.0 h))
    ]

has_length : (stretches : Option Data) (given : ℕ) (number : Option ℕ) → length_faults stretches given number ≡ [] → (n : ℕ) × (number ≡ Some n)
has_length stretches given None h = absurd (cc)
has_length stretches given (Some n) h = (n, refl)

-- what a job without a fault says of its message are bytes and a length
has_message : (o : Option Data) (m : Module) (entry : Entry) (job : Data) → (given_by o m entry job).faults ≡ [] → AreBytes (given_by o m entry job).bytes × ((n : ℕ) × ((given_by o m entry job).length ≡ Some n))
has_message None m entry job h =
    let stretches = both_empty _ _ h in
    let length = both_empty _ _ stretches.0 in
    (spelled_small (text_of key.Bytes job), has_length _ _ _ length.1)
has_message (Some value) m entry job h =
    (written_small m entry (given_args (entry_definition m entry.number) job) (opened m entry (given_cells (entry_definition m entry.number) job)) value, (length (given_by (Some value) m entry job).bytes, refl))

faultless_job : (m : Module) (job : Data) (entry : Entry) → IsEntry m (text_of key.Entry job) entry → later_faults m entry job ≡ []
    → (j : RunJob) × IsJob m job j
faultless_job m job entry named faultless =
    let d = entry_definition m entry.number in
    let g = given m entry job in
    let names = both_empty _ _ faultless in
    let stores = both_empty _ _ names.0 in
    let fields = both_empty _ _ stores.0 in
    let message = has_message (field_of key.Value job) m entry job fields.1 in
    let words = filled g.bytes g.words message.0 in (
      record { entry = entry; args = given_args d job; cells = given_cells d job; words = words.0; length = message.1.0; layout = g.layout; stores = given_stores job; written = g.written },
      record { named = named; faultless = faultless; args = refl; cells = refl; filled = words.1; as_long = message.1.1; layout = refl; written = refl; stored = refl },
    )

by_faults : (later : LaterBy) (m : Module) (job : Data) (J : Type 0) → (entry : Entry) → IsEntry m (text_of key.Entry job) entry
    → (later m entry job ≡ [] → J) → (faults : List JobError) → later m entry job ≡ faults
    → J ⊎ ((e : JobError) × FirstFaultBy later m job e)
by_faults later m job J entry named make [] h = inl (make h)
by_faults later m job J entry named make (e ∷ others) h = inr (e, inr (entry, named, record { others = others; is = h }))

-- a job has no fault, and then there is what is made of it, or a first one
made_or_fault_by : (later : LaterBy) (m : Module) (job : Data) (J : Type 0)
    → ((entry : Entry) → IsEntry m (text_of key.Entry job) entry → later m entry job ≡ [] → J)
    → J ⊎ ((e : JobError) × FirstFaultBy later m job e)
made_or_fault_by later m job J make =
    elim (entry_or_fault m (text_of key.Entry job)) [
      | inl found ↦ by_faults later m job J found.0 found.1 (make found.0 found.1) (later m found.0 job) refl
      | inr wrong ↦ inr (wrong.0, inl wrong.1)
    ]

pub made_or_fault : (later : Later) (m : Module) (job : Data) (J : Type 0)
    → ((entry : Entry) → IsEntry m (text_of key.Entry job) entry → later (entry_definition m entry.number) job ≡ [] → J)
    → J ⊎ ((e : JobError) × FirstFaultOf later m job e)
made_or_fault later = made_or_fault_by (by_definition later)

-- what bytes come to where each text that they stand for comes to a J or is refused
Answered : LaterBy → (Data → Type 0) → List ℕ → Module → Type 0
Answered later J bytes m = ((job : Data) × Reads bytes job × J job) ⊎ ((e : JobError) × RefusedJobBy later bytes m e)

no_json : (later : LaterBy) (J : Data → Type 0) (bytes : List ℕ) (m : Module) → ((job : Data) → Reads bytes job → ⊥) → Answered later J bytes m
unfolding Answered
no_json later J bytes m none = inr (Fault rule.NotJson path.Job, inl (refl, none))

by_value : (later : LaterBy) (J : Data → Type 0) (bytes : List ℕ) (m : Module) → ((job : Data) → J job ⊎ ((e : JobError) × FirstFaultBy later m job e))
    → IsUtf8 bytes → (value : Option Data) → read_text bytes ≡ value → Answered later J bytes m
unfolding Answered
by_value later J bytes m each text None h = no_json later J bytes m (λ job reads. let read = reads.1 in absurd (cc))
by_value later J bytes m each text (Some job) h =
    elim (each job) [
      | inl good ↦ inl (job, (text, h), good)
      | inr bad ↦ inr (bad.0, inr (job, (text, h), bad.1))
    ]

by_text : (later : LaterBy) (J : Data → Type 0) (bytes : List ℕ) (m : Module) → ((job : Data) → J job ⊎ ((e : JobError) × FirstFaultBy later m job e))
    → (test : Bool) → is_utf8 bytes ≡ test → Answered later J bytes m
by_text later J bytes m each true h = by_value later J bytes m each (IsUtf8-from_is_utf8 bytes h) (read_text bytes) refl
by_text later J bytes m each false h = no_json later J bytes m (λ job reads. let yes = is_utf8-from_IsUtf8 bytes reads.0 in absurd (cc))

-- bytes stand for a text that comes to a J, or they are refused
made_or_refused_by : (later : LaterBy) (J : Data → Type 0) (bytes : List ℕ) (m : Module) → ((job : Data) → J job ⊎ ((e : JobError) × FirstFaultBy later m job e))
    → ((job : Data) × Reads bytes job × J job) ⊎ ((e : JobError) × RefusedJobBy later bytes m e)
unfolding Answered
made_or_refused_by later J bytes m each = by_text later J bytes m each (is_utf8 bytes) refl

pub made_or_refused : (later : Later) (J : Data → Type 0) (bytes : List ℕ) (m : Module) → ((job : Data) → J job ⊎ ((e : JobError) × FirstFaultOf later m job e))
    → ((job : Data) × Reads bytes job × J job) ⊎ ((e : JobError) × RefusedJobOf later bytes m e)
made_or_refused later = made_or_refused_by (by_definition later)

pub always_one : (bytes : List ℕ) (m : Module) → ((j : RunJob) × IsRunJob bytes m j) ⊎ ((e : JobError) × RefusedJob bytes m e)
always_one bytes m =
    let J : Data → Type 0 = λ job. (j : RunJob) × IsJob m job j in
    elim (made_or_refused_by later_faults J bytes m (λ job. made_or_fault_by later_faults m job (J job) (faultless_job m job))) [
      | inl good ↦ inl (good.2.0, (good.0, good.1, good.2.1))
      | inr bad ↦ inr bad
    ]
