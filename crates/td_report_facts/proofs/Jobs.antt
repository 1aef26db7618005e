-- Words and stores of a job are of 64 bits, and its numbers fit.
use Rattle.std.proofs.Common.{◌≡◌, ℕ, ◌%◌, ◌/◌, ◌^◌, ◌<◌, ◌≤◌, Bool, true, false, ◌==◌, nat_lt, List, [], length, length-append, Option, Some, None, Result, Ok, Err, refl, sym, subst, arith, option_map}
use Rattle.std.specs.Prelude.{if◌then◌else◌, option_and_then, IfSome}
use Rattle.std.specs.List.{All}
use Rattle.std.proofs.lemmas.Bool.Decides.{nat_tests}
use Rattle.std.proofs.lemmas.Option.{same_Some, none-some}
use Rattle.std.proofs.lemmas.List.Elements.{All-nil, All-cons, All-append, All-from_get_or}
use Rattle.hex.specs.Hex.{decode_pairs, decode_sized}
use Rattle.hex.proofs.HexLemmas.{decode_pairs-ok}
use Rattle.hex.specs.declared.error.FromHexError.{FromHexError}
use Rattle.hex.specs.declared.error.FromHexError.TheVariants.{OddLength, InvalidStringLength}
use Rattle.serde_json.specs.Data.{Data, Items, no_items, item}
use Rattle.serde_json.specs.Events.{items_len}
use Rattle.serde_json.specs.Find.{as_array}
use Rattle.td_stream.specs.declared.layout.TheConstants.{MOST_STRETCHES}
use Rattle.td_report_facts.specs.Imports.{Module, PlannedStore, RunJob}
use Rattle.td_job.specs.declared.error.Key.TheVariants as key
use Rattle.td_num.specs.Lists.{AreBytes}
use Rattle.td_num.specs.Numbers.{rising_at}
use Rattle.td_num.proofs.Digits.{rising_small}
use Rattle.td_job.specs.Fields.{Reads, field_of, number_of}
use Rattle.td_job.specs.declared.error.JobError.TheVariants.{Fault}
use Rattle.td_job.specs.declared.error.JobRule.TheVariants as rule
use Rattle.td_job.specs.declared.error.Path.TheVariants as path
use Rattle.td_job.specs.Values.{or_zero, given_args, given_cells}
use Rattle.td_job.specs.Written.{datum_of}
use Rattle.td_core.specs.Entries.{entry_definition}
use Rattle.td_front.specs.Checked.{IsChecked}
use Rattle.td_write_values.specs.declared.limits.TheConstants.{MOST_WRITTEN}
use Rattle.td_meaning.specs.Copies.{opened}
use Rattle.td_write_values.specs.Spelling.{spelling}
use Rattle.td_write_spells.specs.Laws.{WritingIsExact, KindsAreAdmitted}
use Rattle.td_write.specs.Answers.{IsWritable}
use Rattle.td_report.specs.Laws.{IsWritten}
use Rattle.td_job.specs.declared.checks.TheConstants.{MOST_BYTES}
use Rattle.td_job.specs.Stretches.{spelled_stretch, stretch_of, each_stretch, layout_faults, stretches_faults, layout_of}
use Rattle.td_job.specs.Jobs.{length_faults, given_bytes, given_by, spelled_or_none, Spelled, spelled_store, word_in, spelled_word, store_with, store_of, each_store, listed_stores, IsJob, IsJobWith, IsRunJob}
use Rattle.td_report_facts.specs.Laws.{AreSized, IsSized, JobsAreSized}
use Rattle.td_job.proofs.Numbers.{both_empty, not_over}
use Rattle.td_job.proofs.Scattered.{short, lies_there, one_at_most as few_of}
use Rattle.td_job.proofs.Unique.{within, all_fit}
use Rattle.td_job.proofs.Existing.{written_bytes}
use Rattle.td_job.proofs.Writing.{faultless_short}
use Rattle.td_report_facts.proofs.Reading.{Small, SmallItems, read_small, field_small, list_small, stretches_low}

-- ---- stores

decoded_small : (text : List ℕ) (n : ℕ) (bytes : List ℕ) → decode_sized text n ≡ Ok bytes → AreBytes bytes
decoded_small text n bytes e = by (length text % 2 == 1) (length text / 2 == n) e
  where
    by : (x y : Bool) → (if x then Err OddLength else if y then decode_pairs 0 text else Err InvalidStringLength) ≡ Ok bytes → AreBytes bytes
    by true y h = absurd cc
    by false true h = (decode_pairs-ok 0 text bytes h).2
    by false false h = absurd cc

pub word_small : (text : List ℕ) (v : ℕ) → spelled_word text ≡ Some v → v < 2 ^ 64
word_small text v e = by (decode_sized text 8) refl e
  where
    by : (r : Result (List ℕ) FromHexError) → decode_sized text 8 ≡ r → word_in r ≡ Some v → v < 2 ^ 64
    by (Err x) f h = absurd (none-some v h)
    by (Ok bytes) f h = omega (arith, rising_small bytes (decoded_small text 8 bytes f) 0 8, same_Some (rising_at bytes 0 8) v h)

abbrev SmallStore : PlannedStore → Type 0
SmallStore s = s.value < 2 ^ 64

store_small : (o : Option Spelled) → All SmallStore (store_of o)
store_small None = All-nil SmallStore
store_small (Some s) = by (spelled_word s.text) refl
  where
    by : (o : Option ℕ) → spelled_word s.text ≡ o → All SmallStore (store_with s o)
    by None e = All-nil SmallStore
    by (Some v) e = All-cons SmallStore (record { before = s.before; word = s.word; value = v }) [] (word_small s.text v e) (All-nil SmallStore)

each_small : (values : Items) → All SmallStore (each_store values)
each_small no_items = All-nil SmallStore
each_small (item value values) = All-append SmallStore (store_of (spelled_store value)) (each_store values) (store_small (spelled_store value)) (each_small values)

listed_small : (o : Option Items) → All SmallStore (listed_stores o)
listed_small None = All-nil SmallStore
listed_small (Some values) = each_small values

-- ---- stretches

few_each : (values : Items) → length (each_stretch values) ≤ items_len values
few_each no_items = omega arith
few_each (item value values) =
    let here = few_of (spelled_stretch value) in
    let more = few_each values in
    let both = length-append (stretch_of (spelled_stretch value)) (each_stretch values) in
    omega (arith, here, more, both)

layout_sized : (given n : ℕ) (o : Option Items) → IfSome o SmallItems → layout_faults given n o ≡ [] → AreSized (option_map each_stretch o)
layout_sized given n None small h = tt
layout_sized given n (Some values) small h =
    let sum = both_empty _ _ h in
    let each = both_empty _ _ sum.0 in
    let many : nat_lt MOST_STRETCHES (items_len values) ≡ false = not_over _ (Fault rule.Limit (path.Whole key.Stretches)) each.0 in
    let few : items_len values ≤ MOST_STRETCHES = grind (arith, nat_tests, many) in
    let here = few_each values in
    record { few = omega (arith, here, few); places = stretches_low values small }

stretches_sized : (given : ℕ) (n : Option ℕ) (o : Option Data) → IfSome o Small → stretches_faults given n o ≡ [] → AreSized (layout_of o)
stretches_sized given n None small h = tt
stretches_sized given n (Some value) small h = layout_sized given (or_zero n) (as_array value) (list_small value small) h

-- ---- the message

record Shaped (j : RunJob) : Type 0 where
  limit : j.length ≤ MOST_BYTES
  stretches : AreSized j.layout
  written : IsWritten j.written

writable : (m : Module) → IsChecked m → IsWritable m
writable m checked = record { formed = checked.formed; copying = checked.copying; kinds = checked.kinds; safe = checked.safe }

shaped : WritingIsExact → KindsAreAdmitted → (m : Module) (job : Data) (j : RunJob) (o : Option Data) → IsChecked m → Small job → IsJobWith (given_by o m j.entry job) m job j → Shaped j
shaped law kinds m job j None checked small h =
    let names = both_empty _ _ h.faultless in
    let stores = both_empty _ _ names.0 in
    let fields = both_empty _ _ stores.0 in
    let stretches = both_empty _ _ fields.1 in
    let lengths = both_empty _ _ stretches.0 in
    let field = field_of key.Stretches job in
    let given = length (given_bytes job) in
    record {
      limit = short field given j.length (subst (λ (n : Option ℕ). length_faults field given n ≡ []) h.as_long lengths.1);
      stretches = subst AreSized (sym h.layout) (stretches_sized given (number_of key.Length job) field (field_small key.Stretches job small) stretches.1);
      written = subst IsWritten (sym h.written) tt;
    }
shaped law kinds m job j (Some value) checked small h =
    let d = entry_definition m j.entry.number in
    let args = given_args d job in
    let cells = given_cells d job in
    let names = both_empty _ _ h.faultless in
    let stores = both_empty _ _ names.0 in
    let fields = both_empty _ _ stores.0 in
    let writing = both_empty _ _ fields.1 in
    let bytes = spelled_or_none (spelling m j.entry args (opened m j.entry cells) (datum_of value)) in
    let few : length bytes ≤ MOST_WRITTEN = faultless_short law kinds m j.entry args cells (datum_of value) (writable m checked) writing.1 in
    let long = same_Some (length bytes) j.length h.as_long in
    record {
      limit = omega (arith, few, long);
      stretches = subst AreSized (sym h.layout) tt;
      written = subst IsWritten (sym h.written) (written_bytes m j.entry args (opened m j.entry cells) value (spelling m j.entry args (opened m j.entry cells) (datum_of value)) refl);
    }

sized : WritingIsExact → KindsAreAdmitted → (bytes : List ℕ) (m : Module) (job : Data) (j : RunJob) → IsChecked m → Reads bytes job → IsRunJob bytes m j → IsJob m job j → IsSized m j
sized law kinds bytes m job j checked reads run h =
    let message = shaped law kinds m job j (field_of key.Value job) checked (read_small bytes job reads) h in
    record {
      entry = within bytes m (Ok j) run;
      values = all_fit bytes m (Ok j) run;
      long = (lies_there m job j h).long;
      limit = message.limit;
      stretches = message.stretches;
      words = All-from_get_or (λ word. word < 2 ^ 64) j.words 0 h.filled.fits;
      stores = subst (All SmallStore) (sym h.stored) (listed_small (option_and_then as_array (field_of key.Stores job)));
      written = message.written;
    }

pub jobs_are_sized : WritingIsExact → KindsAreAdmitted → JobsAreSized
jobs_are_sized law kinds bytes m j checked h = sized law kinds bytes m h.0 j checked h.1 h h.2
