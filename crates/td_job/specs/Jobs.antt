-- What a run job is, and what is wrong with one (own rule).
--
-- A run job is a JSON object with the fields `entry`, `args`, `cells`, `bytes`, `length`, `stretches`, `value` and `stores`. Its
-- faults stand in that order, each field looked at for all that can be wrong with it (a list first for its length, then element by
-- element, and stretches then for their sum), and then the fields of other names; else at one place the lower code stands first. The
-- answer is the first fault. A job that is no object has no field.
--
-- The message lies in bytes that are given; or, where the field `value` stands, of whatever form, it is that value written by the entry
-- point's type, and `bytes`, `length` and `stretches` must not stand beside it.
use Rattle.std.specs.Prelude.{◌≡◌, ℕ, ◌+◌, ◌<◌, ◌≤◌, ◌^◌, List, [], ◌∷◌, ◌++◌, length, Bool, false, ◌||◌, nat_lt, nat_le, if◌then◌else◌, bytes_eq, Option, Some, None, option_and_then, Result, Ok, Err, ◌⊎◌}
use Rattle.std.specs.List.{All}
use Rattle.serde_json.specs.Data.{Data, Items, no_items, item, Members, no_members, member}
use Rattle.serde_json.specs.Events.{items_len}
use Rattle.serde_json.specs.Find.{as_str, as_array, as_object}
use Rattle.hex.specs.Hex.{decode_of, decode_sized}
use Rattle.hex.specs.declared.error.FromHexError.{FromHexError}
use Rattle.td_job.specs.Imports.{Module, Entry, TypeDef, Stretch, PlannedStore}
use Rattle.td_core.specs.Entries.{IsEntryNamed, IsFirstNamed, entry_definition}
use Rattle.td_core.specs.Formed.{AllFit, params_at, cells_at}
use Rattle.td_num.specs.Numbers.{rising_at}
use Rattle.td_stream.specs.Layouts.{length_in, count_in, layout_or_plain, loadable, IsOver}
use Rattle.td_write_values.specs.Spelling.{spelling}
use Rattle.td_meaning.specs.Copies.{opened}
use Rattle.td_write_values.specs.Writing.{writing, whole as whole_numbers}
use Rattle.td_job.specs.declared.error.Key.{Key}
use Rattle.td_job.specs.declared.error.Key.TheVariants as key
use Rattle.td_job.specs.declared.error.JobRule.TheVariants as rule
use Rattle.td_job.specs.declared.error.Path.{Path}
use Rattle.td_job.specs.declared.error.Path.TheVariants as path
use Rattle.td_job.specs.declared.error.JobError.{JobError}
use Rattle.td_job.specs.declared.error.JobError.TheVariants.{Fault}
use Rattle.td_job.specs.declared.run_job.RunJob.{RunJob}
use Rattle.td_job.specs.declared.checks.TheConstants.{MOST_BYTES}
use Rattle.td_job.specs.declared.stores.TheConstants.{MOST_STORES}
use Rattle.td_job.specs.Errors.{key_name}
use Rattle.td_job.specs.Fields.{Reads, field_of, text_of, whole, number_of, bytes_or_none, fault_if, fault_if_none, fault_if_there, IsFirst}
use Rattle.td_job.specs.Stretches.{is_past, words_with, words_by, stretches_faults, given_layout}
use Rattle.td_job.specs.Values.{args_faults, cells_faults, given_args, given_cells}
use Rattle.td_job.specs.Words.{IsFilled}
use Rattle.td_job.specs.Written.{form_of, form_faults, datum_of, write_faults}

-- `entry` is a text (J2), the name of an entry point (J3): of the first one with that name. (Entry points are numbered
-- by 32 bits.)
abbrev pub EntryFault : Module → Option (List ℕ) → JobError → Type 0
EntryFault m None e = e ≡ Fault rule.Form (path.Whole key.Entry)
EntryFault m (Some name) e = (e ≡ Fault rule.NoEntry (path.Whole key.Entry)) × ((n : ℕ) → n < 2 ^ 32 → IsEntryNamed m name n → ⊥)

abbrev pub IsEntry : Module → Option (List ℕ) → Entry → Type 0
IsEntry m None entry = ⊥
IsEntry m (Some name) entry = (entry.number < 2 ^ 32) × IsFirstNamed m name entry

-- A field of bytes is a text (J2) of an even number of hexadecimal digits of either case (J5), two for each byte
abbrev pub digit_faults : Key → Result (List ℕ) FromHexError → List JobError
digit_faults k (Ok bytes) = []
digit_faults k (Err e) = Fault rule.Digits (path.Whole k) ∷ []

abbrev pub bytes_faults : Key → Option (List ℕ) → List JobError
bytes_faults k None = Fault rule.Form (path.Whole k) ∷ []
bytes_faults k (Some text) = digit_faults k (decode_of text)

abbrev pub spelled_bytes : Option (List ℕ) → List ℕ
spelled_bytes None = []
spelled_bytes (Some text) = bytes_or_none (decode_of text)

-- the bytes that a job gives
abbrev pub given_bytes : Data → List ℕ
given_bytes job = spelled_bytes (text_of key.Bytes job)

-- `length` is a whole number (J2), where there are no stretches at most that of the bytes given (J7), and at most a MiB (J8)
abbrev pub length_faults : Option Data → ℕ → Option ℕ → List JobError
length_faults stretches given None = Fault rule.Form (path.Whole key.Length) ∷ []
length_faults stretches given (Some n) = fault_if (is_past stretches given n) (Fault rule.PastBytes (path.Whole key.Length)) ++ fault_if (nat_lt MOST_BYTES n) (Fault rule.Limit (path.Whole key.Length))

-- how many words a job has
abbrev pub job_words : Data → ℕ
job_words job = words_by (field_of key.Stretches job) (length (given_bytes job)) (number_of key.Length job)

-- a store as a job spells it: the number of the load before which it is made, from 0, the word's number, from 0, and
-- the word's bytes as hexadecimal digits
pub record Spelled : Type 0 where
  pub before : ℕ
  pub word : ℕ
  pub text : List ℕ

-- the store of its three parts, where each has its form
abbrev pub spelled_by : Option ℕ → Option ℕ → Option (List ℕ) → Option Spelled
spelled_by None word text = None
spelled_by (Some before) None text = None
spelled_by (Some before) (Some word) None = None
spelled_by (Some before) (Some word) (Some text) = Some (record { before = before; word = word; text = text })

abbrev pub three_parts : Items → Option Spelled
three_parts no_items = None
three_parts (item a no_items) = None
three_parts (item a (item b no_items)) = None
three_parts (item a (item b (item c no_items))) = spelled_by (whole a) (whole b) (as_str c)
three_parts (item a (item b (item c (item d others)))) = None

-- a list of exactly a whole number, a whole number and a text; none where the value is anything else
abbrev pub spelled_store : Data → Option Spelled
spelled_store value = option_and_then three_parts (as_array value)

-- the word of exactly 16 hexadecimal digits of either case, two for each of its eight bytes: their sum by rising powers
-- of 256; none where the text is anything else
abbrev pub word_in : Result (List ℕ) FromHexError → Option ℕ
word_in (Ok bytes) = Some (rising_at bytes 0 8)
word_in (Err e) = None

abbrev pub spelled_word : List ℕ → Option ℕ
spelled_word text = word_in (decode_sized text 8)

-- An element of `stores` is such a list (J2) with the digits of a word (J5) and the number of a word of the job
-- (J6).
abbrev pub store_faults : ℕ → Path → Option Spelled → List JobError
store_faults words place None = Fault rule.Form place ∷ []
store_faults words place (Some s) = fault_if_none (spelled_word s.text) (Fault rule.Digits place) ++ fault_if (nat_le words s.word) (Fault rule.NoWord place)

abbrev pub each_store_faults : ℕ → ℕ → Items → List JobError
each_store_faults words i no_items = []
each_store_faults words i (item value values) = store_faults words (path.Element key.Stores i) (spelled_store value) ++ each_store_faults words (i + 1) values

-- `stores` is a list (J2) of at most 65,536 elements (J8); it may be left out
abbrev pub plan_faults : ℕ → Option Items → List JobError
plan_faults words None = Fault rule.Form (path.Whole key.Stores) ∷ []
plan_faults words (Some values) = fault_if (nat_lt MOST_STORES (items_len values)) (Fault rule.Limit (path.Whole key.Stores)) ++ each_store_faults words 0 values

abbrev pub stores_faults : ℕ → Option Data → List JobError
stores_faults words None = []
stores_faults words (Some value) = plan_faults words (as_array value)

-- the store of an element
abbrev pub store_with : Spelled → Option ℕ → List PlannedStore
store_with s None = []
store_with s (Some value) = record { before = s.before; word = s.word; value = value } ∷ []

abbrev pub store_of : Option Spelled → List PlannedStore
store_of None = []
store_of (Some s) = store_with s (spelled_word s.text)

abbrev pub each_store : Items → List PlannedStore
each_store no_items = []
each_store (item value values) = store_of (spelled_store value) ++ each_store values

abbrev pub listed_stores : Option Items → List PlannedStore
listed_stores None = []
listed_stores (Some values) = each_store values

-- the stores that a job gives, in the order given
abbrev pub given_stores : Data → List PlannedStore
given_stores job = listed_stores (option_and_then as_array (field_of key.Stores job))

-- the name of one of these fields
abbrev pub is_known : List Key → List ℕ → Bool
is_known [] name = false
is_known (k ∷ keys) name = bytes_eq name (key_name k) || is_known keys name

-- the first member that is none of these fields; members stand in the byte order of their names
abbrev pub first_unknown_in : List Key → Members → Option (List ℕ)
first_unknown_in keys no_members = None
first_unknown_in keys (member name value others) = if is_known keys name then first_unknown_in keys others else Some name

abbrev pub first_unknown : List Key → Option Members → Option (List ℕ)
first_unknown keys None = None
first_unknown keys (Some members) = first_unknown_in keys members

-- such a field is a fault (J2), at the path of its name
abbrev pub unknown_faults : (List ℕ → Path) → Option (List ℕ) → List JobError
unknown_faults place None = []
unknown_faults place (Some name) = Fault rule.Form (place name) ∷ []

-- the fields of a run job
abbrev pub run_keys : List Key
run_keys = key.Entry ∷ key.Args ∷ key.Cells ∷ key.Bytes ∷ key.Length ∷ key.Stretches ∷ key.Value ∷ key.Stores ∷ []

-- what a job says of its message
pub record Given : Type 0 where
  -- the bytes that its words hold, and how many words there are
  pub bytes : List ℕ
  pub words : ℕ
  -- how long the message is, and how it lies there
  pub length : Option ℕ
  pub layout : Option (List Stretch)
  -- the bytes that were written, where it is of a value
  pub written : Option (List ℕ)
  -- what is wrong with the fields that say so
  pub faults : List JobError

-- by bytes, a length and stretches
abbrev pub from_bytes : Data → Given
from_bytes job = record {
  bytes = given_bytes job;
  words = job_words job;
  length = number_of key.Length job;
  layout = given_layout job;
  written = None;
  faults =
      bytes_faults key.Bytes (text_of key.Bytes job)
      ++ length_faults (field_of key.Stretches job) (length (given_bytes job)) (number_of key.Length job)
      ++ stretches_faults (length (given_bytes job)) (number_of key.Length job) (field_of key.Stretches job);
}

-- what doesn't stand beside a value
abbrev pub beside_faults : Data → List JobError
beside_faults job =
    fault_if_there (field_of key.Bytes job) (Fault rule.Form (path.Whole key.Bytes))
    ++ fault_if_there (field_of key.Length job) (Fault rule.Form (path.Whole key.Length))
    ++ fault_if_there (field_of key.Stretches job) (Fault rule.Form (path.Whole key.Stretches))

-- the bytes that spell a value; none where there is no spelling
abbrev pub spelled_or_none : Option (List ℕ) → List ℕ
spelled_or_none None = []
spelled_or_none (Some bytes) = bytes

-- all of a message that is written
abbrev pub of_written : List ℕ → List JobError → Given
of_written bytes faults = record {
  bytes = bytes;
  words = words_with (length bytes);
  length = Some (length bytes);
  layout = None;
  written = Some bytes;
  faults = faults;
}

-- by a value, from these arguments and cells
abbrev pub from_datum : Module → Entry → List ℕ → List ℕ → Data → Data → Given
from_datum m entry args cells job value =
    of_written (spelled_or_none (spelling m entry args (opened m entry cells) (datum_of value)))
    (beside_faults job ++ form_faults key.Value (form_of value) ++ write_faults (writing whole_numbers m entry args (opened m entry cells) (datum_of value)))

abbrev pub from_value : Module → Entry → Data → Data → Given
from_value m entry job value = from_datum m entry (given_args (entry_definition m entry.number) job) (given_cells (entry_definition m entry.number) job) job value

-- by what stands there
abbrev pub given_by : Option Data → Module → Entry → Data → Given
given_by None m entry job = from_bytes job
given_by (Some value) m entry job = from_value m entry job value

abbrev pub given : Module → Entry → Data → Given
given m entry job = given_by (field_of key.Value job) m entry job

-- the faults of a job after those of `entry`, whose definition this is, where it says this of its message
abbrev pub faults_with : Given → Option TypeDef → Data → List JobError
faults_with g d job =
    args_faults (params_at d) (field_of key.Args job)
    ++ cells_faults (cells_at d) (field_of key.Cells job)
    ++ g.faults
    ++ stores_faults g.words (field_of key.Stores job)
    ++ unknown_faults path.Unknown (first_unknown run_keys (as_object job))

abbrev pub faults_by : Option Data → Module → Entry → Data → List JobError
faults_by value m entry job = faults_with (given_by value m entry job) (entry_definition m entry.number) job

abbrev pub later_faults : Module → Entry → Data → List JobError
later_faults m entry job = faults_by (field_of key.Value job) m entry job

-- the first fields of a run job, up to `length`, have no fault, and this is its entry point
pub record BeginsWell (m : Module) (job : Data) (entry : Entry) : Type 0 where
  pub named : IsEntry m (text_of key.Entry job) entry
  pub args : args_faults (params_at (entry_definition m entry.number)) (field_of key.Args job) ≡ []
  pub cells : cells_faults (cells_at (entry_definition m entry.number)) (field_of key.Cells job) ≡ []
  pub bytes : bytes_faults key.Bytes (text_of key.Bytes job) ≡ []
  pub within : length_faults (field_of key.Stretches job) (length (given_bytes job)) (number_of key.Length job) ≡ []

-- nor have the fields after them, those of other names apart
pub record EndsWell (job : Data) : Type 0 where
  pub stretches : stretches_faults (length (given_bytes job)) (number_of key.Length job) (field_of key.Stretches job) ≡ []
  pub stores : stores_faults (job_words job) (field_of key.Stores job) ≡ []

-- the first fields of a run job of a value, up to the value's form, have no fault, and this is its entry point
pub record BeginsWithValue (m : Module) (job value : Data) (entry : Entry) : Type 0 where
  pub named : IsEntry m (text_of key.Entry job) entry
  pub args : args_faults (params_at (entry_definition m entry.number)) (field_of key.Args job) ≡ []
  pub cells : cells_faults (cells_at (entry_definition m entry.number)) (field_of key.Cells job) ≡ []
  pub alone : beside_faults job ≡ []
  pub form : form_faults key.Value (form_of value) ≡ []

-- the first fault of a job whose faults after those of `entry` are these
abbrev pub FirstFaultBy : (Module → Entry → Data → List JobError) → Module → Data → JobError → Type 0
FirstFaultBy later m job e =
    EntryFault m (text_of key.Entry job) e
    ⊎ ((entry : Entry) × IsEntry m (text_of key.Entry job) entry × IsFirst (later m entry job) e)

-- the same, where they are those of the entry point's definition
abbrev pub FirstFaultOf : (Option TypeDef → Data → List JobError) → Module → Data → JobError → Type 0
FirstFaultOf later = FirstFaultBy (λ m entry job. later (entry_definition m entry.number) job)

abbrev pub FirstFault : Module → Data → JobError → Type 0
FirstFault = FirstFaultBy later_faults

-- memory may be lacking for a job of bytes: its first fields have no fault, and then it has none, fields of other names apart, or its
-- stretches are of too many bytes for any memory
pub record MayLackForBytes (m : Module) (job : Data) : Type 0 where
  pub entry : Entry
  pub begins : BeginsWell m job entry
  pub rest : EndsWell job ⊎ (2 ^ 32 ≤ length (given_bytes job))

-- and for one of a value: what stands up to the value's form has no fault
abbrev pub MayLackBy : Option Data → Module → Data → Type 0
MayLackBy None m job = MayLackForBytes m job
MayLackBy (Some value) m job = (entry : Entry) × BeginsWithValue m job value entry

abbrev pub MayLackMemory : Module → Data → Type 0
MayLackMemory m job = MayLackBy (field_of key.Value job) m job

-- the run job that a job without a fault is, where it says this of its message
pub record IsJobWith (g : Given) (m : Module) (job : Data) (j : RunJob) : Type 0 where
  pub named : IsEntry m (text_of key.Entry job) j.entry
  pub faultless : faults_with g (entry_definition m j.entry.number) job ≡ []
  pub args : j.args ≡ given_args (entry_definition m j.entry.number) job
  pub cells : j.cells ≡ given_cells (entry_definition m j.entry.number) job
  pub filled : IsFilled g.bytes g.words j.words
  pub as_long : g.length ≡ Some j.length
  pub layout : j.layout ≡ g.layout
  pub written : j.written ≡ g.written
  pub stored : j.stores ≡ given_stores job

-- the run job that a job without a fault is
abbrev pub IsJob : Module → Data → RunJob → Type 0
IsJob m job j = IsJobWith (given m j.entry job) m job j

-- the run job that the bytes stand for
abbrev pub IsRunJob : List ℕ → Module → RunJob → Type 0
IsRunJob bytes m j = (job : Data) × Reads bytes job × IsJob m job j

-- the words are numbered by 32 bits, each stretch is within them, and the message, which is as long as said, has at most that
-- many words and is below the limit; and each store's word is one of them
pub record HasRoom (j : RunJob) : Type 0 where
  pub words : length j.words < 2 ^ 32
  pub over : IsOver (length j.words) j.layout
  pub ends : count_in (layout_or_plain j.length j.layout) ≤ loadable j.layout (length j.words)
  pub long : length_in (layout_or_plain j.length j.layout) ≡ j.length
  pub limit : j.length ≤ MOST_BYTES
  pub stores : All (λ (s : PlannedStore). s.word < length j.words) j.stores

-- each parameter and each cell of the entry point has its value, which fits there
pub record HasValues (m : Module) (j : RunJob) : Type 0 where
  pub args : AllFit (params_at (entry_definition m j.entry.number)) j.args
  pub cells : AllFit (cells_at (entry_definition m j.entry.number)) j.cells

-- how the bytes are refused: they aren't JSON (J1), or stand for a job with a fault, of which it is the first
abbrev pub RefusedJobBy : (Module → Entry → Data → List JobError) → List ℕ → Module → JobError → Type 0
RefusedJobBy later bytes m e =
    ((e ≡ Fault rule.NotJson path.Job) × ((job : Data) → Reads bytes job → ⊥))
    ⊎ ((job : Data) × Reads bytes job × FirstFaultBy later m job e)

abbrev pub RefusedJobOf : (Option TypeDef → Data → List JobError) → List ℕ → Module → JobError → Type 0
RefusedJobOf later = RefusedJobBy (λ m entry job. later (entry_definition m entry.number) job)

abbrev pub RefusedJob : List ℕ → Module → JobError → Type 0
RefusedJob = RefusedJobBy later_faults
