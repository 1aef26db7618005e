-- JSON values, the fields of a job, and lists of faults (own rule).
use Rattle.std.specs.Prelude.{◌≡◌, ℕ, List, [], ◌∷◌, Bool, if◌then◌else◌, IsUtf8, Option, Some, None, Result, Ok, Err, option_and_then}
use Rattle.hex.specs.declared.error.FromHexError.{FromHexError}
use Rattle.serde_json.specs.Data.{Data}
use Rattle.serde_json.specs.Read.{read as read_text}
use Rattle.serde_json.specs.Find.{get, as_str, as_number, as_u64}
use Rattle.td_job.specs.declared.error.Key.{Key}
use Rattle.td_job.specs.declared.error.JobError.{JobError}
use Rattle.td_job.specs.Errors.{key_name}

-- The bytes are JSON and stand for this value, as serde_json reads it: the last value of a name counts, an object's
-- members stand in the byte order of their names, and a number is whole (`as_u64`) where it is written without sign,
-- point and exponent and is below 2^64.
abbrev pub Reads : List ℕ → Data → Type 0
Reads bytes value = IsUtf8 bytes × (read_text bytes ≡ Some value)

-- a field's value, text and whole number; none where it is missing or has another form
abbrev pub field_of : Key → Data → Option Data
field_of name job = get (key_name name) job

abbrev pub text_of : Key → Data → Option (List ℕ)
text_of name job = option_and_then as_str (field_of name job)

abbrev pub whole : Data → Option ℕ
whole value = option_and_then as_u64 (as_number value)

abbrev pub number_of : Key → Data → Option ℕ
number_of name job = option_and_then whole (field_of name job)

-- the bytes of a text of hexadecimal digits
abbrev pub bytes_or_none : Result (List ℕ) FromHexError → List ℕ
bytes_or_none (Ok bytes) = bytes
bytes_or_none (Err e) = []

-- a fault where a test says so
abbrev pub fault_if : Bool → JobError → List JobError
fault_if wrong e = if wrong then e ∷ [] else []

abbrev pub fault_if_none : {A : Type 0} → Option A → JobError → List JobError
fault_if_none None e = e ∷ []
fault_if_none (Some a) e = []

-- a fault where a field stands, of whatever form
abbrev pub fault_if_there : Option Data → JobError → List JobError
fault_if_there None e = []
fault_if_there (Some value) e = e ∷ []

-- e is the first of these faults
pub record IsFirst (faults : List JobError) (e : JobError) : Type 0 where
  pub others : List JobError
  pub is : faults ≡ e ∷ others
