-- The value that a job gives to be written (own rule): a whole number, a list of values, a text of hexadecimal digits for bytes, or
-- `null` for what is empty. A part of any other form is J2; where there is none, a text that isn't an even number of digits of either
-- case is J5. Both stand at the field. Then what refuses the value is J10, at its place in it, or J8 at the field, where it is too long.
use Rattle.std.specs.Prelude.{ℕ, List, [], ◌∷◌, Option, Some, None, Result, Ok, Err}
use Rattle.serde_json.specs.Data.{Data, null, boolean, number, string, array, object, Items, no_items, item}
use Rattle.serde_json.specs.Find.{as_u64}
use Rattle.hex.specs.Hex.{decode_of}
use Rattle.hex.specs.declared.error.FromHexError.{FromHexError}
use Rattle.td_job.specs.Imports.{WriteRule}
use Rattle.td_write_values.specs.declared.error.WriteRule.TheVariants.{Shape, Range, Broken, Size, Long}
use Rattle.td_write_values.specs.Datum.{Datum, Number, Sequence, Bytes, Empty, data_of}
use Rattle.td_write_values.specs.Writing.{Written, Done, Refused}
use Rattle.td_job.specs.declared.error.Key.{Key}
use Rattle.td_job.specs.declared.error.Key.TheVariants as key
use Rattle.td_job.specs.declared.error.JobRule.TheVariants as rule
use Rattle.td_job.specs.declared.error.Path.TheVariants as path
use Rattle.td_job.specs.declared.error.JobError.{JobError}
use Rattle.td_job.specs.declared.error.JobError.TheVariants.{Fault}
use Rattle.td_job.specs.declared.written.Form.{Form}
use Rattle.td_job.specs.declared.written.Form.TheVariants.{Right, NoDigits, Other}
use Rattle.td_job.specs.Fields.{bytes_or_none}

-- of two parts the form that is told
abbrev pub worse : Form → Form → Form
worse Right form = form
worse NoDigits Right = NoDigits
worse NoDigits NoDigits = NoDigits
worse NoDigits Other = Other
worse Other form = Other

abbrev pub number_form : Option ℕ → Form
number_form None = Other
number_form (Some n) = Right

abbrev pub text_form : Result (List ℕ) FromHexError → Form
text_form (Ok bytes) = Right
text_form (Err e) = NoDigits

abbrev mutual
  pub form_of : Data → Form
  form_of null = Right
  form_of (boolean b) = Other
  form_of (number n) = number_form (as_u64 n)
  form_of (string text) = text_form (decode_of text)
  form_of (array values) = forms_of values
  form_of (object fields) = Other

  pub forms_of : Items → Form
  forms_of no_items = Right
  forms_of (item value values) = worse (form_of value) (forms_of values)

abbrev pub form_faults : Key → Form → List JobError
form_faults k Right = []
form_faults k NoDigits = Fault rule.Digits (path.Whole k) ∷ []
form_faults k Other = Fault rule.Form (path.Whole k) ∷ []

abbrev pub number_datum : Option ℕ → Datum
number_datum None = Empty
number_datum (Some n) = Number n

-- the value (what has another form counts as empty)
abbrev mutual
  pub datum_of : Data → Datum
  datum_of null = Empty
  datum_of (boolean b) = Empty
  datum_of (number n) = number_datum (as_u64 n)
  datum_of (string text) = Bytes (bytes_or_none (decode_of text))
  datum_of (array values) = Sequence (data_of (datums_of values))
  datum_of (object fields) = Empty

  pub datums_of : Items → List Datum
  datums_of no_items = []
  datums_of (item value values) = datum_of value ∷ datums_of values

-- why it isn't written
abbrev pub refused_at : WriteRule → List ℕ → JobError
refused_at r places = Fault rule.Written (path.Written (record { places = places; rule = r }))

abbrev pub refused_by : WriteRule → List ℕ → JobError
refused_by Shape places = refused_at Shape places
refused_by Range places = refused_at Range places
refused_by (Broken reason) places = refused_at (Broken reason) places
refused_by Size places = refused_at Size places
refused_by Long places = Fault rule.Limit (path.Whole key.Value)

abbrev pub write_faults : Written → List JobError
write_faults (Done bytes cells claims) = []
write_faults (Refused r places) = refused_by r places ∷ []
