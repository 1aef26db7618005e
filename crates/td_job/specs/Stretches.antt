-- The stretches of a run job's message (own rule).
--
-- `stretches` is a list (J2) of at most 64 elements (J8), which may be left out. Each element is a list of exactly two whole numbers
-- (J2): a place in the bytes given, and a size in bytes. A stretch ends within these bytes, whatever its size (J7), and the sizes add
-- up to `length` (J7 at the list). Where the field stands, of whatever form, `length` is not compared with the bytes given, and the
-- words of the job are those with one of these bytes.
use Rattle.std.specs.Prelude.{ℕ, ◌+◌, ◌/◌, List, [], ◌∷◌, ◌++◌, Bool, false, not, nat_eq, nat_lt, Option, Some, None, option_and_then, option_map}
use Rattle.serde_json.specs.Data.{Data, Items, no_items, item}
use Rattle.serde_json.specs.Events.{items_len}
use Rattle.serde_json.specs.Find.{as_array}
use Rattle.td_stream.specs.declared.layout.TheConstants.{MOST_STRETCHES}
use Rattle.td_job.specs.Imports.{Stretch}
use Rattle.td_stream.specs.Layouts.{length_in}
use Rattle.td_job.specs.declared.error.Key.TheVariants as key
use Rattle.td_job.specs.declared.error.JobRule.TheVariants as rule
use Rattle.td_job.specs.declared.error.Path.{Path}
use Rattle.td_job.specs.declared.error.Path.TheVariants as path
use Rattle.td_job.specs.declared.error.JobError.{JobError}
use Rattle.td_job.specs.declared.error.JobError.TheVariants.{Fault}
use Rattle.td_job.specs.Fields.{field_of, whole, fault_if}
use Rattle.td_job.specs.Values.{or_zero}

-- the stretch of its place and its size, where each has its form
abbrev pub stretch_by : Option ℕ → Option ℕ → Option Stretch
stretch_by None size = None
stretch_by (Some place) None = None
stretch_by (Some place) (Some size) = Some (record { place = place; size = size })

abbrev pub two_parts : Items → Option Stretch
two_parts no_items = None
two_parts (item a no_items) = None
two_parts (item a (item b no_items)) = stretch_by (whole a) (whole b)
two_parts (item a (item b (item c others))) = None

-- a list of exactly two whole numbers; none where the value is anything else
abbrev pub spelled_stretch : Data → Option Stretch
spelled_stretch value = option_and_then two_parts (as_array value)

-- an element of `stretches` is such a list (J2) and ends within so many bytes given (J7)
abbrev pub stretch_faults : ℕ → Path → Option Stretch → List JobError
stretch_faults given place None = Fault rule.Form place ∷ []
stretch_faults given place (Some s) = fault_if (nat_lt given (s.place + s.size)) (Fault rule.PastBytes place)

abbrev pub each_stretch_faults : ℕ → ℕ → Items → List JobError
each_stretch_faults given i no_items = []
each_stretch_faults given i (item value values) = stretch_faults given (path.Element key.Stretches i) (spelled_stretch value) ++ each_stretch_faults given (i + 1) values

-- the stretches of a list's elements; one of another form has none
abbrev pub stretch_of : Option Stretch → List Stretch
stretch_of None = []
stretch_of (Some s) = s ∷ []

abbrev pub each_stretch : Items → List Stretch
each_stretch no_items = []
each_stretch (item value values) = stretch_of (spelled_stretch value) ++ each_stretch values

-- the sizes add up to this length
abbrev pub sum_faults : ℕ → List Stretch → List JobError
sum_faults n layout = fault_if (not (nat_eq (length_in layout) n)) (Fault rule.PastBytes (path.Whole key.Stretches))

-- what is wrong with a list of stretches of so many bytes given, for a message of this length
abbrev pub layout_faults : ℕ → ℕ → Option Items → List JobError
layout_faults given n None = Fault rule.Form (path.Whole key.Stretches) ∷ []
layout_faults given n (Some values) =
    fault_if (nat_lt MOST_STRETCHES (items_len values)) (Fault rule.Limit (path.Whole key.Stretches))
    ++ each_stretch_faults given 0 values
    ++ sum_faults n (each_stretch values)

-- `stretches` may be left out
abbrev pub stretches_faults : ℕ → Option ℕ → Option Data → List JobError
stretches_faults given n None = []
stretches_faults given n (Some value) = layout_faults given (or_zero n) (as_array value)

abbrev pub layout_of : Option Data → Option (List Stretch)
layout_of None = None
layout_of (Some value) = option_map each_stretch (as_array value)

-- how the message of a job lies in its bytes; none where that isn't said
abbrev pub given_layout : Data → Option (List Stretch)
given_layout job = layout_of (field_of key.Stretches job)

-- whether a length passes the bytes given, where the field of the stretches is this one
abbrev pub is_past : Option Data → ℕ → ℕ → Bool
is_past None given n = nat_lt given n
is_past (Some value) given n = false

-- so many bytes are in so many words
abbrev pub words_with : ℕ → ℕ
words_with n = (n + 7) / 8

-- the words of a job are those with a byte of the message, at the front of the bytes given, or with stretches those with any byte
-- given; without a length a message has none
abbrev pub words_by : Option Data → ℕ → Option ℕ → ℕ
words_by None given None = 0
words_by None given (Some n) = words_with n
words_by (Some value) given n = words_with given
