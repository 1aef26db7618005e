-- Why an input has no answer, and how that is told.
use Rattle.std.specs.Prelude.{ℕ, List, []}
use Rattle.td_io.specs.declared.reading.ReadError.{ReadError}
use Rattle.td_io.specs.declared.reading.ReadError.TheVariants as reading
use Rattle.td_c_ends.specs.declared.status.Status.{Status}
use Rattle.td_c_ends.specs.declared.status.Status.TheVariants as ends
use Rattle.td_c_ends.specs.declared.refusal.Refusal.TheVariants.{TooLong}
use Rattle.td_c_ends.specs.declared.refusal.InputError.{InputError}
use Rattle.td_c_ends.specs.declared.refusal.InputError.TheVariants.{Refused, NoMemory}
use Rattle.td_c_ends.specs.Lines.{read_line, memory_line, refusal_line}

-- how a call ends whose source wasn't read to its end, and the line that tells it
abbrev pub unread_status : ReadError → Status
unread_status reading.Fault = ends.ReadFault
unread_status reading.TooLong = ends.Refused
unread_status reading.NoMemory = ends.NoMemory

abbrev pub unread_line : ReadError → List ℕ
unread_line reading.Fault = read_line
unread_line reading.TooLong = refusal_line [] TooLong
unread_line reading.NoMemory = memory_line

-- how a call ends whose input has no answer, and the line that tells it
abbrev pub unanswered_status : InputError → Status
unanswered_status (Refused refusal) = ends.Refused
unanswered_status NoMemory = ends.NoMemory

abbrev pub unanswered_line : List ℕ → InputError → List ℕ
unanswered_line input (Refused refusal) = refusal_line input refusal
unanswered_line input NoMemory = memory_line
