-- How a call of `tdc` ends, told by its three streams before and after (own rule). Of bytes that aren't told (`None`)
-- nothing is claimed; that a stream is untouched is said of its value, so it holds of such a stream too.
use Rattle.std.specs.Prelude.{◌≡◌, ◌≢◌, ◌⊎◌, ℕ, ◌+◌, List, [], Some}
use Rattle.std.specs.Io.KnownBytes.{IsAtEnd}
use Rattle.td_io.specs.Causes.{ReadWhole, TookAtMost}
use Rattle.td_io.specs.States as io
use Rattle.td_io.specs.declared.reading.TheConstants.{PIECE}
use Rattle.td_c_tool.specs.Imports.{Command, Refusal, BadName, Status}
use Rattle.td_c_command.specs.Command.{Means, MeansNone}
use Rattle.td_c_command.specs.Prefix.{IsPrefix}
use Rattle.td_c_ends.specs.declared.status.Status.TheVariants.{Done, Refused, Usage, ReadFault, WriteFault, NoMemory}
use Rattle.td_c_ends.specs.Lines.{usage_line, read_line, memory_line, refusal_line}
use Rattle.td_c_ends.specs.Passages.{Passage, Takes, WriteFails}
use Rattle.td_c_tool.specs.declared.tool.TheConstants.{INPUT_LIMIT}
use Rattle.td_c_tool.specs.Answers.{Answers, Admits, Refuses}

-- ---- the source

-- one read of the source failed, after which nothing was read; no read of it failed
abbrev pub ReadFails : Passage io.SourceState → Type 0
ReadFails source = io.ReadFails source.before source.after

abbrev pub NoReadFails : Passage io.SourceState → Type 0
NoReadFails source = io.NoReadFails source.before source.after

-- no more bytes were taken of the source than an input may have; at most 4,096 more were
abbrev pub WithinLimit : Passage io.SourceState → Type 0
WithinLimit source = TookAtMost source.before.left source.after.left INPUT_LIMIT

abbrev pub StopsReading : Passage io.SourceState → Type 0
StopsReading source = TookAtMost source.before.left source.after.left (INPUT_LIMIT + PIECE)

-- the source held this input, where it tells what it holds
abbrev pub Held : Passage io.SourceState → List ℕ → Type 0
Held source input = ReadWhole source.before.left input

-- ---- what goes out

-- the words mean a command, its source was read to its end, and the output is what the command answers its input
pub record IsOutput (words : List (List ℕ)) (source : Passage io.SourceState) (output : List ℕ) : Type 0 where
  pub command : Command
  pub means : Means words command
  pub input : List ℕ
  pub held : Held source input
  pub end : IsAtEnd source.after.left
  pub quiet : NoReadFails source
  pub answers : Answers command input output

-- the words mean a command whose name can begin names of C
abbrev pub MeansNamed : List (List ℕ) → Type 0
MeansNamed words = (command : Command) × Means words command × IsPrefix command.prefix

-- the words mean such a command, and the line says why it refuses the source's input
pub record IsInputRefusal (words : List (List ℕ)) (source : Passage io.SourceState) (line : List ℕ) : Type 0 where
  pub means : MeansNamed words
  pub input : List ℕ
  pub held : Held source input
  pub quiet : NoReadFails source
  pub refusal : Refusal
  pub refuses : Refuses input refusal
  pub line_is : line ≡ refusal_line input refusal

-- the words mean a command whose name can't, and the line says so; nothing was read
pub record IsNameRefusal (words : List (List ℕ)) (source : Passage io.SourceState) (line : List ℕ) : Type 0 where
  pub command : Command
  pub means : Means words command
  pub unfit : ¬ IsPrefix command.prefix
  pub unread : source.Untouched
  pub line_is : line ≡ refusal_line [] BadName

-- there was no memory: for the words, so nothing was read; or for their command, before the limit was passed
abbrev pub MayLackMemory : List (List ℕ) → Passage io.SourceState → Type 0
MayLackMemory words source = source.Untouched ⊎ (MeansNamed words × NoReadFails source × WithinLimit source)

-- the line that goes to the error stream at a status, and how that came about
abbrev pub IsErrorLine : Status → List (List ℕ) → Passage io.SourceState → List ℕ → Type 0
IsErrorLine Refused words source line = IsNameRefusal words source line ⊎ IsInputRefusal words source line
IsErrorLine Usage words source line = MeansNone words × source.Untouched × (line ≡ usage_line)
IsErrorLine ReadFault words source line = MeansNamed words × ReadFails source × (line ≡ read_line)
IsErrorLine NoMemory words source line = MayLackMemory words source × (line ≡ memory_line)
IsErrorLine other words source line = ⊥

-- ---- how a call ends

-- at `Done` the output went to `out`; at `WriteFault` a write of it failed, or one of an error line; at each other end the
-- line of that end went to `err`. The other sink is untouched
abbrev pub EndsAs : Status → List (List ℕ) → Passage io.SourceState → Passage io.SinkState → Passage io.SinkState → Type 0
EndsAs Done words source out err = (output : List ℕ) × IsOutput words source output × Takes out output × err.Untouched
EndsAs WriteFault words source out err =
    ((output : List ℕ) × IsOutput words source output × WriteFails out output × err.Untouched)
    ⊎ ((status : Status) × (line : List ℕ) × IsErrorLine status words source line × WriteFails err line × out.Untouched)
EndsAs status words source out err = (line : List ℕ) × IsErrorLine status words source line × Takes err line × out.Untouched

-- the words mean a command, and the source tells what it holds: an input that the command answers, or one that it refuses
abbrev pub HasGoodInput : List (List ℕ) → Passage io.SourceState → Type 0
HasGoodInput words source = (command : Command) × (input : List ℕ) × Means words command × (source.before.left ≡ Some input) × Admits command input

abbrev pub HasBadInput : List (List ℕ) → Passage io.SourceState → Type 0
HasBadInput words source = MeansNamed words × (input : List ℕ) × (refusal : Refusal) × (source.before.left ≡ Some input) × Refuses input refusal

-- the words mean a command whose name can't begin names of C
abbrev pub HasBadName : List (List ℕ) → Type 0
HasBadName words = (command : Command) × Means words command × (¬ IsPrefix command.prefix)

-- how a call ends, and which ends can't come: an input that is answered is no usage and no refusal; one that is refused, or a
-- name, is no usage and isn't answered. So much is read at most
pub record CallEnds (words : List (List ℕ)) (status : Status) (source : Passage io.SourceState) (out err : Passage io.SinkState) : Type 0 where
  pub ends : EndsAs status words source out err
  pub good : HasGoodInput words source → (status ≢ Usage) × (status ≢ Refused)
  pub bad : HasBadInput words source → (status ≢ Usage) × (status ≢ Done)
  pub unfit : HasBadName words → (status ≢ Usage) × (status ≢ Done)
  pub taken : StopsReading source
