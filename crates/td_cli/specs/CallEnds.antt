-- How a call of the tool ends, told by its three streams before and after (own rule). Of bytes that aren't told (`None`)
-- nothing is claimed; that a stream is untouched is said of its value, so it holds of such a stream too.
use Rattle.std.specs.Prelude.{◌≡◌, ◌≢◌, ◌⊎◌, ℕ, ◌+◌, List, Some}
use Rattle.std.specs.Io.KnownBytes.{IsAtEnd}
use Rattle.td_io.specs.Causes.{ReadWhole, TookAtMost}
use Rattle.td_io.specs.States as io
use Rattle.td_io.specs.declared.reading.TheConstants.{PIECE}
use Rattle.td_cli_command.specs.declared.command.Command.{Command}
use Rattle.td_cli_command.specs.declared.command.Command.TheVariants.{Host, Bench}
use Rattle.td_cli_input.specs.declared.refusal.Refusal.{Refusal}
use Rattle.td_cli.specs.declared.status.Status.{Status}
use Rattle.td_cli.specs.declared.status.Status.TheVariants.{Done, Refused, Usage, ReadFault, WriteFault, NoMemory}
use Rattle.td_cli.specs.declared.tool.TheConstants.{INPUT_LIMIT}
use Rattle.td_cli_command.specs.Command.{Means, MeansNone}
use Rattle.td_cli.specs.Answers.{Answers, Admits, Refuses}
use Rattle.td_cli.specs.Lines.{usage_line, read_line, memory_line, refusal_line}

-- ---- a stream over a call

-- what is told of a stream before and after a call, and that the call left it as it was
pub record Passage (State : Type 0) : Type 1 where
  pub before : State
  pub after : State
  pub Untouched : Type 0

abbrev pub passage : {Stream State : Type 0} → (Stream → State) → Stream → Stream → Passage State
passage state old new = record { before = state old; after = state new; Untouched = new ≡ old }

-- the sink took the whole text, and no write of it failed
abbrev pub Takes : Passage io.SinkState → List ℕ → Type 0
Takes sink text = io.Takes sink.before sink.after text

-- the sink took a prefix of the text, and then one write of it failed, after which nothing was written
abbrev pub WriteFails : Passage io.SinkState → List ℕ → Type 0
WriteFails sink text = io.WriteFails sink.before sink.after text

-- one read of the source failed, after which nothing was read; no read of it failed
abbrev pub ReadFails : Passage io.SourceState → Type 0
ReadFails source = io.ReadFails source.before source.after

abbrev pub NoReadFails : Passage io.SourceState → Type 0
NoReadFails source = io.NoReadFails source.before source.after

-- no more bytes were taken of the source than an input may have; at most 4,096 more were
abbrev pub WithinLimit : Passage io.SourceState → Type 0
WithinLimit source = TookAtMost source.before.left source.after.left INPUT_LIMIT

abbrev pub StopsReading : Passage io.SourceState → Type 0
StopsReading source = TookAtMost source.before.left source.after.left (INPUT_LIMIT + PIECE)

-- the source held this input, where it tells what it holds
abbrev pub Held : Passage io.SourceState → List ℕ → Type 0
Held source input = ReadWhole source.before.left input

-- ---- what a command takes of its source: `bench` nothing, and each other command its input

-- the command reads its source
abbrev pub Reads : Command → Type 0
Reads (Bench n) = ⊥
Reads command = Unit {0}

-- the input was taken of the source, whole
abbrev pub Took : Command → Passage io.SourceState → List ℕ → Type 0
Took (Bench n) source input = source.Untouched
Took command source input = Held source input × IsAtEnd source.after.left × NoReadFails source

-- or as far as was looked at
abbrev pub Saw : Command → Passage io.SourceState → List ℕ → Type 0
Saw (Bench n) source input = source.Untouched
Saw command source input = Held source input × NoReadFails source

-- the source tells that it holds this input
abbrev pub Tells : Command → Passage io.SourceState → List ℕ → Type 0
Tells (Bench n) source input = Unit {0}
Tells command source input = source.before.left ≡ Some input

-- ---- what goes out

-- the words mean a command, its source was read to its end, and the output is what the command answers its input
pub record IsOutput (words : List (List ℕ)) (source : Passage io.SourceState) (output : List ℕ) : Type 0 where
  pub command : Command
  pub means : Means words command
  pub input : List ℕ
  pub took : Took command source input
  pub answers : Answers command input output

-- the words mean a command, and the line says why it refuses the source's input
pub record IsRefusal (words : List (List ℕ)) (source : Passage io.SourceState) (line : List ℕ) : Type 0 where
  pub command : Command
  pub means : Means words command
  pub input : List ℕ
  pub saw : Saw command source input
  pub refusal : Refusal
  pub refuses : Refuses command input refusal
  pub line_is : line ≡ refusal_line input refusal

-- the words mean a command that reads its source
abbrev pub MeansReader : List (List ℕ) → Type 0
MeansReader words = (command : Command) × Means words command × Reads command

-- there was no memory: for the words, or for a command that reads nothing, so nothing was read; or for another command, before
-- the limit was passed
abbrev pub MayLackMemory : List (List ℕ) → Passage io.SourceState → Type 0
MayLackMemory words source = source.Untouched ⊎ (MeansReader words × NoReadFails source × WithinLimit source)

-- the line that goes to the error stream at a status, and how that came about
abbrev pub IsErrorLine : Status → List (List ℕ) → Passage io.SourceState → List ℕ → Type 0
IsErrorLine Refused words source line = IsRefusal words source line
IsErrorLine Usage words source line = MeansNone words × source.Untouched × (line ≡ usage_line)
IsErrorLine ReadFault words source line = MeansReader words × ReadFails source × (line ≡ read_line)
IsErrorLine NoMemory words source line = MayLackMemory words source × (line ≡ memory_line)
IsErrorLine other words source line = ⊥

-- ---- how a call ends

-- at `Done` the output went to `out`; at `WriteFault` a write of it failed, or one of an error line; at each other end the
-- line of that end went to `err`. The other sink is untouched
abbrev pub EndsAs : Status → List (List ℕ) → Passage io.SourceState → Passage io.SinkState → Passage io.SinkState → Type 0
EndsAs Done words source out err = (output : List ℕ) × IsOutput words source output × Takes out output × err.Untouched
EndsAs WriteFault words source out err =
    ((output : List ℕ) × IsOutput words source output × WriteFails out output × err.Untouched)
    ⊎ ((status : Status) × (line : List ℕ) × IsErrorLine status words source line × WriteFails err line × out.Untouched)
EndsAs status words source out err = (line : List ℕ) × IsErrorLine status words source line × Takes err line × out.Untouched

-- the words mean a command, and the source tells what it holds: an input that the command answers, or one that it refuses
abbrev pub HasGoodInput : List (List ℕ) → Passage io.SourceState → Type 0
HasGoodInput words source = (command : Command) × (input : List ℕ) × Means words command × Tells command source input × Admits command input

abbrev pub HasBadInput : List (List ℕ) → Passage io.SourceState → Type 0
HasBadInput words source = (command : Command) × (input : List ℕ) × (refusal : Refusal) × Means words command × Tells command source input × Refuses command input refusal

-- the words mean `host`, and nothing was read or written
pub record IsHandedOn (words : List (List ℕ)) (source : Passage io.SourceState) (out err : Passage io.SinkState) : Type 0 where
  pub means : Means words Host
  pub unread : source.Untouched
  pub no_output : out.Untouched
  pub no_line : err.Untouched

-- how a call ends, and which ends can't come: an input that is answered is no usage and no refusal, and one that is
-- refused is no usage and isn't answered. So much is read at most
pub record CallEnds (words : List (List ℕ)) (status : Status) (source : Passage io.SourceState) (out err : Passage io.SinkState) : Type 0 where
  pub ends : EndsAs status words source out err
  pub good : HasGoodInput words source → (status ≢ Usage) × (status ≢ Refused)
  pub bad : HasBadInput words source → (status ≢ Usage) × (status ≢ Done)
  pub taken : StopsReading source
