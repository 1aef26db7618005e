-- How a call ends, from how its words were understood, its source was read and its input was answered.
use Rattle.std.proofs.Common.{◌≡◌, ◌≢◌, inl, inr, ℕ, zero, suc, ◌+◌, ◌<◌, ◌≤◌, List, [], ◌∷◌, length, Option, Some, None, Result, Ok, Err, refl, sym, subst, ◌∙◌, arith}
use Rattle.std.specs.Io.KnownBytes.{IsAtEnd}
use Rattle.td_io.specs.declared.reading.ReadError.{ReadError}
use Rattle.td_io.specs.declared.reading.ReadError.TheVariants as reading
use Rattle.td_io.specs.Causes.{ReadWhole, HasMore, TookAtMost}
use Rattle.td_io.specs.States.{SourceState, SinkState}
use Rattle.td_cli_command.specs.declared.command.Command.{Command}
use Rattle.td_cli_command.specs.declared.command.Command.TheVariants.{Read, Host, Bench}
use Rattle.td_cli_command.specs.declared.command.Reading.TheVariants.{Check, Tidy, Run, Code, Pack}
use Rattle.td_cli_input.specs.declared.refusal.Refusal.{Refusal}
use Rattle.td_cli_input.specs.declared.refusal.Refusal.TheVariants.{TooLong}
use Rattle.td_cli.specs.declared.status.Status.{Status}
use Rattle.td_cli.specs.declared.status.Status.TheVariants as at
use Rattle.td_cli.specs.declared.tool.TheConstants.{INPUT_LIMIT}
use Rattle.td_cli_command.specs.Command.{Means, MeansNone}
use Rattle.td_cli_command.proofs.OneCommand.{one_command}
use Rattle.td_cli.specs.Answers.{Admits, Refuses}
use Rattle.td_cli.specs.Errors.{unread_status, unread_line}
use Rattle.td_cli.specs.Lines.{usage_line, read_line, memory_line, refusal_line}
use Rattle.td_io.specs.declared.reading.TheConstants.{PIECE}
use Rattle.td_cli.specs.CallEnds.{Passage, passage, CallEnds, IsHandedOn, StopsReading, WriteFails, ReadFails, NoReadFails, WithinLimit, Held, Reads, Took, Saw, Tells, MayLackMemory, IsOutput, IsErrorLine, EndsAs}
use Rattle.td_cli.specs.InputEnds.{EndsWith, EndsWithOutput, EndsWithLine, InputEnds}

-- ---- text that goes out

-- a text that goes to a sink ends the call as it was to end, or by a fault
pub ends_or_fails : (end : Status) (text : List ℕ) (sink : Passage SinkState) (result other : Status) → EndsWith end text sink result → end ≢ other → at.WriteFault ≢ other → result ≢ other
ends_or_fails end text sink result other (inl taken) not fault same = not (sym taken.0 ∙ same)
ends_or_fails end text sink result other (inr failed) not fault same = fault (sym failed.0 ∙ same)

fault_ends : (status : Status) (words : List (List ℕ)) (source : Passage SourceState) (line : List ℕ) (out err : Passage SinkState) (result : Status)
    → IsErrorLine status words source line → result ≡ at.WriteFault → WriteFails err line → out.Untouched → EndsAs result words source out err
fault_ends status words source line out err result is same fails free =
    let P : Status → Type 0 = λ s. EndsAs s words source out err in subst P (sym same) (inr (status, line, is, fails, free))

-- the line of a status goes to the error stream
pub line_ends : (status : Status) (words : List (List ℕ)) (source : Passage SourceState) (line : List ℕ) (out err : Passage SinkState) (result : Status)
    → IsErrorLine status words source line → EndsWithLine status line out err result → EndsAs result words source out err
line_ends at.Done words source line out err result is h = absurd is
line_ends at.WriteFault words source line out err result is h = absurd is
line_ends at.Refused words source line out err result is (inl taken, free) =
    let P : Status → Type 0 = λ s. EndsAs s words source out err in subst P (sym taken.0) (line, is, taken.1, free)
line_ends at.Refused words source line out err result is (inr failed, free) = fault_ends at.Refused words source line out err result is failed.0 failed.1 free
line_ends at.Usage words source line out err result is (inl taken, free) =
    let P : Status → Type 0 = λ s. EndsAs s words source out err in subst P (sym taken.0) (line, is, taken.1, free)
line_ends at.Usage words source line out err result is (inr failed, free) = fault_ends at.Usage words source line out err result is failed.0 failed.1 free
line_ends at.ReadFault words source line out err result is (inl taken, free) =
    let P : Status → Type 0 = λ s. EndsAs s words source out err in subst P (sym taken.0) (line, is, taken.1, free)
line_ends at.ReadFault words source line out err result is (inr failed, free) = fault_ends at.ReadFault words source line out err result is failed.0 failed.1 free
line_ends at.NoMemory words source line out err result is (inl taken, free) =
    let P : Status → Type 0 = λ s. EndsAs s words source out err in subst P (sym taken.0) (line, is, taken.1, free)
line_ends at.NoMemory words source line out err result is (inr failed, free) = fault_ends at.NoMemory words source line out err result is failed.0 failed.1 free

-- the output goes to `out`
output_ends : (words : List (List ℕ)) (source : Passage SourceState) (output : List ℕ) (out err : Passage SinkState) (result : Status)
    → IsOutput words source output → EndsWithOutput output out err result → EndsAs result words source out err
output_ends words source output out err result is (inl taken, free) =
    let P : Status → Type 0 = λ s. EndsAs s words source out err in subst P (sym taken.0) (output, is, taken.1, free)
output_ends words source output out err result is (inr failed, free) =
    let P : Status → Type 0 = λ s. EndsAs s words source out err in subst P (sym failed.0) (inl (output, is, failed.1, free))

-- ---- an input that was taken

-- what is known of a source that was read to its end
pub record WasRead (source : Passage SourceState) (input : List ℕ) : Type 0 where
  pub held : Held source input
  pub end : IsAtEnd source.after.left
  pub quiet : NoReadFails source
  pub within : WithinLimit source

-- and of one of which a command took what it takes
pub record WasTaken (words : List (List ℕ)) (command : Command) (source : Passage SourceState) (input : List ℕ) : Type 0 where
  pub took : Took command source input
  pub saw : Saw command source input
  pub lack : MayLackMemory words source

took_read : (command : Command) (source : Passage SourceState) (input : List ℕ) → Reads command → WasRead source input → Took command source input
took_read (Read reading) source input reads read = (read.held, read.end, read.quiet)
took_read Host source input reads read = (read.held, read.end, read.quiet)
took_read (Bench n) source input reads read = absurd reads

saw_read : (command : Command) (source : Passage SourceState) (input : List ℕ) → Reads command → Held source input → NoReadFails source → Saw command source input
saw_read (Read reading) source input reads held quiet = (held, quiet)
saw_read Host source input reads held quiet = (held, quiet)
saw_read (Bench n) source input reads held quiet = absurd reads

pub was_taken : (words : List (List ℕ)) (command : Command) (source : Passage SourceState) (input : List ℕ) → Means words command → Reads command → WasRead source input → WasTaken words command source input
was_taken words command source input means reads read = record {
  took = took_read command source input reads read;
  saw = saw_read command source input reads read.held read.quiet;
  lack = inr ((command, means, reads), read.quiet, read.within);
}

pub input_ends : (words : List (List ℕ)) (command : Command) (source : Passage SourceState) (input : List ℕ) (out err : Passage SinkState) (result : Status)
    → Means words command → WasTaken words command source input → InputEnds command input out err result → EndsAs result words source out err
input_ends words command source input out err result means taken (inl h) =
    output_ends words source h.0 out err result (record { command = command; means = means; input = input; took = taken.took; answers = h.1 }) h.2
input_ends words command source input out err result means taken (inr (inl h)) =
    line_ends at.Refused words source (refusal_line input h.0) out err result (record { command = command; means = means; input = input; saw = taken.saw; refusal = h.0; refuses = h.1; line_is = refl }) h.2
input_ends words command source input out err result means taken (inr (inr h)) =
    line_ends at.NoMemory words source memory_line out err result (taken.lack, refl) h.1

-- an input that was read ends a call in one of four ways
pub input_never : (command : Command) (input : List ℕ) (out err : Passage SinkState) (result other : Status)
    → at.Done ≢ other → at.Refused ≢ other → at.NoMemory ≢ other → at.WriteFault ≢ other → InputEnds command input out err result → result ≢ other
input_never command input out err result other done refused memory fault (inl h) = ends_or_fails at.Done h.0 out result other h.2.0 done fault
input_never command input out err result other done refused memory fault (inr (inl h)) = ends_or_fails at.Refused (refusal_line input h.0) err result other h.2.0 refused fault
input_never command input out err result other done refused memory fault (inr (inr h)) = ends_or_fails at.NoMemory memory_line err result other h.1.0 memory fault

-- ---- a source that wasn't read to its end

some_longer : (n : ℕ) → (xs : List ℕ) × (n < length xs)
some_longer zero = (0 ∷ [], omega arith)
some_longer (suc n) = let r = some_longer n in let h : n < length r.0 = r.1 in (0 ∷ r.0, omega (arith, h))

-- a source with more bytes than the limit holds an input that is too long
long_input : (left : Option (List ℕ)) → HasMore left INPUT_LIMIT → (input : List ℕ) × ReadWhole left input × (INPUT_LIMIT < length input)
long_input None more = let long = some_longer INPUT_LIMIT in (long.0, tt, long.1)
long_input (Some bytes) more = (bytes, refl, more)

refuses_long : (command : Command) (input : List ℕ) → Reads command → INPUT_LIMIT < length input → Refuses command input TooLong
refuses_long (Read Check) input reads long = long
refuses_long (Read Tidy) input reads long = long
refuses_long (Read Code) input reads long = long
refuses_long (Read Pack) input reads long = long
refuses_long (Read Run) input reads long = long
refuses_long Host input reads long = long
refuses_long (Bench n) input reads long = absurd reads

-- what is known of a source that wasn't
pub record WasUnread (source : Passage SourceState) (error : ReadError) : Type 0 where
  pub fault : error ≡ reading.Fault → ReadFails source
  pub quiet : (error ≡ reading.Fault → ⊥) → NoReadFails source
  pub long : error ≡ reading.TooLong → HasMore source.before.left INPUT_LIMIT
  pub within : (error ≡ reading.TooLong → ⊥) → WithinLimit source

pub unread_ends : (words : List (List ℕ)) (command : Command) (source : Passage SourceState) (error : ReadError) (out err : Passage SinkState) (result : Status)
    → Means words command → Reads command → WasUnread source error → EndsWithLine (unread_status error) (unread_line error) out err result → EndsAs result words source out err
unread_ends words command source reading.Fault out err result means reads was h =
    line_ends at.ReadFault words source read_line out err result ((command, means, reads), was.fault refl, refl) h
unread_ends words command source reading.TooLong out err result means reads was h =
    let long = long_input source.before.left (was.long refl) in
    let quiet : NoReadFails source = was.quiet (λ same. cc) in
    line_ends at.Refused words source (refusal_line [] TooLong) out err result (record { command = command; means = means; input = long.0; saw = saw_read command source long.0 reads long.1 quiet; refusal = TooLong; refuses = refuses_long command long.0 reads long.2; line_is = refl }) h
unread_ends words command source reading.NoMemory out err result means reads was h =
    line_ends at.NoMemory words source memory_line out err result (inr ((command, means, reads), was.quiet (λ same. cc), was.within (λ same. cc)), refl) h

-- a source that wasn't read to its end is neither answered nor no command
pub unread_never : (error : ReadError) (err : Passage SinkState) (result other : Status)
    → at.ReadFault ≢ other → at.Refused ≢ other → at.NoMemory ≢ other → at.WriteFault ≢ other → EndsWith (unread_status error) (unread_line error) err result → result ≢ other
unread_never reading.Fault err result other read refused memory fault h = ends_or_fails at.ReadFault read_line err result other h read fault
unread_never reading.TooLong err result other read refused memory fault h = ends_or_fails at.Refused (refusal_line [] TooLong) err result other h refused fault
unread_never reading.NoMemory err result other read refused memory fault h = ends_or_fails at.NoMemory memory_line err result other h memory fault

admits_short : (command : Command) (input : List ℕ) → Reads command → Admits command input → length input ≤ INPUT_LIMIT
admits_short (Read Check) input reads h = h.0
admits_short (Read Tidy) input reads h = h.0
admits_short (Read Code) input reads h = h.0
admits_short (Read Pack) input reads h = h.0
admits_short (Read Run) input reads h = h.0
admits_short Host input reads h = h.0
admits_short (Bench n) input reads h = absurd reads

long_not_admitted : (command : Command) (left : Option (List ℕ)) (input : List ℕ) → Reads command → left ≡ Some input → Admits command input → HasMore left INPUT_LIMIT → ⊥
long_not_admitted command left input reads told admits more =
    let P : Option (List ℕ) → Type 0 = λ o. HasMore o INPUT_LIMIT in
    let over : INPUT_LIMIT < length input = subst P told more in
    let short : length input ≤ INPUT_LIMIT = admits_short command input reads admits in
    omega arith

-- and not refused, where its input is one that the command answers
pub unread_good : (command : Command) (left : Option (List ℕ)) (error : ReadError) (input : List ℕ) (err : Passage SinkState) (result : Status)
    → Reads command → left ≡ Some input → Admits command input → (error ≡ reading.TooLong → HasMore left INPUT_LIMIT) → EndsWith (unread_status error) (unread_line error) err result → result ≢ at.Refused
unread_good command left reading.Fault input err result reads told admits long h = ends_or_fails at.ReadFault read_line err result at.Refused h (λ e. cc) (λ e. cc)
unread_good command left reading.TooLong input err result reads told admits long h = absurd (long_not_admitted command left input reads told admits (long refl))
unread_good command left reading.NoMemory input err result reads told admits long h = ends_or_fails at.NoMemory memory_line err result at.Refused h (λ e. cc) (λ e. cc)

pub ok_no_error : {T E : Type 0} (x : T) (e : E) → (let r : Result T E = Ok x in r ≡ Err e) → ⊥
ok_no_error x e same = cc

-- ---- the input that a source tells

-- what a source told that it held, and what was read of it whole, is one list
pub same_input : (left : Option (List ℕ)) (input bytes : List ℕ) → left ≡ Some input → ReadWhole left bytes → input ≡ bytes
same_input left input bytes told whole = let P : Option (List ℕ) → Type 0 = λ o. ReadWhole o bytes in subst P told whole

pub admits_read : (command : Command) (left : Option (List ℕ)) (input bytes : List ℕ) → left ≡ Some input → ReadWhole left bytes → Admits command input → Admits command bytes
admits_read command left input bytes told whole admits = let P : List ℕ → Type 0 = λ i. Admits command i in subst P (same_input left input bytes told whole) admits

pub refuses_read : (command : Command) (left : Option (List ℕ)) (input bytes : List ℕ) (refusal : Refusal) → left ≡ Some input → ReadWhole left bytes → Refuses command input refusal → Refuses command bytes refusal
refuses_read command left input bytes refusal told whole refuses = let P : List ℕ → Type 0 = λ i. Refuses command i refusal in subst P (same_input left input bytes told whole) refuses

-- ---- words

means_admits : (words : List (List ℕ)) (a b : Command) (input : List ℕ) → Means words a → Means words b → Admits b input → Admits a input
means_admits words a b input one two admits = let P : Command → Type 0 = λ k. Admits k input in subst P (one_command words b a two one) admits

means_refuses : (words : List (List ℕ)) (a b : Command) (input : List ℕ) (refusal : Refusal) → Means words a → Means words b → Refuses b input refusal → Refuses a input refusal
means_refuses words a b input refusal one two refuses = let P : Command → Type 0 = λ k. Refuses k input refusal in subst P (one_command words b a two one) refuses

means_tells : (words : List (List ℕ)) (a b : Command) (source : Passage SourceState) (input : List ℕ) → Means words a → Means words b → Tells b source input → Tells a source input
means_tells words a b source input one two tells = let P : Command → Type 0 = λ k. Tells k source input in subst P (one_command words b a two one) tells

-- ---- the whole

took_none : (left : Option (List ℕ)) (most : ℕ) → TookAtMost left left most
took_none None most = ([], tt, omega arith)
took_none (Some bytes) most = ([], refl, omega arith)

-- what is known of the answer to a source, for the command that the words mean
pub record Answered (words : List (List ℕ)) (command : Command) (status : Status) (source : Passage SourceState) (out err : Passage SinkState) : Type 0 where
  pub ends : EndsAs status words source out err
  pub usage : status ≢ at.Usage
  pub good : (input : List ℕ) → Tells command source input → Admits command input → status ≢ at.Refused
  pub bad : (input : List ℕ) (refusal : Refusal) → Tells command source input → Refuses command input refusal → status ≢ at.Done
  pub taken : StopsReading source

pub answered_call : (words : List (List ℕ)) (command : Command) (status : Status) (source : Passage SourceState) (out err : Passage SinkState)
    → Means words command → Answered words command status source out err → CallEnds words status source out err
answered_call words command status source out err means was = record {
  ends = was.ends;
  good = λ h. (was.usage, was.good h.1 (means_tells words command h.0 source h.1 means h.2 h.3) (means_admits words command h.0 h.1 means h.2 h.4));
  bad = λ h. (was.usage, was.bad h.1 h.2 (means_tells words command h.0 source h.1 means h.3 h.4) (means_refuses words command h.0 h.1 h.2 means h.3 h.5));
  taken = was.taken;
}

-- a source that wasn't read
pub record IsUnread (source : Passage SourceState) : Type 0 where
  pub untouched : source.Untouched
  pub taken : StopsReading source

pub usage_call : (words : List (List ℕ)) (status : Status) (source : Passage SourceState) (out err : Passage SinkState)
    → MeansNone words → IsUnread source → EndsWithLine at.Usage usage_line out err status → CallEnds words status source out err
usage_call words status source out err none unread h = record {
  ends = line_ends at.Usage words source usage_line out err status (none, unread.untouched, refl) h;
  good = λ g. absurd (none g.0 g.2);
  bad = λ b. absurd (none b.0 b.3);
  taken = unread.taken;
}

pub memory_call : (words : List (List ℕ)) (status : Status) (source : Passage SourceState) (out err : Passage SinkState)
    → IsUnread source → EndsWithLine at.NoMemory memory_line out err status → CallEnds words status source out err
memory_call words status source out err unread h = record {
  ends = line_ends at.NoMemory words source memory_line out err status (inl unread.untouched, refl) h;
  good = λ g. (ends_or_fails at.NoMemory memory_line err status at.Usage h.0 (λ e. cc) (λ e. cc), ends_or_fails at.NoMemory memory_line err status at.Refused h.0 (λ e. cc) (λ e. cc));
  bad = λ b. (ends_or_fails at.NoMemory memory_line err status at.Usage h.0 (λ e. cc) (λ e. cc), ends_or_fails at.NoMemory memory_line err status at.Done h.0 (λ e. cc) (λ e. cc));
  taken = unread.taken;
}

-- a stream that was handed to nothing
pub never_read : {S : Type 0} (state : S → SourceState) (src : S) → IsUnread (passage state src src)
never_read state src = record { untouched = refl; taken = took_none (state src).left (INPUT_LIMIT + PIECE) }

-- of one that isn't read a command takes nothing
pub untaken : {S : Type 0} (words : List (List ℕ)) (n : ℕ) (state : S → SourceState) (src : S) → WasTaken words (Bench n) (passage state src src) []
untaken words n state src = record { took = refl; saw = refl; lack = inl refl }

-- a command that reads nothing was answered
pub bench_call : {S : Type 0} (words : List (List ℕ)) (n : ℕ) (status : Status) (state : S → SourceState) (src : S) (out err : Passage SinkState)
    → Means words (Bench n) → InputEnds (Bench n) [] out err status
    → (Admits (Bench n) [] → status ≢ at.Refused) → ((refusal : Refusal) → Refuses (Bench n) [] refusal → status ≢ at.Done)
    → CallEnds words status (passage state src src) out err
bench_call words n status state src out err means ends good bad =
    answered_call words (Bench n) status (passage state src src) out err means (record {
      ends = input_ends words (Bench n) (passage state src src) [] out err status means (untaken words n state src) ends;
      usage = input_never (Bench n) [] out err status at.Usage (λ e. cc) (λ e. cc) (λ e. cc) (λ e. cc) ends;
      good = λ input tells admits. good admits;
      bad = λ input refusal tells refuses. bad refusal refuses;
      taken = (never_read state src).taken;
    })

-- `host` was handed on untouched, and then answered
pub handed_call : {S O E : Type 0} (words : List (List ℕ)) (status : Status) (source : S → SourceState) (out : O → SinkState) (err : E → SinkState)
    (s t u : S) (o p q : O) (e f h : E) → IsHandedOn words (passage source s t) (passage out o p) (passage err e f)
    → CallEnds words status (passage source t u) (passage out p q) (passage err f h) → CallEnds words status (passage source s u) (passage out o q) (passage err e h)
handed_call words status source out err s t u o p q e f h handed there =
    let from_source = subst (λ x. CallEnds words status (passage source x u) (passage out p q) (passage err f h)) handed.unread there in
    let from_out = subst (λ x. CallEnds words status (passage source s u) (passage out x q) (passage err f h)) handed.no_output from_source in
    subst (λ x. CallEnds words status (passage source s u) (passage out o q) (passage err x h)) handed.no_line from_out
