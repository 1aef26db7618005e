-- How a call ends, from how its words were understood, its source was read and its input was answered.
use Rattle.std.proofs.Common.{◌≡◌, ◌≢◌, inl, inr, ℕ, zero, suc, ◌+◌, ◌<◌, ◌≤◌, List, [], ◌∷◌, length, Option, Some, None, Result, Ok, Err, Bool, true, false, true≢false, refl, sym, subst, ◌∙◌, arith}
use Rattle.std.specs.Prelude.{◌↔◌}
use Rattle.std.specs.Io.KnownBytes.{IsAtEnd}
use Rattle.td_io.specs.declared.reading.ReadError.{ReadError}
use Rattle.td_io.specs.declared.reading.ReadError.TheVariants as reading
use Rattle.td_io.specs.declared.reading.TheConstants.{PIECE}
use Rattle.td_io.specs.Causes.{ReadWhole, HasMore, TookAtMost}
use Rattle.td_io.specs.States.{SourceState, SinkState}
use Rattle.td_c_tool.specs.Imports.{Command, Refusal, BadName, TooLong, Status}
use Rattle.td_c_command.specs.Command.{Means, MeansNone}
use Rattle.td_c_command.specs.Prefix.{IsPrefix}
use Rattle.td_c_command.proofs.Words.{one_command}
use Rattle.td_c_ends.specs.declared.status.Status.TheVariants as at
use Rattle.td_c_ends.specs.Errors.{unread_status, unread_line}
use Rattle.td_c_ends.specs.Lines.{usage_line, read_line, memory_line, refusal_line}
use Rattle.td_c_ends.specs.Passages.{Passage, passage, WriteFails, EndsWith, EndsWithOutput, EndsWithLine}
use Rattle.td_c_tool.specs.declared.tool.TheConstants.{INPUT_LIMIT}
use Rattle.td_c_tool.specs.Answers.{Admits, Refuses}
use Rattle.td_c_tool.specs.CallEnds.{CallEnds, StopsReading, ReadFails, NoReadFails, WithinLimit, Held, IsOutput, IsErrorLine, EndsAs}
use Rattle.td_c_tool.specs.InputEnds.{InputEnds, AnswersInput}

-- ---- text that goes out

-- a text that goes to a sink ends the call as it was to end, or by a fault
pub ends_or_fails : (end : Status) (text : List ℕ) (sink : Passage SinkState) (result other : Status) → EndsWith end text sink result → end ≢ other → at.WriteFault ≢ other → result ≢ other
ends_or_fails end text sink result other (inl taken) not fault same = not (sym taken.0 ∙ same)
ends_or_fails end text sink result other (inr failed) not fault same = fault (sym failed.0 ∙ same)

fault_ends : (status : Status) (words : List (List ℕ)) (source : Passage SourceState) (line : List ℕ) (out err : Passage SinkState) (result : Status)
    → IsErrorLine status words source line → result ≡ at.WriteFault → WriteFails err line → out.Untouched → EndsAs result words source out err
fault_ends status words source line out err result is same fails free =
    let P : Status → Type 0 = λ s. EndsAs s words source out err in subst P (sym same) (inr (status, line, is, fails, free))

-- the line of a status goes to the error stream
line_ends : (status : Status) (words : List (List ℕ)) (source : Passage SourceState) (line : List ℕ) (out err : Passage SinkState) (result : Status)
    → IsErrorLine status words source line → EndsWithLine status line out err result → EndsAs result words source out err
line_ends at.Done words source line out err result is h = absurd is
line_ends at.WriteFault words source line out err result is h = absurd is
line_ends at.Refused words source line out err result is (inl taken, free) =
    let P : Status → Type 0 = λ s. EndsAs s words source out err in subst P (sym taken.0) (line, is, taken.1, free)
line_ends at.Refused words source line out err result is (inr failed, free) = fault_ends at.Refused words source line out err result is failed.0 failed.1 free
line_ends at.Usage words source line out err result is (inl taken, free) =
    let P : Status → Type 0 = λ s. EndsAs s words source out err in subst P (sym taken.0) (line, is, taken.1, free)
line_ends at.Usage words source line out err result is (inr failed, free) = fault_ends at.Usage words source line out err result is failed.0 failed.1 free
line_ends at.ReadFault words source line out err result is (inl taken, free) =
    let P : Status → Type 0 = λ s. EndsAs s words source out err in subst P (sym taken.0) (line, is, taken.1, free)
line_ends at.ReadFault words source line out err result is (inr failed, free) = fault_ends at.ReadFault words source line out err result is failed.0 failed.1 free
line_ends at.NoMemory words source line out err result is (inl taken, free) =
    let P : Status → Type 0 = λ s. EndsAs s words source out err in subst P (sym taken.0) (line, is, taken.1, free)
line_ends at.NoMemory words source line out err result is (inr failed, free) = fault_ends at.NoMemory words source line out err result is failed.0 failed.1 free

-- the output goes to `out`
output_ends : (words : List (List ℕ)) (source : Passage SourceState) (output : List ℕ) (out err : Passage SinkState) (result : Status)
    → IsOutput words source output → EndsWithOutput output out err result → EndsAs result words source out err
output_ends words source output out err result is (inl taken, free) =
    let P : Status → Type 0 = λ s. EndsAs s words source out err in subst P (sym taken.0) (output, is, taken.1, free)
output_ends words source output out err result is (inr failed, free) =
    let P : Status → Type 0 = λ s. EndsAs s words source out err in subst P (sym failed.0) (inl (output, is, failed.1, free))

-- ---- what is known of the one command that the words mean

-- how the call ended for it
record Answered (words : List (List ℕ)) (command : Command) (status : Status) (source : Passage SourceState) (out err : Passage SinkState) : Type 0 where
  pub ends : EndsAs status words source out err
  pub usage : status ≢ at.Usage
  pub good : (input : List ℕ) → source.before.left ≡ Some input → Admits command input → status ≢ at.Refused
  pub bad : IsPrefix command.prefix → (input : List ℕ) (refusal : Refusal) → source.before.left ≡ Some input → Refuses input refusal → status ≢ at.Done
  pub unfit : ¬ IsPrefix command.prefix → status ≢ at.Done
  pub taken : StopsReading source

call_of : (words : List (List ℕ)) (command : Command) (status : Status) (source : Passage SourceState) (out err : Passage SinkState)
    → Means words command → Answered words command status source out err → CallEnds words status source out err
call_of words command status source out err means was = record {
  ends = was.ends;
  good = λ h.
      let P : Command → Type 0 = λ k. Admits k h.1 in
      (was.usage, was.good h.1 h.3 (subst P (one_command words h.0 command h.2 means) h.4));
  bad = λ h.
      let P : Command → Type 0 = λ k. IsPrefix k.prefix in
      (was.usage, was.bad (subst P (one_command words h.0.0 command h.0.1 means) h.0.2) h.1 h.2 h.3 h.4);
  unfit = λ h.
      let P : Command → Type 0 = λ k. ¬ IsPrefix k.prefix in
      (was.usage, was.unfit (subst P (one_command words h.0 command h.1 means) h.2));
  taken = was.taken;
}

-- ---- a source that was read to its end

pub record WasRead (source : Passage SourceState) (input : List ℕ) : Type 0 where
  pub held : Held source input
  pub end : IsAtEnd source.after.left
  pub quiet : NoReadFails source
  pub within : WithinLimit source
  pub taken : StopsReading source

input_ends : (words : List (List ℕ)) (command : Command) (source : Passage SourceState) (input : List ℕ) (out err : Passage SinkState) (result : Status)
    → Means words command → IsPrefix command.prefix → WasRead source input → InputEnds command input out err result → EndsAs result words source out err
input_ends words command source input out err result means named read (inl h) =
    output_ends words source h.0 out err result (record { command = command; means = means; input = input; held = read.held; end = read.end; quiet = read.quiet; answers = h.1 }) h.2
input_ends words command source input out err result means named read (inr (inl h)) =
    line_ends at.Refused words source (refusal_line input h.0) out err result
    (inr (record { means = (command, means, named); input = input; held = read.held; quiet = read.quiet; refusal = h.0; refuses = h.1; line_is = refl })) h.2
input_ends words command source input out err result means named read (inr (inr h)) =
    line_ends at.NoMemory words source memory_line out err result (inr ((command, means, named), read.quiet, read.within), refl) h

-- an input that was read ends a call in one of four ways
input_never : (command : Command) (input : List ℕ) (out err : Passage SinkState) (result other : Status)
    → at.Done ≢ other → at.Refused ≢ other → at.NoMemory ≢ other → at.WriteFault ≢ other → InputEnds command input out err result → result ≢ other
input_never command input out err result other done refused memory fault (inl h) = ends_or_fails at.Done h.0 out result other h.2.0 done fault
input_never command input out err result other done refused memory fault (inr (inl h)) = ends_or_fails at.Refused (refusal_line input h.0) err result other h.2.0 refused fault
input_never command input out err result other done refused memory fault (inr (inr h)) = ends_or_fails at.NoMemory memory_line err result other h.0 memory fault

-- what a source told that it held, and what was read of it whole, is one list
same_input : (left : Option (List ℕ)) (input bytes : List ℕ) → left ≡ Some input → ReadWhole left bytes → input ≡ bytes
same_input left input bytes told whole = let P : Option (List ℕ) → Type 0 = λ o. ReadWhole o bytes in subst P told whole

pub read_call : (words : List (List ℕ)) (command : Command) (source : Passage SourceState) (input : List ℕ) (out err : Passage SinkState) (result : Status)
    → Means words command → IsPrefix command.prefix → WasRead source input → AnswersInput command input out err result → CallEnds words result source out err
read_call words command source input out err result means named read answered =
    call_of words command result source out err means (record {
      ends = input_ends words command source input out err result means named read answered.ends;
      usage = input_never command input out err result at.Usage (λ e. cc) (λ e. cc) (λ e. cc) (λ e. cc) answered.ends;
      good = λ told there admits. let P : List ℕ → Type 0 = λ i. Admits command i in answered.good (subst P (same_input source.before.left told input there read.held) admits);
      bad = λ fit told refusal there refuses. let P : List ℕ → Type 0 = λ i. Refuses i refusal in answered.bad refusal (subst P (same_input source.before.left told input there read.held) refuses);
      unfit = λ other. absurd (other named);
      taken = read.taken;
    })

-- ---- a source that wasn't

some_longer : (n : ℕ) → (xs : List ℕ) × (n < length xs)
some_longer zero = (0 ∷ [], omega arith)
some_longer (suc n) = let r = some_longer n in let h : n < length r.0 = r.1 in (0 ∷ r.0, omega (arith, h))

-- a source with more bytes than the limit holds an input that is too long
long_input : (left : Option (List ℕ)) → HasMore left INPUT_LIMIT → (input : List ℕ) × ReadWhole left input × (INPUT_LIMIT < length input)
long_input None more = let long = some_longer INPUT_LIMIT in (long.0, tt, long.1)
long_input (Some bytes) more = (bytes, refl, more)

pub record WasUnread (source : Passage SourceState) (error : ReadError) : Type 0 where
  pub fault : error ≡ reading.Fault → ReadFails source
  pub quiet : (error ≡ reading.Fault → ⊥) → NoReadFails source
  pub long : error ≡ reading.TooLong → HasMore source.before.left INPUT_LIMIT
  pub within : (error ≡ reading.TooLong → ⊥) → WithinLimit source
  pub taken : StopsReading source

unread_ends : (words : List (List ℕ)) (command : Command) (source : Passage SourceState) (error : ReadError) (out err : Passage SinkState) (result : Status)
    → Means words command → IsPrefix command.prefix → WasUnread source error → EndsWithLine (unread_status error) (unread_line error) out err result → EndsAs result words source out err
unread_ends words command source reading.Fault out err result means named was h =
    line_ends at.ReadFault words source read_line out err result ((command, means, named), was.fault refl, refl) h
unread_ends words command source reading.TooLong out err result means named was h =
    let long = long_input source.before.left (was.long refl) in
    let quiet : NoReadFails source = was.quiet (λ same. cc) in
    line_ends at.Refused words source (refusal_line [] TooLong) out err result
    (inr (record { means = (command, means, named); input = long.0; held = long.1; quiet = quiet; refusal = TooLong; refuses = long.2; line_is = refl })) h
unread_ends words command source reading.NoMemory out err result means named was h =
    line_ends at.NoMemory words source memory_line out err result (inr ((command, means, named), was.quiet (λ same. cc), was.within (λ same. cc)), refl) h

-- such a call is neither answered nor of no command
unread_never : (error : ReadError) (err : Passage SinkState) (result other : Status)
    → at.ReadFault ≢ other → at.Refused ≢ other → at.NoMemory ≢ other → at.WriteFault ≢ other → EndsWith (unread_status error) (unread_line error) err result → result ≢ other
unread_never reading.Fault err result other read refused memory fault h = ends_or_fails at.ReadFault read_line err result other h read fault
unread_never reading.TooLong err result other read refused memory fault h = ends_or_fails at.Refused (refusal_line [] TooLong) err result other h refused fault
unread_never reading.NoMemory err result other read refused memory fault h = ends_or_fails at.NoMemory memory_line err result other h memory fault

long_not_admitted : (command : Command) (left : Option (List ℕ)) (input : List ℕ) → left ≡ Some input → Admits command input → HasMore left INPUT_LIMIT → ⊥
long_not_admitted command left input told admits more =
    let P : Option (List ℕ) → Type 0 = λ o. HasMore o INPUT_LIMIT in
    let over : INPUT_LIMIT < length input = subst P told more in
    let short : length input ≤ INPUT_LIMIT = admits.1 in
    omega arith

-- and not refused, where its input is one that the command answers
unread_good : (command : Command) (left : Option (List ℕ)) (error : ReadError) (input : List ℕ) (err : Passage SinkState) (result : Status)
    → left ≡ Some input → Admits command input → (error ≡ reading.TooLong → HasMore left INPUT_LIMIT) → EndsWith (unread_status error) (unread_line error) err result → result ≢ at.Refused
unread_good command left reading.Fault input err result told admits long h = ends_or_fails at.ReadFault read_line err result at.Refused h (λ e. cc) (λ e. cc)
unread_good command left reading.TooLong input err result told admits long h = absurd (long_not_admitted command left input told admits (long refl))
unread_good command left reading.NoMemory input err result told admits long h = ends_or_fails at.NoMemory memory_line err result at.Refused h (λ e. cc) (λ e. cc)

pub unread_call : (words : List (List ℕ)) (command : Command) (source : Passage SourceState) (error : ReadError) (out err : Passage SinkState) (result : Status)
    → Means words command → IsPrefix command.prefix → WasUnread source error → EndsWithLine (unread_status error) (unread_line error) out err result → CallEnds words result source out err
unread_call words command source error out err result means named was h =
    call_of words command result source out err means (record {
      ends = unread_ends words command source error out err result means named was h;
      usage = unread_never error err result at.Usage (λ e. cc) (λ e. cc) (λ e. cc) (λ e. cc) h.0;
      good = λ input told admits. unread_good command source.before.left error input err result told admits was.long h.0;
      bad = λ fit input refusal told refuses. unread_never error err result at.Done (λ e. cc) (λ e. cc) (λ e. cc) (λ e. cc) h.0;
      unfit = λ other. absurd (other named);
      taken = was.taken;
    })

pub ok_no_error : {T E : Type 0} (x : T) (e : E) → (let r : Result T E = Ok x in r ≡ Err e) → ⊥
ok_no_error x e same = cc

-- ---- a source that was handed to nothing

took_none : (left : Option (List ℕ)) (most : ℕ) → TookAtMost left left most
took_none None most = ([], tt, omega arith)
took_none (Some bytes) most = ([], refl, omega arith)

pub record IsUnread (source : Passage SourceState) : Type 0 where
  pub untouched : source.Untouched
  pub taken : StopsReading source

pub never_read : {S : Type 0} (state : S → SourceState) (src : S) → IsUnread (passage state src src)
never_read state src = record { untouched = refl; taken = took_none (state src).left (INPUT_LIMIT + PIECE) }

pub name_call : (words : List (List ℕ)) (command : Command) (status : Status) (source : Passage SourceState) (out err : Passage SinkState)
    → Means words command → ¬ IsPrefix command.prefix → IsUnread source → EndsWithLine at.Refused (refusal_line [] BadName) out err status → CallEnds words status source out err
name_call words command status source out err means unfit unread h =
    call_of words command status source out err means (record {
      ends = line_ends at.Refused words source (refusal_line [] BadName) out err status (inl (record { command = command; means = means; unfit = unfit; unread = unread.untouched; line_is = refl })) h;
      usage = ends_or_fails at.Refused (refusal_line [] BadName) err status at.Usage h.0 (λ e. cc) (λ e. cc);
      good = λ input told admits. absurd (unfit admits.0);
      bad = λ fit. absurd (unfit fit);
      unfit = λ also. ends_or_fails at.Refused (refusal_line [] BadName) err status at.Done h.0 (λ e. cc) (λ e. cc);
      taken = unread.taken;
    })

-- what is no prefix by its test is none
pub not_prefix : (test : Bool) (name own : List ℕ) → name ≡ own → (test ≡ true) ↔ IsPrefix name → test ≡ false → ¬ IsPrefix own
not_prefix test name own same is failed fit = true≢false (sym (is.1 (subst IsPrefix (sym same) fit)) ∙ failed)

pub usage_call : (words : List (List ℕ)) (status : Status) (source : Passage SourceState) (out err : Passage SinkState)
    → MeansNone words → IsUnread source → EndsWithLine at.Usage usage_line out err status → CallEnds words status source out err
usage_call words status source out err none unread h = record {
  ends = line_ends at.Usage words source usage_line out err status (none, unread.untouched, refl) h;
  good = λ g. absurd (none g.0 g.2);
  bad = λ b. absurd (none b.0.0 b.0.1);
  unfit = λ b. absurd (none b.0 b.1);
  taken = unread.taken;
}

pub memory_call : (words : List (List ℕ)) (status : Status) (source : Passage SourceState) (out err : Passage SinkState)
    → IsUnread source → EndsWithLine at.NoMemory memory_line out err status → CallEnds words status source out err
memory_call words status source out err unread h =
    let usage : status ≢ at.Usage = ends_or_fails at.NoMemory memory_line err status at.Usage h.0 (λ e. cc) (λ e. cc) in
    let refused : status ≢ at.Refused = ends_or_fails at.NoMemory memory_line err status at.Refused h.0 (λ e. cc) (λ e. cc) in
    let done : status ≢ at.Done = ends_or_fails at.NoMemory memory_line err status at.Done h.0 (λ e. cc) (λ e. cc) in
    record {
      ends = line_ends at.NoMemory words source memory_line out err status (inl unread.untouched, refl) h;
      good = λ g. (usage, refused);
      bad = λ b. (usage, done);
      unfit = λ b. (usage, done);
      taken = unread.taken;
    }
