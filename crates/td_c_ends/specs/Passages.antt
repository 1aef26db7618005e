-- Streams over a call, and texts that go out in it (own rule).
use Rattle.std.specs.Prelude.{◌≡◌, ◌⊎◌, ℕ, List}
use Rattle.td_io.specs.States as io
use Rattle.td_c_ends.specs.declared.status.Status.{Status}
use Rattle.td_c_ends.specs.declared.status.Status.TheVariants as at

-- what is told of a stream before and after a call, and that the call left it as it was
pub record Passage (State : Type 0) : Type 1 where
  pub before : State
  pub after : State
  pub Untouched : Type 0

abbrev pub passage : {Stream State : Type 0} → (Stream → State) → Stream → Stream → Passage State
passage state old new = record { before = state old; after = state new; Untouched = new ≡ old }

-- the sink took the whole text, and no write of it failed
abbrev pub Takes : Passage io.SinkState → List ℕ → Type 0
Takes sink text = io.Takes sink.before sink.after text

-- the sink took a prefix of the text, and then one write of it failed, after which nothing was written
abbrev pub WriteFails : Passage io.SinkState → List ℕ → Type 0
WriteFails sink text = io.WriteFails sink.before sink.after text

-- the sink took the text, and the call ends as it was to end; or a write of it failed
abbrev pub EndsWith : Status → List ℕ → Passage io.SinkState → Status → Type 0
EndsWith status text sink result = ((result ≡ status) × Takes sink text) ⊎ ((result ≡ at.WriteFault) × WriteFails sink text)

-- the output goes to `out`, and `err` is untouched
abbrev pub EndsWithOutput : List ℕ → Passage io.SinkState → Passage io.SinkState → Status → Type 0
EndsWithOutput output out err result = EndsWith at.Done output out result × err.Untouched

-- the line goes to `err`, and `out` is untouched
abbrev pub EndsWithLine : Status → List ℕ → Passage io.SinkState → Passage io.SinkState → Status → Type 0
EndsWithLine status line out err result = EndsWith status line err result × out.Untouched
