-- What a validation comes to, part by part; of use below the validator alone.
use Rattle.std.specs.Prelude.{◌≡◌, ◌⊎◌, ℕ, List, length}
use Rattle.td_core.specs.Held.{AreHeld}
use Rattle.td_core.specs.Outcome.{Behavior, after_reading, and_then, plain}
use Rattle.td_direct.specs.Imports.{Field, Module, NameId, Part, Verdict, Load, Stream}
use Rattle.td_meaning.specs.Words64.{below, parts_meaning, fields_meaning}
use Rattle.td_meaning.specs.Meaning.{Sense, extended}
use Rattle.td_meaning.specs.Verdicts.{ending_of, IsAt}
use Rattle.td_stream.specs.Copies.{held_by, rooms_of}
use Rattle.td_stream.specs.Loads.{Carries, IsLoaded, IsTouched}
use Rattle.td_stream.specs.StreamInvariant.{IsStream, Later, Looked, layout_of, loads_of, position, end_of}
use Rattle.td_direct.specs.declared.slate.Slate.{Slate}

-- what the definitions of a module below a bound mean
abbrev pub senses : Module → ℕ → ℕ → Sense
senses m bound = below m.listed m.definitions bound

-- from s to t just the words of some places were loaded, and the whole is what is left after these were read
pub record Reads {W : Type 0} (loads : W → List Load) (s t : Stream W) (whole rest : Behavior) : Type 0 where
  pub seen : List ℕ
  pub looked : Looked loads s t seen
  pub is : whole ≡ after_reading seen rest

-- from s to t only words with a byte among what is read were loaded
abbrev pub OnlyRead : {W : Type 0} → (W → List Load) → Stream W → Stream W → Behavior → Type 0
OnlyRead loads s t behavior = (i : ℕ) → IsLoaded (loads t.words.now) i → IsLoaded (loads s.words.now) i ⊎ IsTouched (layout_of s) behavior.reads i

-- the parts of a field that began at start and whose number is n, and then the later fields
abbrev pub rest_meaning : List (List ℕ) → (ℕ → Sense) → NameId → List Part → List Field → List ℕ → ℕ → List ℕ → List ℕ → ℕ → ℕ → ℕ → List ℕ → Behavior
rest_meaning sets senses ty parts later env n places b end start q cells =
    and_then (parts_meaning ty start n parts env places q cells) (fields_meaning sets senses ty later (extended env n parts) places b end)

-- the same numbers, buffers and frames are lent: as many numbers, and the buffers with the rooms that they had
pub record IsLent (x y : Slate) : Type 0 where
  pub same_cells : y.cells.ghost_name ≡ x.cells.ghost_name
  pub same_copies : y.copies.ghost_name ≡ x.copies.ghost_name
  pub same_trace : y.trace.ghost_name ≡ x.trace.ghost_name
  pub cells : length y.cells.now ≡ length x.cells.now
  pub rooms : rooms_of y.copies.now ≡ rooms_of x.copies.now

-- A validation came to a verdict, the stream from s to t, and what it writes from x to y. The stream goes on, up to the same end. On every
-- list that carries the words loaded the whole is what is left after just these were read, and the buffers hold what the numbers behind
-- the first ones say, if they did.
pub record Validates {W : Type 0} (loads : W → List Load) (size : W → ℕ) (reaches : W → W → Type 0) (first : ℕ) (s t : Stream W) (x y : Slate) (v : Verdict) (whole rest : List ℕ → Behavior) : Type 0 where
  pub later : Later loads reaches s t
  pub stream : IsStream loads size t
  pub ends : end_of t ≡ end_of s
  pub at : IsAt v (position t) y.trace.now
  pub lent : IsLent x y
  pub held : (b : List ℕ) → Carries (layout_of s) b (loads_of loads t) → AreHeld b first x.cells.now (held_by x.copies.now) → AreHeld b first y.cells.now (held_by y.copies.now)
  pub step : (b : List ℕ) → Carries (layout_of s) b (loads_of loads t) → Reads loads s t (whole b) (rest b)

-- and the verdict is all that is left
abbrev pub Decides : {W : Type 0} → (W → List Load) → (W → ℕ) → (W → W → Type 0) → ℕ → Stream W → Stream W → Slate → Slate → Verdict → (List ℕ → Behavior) → Type 0
Decides loads size reaches first s t x y v whole = Validates loads size reaches first s t x y v whole (λ b. plain (ending_of v y.trace.now y.cells.now))

-- memory ran out on the way: on every list that carries the words loaded, only words with a byte among what the whole reads were
pub record RunsOut {W : Type 0} (loads : W → List Load) (size : W → ℕ) (reaches : W → W → Type 0) (s t : Stream W) (x y : Slate) (whole : List ℕ → Behavior) : Type 0 where
  pub later : Later loads reaches s t
  pub stream : IsStream loads size t
  pub lent : IsLent x y
  pub only : (b : List ℕ) → Carries (layout_of s) b (loads_of loads t) → OnlyRead loads s t (whole b)
