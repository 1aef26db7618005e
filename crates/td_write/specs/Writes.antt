-- What a step of the writer does to what was written; of use below the writer alone.
use Rattle.std.specs.Prelude.{◌≡◌, ◌≤◌, ◌+◌, ℕ, List, length, map}
use Rattle.td_write.specs.Imports.{Module}
use Rattle.td_core.specs.Outcome.{Ending}
use Rattle.td_write_values.specs.declared.limits.TheConstants.{MOST_WRITTEN}
use Rattle.td_write_values.specs.Datum.{Datum, Number, Sequence, Bytes, Empty}
use Rattle.td_write_values.specs.Writing.{Claim, Written, Done, Refused, Writer, after_writing, tested, writers_below, in_machine}
use Rattle.td_write.specs.declared.walk.Claim.{Claim as Noted}
use Rattle.td_write.specs.declared.halt.Halt.{Halt}
use Rattle.td_write.specs.declared.halt.Halt.TheVariants as halt

-- the definitions below n, with the tests as the machine makes them
abbrev pub below : Module → ℕ → ℕ → Writer
below m n = writers_below in_machine m.listed m.definitions n

-- what was said of ends
abbrev pub claims_of : List Noted → List Claim
claims_of noted = map (λ c. record { end = c.place + c.left; path = c.path.items }) noted

-- all of it was written, behind what stood there, with what is said of ends
pub record Wrote (w : Written) (old new path after cells : List ℕ) (before claims : List Claim) : Type 0 where
  pub total : after_writing old before w ≡ Done new cells claims
  pub room : length new ≤ MOST_WRITTEN
  pub back : after ≡ path

-- a part of it was written, and the rest is left
pub record GoesOn (w rest : Written) (old new : List ℕ) (before claims : List Claim) : Type 0 where
  pub total : after_writing old before w ≡ after_writing new claims rest

-- it is refused by the rule that stopped the writer, at the path that is at hand
abbrev pub Halts : Halt → List ℕ → Written → Type 0
Halts (halt.Broken rule) path w = w ≡ Refused rule path
Halts halt.NoMemory path w = Unit {0}

-- a test of the type's own passes, or is what stopped the writer
abbrev pub Passes : Ending → List ℕ → Type 0
Passes o cells = (path : List ℕ) (go : List ℕ → Written) → tested o path go ≡ go cells

abbrev pub Fails : Halt → Ending → Type 0
Fails (halt.Broken rule) o = (path : List ℕ) (go : List ℕ → Written) → tested o path go ≡ Refused rule path
Fails halt.NoMemory o = Unit {0}

abbrev pub IsNumber : Datum → Type 0
IsNumber (Number n) = Unit {0}
IsNumber (Sequence vs) = ⊥
IsNumber (Bytes bytes) = ⊥
IsNumber Empty = ⊥

abbrev pub IsSequence : Datum → Type 0
IsSequence (Number n) = ⊥
IsSequence (Sequence vs) = Unit {0}
IsSequence (Bytes bytes) = ⊥
IsSequence Empty = ⊥
