-- Values, the bytes that spell them, and the meaning of these bytes.
use Rattle.std.specs.Prelude.{◌≡◌, ℕ, ◌<◌, ◌≤◌, List, [], length, Option, Some, None, slice_get}
use Rattle.std.specs.List.{All}
use Rattle.td_write_spells.specs.Imports.{TypeDef, Module, Reason, Shape, Range, Broken, Size, Long}
use Rattle.td_core.specs.declared.module.Entry.{Entry}
use Rattle.td_core.specs.Outcome.{Ending, Accepted, Rejected}
use Rattle.td_core.specs.Copies.{IsCopying}
use Rattle.td_kinds.specs.Kinds.{kinds_below}
use Rattle.td_core.specs.Formed.{IsModuleFormed}
use Rattle.td_kinds.specs.KindRules.{body_faults, kind_faults}
use Rattle.td_meaning.specs.Meaning.{meaning}
use Rattle.td_write_values.specs.declared.limits.TheConstants.{MOST_WRITTEN}
use Rattle.td_write_values.specs.Datum.{Datum, Data, Number, Sequence, Bytes, Empty, End, More}
use Rattle.td_write_values.specs.Spelling.{spelling}
use Rattle.td_write_values.specs.Writing.{Written, Done, Refused, writing, whole}

-- no definition has a field that takes the rest and isn't the last one
abbrev pub AreKindsAdmitted : Module → Type 0
AreKindsAdmitted m = (n : ℕ) (d : TypeDef) → slice_get m.definitions n ≡ Some d → body_faults (kinds_below m.definitions n) d.body ≡ []

-- a failure for this reason
abbrev pub FailsFor : Reason → Ending → Type 0
FailsFor reason (Accepted position cells) = ⊥
FailsFor reason (Rejected other position trace cells) = reason ≡ other

-- what was written spells the value, within the limit, and the meaning accepts it to its end with the same cells; a value
-- that is refused for its shape, a number's range, an array's size or the bytes left isn't spelled at all; the meaning fails on the bytes
-- of one that is refused for a test, for the same reason; and those of one that is too long pass the limit
abbrev pub IsExact : Written → Option (List ℕ) → (List ℕ → Ending) → Type 0
IsExact (Done bytes cells claims) spelled means = (spelled ≡ Some bytes) × ((length bytes ≤ MOST_WRITTEN) × (means bytes ≡ Accepted (length bytes) cells))
IsExact (Refused Shape path) spelled means = spelled ≡ None
IsExact (Refused Range path) spelled means = spelled ≡ None
IsExact (Refused (Broken reason) path) spelled means = (bytes : List ℕ) → spelled ≡ Some bytes → FailsFor reason (means bytes)
IsExact (Refused Size path) spelled means = spelled ≡ None
IsExact (Refused Long path) spelled means = (bytes : List ℕ) → spelled ≡ Some bytes → MOST_WRITTEN < length bytes

-- in a module that keeps the rules of copies, from any cells
abbrev pub WritingIsExact : Type 0
WritingIsExact =
    (m : Module) (entry : Entry) (args cells : List ℕ) (v : Datum) → IsCopying m → AreKindsAdmitted m →
    IsExact (writing whole m entry args cells v) (spelling m entry args cells v) (λ bytes. (meaning m entry args cells bytes).ending)

-- in a formed module none of whose kinds is refused this is so
abbrev pub KindsAreAdmitted : Type 0
KindsAreAdmitted = (m : Module) → IsModuleFormed m → kind_faults m ≡ [] → AreKindsAdmitted m

-- what stands in a value as bytes are bytes
abbrev mutual
  pub HoldsBytes : Datum → Type 0
  HoldsBytes (Number n) = Unit {0}
  HoldsBytes (Sequence vs) = HoldBytes vs
  HoldsBytes (Bytes bytes) = All (λ b. b < 256) bytes
  HoldsBytes Empty = Unit {0}

  pub HoldBytes : Data → Type 0
  HoldBytes End = Unit {0}
  HoldBytes (More v vs) = HoldsBytes v × HoldBytes vs

-- then what spells it are bytes too
abbrev pub SpelledAreBytes : Type 0
SpelledAreBytes = (m : Module) (entry : Entry) (args cells : List ℕ) (v : Datum) (bytes : List ℕ) → HoldsBytes v → spelling m entry args cells v ≡ Some bytes → All (λ b. b < 256) bytes
