-- What is read decides the ending, and what is read (own rule).
use Rattle.std.specs.Prelude.{◌≡◌, ℕ, List, [], ◌∷◌, length, slice_index}
use Rattle.td_meaning.specs.Imports.{Module, Entry}
use Rattle.td_meaning.specs.Meaning.{meaning}

-- two messages have the same bytes at these places
abbrev pub SameAt : List ℕ → List ℕ → List ℕ → Type 0
SameAt [] b c = Unit {0}
SameAt (k ∷ ks) b c = (slice_index b k ≡ slice_index c k) × SameAt ks b c

-- messages of one length that agree on what is read of the first have one ending, and the same is read of both
abbrev pub ReadsDecide : Type 0
ReadsDecide =
    (m : Module) (entry : Entry) (args cells b c : List ℕ) →
    length b ≡ length c →
    SameAt (meaning m entry args cells b).reads b c →
    meaning m entry args cells b ≡ meaning m entry args cells c
