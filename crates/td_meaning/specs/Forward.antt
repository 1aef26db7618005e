-- Fields are read forward (own rule): whether a byte is read rests on the bytes that were read before it.
use Rattle.std.specs.Prelude.{◌≡◌, ◌⊎◌, ℕ, ◌<◌, ◌≤◌, ◌↔◌, List, [], ◌∷◌, length, slice_index}
use Rattle.td_num.specs.Lists.{Each}
use Rattle.td_meaning.specs.Imports.{Module, Entry}
use Rattle.td_meaning.specs.Meaning.{meaning}

-- a place is one of these
abbrev pub IsAt : ℕ → List ℕ → Type 0
IsAt k [] = ⊥
IsAt k (x ∷ xs) = (k ≡ x) ⊎ IsAt k xs

-- two messages have the same bytes at those of these places that stand before q
abbrev pub SameBefore : ℕ → List ℕ → List ℕ → List ℕ → Type 0
SameBefore q places b c = Each (λ k. k < q → slice_index b k ≡ slice_index c k) places

-- messages of one length that agree on what is read of the first before q: a place up to q is read of both or of neither
abbrev pub ReadsGoForward : Type 0
ReadsGoForward =
    (m : Module) (entry : Entry) (args cells b c : List ℕ) (q : ℕ) →
    length b ≡ length c →
    SameBefore q (meaning m entry args cells b).reads b c →
    (k : ℕ) → k ≤ q → IsAt k (meaning m entry args cells b).reads ↔ IsAt k (meaning m entry args cells c).reads

-- what is read lies in the message
abbrev pub ReadsAreWithin : Type 0
ReadsAreWithin =
    (m : Module) (entry : Entry) (args cells message : List ℕ) →
    Each (λ k. k < length message) (meaning m entry args cells message).reads
