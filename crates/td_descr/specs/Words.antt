-- The words of a descriptor, and loads of them (own rule).
use Rattle.std.specs.Prelude.{◌≡◌, ℕ, ◌+◌, List, [], ◌∷◌, ◌++◌, map, Option, Some, None}
use Rattle.td_descr.specs.Imports.{Load}

abbrev pub load_of : ℕ → ℕ → Load
load_of word value = record { word = word; value = value }

-- loads of a descriptor's words, each named by its word of the ring, of which this one is the descriptor's first
abbrev pub raised : ℕ → List Load → List Load
raised base loads = map (λ (l : Load). load_of (base + l.word) l.value) loads

-- a load of this word, where it gave a value
abbrev pub word_load : ℕ → Option ℕ → List Load
word_load word None = []
word_load word (Some value) = load_of word value ∷ []

-- the loads of two words, where they gave these values
abbrev pub pair_loads : Option ℕ → Option ℕ → List Load
pair_loads first second = word_load 0 first ++ word_load 1 second

-- the loan of a ring's words, what their first word gave, the descriptor's first word, and the words
abbrev pub Kept : Type 0 → Type 0
Kept W = ℕ × ℕ × ℕ × W

-- lent as before, and the words went on
abbrev pub Moved : {W : Type 0} → (W → W → Type 0) → Kept W → Kept W → Type 0
Moved reaches v w = (w.0 ≡ v.0) × (w.1 ≡ v.1) × (w.2 ≡ v.2) × reaches v.3 w.3
