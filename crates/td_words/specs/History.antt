-- One history of a plain memory (own rule): a list of steps of numbered seats, the first step first. A word is a number
-- below 2^64; words and seats are counted from 0.
use Rattle.std.specs.Prelude.{◌≡◌, ℕ, eqb, cond, List, [], ◌∷◌, slice_index, slice_set}
use mathlib.Core.Option.{some}
use lib.ListN.{get_elem?}
use Rattle.td_words.specs.declared.view.Access.{Access}
use Rattle.td_words.specs.declared.view.Access.TheVariants.{Load, Store}

-- the number of a seat, and a step that it made
abbrev pub Entry : Type 0
Entry = ℕ × Access

-- the memory after a step: a load changes nothing, a store sets its word
abbrev pub after : List ℕ → Access → List ℕ
after words (Load i w) = words
after words (Store i v) = slice_set words i v

-- a load gives what its word holds
abbrev pub Gives : List ℕ → Access → Type 0
Gives words (Load i w) = w ≡ slice_index words i
Gives words (Store i v) = Unit {0}

-- the memory after these steps, one by one
abbrev pub memory_after : List ℕ → List Entry → List ℕ
memory_after words [] = words
memory_after words (e ∷ h) = memory_after (after words e.1) h

-- these steps, one by one, are those of a plain memory that opened with these words: each load gives what its word then
-- holds
abbrev pub IsHistory : List ℕ → List Entry → Type 0
IsHistory words [] = Unit {0}
IsHistory words (e ∷ h) = Gives words e.1 × IsHistory (after words e.1) h

-- the steps of one seat, in their order
abbrev pub steps_of : ℕ → List Entry → List Access
steps_of n [] = []
steps_of n (e ∷ h) = cond (eqb e.0 n) (e.1 ∷ steps_of n h) (steps_of n h)

-- what word i holds after a step, where it held this value before
abbrev pub value_after : ℕ → ℕ → Access → ℕ
value_after i value (Load j w) = value
value_after i value (Store j v) = cond (eqb j i) v value

-- the value of the last store to word i among these steps; without one, this value
abbrev pub last_stored : ℕ → ℕ → List Entry → ℕ
last_stored i value [] = value
last_stored i value (e ∷ h) = last_stored i (value_after i value e.1) h

-- the words that these steps loaded, and what each load gave
abbrev pub loads : List Access → List (ℕ × ℕ)
loads [] = []
loads (Load i w ∷ xs) = (i, w) ∷ loads xs
loads (Store i v ∷ xs) = loads xs

-- the words that these steps stored to, and what each was given
abbrev pub stores : List Access → List (ℕ × ℕ)
stores [] = []
stores (Load i w ∷ xs) = stores xs
stores (Store i v ∷ xs) = (i, v) ∷ stores xs

-- x stands in xs, at some place
abbrev pub Has : {A : Type 0} → List A → A → Type 0
Has xs x = (k : ℕ) × (get_elem? xs k ≡ some x)
