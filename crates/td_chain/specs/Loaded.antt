-- Words of a memory that were loaded, in any order, and the memories that hold them (own rule). A memory says of each word, by its number
-- from 0, what it holds.
use Rattle.std.specs.Prelude.{◌≡◌, ◌≢◌, ℕ, ◌+◌, ◌≤◌, List, [], ◌∷◌, ◌++◌, cond, nat_eq, Option, Some, None}
use Rattle.std.specs.List.{All}
use Rattle.td_stream.specs.declared.load.Load.{Load}
use Rattle.td_stream.specs.Room.{LoadsView}

-- the memory holds what was loaded
abbrev pub Holds : (ℕ → ℕ) → List Load → Type 0
Holds m loads = All (λ l. m l.word ≡ l.value) loads

-- word i wasn't loaded
abbrev pub IsFresh : ℕ → List Load → Type 0
IsFresh i loads = All (λ l. l.word ≢ i) loads

-- no word was loaded twice
abbrev pub AreApart : List Load → Type 0
AreApart [] = Unit {0}
AreApart (l ∷ loads) = IsFresh l.word loads × AreApart loads

-- what was loaded of word i, if it was
abbrev pub value_in : ℕ → List Load → Option ℕ
value_in i [] = None
value_in i (l ∷ loads) = cond (nat_eq l.word i) (Some l.value) (value_in i loads)

-- loads went on by words of which this holds, each of them new
pub record Grown (P : ℕ → Type 0) (loads loads' : List Load) : Type 0 where
  pub more : List Load
  pub are : loads' ≡ loads ++ more
  pub only : All (λ l. P l.word) more
  pub apart : AreApart loads → AreApart loads'

-- a memory was looked at by at most n loads more, of words of which this holds, and the list has them all
pub record Looked {S : Type 0} (loads_of : S → List Load) (goes : S → S → Type 0) (P : ℕ → Type 0) (n : ℕ) (s s' : S) (l l' : LoadsView) : Type 0 where
  pub same : l'.list ≡ loads_of s'
  pub reaches : goes s s'
  pub room : l.room ≤ l'.room + n
  pub grown : Grown P l.list l'.list
