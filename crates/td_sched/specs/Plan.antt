-- What a plan has in each word at each load (own rule). A plan has opening words and stores; an event is one load or
-- one store. Each store stands before the load of its number, from 0; one whose number no load has never comes.
use Rattle.std.specs.Prelude.{◌≡◌, ℕ, zero, suc, nat_eq, List, [], ◌∷◌, ◌++◌, slice_index}
use Rattle.std.specs.List.{filter}
use Rattle.td_stream.specs.declared.load.Load.{Load}
use Rattle.td_sched.specs.declared.store.PlannedStore.{PlannedStore}

-- the stores of this number, in their order
abbrev pub numbered : ℕ → List PlannedStore → List PlannedStore
numbered k stores = filter (λ s. nat_eq s.before k) stores

-- the stores with a number of at most k, by rising number, and within one number in their order
abbrev pub up_to : ℕ → List PlannedStore → List PlannedStore
up_to zero stores = numbered 0 stores
up_to (suc k) stores = up_to k stores ++ numbered (suc k) stores

-- the stores to this word, in their order
abbrev pub to_word : ℕ → List PlannedStore → List PlannedStore
to_word i stores = filter (λ s. nat_eq s.word i) stores

-- the value of the last of these stores; without one, this value
abbrev pub last_value : ℕ → List PlannedStore → ℕ
last_value value [] = value
last_value value (s ∷ stores) = last_value s.value stores

-- what load k of word i gives: the value of the last store to word i among those with a number of at most k, taken by
-- rising number and within one number in their order; without one, the opening word
abbrev pub at : List ℕ → List PlannedStore → ℕ → ℕ → ℕ
at opening stores k i = last_value (slice_index opening i) (to_word i (up_to k stores))

-- these loads, the first of which has number k, give what the plan has
abbrev pub ArePlanned : List ℕ → List PlannedStore → ℕ → List Load → Type 0
ArePlanned opening stores k [] = Unit {0}
ArePlanned opening stores k (l ∷ loads) = (l.value ≡ at opening stores k l.word) × ArePlanned opening stores (suc k) loads
