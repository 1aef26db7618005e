-- A plan as what happens to plain memory, one event after the other (own rule).
use Rattle.std.specs.Prelude.{◌≡◌, ℕ, suc, List, [], ◌∷◌, ◌++◌, slice_index, slice_set, map}
use Rattle.td_stream.specs.declared.load.Load.{Load}
use Rattle.td_sched.specs.declared.store.PlannedStore.{PlannedStore}
use Rattle.td_sched.specs.Plan.{numbered}

-- an event is one load or one store
pub data Event : Type 0 where
  Loaded : Load → Event
  Stored : PlannedStore → Event

-- these loads, the first of which has number k, and the stores of each number right before the load of that number
abbrev pub events : List PlannedStore → ℕ → List Load → List Event
events stores k [] = []
events stores k (l ∷ loads) = map Stored (numbered k stores) ++ Loaded l ∷ events stores (suc k) loads

-- memory of these words gives these loads, where the events happen in turn: a store sets its word, if that is there,
-- and a load gives what its word holds then
abbrev pub Happens : List ℕ → List Event → Type 0
Happens words [] = Unit {0}
Happens words (Loaded l ∷ rest) = (l.value ≡ slice_index words l.word) × Happens words rest
Happens words (Stored s ∷ rest) = Happens (slice_set words s.word s.value) rest
