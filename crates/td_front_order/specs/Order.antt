-- The order of things that use one another (own rule): they are taken one by one; the next is the first, not yet taken, of
-- which all that it uses was taken. Things are numbers from 0, and `graph` has for each the numbers of those that it uses.
use Rattle.std.specs.Prelude.{◌≡◌, ◌<◌, ℕ, zero, suc, Bool, true, not, ◌&&◌, List, [], ◌∷◌, ◌++◌, length, Option, Some, None, slice_get}
use Rattle.std.specs.List.{list_all, find}
use Rattle.td_num.specs.Lists.{is_among}
use Rattle.td_num.specs.Numbers.{places_from}

abbrev pub used_or_none : Option (List ℕ) → List ℕ
used_or_none None = []
used_or_none (Some used) = used

abbrev pub used_by : List (List ℕ) → ℕ → List ℕ
used_by graph i = used_or_none (slice_get graph i)

-- each that is used is there
abbrev pub IsWithin : List (List ℕ) → Type 0
IsWithin graph = (i j : ℕ) → is_among (used_by graph i) j ≡ true → j < length graph

abbrev pub is_ready : List (List ℕ) → List ℕ → ℕ → Bool
is_ready graph taken i = not (is_among taken i) && list_all (is_among taken) (used_by graph i)

-- the first that is ready
abbrev pub next : List (List ℕ) → List ℕ → Option ℕ
next graph taken = find (is_ready graph taken) (places_from 0 (length graph))

-- one more, where there is one, and then again
abbrev pub turned : (List ℕ → List ℕ) → List ℕ → Option ℕ → List ℕ
turned again taken None = taken
turned again taken (Some i) = again (taken ++ i ∷ [])

-- at most so many more, after those that were taken
abbrev pub taken_after : ℕ → List (List ℕ) → List ℕ → List ℕ
taken_after zero graph taken = taken
taken_after (suc n) graph taken = turned (λ more. taken_after n graph more) taken (next graph taken)

abbrev pub order : List (List ℕ) → List ℕ
order graph = taken_after (length graph) graph []

-- b is used, used by what a uses, and so on, by so many uses
abbrev pub ReachesBy : List (List ℕ) → ℕ → ℕ → ℕ → Type 0
ReachesBy graph zero a b = a ≡ b
ReachesBy graph (suc n) a b = (c : ℕ) × (is_among (used_by graph a) c ≡ true) × ReachesBy graph n c b

-- each reaches itself
abbrev pub Reaches : List (List ℕ) → ℕ → ℕ → Type 0
Reaches graph a b = (n : ℕ) × ReachesBy graph n a b
