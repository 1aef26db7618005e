-- Where a type accepts, it takes as many bytes as its kind says (own rule).
use Rattle.std.specs.Prelude.{ℕ, ◌+◌, ◌≤◌, List, length, Option, Some, None}
use Rattle.td_arith.specs.Imports.{Module, Kind, Element}
use Rattle.td_kinds.specs.KindRules.{kinds_of}
use Rattle.td_kinds.specs.Kinds.{element_kind}
use Rattle.td_meaning.specs.Meaning.{below, element_meaning}
use Rattle.td_meaning.specs.Cuts.{MovesOn}
use Rattle.td_meaning.specs.Throughout.{OnEnding}

-- no more than the greatest size, where there is one
abbrev pub UpTo : Option ℕ → ℕ → ℕ → Type 0
UpTo None p q = Unit {0}
UpTo (Some most) p q = q ≤ p + most

abbrev pub Sized : Kind → ℕ → ℕ → ℕ → List ℕ → Type 0
Sized k p end q cells = (p + k.least ≤ q) × ((q ≤ end) × UpTo k.most p q)

-- of each definition of a module, at each place and end
abbrev pub SizesHold : Type 0
SizesHold =
    (m : Module) (definition : ℕ) (args places cells message : List ℕ) (p end : ℕ) → p ≤ end →
    OnEnding (below m.listed m.definitions (length m.definitions) definition args places cells message p end).ending (Sized (kinds_of m definition) p end)

-- an element of which K1 isn't broken, the least size of its kind being at least 1, takes a byte at least wherever it
-- accepts: so a byte-sized array of such elements is accepted exactly where it is cut into elements
abbrev pub ElementsMoveOn : Type 0
ElementsMoveOn =
    (m : Module) (element : Element) (env places message : List ℕ) (start end : ℕ) → 1 ≤ (element_kind (kinds_of m) element).least →
    MovesOn (element_meaning m.listed (below m.listed m.definitions (length m.definitions)) element env places message start end) end
