-- The first use of a part that reaches the part in which it is used, by the lists of uses.
use Rattle.std.specs.Prelude.{◌≡◌, ◌<◌, ◌⊎◌, ℕ, List, [], take, Option, Some, None, slice_get}
use Rattle.td_ast.specs.declared.token.Span.{Span}
use Rattle.td_ast.specs.declared.names.Name.{Name}
use Rattle.td_front_flat.specs.declared.error.FlatError.{FlatError}
use Rattle.td_front_flat.specs.declared.error.FlatError.TheVariants.{Cycle, NoMemory}
use Rattle.td_front_flat.specs.Order.{IsCyclicIn, NoneCyclicIn}

-- none, or the one at this place and none before it
abbrev pub IsFirstUse : List (List ℕ) → List (List ℕ) → ℕ → List Name → Option ℕ → Type 0
IsFirstUse names graph i uses None = NoneCyclicIn names graph i uses
IsFirstUse names graph i uses (Some k) = (u : Name) × (slice_get uses k ≡ Some u) × IsCyclicIn names graph i u × NoneCyclicIn names graph i (take k uses)

abbrev pub list_or_none : Option (List Name) → List Name
list_or_none None = []
list_or_none (Some uses) = uses

abbrev pub listed_at : List (List Name) → ℕ → List Name
listed_at all i = list_or_none (slice_get all i)

pub record IsPlace (names graph : List (List ℕ)) (all : List (List Name)) (at : Span) : Type 0 where
  pub part : ℕ
  pub number : ℕ
  pub use_there : Name
  pub there : slice_get (listed_at all part) number ≡ Some use_there
  pub place : use_there.span ≡ at
  pub cyclic : IsCyclicIn names graph part use_there
  pub before : NoneCyclicIn names graph part (take number (listed_at all part))
  pub parts_before : (i : ℕ) → i < part → NoneCyclicIn names graph i (listed_at all i)

-- none, or the first of all at this place
abbrev pub IsFirstPlace : List (List ℕ) → List (List ℕ) → List (List Name) → Option Span → Type 0
IsFirstPlace names graph all None = (i : ℕ) → NoneCyclicIn names graph i (listed_at all i)
IsFirstPlace names graph all (Some at) = IsPlace names graph all at

-- out of memory, or the first of all at its place
abbrev pub IsCycleFault : List (List ℕ) → List (List ℕ) → List (List Name) → FlatError → Type 0
IsCycleFault names graph all e = (e ≡ NoMemory) ⊎ ((at : Span) × (e ≡ Cycle at) × IsPlace names graph all at)
