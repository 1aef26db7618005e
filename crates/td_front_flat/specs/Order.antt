-- Which parts use which, for their order (own rule; td_front_order: they are taken one by one; the next is the first in the text, not
-- yet taken, of which all used parts that exist were taken), and the two breaches of parts: a name twice (N2), and uses in a cycle
-- (N5). A part's number is its place in the text, from 0.
use Rattle.std.specs.Prelude.{◌≡◌, ◌<◌, ℕ, true, cond, List, [], ◌∷◌, ◌++◌, map, Option, Some, None, slice_get}
use Rattle.td_num.specs.Lists.{Each}
use Rattle.td_ast.specs.declared.token.Span.{Span}
use Rattle.td_ast.specs.declared.names.Name.{Name}
use Rattle.td_ast.specs.declared.parts.PartTree.{PartTree}
use Rattle.td_names.specs.Names.{is_seen, number_of}
use Rattle.td_front_order.specs.Order.{Reaches}
pub use Rattle.td_front_order.specs.Order.{order}
use Rattle.td_front_flat.specs.Uses.{part_uses}

abbrev pub names_of : List PartTree → List (List ℕ)
names_of parts = map (λ p. p.name.text) parts

-- the numbers of the used parts that exist, as often as they are used
abbrev pub numbers_of : List (List ℕ) → List Name → List ℕ
numbers_of names [] = []
numbers_of names (u ∷ us) = cond (is_seen names u.text) (number_of names u.text ∷ numbers_of names us) (numbers_of names us)

-- for each part the parts that it uses
abbrev pub graph_of : List PartTree → List (List ℕ)
graph_of parts = map (λ p. numbers_of (names_of parts) (part_uses p)) parts

-- Breaches

-- N2: the place of the first part whose name a part before it has
abbrev pub first_twice : List (List ℕ) → List PartTree → Option Span
first_twice names [] = None
first_twice names (p ∷ ps) = cond (is_seen names p.name.text) (Some p.name.span) (first_twice (names ++ p.name.text ∷ []) ps)

-- the used part exists, and reaches the part in which it is used
abbrev pub IsCyclicIn : List (List ℕ) → List (List ℕ) → ℕ → Name → Type 0
IsCyclicIn names graph i u = (is_seen names u.text ≡ true) × Reaches graph (number_of names u.text) i

abbrev pub NoneCyclicIn : List (List ℕ) → List (List ℕ) → ℕ → List Name → Type 0
NoneCyclicIn names graph i uses = Each (λ u. IsCyclicIn names graph i u → ⊥) uses

abbrev pub IsCyclic : List PartTree → ℕ → Name → Type 0
IsCyclic parts i u = IsCyclicIn (names_of parts) (graph_of parts) i u

abbrev pub uses_or_none : Option PartTree → List Name
uses_or_none None = []
uses_or_none (Some p) = part_uses p

abbrev pub uses_at : List PartTree → ℕ → List Name
uses_at parts i = uses_or_none (slice_get parts i)

-- no use among these, in the part i, is cyclic
abbrev pub NoneCyclic : List PartTree → ℕ → List Name → Type 0
NoneCyclic parts i uses = NoneCyclicIn (names_of parts) (graph_of parts) i uses

abbrev pub NoCycle : List PartTree → Type 0
NoCycle parts = (i : ℕ) → NoneCyclic parts i (uses_at parts i)

-- N5: the place of the first name B.x in the text where B reaches the part in which that name stands
pub record IsFirstCyclic (parts : List PartTree) (at : Span) : Type 0 where
  pub part : ℕ
  pub sooner : List Name
  pub use_there : Name
  pub later : List Name
  pub uses : uses_at parts part ≡ sooner ++ use_there ∷ later
  pub place : use_there.span ≡ at
  pub cyclic : IsCyclic parts part use_there
  pub before : NoneCyclic parts part sooner
  pub parts_before : (i : ℕ) → i < part → NoneCyclic parts i (uses_at parts i)
