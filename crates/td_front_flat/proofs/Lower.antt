-- Lower uses are in no cycle.
use Rattle.std.proofs.Common.{◌≡◌, ℕ, ◌<◌, ◌≤◌, ◌+◌, Some, List, length, take, refl, subst, arith}
use Rattle.std.specs.Prelude.{slice_get}
use Rattle.td_num.proofs.Lists.{each_map}
use Rattle.td_ast.specs.declared.names.Name.{Name}
use Rattle.td_names.specs.Names.{number_of}
use Rattle.td_front_order.specs.Heights.{AreHeights}
use Rattle.td_front_order.proofs.Higher.{reaches_down}
use Rattle.td_front_flat.specs.Order.{IsCyclicIn, NoneCyclicIn}
use Rattle.td_front_flat.specs.Firsts.{listed_at, IsPlace}
use Rattle.td_front_flat.specs.Lower.{IsLowerIn, AreLowerIn}
use Rattle.td_front_flat.proofs.Nones.{each_all, parts_more}

not_cyclic : (names graph : List (List ℕ)) (heights : List ℕ) (i : ℕ) → AreHeights graph heights → (u : Name) → IsLowerIn names heights i u → IsCyclicIn names graph i u → ⊥
not_cyclic names graph heights i H u low c =
    let down = reaches_down graph heights H (number_of names u.text) i c.1 in
    let below = low c.0 in
    absurd (omega (arith, down, below))

pub none_of : (names graph : List (List ℕ)) (heights : List ℕ) (i : ℕ) → AreHeights graph heights → (uses : List Name) → AreLowerIn names heights i uses → NoneCyclicIn names graph i uses
none_of names graph heights i H uses low = each_map (IsLowerIn names heights i) (λ u. IsCyclicIn names graph i u → ⊥) uses (not_cyclic names graph heights i H) low

-- one part more, of which all uses are lower
pub stepped : (names graph : List (List ℕ)) (heights : List ℕ) (all : List (List Name)) (n : ℕ) (uses : List Name) (at : ℕ) → AreHeights graph heights
    → uses ≡ listed_at all n → length uses ≤ at → AreLowerIn names heights n (take at uses)
    → ((i : ℕ) → i < n → NoneCyclicIn names graph i (listed_at all i)) → (i : ℕ) → i < n + 1 → NoneCyclicIn names graph i (listed_at all i)
stepped names graph heights all n uses at H same le low before =
    let all_low = each_all (IsLowerIn names heights n) uses at le low in
    parts_more names graph all n before (subst (NoneCyclicIn names graph n) same (none_of names graph heights n H uses all_low))

-- the first use that isn't lower, where it is cyclic
pub placed : (names graph : List (List ℕ)) (heights : List ℕ) (all : List (List Name)) (n : ℕ) (uses : List Name) (at : ℕ) (u : Name) → AreHeights graph heights
    → uses ≡ listed_at all n → slice_get uses at ≡ Some u → IsCyclicIn names graph n u → AreLowerIn names heights n (take at uses)
    → ((i : ℕ) → i < n → NoneCyclicIn names graph i (listed_at all i)) → IsPlace names graph all u.span
placed names graph heights all n uses at u H same there cyclic low before = record {
  part = n;
  number = at;
  use_there = u;
  there = subst (λ us. slice_get us at ≡ Some u) same there;
  place = refl;
  cyclic = cyclic;
  before = subst (λ us. NoneCyclicIn names graph n (take at us)) same (none_of names graph heights n H (take at uses) low);
  parts_before = before;
}
