-- Heights: where nothing is lower than what it uses, what is used and strictly lower doesn't reach its user.
use Rattle.std.specs.Prelude.{◌≡◌, ◌≤◌, ℕ, true, List, get_or}
use Rattle.td_num.specs.Lists.{is_among}
use Rattle.td_front_order.specs.Order.{used_by}

abbrev pub height : List ℕ → ℕ → ℕ
height heights i = get_or heights i 0

abbrev pub AreHeights : List (List ℕ) → List ℕ → Type 0
AreHeights graph heights = (i j : ℕ) → is_among (used_by graph i) j ≡ true → height heights j ≤ height heights i
