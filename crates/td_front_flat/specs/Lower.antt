-- Uses of parts that are lower than the part in which they stand, by heights as the code has them: such a use is in no cycle.
use Rattle.std.specs.Prelude.{◌≡◌, ◌<◌, ℕ, true, List}
use Rattle.td_num.specs.Lists.{Each}
use Rattle.td_ast.specs.declared.names.Name.{Name}
use Rattle.td_names.specs.Names.{is_seen, number_of}
use Rattle.td_front_order.specs.Heights.{height}

-- the used part is lower than the part i, where it exists
abbrev pub IsLowerIn : List (List ℕ) → List ℕ → ℕ → Name → Type 0
IsLowerIn names heights i u = is_seen names u.text ≡ true → height heights (number_of names u.text) < height heights i

abbrev pub AreLowerIn : List (List ℕ) → List ℕ → ℕ → List Name → Type 0
AreLowerIn names heights i uses = Each (IsLowerIn names heights i) uses
