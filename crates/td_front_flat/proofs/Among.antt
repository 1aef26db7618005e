-- Whether a number is among numbers, and the bytes before a dot.
use Rattle.std.proofs.Common.{◌≡◌, ℕ, ◌≤◌, Bool, ◌||◌, List, [], ◌∷◌, ◌++◌, length, nat_eq, refl, ap, ◌∙◌, arith}
use Rattle.std.specs.Prelude.{◌==◌, slice_get, Some}
use Rattle.std.specs.List.{list_any, take_while, prefix_len}
use Rattle.std.proofs.lemmas.Bool.Decides.{nat_tests}
use Rattle.std.proofs.lemmas.List.{append-nil, length-take}
use Rattle.td_ast.specs.declared.definitions.Def.{Def}
use Rattle.td_ast.specs.declared.parts.PartTree.{PartTree}
use Rattle.td_num.specs.Lists.{is_among}
use Rattle.td_front_flat.specs.Definitions.{flat_part}
use Rattle.td_front_flat.specs.Flat.{flat_in, flat_or_none}

equal_either : (x n : ℕ) → (x == n) ≡ nat_eq n x
equal_either x n = grind (arith, nat_tests)

pub any_among : (xs : List ℕ) (n : ℕ) → list_any (λ y. y == n) xs ≡ is_among xs n
any_among [] n = refl
any_among (x ∷ xs) n = ap (λ b. b || list_any (λ y. y == n) xs) (equal_either x n) ∙ ap (λ b. nat_eq n x || b) (any_among xs n)

pub while_within : (p : ℕ → Bool) (xs : List ℕ) → length (take_while p xs) ≤ length xs
while_within p xs = let e = length-take (prefix_len p xs) xs in omega (arith, e)

pub found_in : (names : List (List ℕ)) (parts : List PartTree) (i : ℕ) (p : PartTree) → slice_get parts i ≡ Some p → flat_in names parts i ≡ flat_part names i p
found_in names parts i p e = ap (flat_or_none names i) e

pub nothing_more : (ds : List Def) → ds ++ [] ≡ ds
nothing_more ds = append-nil ds
