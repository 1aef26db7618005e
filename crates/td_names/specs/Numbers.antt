-- Distinct numbers (own rule: one that is there isn't put there again).
use Rattle.std.specs.Prelude.{◌≡◌, ℕ, Bool, List, [], ◌∷◌, ◌++◌, nat_eq, if◌then◌else◌}
use Rattle.std.specs.List.{list_any}
use Rattle.std.specs.Ordering.{is_eq, nat_cmp}

-- whether a number is among numbers
abbrev pub is_among : List ℕ → ℕ → Bool
is_among ns n = list_any (nat_eq n) ns

-- one more number at the end, unless it is there
abbrev pub with_number : List ℕ → ℕ → List ℕ
with_number ns n = if is_among ns n then ns else ns ++ n ∷ []

-- the keys of a set are these numbers, in whatever order
abbrev pub AreAlike : List ℕ → List ℕ → Type 0
AreAlike ns keys = (n : ℕ) → list_any (λ k. is_eq (nat_cmp n k)) keys ≡ is_among ns n
