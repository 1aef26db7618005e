-- The verifier's table of what is open (own rule): for each place the innermost window or loop.
use Rattle.std.specs.Prelude.{◌≡◌, ℕ, ◌<◌, List, [], ◌∷◌, Option, Some, None, slice_index_or}
use Rattle.td_verify.specs.declared.shape.Shape.{Shape}
use Rattle.td_verify.specs.declared.bracket.Bracket.{Bracket}
use Rattle.td_verify.specs.declared.bracket.Bracket.TheVariants.{Window, Loop}
use Rattle.td_verify.specs.declared.bracket.Innermost.{Innermost}
use Rattle.td_verify.specs.declared.bracket.Innermost.TheVariants.{Outside, Within, Broken}
use Rattle.td_verify.specs.Brackets.{opened, innermost}

abbrev pub place_of : Bracket → ℕ
place_of (Window at bytes) = at
place_of (Loop at) = at

abbrev pub innermost_at : List Innermost → ℕ → Innermost
innermost_at contexts p = slice_index_or contexts p Broken

-- these say what is open before each of the first n instructions
abbrev pub AreContexts : List Shape → List Innermost → ℕ → Type 0
AreContexts s contexts n = (p : ℕ) → p < n → innermost_at contexts p ≡ innermost (opened s p)

-- what is open outside of the innermost, from the table
abbrev pub IsOuter : List Innermost → Innermost → Innermost → Type 0
IsOuter contexts Outside r = Unit {0}
IsOuter contexts Broken r = Unit {0}
IsOuter contexts (Within b) r = r ≡ innermost_at contexts (place_of b)

abbrev pub OuterOf : Option (List Bracket) → Innermost → Type 0
OuterOf None r = Unit {0}
OuterOf (Some []) r = Unit {0}
OuterOf (Some (b ∷ bs)) r = r ≡ innermost (Some bs)
