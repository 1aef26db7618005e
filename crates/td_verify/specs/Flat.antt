-- Windows and loops as they may stand (own rule): none, a window, or a loop in a window.
use Rattle.std.specs.Prelude.{List, [], ◌∷◌, Option, Some, None}
use Rattle.td_verify.specs.declared.bracket.Bracket.{Bracket}
use Rattle.td_verify.specs.declared.bracket.Bracket.TheVariants.{Window, Loop}

abbrev pub IsFlat : Option (List Bracket) → Type 0
IsFlat None = ⊥
IsFlat (Some []) = Unit {0}
IsFlat (Some (Window o k ∷ [])) = Unit {0}
IsFlat (Some (Window o k ∷ c ∷ bs)) = ⊥
IsFlat (Some (Loop l ∷ [])) = ⊥
IsFlat (Some (Loop l ∷ Window o k ∷ [])) = Unit {0}
IsFlat (Some (Loop l ∷ Window o k ∷ c ∷ bs)) = ⊥
IsFlat (Some (Loop l ∷ Loop o ∷ bs)) = ⊥
