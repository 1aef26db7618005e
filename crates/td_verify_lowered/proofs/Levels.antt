-- Which windows and loops are open where a block stands.
use Rattle.std.specs.Prelude.{List, [], ◌∷◌, Bool, true, false}
use Rattle.td_verify_lowered.specs.Imports.{Bracket, Window as Opened, Loop as Looping}
use Rattle.td_verify_lowered.specs.Nesting.{Level, Outside, InWindow, InLoop}

abbrev pub IsLevel : Level → List Bracket → Type 0
IsLevel Outside [] = Unit {0}
IsLevel Outside (b ∷ bs) = ⊥
IsLevel InWindow [] = ⊥
IsLevel InWindow (Opened o k ∷ []) = Unit {0}
IsLevel InWindow (Opened o k ∷ b ∷ bs) = ⊥
IsLevel InWindow (Looping l ∷ bs) = ⊥
IsLevel InLoop [] = ⊥
IsLevel InLoop (Opened o k ∷ bs) = ⊥
IsLevel InLoop (Looping l ∷ []) = ⊥
IsLevel InLoop (Looping l ∷ Opened o k ∷ []) = Unit {0}
IsLevel InLoop (Looping l ∷ Opened o k ∷ b ∷ bs) = ⊥
IsLevel InLoop (Looping l ∷ Looping o ∷ bs) = ⊥

abbrev pub is_looping : Level → Bool
is_looping Outside = false
is_looping InWindow = false
is_looping InLoop = true
