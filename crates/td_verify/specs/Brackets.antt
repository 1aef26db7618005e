-- Windows and loops, matched as brackets over the whole code (own rule).
use Rattle.std.specs.Prelude.{ℕ, zero, suc, Bool, true, false, List, [], ◌∷◌, Option, Some, None, slice_index_or}
use Rattle.td_verify.specs.declared.shape.Shape.{Shape}
use Rattle.td_verify.specs.declared.shape.Shape.TheVariants.{Fail, While, Again, Open, Close}
use Rattle.td_verify.specs.declared.bracket.Bracket.{Bracket}
use Rattle.td_verify.specs.declared.bracket.Bracket.TheVariants.{Window, Loop}
use Rattle.td_verify.specs.declared.bracket.Innermost.{Innermost}
use Rattle.td_verify.specs.declared.bracket.Innermost.TheVariants.{Outside, Within, Broken}

abbrev pub shape_at : List Shape → ℕ → Shape
shape_at s p = slice_index_or s p Fail

-- what is open after something opens, and after it closes; None behind a closing that isn't of the innermost
abbrev pub opening : Bracket → Option (List Bracket) → Option (List Bracket)
opening b None = None
opening b (Some bs) = Some (b ∷ bs)

abbrev pub closing_window : Option (List Bracket) → Option (List Bracket)
closing_window None = None
closing_window (Some []) = None
closing_window (Some (Window at bytes ∷ bs)) = Some bs
closing_window (Some (Loop at ∷ bs)) = None

abbrev pub closing_loop : Option (List Bracket) → Option (List Bracket)
closing_loop None = None
closing_loop (Some []) = None
closing_loop (Some (Window at bytes ∷ bs)) = None
closing_loop (Some (Loop at ∷ bs)) = Some bs

-- what is open after the instruction at p
abbrev pub and_then : ℕ → Shape → Option (List Bracket) → Option (List Bracket)
and_then p (While t) o = opening (Loop p) o
and_then p (Again t) o = closing_loop o
and_then p (Open bytes) o = opening (Window p bytes) o
and_then p Close o = closing_window o
and_then p j o = o

-- what is open before the instruction at a place, the innermost first
abbrev pub opened : List Shape → ℕ → Option (List Bracket)
opened s zero = Some []
opened s (suc p) = and_then p (shape_at s p) (opened s p)

-- the innermost of what is open
abbrev pub innermost : Option (List Bracket) → Innermost
innermost None = Broken
innermost (Some []) = Outside
innermost (Some (b ∷ bs)) = Within b

-- whether a window is among what is open, and whether a loop is
abbrev pub some_window : List Bracket → Bool
some_window [] = false
some_window (Window at bytes ∷ bs) = true
some_window (Loop at ∷ bs) = some_window bs

abbrev pub some_loop : List Bracket → Bool
some_loop [] = false
some_loop (Window at bytes ∷ bs) = some_loop bs
some_loop (Loop at ∷ bs) = true

abbrev pub in_window : Option (List Bracket) → Bool
in_window None = false
in_window (Some bs) = some_window bs

abbrev pub in_loop : Option (List Bracket) → Bool
in_loop None = false
in_loop (Some bs) = some_loop bs

-- the least bytes of the innermost window where it is closed
abbrev pub window_bytes : Option (List Bracket) → ℕ
window_bytes None = 0
window_bytes (Some []) = 0
window_bytes (Some (Window at bytes ∷ bs)) = bytes
window_bytes (Some (Loop at ∷ bs)) = 0
