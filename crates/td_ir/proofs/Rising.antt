-- Of numbers that rise, the first is below the others. Cited by other crates.
use Rattle.std.proofs.Common.{◌≡◌, ℕ, suc, ◌<◌, Bool, true, false, ◌||◌, List, [], ◌∷◌, nat_eq, refl, arith}
use Rattle.std.proofs.lemmas.Bool.{eqb-true}
use Rattle.td_num.specs.Lists.{is_among}
use Rattle.td_ir.specs.WellFormed.{Rises}

pub rises_on : (x : ℕ) (xs : List ℕ) → Rises (x ∷ xs) → Rises xs
rises_on x xs h j l = h (suc j) (omega (arith, l))

pub rises_above : (x n : ℕ) (xs : List ℕ) → Rises (x ∷ xs) → is_among xs n ≡ true → x < n
rises_above x n [] h a = absurd cc
rises_above x n (y ∷ ys) h a = by (nat_eq n y) refl a (rises_above y n ys (rises_on x (y ∷ ys) h))
  where
    by : (b : Bool) → nat_eq n y ≡ b → (b || is_among ys n) ≡ true → (is_among ys n ≡ true → y < n) → x < n
    by true e g more = let s = eqb-true n y e in let first : x < y = h 0 (omega arith) in omega (arith, s, first)
    by false e g more = let first : x < y = h 0 (omega arith) in let k = more g in omega (arith, first, k)
