-- A number between two others is found where they meet.
use Rattle.std.proofs.Common.{◌≡◌, ℕ, ◌+◌, ◌<◌, ◌≤◌, Bool, true, false, refl, sym, ap, arith, ℤ, pos, negsuc, nat_lt}
use Rattle.std.specs.Prelude.{int_lt}
use Rattle.std.proofs.lemmas.Bool.{ltb-true, ltb-false, false≢true}

-- where no number is between the ends, it is the lower one
pub found_at : (n : ℤ) (low high : ℕ) → int_lt n (pos low) ≡ false → int_lt (pos high) n ≡ false → high ≤ low → n ≡ pos low
found_at (pos n) low high a b le =
    let l : low ≤ n = ltb-false n low a in
    let h : n ≤ high = ltb-false high n b in
    ap pos (omega (arith, l, h, le))
found_at (negsuc n) low high a b le = absurd (false≢true (sym a))

-- past the middle, it is from the next number on
pub moved_up : (n : ℤ) (middle : ℕ) → int_lt (pos middle) n ≡ true → int_lt n (pos (middle + 1)) ≡ false
moved_up (pos n) middle e = by (nat_lt n (middle + 1)) refl
  where
    by : (b : Bool) → nat_lt n (middle + 1) ≡ b → b ≡ false
    by false r = refl
    by true r =
        let l : middle < n = ltb-true middle n e in
        let h : n < middle + 1 = ltb-true n (middle + 1) r in
        absurd (omega (arith, l, h))
moved_up (negsuc n) middle e = absurd (false≢true e)
