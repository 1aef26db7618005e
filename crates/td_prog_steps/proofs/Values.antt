-- What expressions of the small C give where code has operators.
use Rattle.std.proofs.Common.{◌≡◌, ℕ, zero, suc, ◌+◌, ◌-◌, ◌*◌, ◌/◌, ◌%◌, ◌^◌, ◌<◌, ◌≤◌, Bool, true, false, cond, List, refl, sym, ap, ◌∙◌, arith}
use Rattle.std.specs.Prelude.{nat_lt, nat_le, nat_eq, Some, None, bit_and, bit_or}
use Rattle.std.proofs.lemmas.Nat.{and_mask, and_le_l, or_lt, xor_lt, mod_below}
use Rattle.td_ir.specs.Values.{bit, operated, bits_of}
use Rattle.td_prog.specs.Syntax.{Expr, Num, Binary, And, Shr}
use Rattle.td_prog.specs.Values.{Locals, value, and_then, applied}
use Rattle.td_prog_code.specs.Instructions as code
use Rattle.td_prog_code.specs.Instructions.{reg}
use Rattle.td_num.proofs.Truths.{eq_is}
use Rattle.std.specs.Prelude.{slice_index}
use Rattle.std.specs.Int.Bits.{or_self}
use Rattle.td_prog.specs.Syntax as small
use Rattle.td_prog_trees.proofs.Numbers.{quotient_small}

module _ (places : List ℕ) (s : Locals) (a b : Expr) (m n : ℕ) (ea : value places a s ≡ Some m) (eb : value places b s ≡ Some n) where
  two : (o : small.Operator) → value places (Binary o a b) s ≡ applied o m n
  two o = λ i. and_then (ea i) (λ m. and_then (eb i) (λ n. applied o m n))

  zero_choice : (r : ℕ) (o : small.Operator) → ((v : Bool) → nat_eq n 0 ≡ v → cond (nat_eq (bit v) 0) (applied o m n) (Some 0) ≡ Some r)
      → value places (small.Choice (Binary small.Eq b (Num 0)) (Num 0) (Binary o a b)) s ≡ Some r
  zero_choice r o h =
      (λ i. and_then (and_then (eb i) (λ n. Some (bit (nat_eq n 0)))) (λ v. cond (nat_eq v 0) (two o i) (Some 0))) ∙ h (nat_eq n 0) refl

  wide_choice : (r : ℕ) (o : small.Operator) → ((v : Bool) → nat_lt n 64 ≡ v → cond (nat_eq (bit v) 0) (Some 0) (applied o m n) ≡ Some r)
      → value places (small.Choice (Binary small.Lt b (Num 64)) (Binary o a b) (Num 0)) s ≡ Some r
  wide_choice r o h =
      (λ i. and_then (and_then (eb i) (λ n. Some (bit (nat_lt n 64)))) (λ v. cond (nat_eq v 0) (Some 0) (two o i))) ∙ h (nat_lt n 64) refl

  not_wide : nat_lt n 64 ≡ true → nat_le 64 n ≡ false
  not_wide h = grind arith

  wide : nat_lt n 64 ≡ false → nat_le 64 n ≡ true
  wide h = grind arith

  if_zero : (x y : ℕ) (v : Bool) → nat_eq n 0 ≡ v → x ≡ y
      → cond (nat_eq (bit v) 0) (cond (nat_eq n 0) None (Some x)) (Some 0) ≡ Some (cond (nat_eq n 0) 0 y)
  if_zero x y true e f = ap (λ v. Some (cond v 0 y)) (sym e)
  if_zero x y false e f = ap (λ v. cond v None (Some x)) e ∙ ap Some f ∙ ap (λ v. Some (cond v 0 y)) (sym e)

  if_wide : (x : ℕ) (v : Bool) → nat_lt n 64 ≡ v → cond (nat_eq (bit v) 0) (Some 0) (cond (nat_le 64 n) None (Some x)) ≡ Some (cond (nat_le 64 n) 0 x)
  if_wide x true e = ap (λ v. cond v None (Some x)) (not_wide e) ∙ ap (λ v. Some (cond v 0 x)) (sym (not_wide e))
  if_wide x false e = ap (λ v. Some (cond v 0 x)) (sym (wide e))

module _ (places : List ℕ) (s : Locals) (x y : ℕ) where
  abbrev m : ℕ
  m = slice_index s.regs x

  abbrev n : ℕ
  n = slice_index s.regs y

  either : (v : Bool) → nat_eq x y ≡ v → value places (cond (nat_eq x y) (reg x) (Binary small.Or (reg x) (reg y))) s ≡ Some (bit_or m n)
  either true e =
      let q = eq_is x y e in
      ap (λ b. value places (cond b (reg x) (Binary small.Or (reg x) (reg y))) s) e ∙ ap Some
      (sym (or_self m) ∙ ap (λ k. bit_or m (slice_index s.regs k)) q)
  either false e = ap (λ b. value places (cond b (reg x) (Binary small.Or (reg x) (reg y))) s) e

  pub operated_is : (o : ℕ) → o ≤ 13 → value places (code.operated o x y) s ≡ Some (operated o m n)
  operated_is zero h = refl
  operated_is (suc zero) h = refl
  operated_is (suc (suc zero)) h = refl
  operated_is (suc (suc (suc zero))) h =
      zero_choice places s (reg x) (reg y) m n refl refl (operated 3 m n) small.Div
      (λ v e. if_zero places s (reg x) (reg y) m n refl refl (m / n) (m / n) v e refl)
  operated_is (suc (suc (suc (suc zero)))) h =
      zero_choice places s (reg x) (reg y) m n refl refl (operated 4 m n) small.Rem
      (λ v e. if_zero places s (reg x) (reg y) m n refl refl (m % n) (m % n) v e refl)
  operated_is (suc (suc (suc (suc (suc zero))))) h = refl
  operated_is (suc (suc (suc (suc (suc (suc zero)))))) h = either (nat_eq x y) refl
  operated_is (suc (suc (suc (suc (suc (suc (suc zero))))))) h = refl
  operated_is (suc (suc (suc (suc (suc (suc (suc (suc zero)))))))) h =
      wide_choice places s (reg x) (reg y) m n refl refl (operated 8 m n) small.Shl
      (λ v e. if_wide places s (reg x) (reg y) m n refl refl ((m * 2 ^ n) % 2 ^ 64) v e)
  operated_is (suc (suc (suc (suc (suc (suc (suc (suc (suc zero))))))))) h =
      wide_choice places s (reg x) (reg y) m n refl refl (operated 9 m n) small.Shr (λ v e. if_wide places s (reg x) (reg y) m n refl refl (m / 2 ^ n) v e)
  operated_is (suc (suc (suc (suc (suc (suc (suc (suc (suc (suc zero)))))))))) h = refl
  operated_is (suc (suc (suc (suc (suc (suc (suc (suc (suc (suc (suc zero))))))))))) h = refl
  operated_is (suc (suc (suc (suc (suc (suc (suc (suc (suc (suc (suc (suc zero)))))))))))) h = refl
  operated_is (suc (suc (suc (suc (suc (suc (suc (suc (suc (suc (suc (suc (suc zero))))))))))))) h = refl
  operated_is (suc (suc (suc (suc (suc (suc (suc (suc (suc (suc (suc (suc (suc (suc o)))))))))))))) h = absurd (omega (arith, h))

pub bit_small : (v : Bool) → bit v < 2 ^ 64
bit_small true = omega arith
bit_small false = omega arith

cond_small : (v : Bool) (x y : ℕ) → x < 2 ^ 64 → y < 2 ^ 64 → cond v x y < 2 ^ 64
cond_small true x y h k = h
cond_small false x y h k = k

remainder_small : (m d : ℕ) → m < 2 ^ 64 → m % d < 2 ^ 64
remainder_small m d h = grind arith

pub operated_small : (x m n : ℕ) → m < 2 ^ 64 → n < 2 ^ 64 → operated x m n < 2 ^ 64
operated_small x m n h k =
    cond_small (nat_lt x 5) _ _
    (cond_small (nat_eq x 0) _ _ (mod_below (m + n) (2 ^ 64) (omega arith))
    (cond_small (nat_eq x 1) _ _ (mod_below (m + (2 ^ 64 - n)) (2 ^ 64) (omega arith))
    (cond_small (nat_eq x 2) _ _ (mod_below (m * n) (2 ^ 64) (omega arith))
    (cond_small (nat_eq n 0) _ _ (omega arith) (cond_small (nat_eq x 3) _ _ (quotient_small m n h) (remainder_small m n h))))))
    (cond_small (nat_lt x 10) _ _
    (cond_small (nat_eq x 5) _ _ (let l = and_le_l m n in omega (arith, l, h))
    (cond_small (nat_eq x 6) _ _ (or_lt 64 m n h k)
    (cond_small (nat_eq x 7) _ _ (xor_lt 64 m n h k)
    (cond_small (nat_le 64 n) _ _ (omega arith)
    (cond_small (nat_eq x 8) _ _ (mod_below (m * 2 ^ n) (2 ^ 64) (omega arith)) (quotient_small m (2 ^ n) h))))))
    (cond_small (nat_eq x 10) _ _ (bit_small (nat_eq m n))
    (cond_small (nat_eq x 11) _ _ (cond_small (nat_eq m n) _ _ (omega arith) (omega arith))
    (cond_small (nat_eq x 12) _ _ (bit_small (nat_lt m n)) (bit_small (nat_le m n))))))

pub bits_is : (u low count : ℕ) → low < 64 → and_then (applied small.Shr u low) (λ m. applied small.And m (2 ^ count - 1)) ≡ Some (bits_of u low count)
bits_is u low count h =
    let w : nat_le 64 low ≡ false = grind arith in
    ap (λ v. and_then (cond v None (Some (u / 2 ^ low))) (λ m. Some (bit_and m (2 ^ count - 1)))) w ∙ ap Some (and_mask (u / 2 ^ low) count)

pub bits_small : (u low count : ℕ) → u < 2 ^ 64 → bits_of u low count < 2 ^ 64
bits_small u low count h = remainder_small (u / 2 ^ low) (2 ^ count) (quotient_small u (2 ^ low) h)

pub rest_is : (u step : ℕ) → 0 < step → applied small.Rem u step ≡ Some (u % step)
rest_is u step h = let w : nat_eq step 0 ≡ false = grind arith in ap (λ v. cond v None (Some (u % step))) w
