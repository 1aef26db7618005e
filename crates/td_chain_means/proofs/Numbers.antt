-- The numbers that sixteen bytes spell, as two numbers of eight bytes and as four numbers.
use Rattle.std.proofs.Common.{◌≡◌, ℕ, zero, suc, ◌/◌, ◌%◌, ◌^◌, ◌<◌, cond, nat_eq, List, refl, arith}
use Rattle.td_num.specs.Lists.{AreBytes}
use Rattle.td_num.specs.declared.number.Width.TheVariants.{Two, Four, Eight}
use Rattle.td_num.specs.Numbers.{number_at}
use Rattle.td_chain_means.specs.Format.{little}

pub size_is : (b : List ℕ) → AreBytes b → number_at (little Four) b 8 ≡ number_at (little Eight) b 8 % 2 ^ 32
size_is b bytes =
    let b0 = bytes 8 in let b1 = bytes 9 in let b2 = bytes 10 in let b3 = bytes 11 in
    omega (arith, b0, b1, b2, b3)

pub flags_are : (b : List ℕ) → AreBytes b → number_at (little Two) b 12 ≡ number_at (little Eight) b 8 / 2 ^ 32 % 2 ^ 16
flags_are b bytes =
    let b0 = bytes 8 in let b1 = bytes 9 in let b2 = bytes 10 in let b3 = bytes 11 in
    let b4 = bytes 12 in let b5 = bytes 13 in
    omega (arith, b0, b1, b2, b3, b4, b5)

pub next_is : (b : List ℕ) → AreBytes b → number_at (little Two) b 14 ≡ number_at (little Eight) b 8 / 2 ^ 48 % 2 ^ 16
next_is b bytes =
    let b0 = bytes 8 in let b1 = bytes 9 in let b2 = bytes 10 in let b3 = bytes 11 in
    let b4 = bytes 12 in let b5 = bytes 13 in let b6 = bytes 14 in let b7 = bytes 15 in
    omega (arith, b0, b1, b2, b3, b4, b5, b6, b7)

-- a bit is 1 where it is set, and else 0
pub bit_is : (n : ℕ) → n < 2 → n ≡ cond (nat_eq n 1) 1 0
bit_is zero lt = refl
bit_is (suc zero) lt = refl
bit_is (suc (suc n)) lt = absurd (omega (arith, lt))
