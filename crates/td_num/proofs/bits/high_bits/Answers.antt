use Rattle.std.proofs.Common.{◌<◌, ◌≤◌, ◌^◌, sym, arith}
use Rattle.std.proofs.Math.Pow.{pow_mono}
use Rattle.std.proofs.Math.Nat.{div-eq_of_lt}
use Rattle.td_num.proofs.bits.high_bits.Goals as goal

pub returns-else-low-lt64 : goal.returns-else-low-lt64
returns-else-low-lt64 c =
    let far : 64 ≤ c.args.low = omega (arith, c.if-low-lt64.false) in
    let big : 2 ^ 64 ≤ 2 ^ c.args.low = pow_mono far in
    let small : c.args.value < 2 ^ c.args.low = omega (arith, big, c.ranges.value.fits) in
    sym (div-eq_of_lt small)
