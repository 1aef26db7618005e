use Rattle.std.proofs.Common.{◌<◌, ◌≤◌, ◌^◌, sym, arith}
use Rattle.std.proofs.Math.Pow.{pow_mono}
use Rattle.std.proofs.Math.Nat.{mod-eq_of_lt}
use Rattle.td_num.proofs.bits.low_bits.Goals as goal

pub returns-else-width-lt64 : goal.returns-else-width-lt64
returns-else-width-lt64 c =
    let far : 64 ≤ c.args.width = omega (arith, c.if-width-lt64.false) in
    let big : 2 ^ 64 ≤ 2 ^ c.args.width = pow_mono far in
    let small : c.args.value < 2 ^ c.args.width = omega (arith, big, c.ranges.value.fits) in
    sym (mod-eq_of_lt small)
