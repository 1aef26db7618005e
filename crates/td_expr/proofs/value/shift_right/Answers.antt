use Rattle.std.proofs.Common.{◌<◌, ◌≤◌, ◌^◌, sym, arith}
use Rattle.std.proofs.Math.Pow.{pow_mono}
use Rattle.std.proofs.Math.Nat.{div-eq_of_lt}
use Rattle.td_expr.proofs.value.shift_right.Goals as goal

pub returns-else-amount-lt64 : goal.returns-else-amount-lt64
returns-else-amount-lt64 c =
    let far : 64 ≤ c.args.amount = omega (arith, c.if-amount-lt64.false) in
    let big : 2 ^ 64 ≤ 2 ^ c.args.amount = pow_mono far in
    let small : c.args.value < 2 ^ c.args.amount = omega (arith, big, c.ranges.value.fits) in
    sym (div-eq_of_lt small)
