use Rattle.std.proofs.Common.{◌≤◌, ◌^◌, sym, subst, arith}
use Rattle.td_write_values.specs.Bytes.{at_bits}
use Rattle.td_write.proofs.Digits.{at_bits_far}
use Rattle.td_write.proofs.numbers.at_bits.Goals as goal

pub returns-else-number-eq0 : goal.returns-else-number-eq0
returns-else-number-eq0 c = subst (λ b. 2 ^ 64 ≤ at_bits b c.args.number) (sym c.in-Some.is) (at_bits_far c.args.number c.in-Some.bits.low (omega arith) (λ e. omega (arith, e)))
