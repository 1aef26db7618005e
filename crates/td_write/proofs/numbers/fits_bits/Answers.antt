use Rattle.std.proofs.Common.{arith}
use Rattle.td_write.proofs.Digits.{fits_wide}
use Rattle.td_write.proofs.numbers.fits_bits.Goals as goal

pub returns-then-width-ge64 : goal.returns-then-width-ge64
returns-then-width-ge64 c = fits_wide c.args.number c.args.width (omega arith) (omega arith)
