use Rattle.std.proofs.Common.{arith}
use Rattle.td_meaning_plain.proofs.numbers.+rising_at.Goals as goal
use Rattle.td_num.proofs.Digits.{power_fits, number_more, sum_top}

pub overflow_mul-result : goal.overflow_mul-result
overflow_mul-result t c = let h = sum_top c.args.width c.rising_at-high.result 0 (omega arith) (omega arith) c.rising_at-high.ensures.fits (omega arith) in omega arith

pub overflow_add-result : goal.overflow_add-result
overflow_add-result t c = let h = sum_top c.args.width c.rising_at-high.result c.byte_at-low.result (omega arith) (omega arith) c.rising_at-high.ensures.fits (omega arith) in omega arith

pub returns-clause-fits : goal.returns-clause-fits
returns-clause-fits t c = power_fits c.args.width c.rising_at-high.result c.byte_at-low.result (omega arith) (omega arith) c.rising_at-high.ensures.fits (omega arith)

pub returns-clause-value : goal.returns-clause-value
returns-clause-value t c = number_more c.args.message.now c.args.place c.args.width c.rising_at-high.result c.byte_at-low.result (omega arith) c.rising_at-high.ensures.value c.byte_at-low.ensures
