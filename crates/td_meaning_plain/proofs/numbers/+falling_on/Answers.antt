use Rattle.std.proofs.Common.{arith, refl}
use Rattle.td_meaning_plain.proofs.numbers.+falling_on.Goals as goal
use Rattle.td_num.proofs.Digits.{digit_room, falling_more, digit_top}
use Rattle.td_num.proofs.Truths.{le_le}

pub overflow_mul-number : goal.overflow_mul-number
overflow_mul-number t c = let h = digit_top c.args.number 0 c.args.width (omega arith) (omega arith) c.requires.small in omega arith

pub overflow_add-number : goal.overflow_add-number
overflow_add-number t c = let h = digit_top c.args.number c.byte_at-digit.result c.args.width (omega arith) (omega arith) c.requires.small in omega arith

pub falling_on-requires : goal.falling_on-requires
falling_on-requires t c =
    let h = digit_room c.args.number c.byte_at-digit.result c.args.width (omega arith) (omega arith) in
    (omega (arith, c.decreases, c.if-width-eq0.false), (omega (arith, c.requires.room, c.if-width-eq0.false), le_le _ _ _ h c.requires.small))

pub returns : goal.returns
returns t c = record { value = falling_more c.args.message.now c.args.number c.args.place _ c.args.width c.byte_at-digit.result c.falling_on.result (omega arith) c.byte_at-digit.ensures refl c.falling_on.ensures.value }
