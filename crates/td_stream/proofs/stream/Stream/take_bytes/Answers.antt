use Rattle.std.proofs.Common.{◌≡◌, subst, sym}
use Rattle.td_num.specs.Numbers.{ordered_at}
use Rattle.td_stream.proofs.Digits.{rising_digits}
use Rattle.td_stream.proofs.stream.Stream.take_bytes.Goals as goal

pub returns-in-LittleEndian-clause-value : goal.returns-in-LittleEndian-clause-value
returns-in-LittleEndian-clause-value g c = λ b h.
    let p = c.args.self.now.pos in
    let rising = rising_digits b p c.args.count c.take_digits-number.result c.take_digits-number.ensures.fits (c.take_digits-number.ensures.digits b h) in
    subst (λ o. c.take_digits-number.result ≡ ordered_at o b p c.args.count) (sym c.in-LittleEndian.is) rising
