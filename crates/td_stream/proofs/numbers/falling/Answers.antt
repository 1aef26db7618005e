use Rattle.std.proofs.Common.{◌-◌, ◌*◌, ◌/◌, ◌^◌, ap, ◌∙◌}
use Rattle.td_stream.proofs.Digits.{falling_digits}
use Rattle.td_stream.proofs.numbers.falling.Goals as goal

pub returns : goal.returns
returns c = record { is = λ b p h. ap (λ n. n / 2 ^ (64 - 8 * c.args.count)) c.swap_bytes.ensures ∙ falling_digits c.args.count b p c.args.number c.requires.some c.requires.few c.requires.fits h }
