use Rattle.std.proofs.Common.{◌+◌, ◌*◌, ◌^◌, ◌<◌, arith, subst, sym, ap}
use Rattle.td_stream.proofs.Digits.{fits_word, joined_fits, shifted_whole}
use Rattle.td_stream.proofs.numbers.joined.Goals as goal

pub overflow_add-result : goal.overflow_add-result
overflow_add-result c =
    let whole = shifted_whole c.args.high c.args.count c.args.more c.requires.few c.requires.high in
    let h = fits_word _ _ c.requires.few (joined_fits c.args.high c.args.low c.args.count c.args.more c.requires.low c.requires.high) in
    omega (arith, whole, h)

pub returns-clause-is : goal.returns-clause-is
returns-clause-is c = ap (λ n. n + c.args.low) (shifted_whole c.args.high c.args.count c.args.more c.requires.few c.requires.high)

pub returns-clause-fits : goal.returns-clause-fits
returns-clause-fits c =
    let whole = shifted_whole c.args.high c.args.count c.args.more c.requires.few c.requires.high in
    let h = joined_fits c.args.high c.args.low c.args.count c.args.more c.requires.low c.requires.high in
    subst (λ n. n + c.args.low < 2 ^ (8 * (c.args.count + c.args.more))) (sym whole) h
