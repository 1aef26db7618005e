use Rattle.std.proofs.Common.{◌<◌, ◌^◌, arith, subst, ℕ}
use Rattle.td_lexer.specs.Bytes.{value_of}
use Rattle.td_lexer.proofs.Values.{next_within, all_read}
use Rattle.td_lexer.proofs.numbers.value.Goals as goal

pub returns-in_default : goal.returns-in_default
returns-in_default c = λ h.
    let e = next_within c.args.radix c.loop-d.n c.loop-d.d-index c.args.digits.now (value_of c.args.radix c.args.digits.now) c.requires c.loop-d-test.true c.loop-d.invariant.value in
    c.in_default.ensures (grind arith)

pub returns-in_default-checked_add : goal.returns-in_default-checked_add
returns-in_default-checked_add c = λ h.
    let e = next_within c.args.radix c.loop-d.n c.loop-d.d-index c.args.digits.now (value_of c.args.radix c.args.digits.now) c.requires c.loop-d-test.true c.loop-d.invariant.value in
    c.in_default-checked_add.ensures (grind arith)

pub returns : goal.returns
returns c =
    let e = all_read c.args.radix c.loop-d.n c.loop-d.d-index c.args.digits.now (value_of c.args.radix c.args.digits.now) c.loop-d-test.false c.loop-d.invariant.value in
    (subst (λ (n : ℕ). n < 2 ^ 64) e c.loop-d.invariant.fits, e)
