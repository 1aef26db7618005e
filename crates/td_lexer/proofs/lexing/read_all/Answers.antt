use Rattle.std.proofs.Common.{arith}
use Rattle.std.proofs.lemmas.Result.{err_from_is_err_and}
use Rattle.td_lexer.proofs.Stepping.{steps_begin, steps_go, steps_stop}
use Rattle.td_lexer.proofs.lexing.read_all.Goals as goal

pub loop-at-init : goal.loop-at-init
loop-at-init c = record { within = omega arith; so_far = steps_begin c.args.bytes.now c.new-tokens.result.items c.new-tokens.ensures.items }

pub returns-in_err-at-clause-stops : goal.returns-in_err-at-clause-stops
returns-in_err-at-clause-stops c =
    let p = err_from_is_err_and c.from_residual.result c.from_residual.ensures.1 in
    rw (p.1, p.2) (steps_stop c.args.bytes.now c.loop-at.at c.loop-at.tokens.items c.step.new.tokens.items c.loop-at.invariant.so_far _ c.in_err-at.ensures)

pub loop-at-preserved : goal.loop-at-preserved
loop-at-preserved c = record {
  within = c.in_ok-at.ensures.1;
  so_far = steps_go c.args.bytes.now c.loop-at.at c.loop-at.tokens.items c.step.new.tokens.items c.loop-at.invariant.so_far _ c.in_ok-at.ensures;
}
