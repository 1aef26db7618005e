use Rattle.std.proofs.Common.{sym, ap, ◌∙◌, arith}
use Rattle.td_front_order.specs.Flags.{flag_at}
use Rattle.td_front_order.proofs.Searched.{all_on, all_past}
use Rattle.td_front_order.proofs.searching.untaken_from.Goals as goal

pub loop-at-preserved : goal.loop-at-preserved
loop-at-preserved c =
    all_on (flag_at c.args.flags.now) c.args.used.now c.loop-at.at (omega (arith, c.loop-at-test.true)) (sym c.is_flagged.ensures ∙ c.if-not-is_flagged.false) ∙ c.loop-at.invariant

pub returns : goal.returns
returns c = sym c.loop-at.invariant ∙ all_past (flag_at c.args.flags.now) c.args.used.now c.loop-at.at (omega (arith, c.loop-at-test.false))
