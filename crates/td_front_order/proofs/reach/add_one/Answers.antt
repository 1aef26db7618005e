use Rattle.std.proofs.Common.{true, sym, subst, ◌∙◌, set}
use Rattle.td_front_order.specs.Flags.{AreFlags}
use Rattle.td_front_order.proofs.Reached.{flags_more}
use Rattle.td_front_order.proofs.reach.add_one.Goals as goal

pub returns-in_ok-push-clause-flags : goal.returns-in_ok-push-clause-flags
returns-in_ok-push-clause-flags c =
    subst (λ r. AreFlags (set c.args.flags.now c.args.number true) r) (sym c.in_ok-push.ensures.ok)
    (flags_more c.args.flags.now c.args.reached.now c.args.number c.requires.below (sym c.is_flagged.ensures ∙ c.if-not-is_flagged.true) c.requires.flags)
