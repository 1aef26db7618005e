use Rattle.std.proofs.Common.{◌++◌, sym, ap, ◌∙◌}
use Rattle.td_front_flat.specs.Flat.{flat_or_none}
use Rattle.td_front_flat.proofs.Among.{nothing_more}
use Rattle.td_front_flat.proofs.flatten.add_at.Goals as goal

pub returns-in-None-clause-whole : goal.returns-in-None-clause-whole
returns-in-None-clause-whole c = sym (ap (λ o. c.args.whole.now ++ flat_or_none c.args.own.now.parts c.args.number o) c.in-None.ensures ∙ nothing_more c.args.whole.now)
