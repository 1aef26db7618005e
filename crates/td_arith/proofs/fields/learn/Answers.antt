use Rattle.std.proofs.Common.{◌∙◌, ap, sym}
use Rattle.td_arith.specs.Known.{facts_in}
use Rattle.td_arith.specs.SafeModule.{known_after}
use Rattle.td_arith.proofs.Cutting.{all_known}
use Rattle.td_arith.proofs.fields.learn.Goals as goal

pub returns-in_ok-learn_condition-clause-known : goal.returns-in_ok-learn_condition-clause-known
returns-in_ok-learn_condition-clause-known c =
    all_known _ _ _ c.in_ok-learn_condition.ensures ∙ ap (known_after (facts_in c.args.known.now.items)) (sym c.in-Some.is)
