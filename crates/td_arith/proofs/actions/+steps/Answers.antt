use Rattle.std.proofs.Common.{◌∙◌, ap}
use Rattle.td_arith.specs.SafeModule.{deed_unsafe}
use Rattle.td_arith.proofs.Cutting.{all_known}
use Rattle.td_arith.proofs.actions.+steps.Goals as goal

pub branch_unsafe-returns-clause-first : goal.branch_unsafe-returns-clause-first
branch_unsafe-returns-clause-first t c =
    c.in_ok-found.ensures.first ∙ ap (λ fs. deed_unsafe fs c.args.branch.now) (all_known _ _ _ c.in_ok-learn_condition.ensures)
