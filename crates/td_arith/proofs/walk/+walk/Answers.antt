use Rattle.std.proofs.Common.{◌∙◌, ap}
use Rattle.td_expr.specs.Range.{range_of}
use Rattle.td_expr.specs.Safe.{first_unsafe}
use Rattle.td_arith.proofs.Cutting.{all_known}
use Rattle.td_arith.proofs.walk.+walk.Goals as goal

pub look_under-returns-clause-range : goal.look_under-returns-clause-range
look_under-returns-clause-range t c =
    c.in_ok-seen.ensures.range ∙ ap (λ fs. range_of fs c.args.e.now) (all_known _ _ _ c.in_ok-learn_condition.ensures)

pub look_under-returns-clause-first : goal.look_under-returns-clause-first
look_under-returns-clause-first t c =
    c.in_ok-seen.ensures.first ∙ ap (λ fs. first_unsafe fs c.args.e.now) (all_known _ _ _ c.in_ok-learn_condition.ensures)

pub unsafe_under-returns-clause-first : goal.unsafe_under-returns-clause-first
unsafe_under-returns-clause-first t c =
    c.in_ok-found.ensures.first ∙ ap (λ fs. first_unsafe fs c.args.e.now) (all_known _ _ _ c.in_ok-learn_condition.ensures)
