use Rattle.std.proofs.Common.{◌≤◌, subst, sym}
use Rattle.td_verify.proofs.operands.all_below.Goals as goal

pub returns : goal.returns
returns c =
    let each = c.requires.tops.each c.args.map c.args.cells c.requires.map in (
      λ t. each.1 (subst (λ x. x ≤ c.args.cells) c.top_at.ensures (c.is_within.ensures.0 t)),
      λ b. c.is_within.ensures.1 (subst (λ x. x ≤ c.args.cells) (sym c.top_at.ensures) (each.0 b)),
    )
