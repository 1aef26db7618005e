use Rattle.std.proofs.Common.{◌≡◌, sym, arith, ◌∙◌, ap}
use Rattle.td_verify.specs.Brackets.{opened, innermost}
use Rattle.td_verify.specs.Contexts.{innermost_at}
use Rattle.td_verify.proofs.Chain.{same_opened}
use Rattle.td_verify.proofs.rules.is_jump.Goals as goal

pub returns-then-t-end : goal.returns-then-t-end
returns-then-t-end c =
    let s = c.args.shapes.now in
    let there : innermost_at c.args.contexts.now c.args.t ≡ innermost (opened s c.args.t) = c.requires.contexts c.args.t (omega (arith, c.requires)) in
    let here : innermost_at c.args.contexts.now c.args.at ≡ innermost (opened s c.args.at) = c.requires.contexts c.args.at (omega (arith, c.requires)) in (
      λ h. record {
        later = omega arith;
        within = omega arith;
        same = same_opened s c.args.t c.args.at (let e = c.same.ensures.0 h in sym there ∙ (sym c.context.ensures ∙ (e ∙ (c.context-then-t-end.ensures ∙ here))));
      },
      λ j. c.same.ensures.1 (c.context.ensures ∙ (there ∙ (ap innermost j.same ∙ (sym here ∙ sym c.context-then-t-end.ensures)))),
    )
