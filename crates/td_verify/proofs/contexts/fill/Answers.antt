use Rattle.std.proofs.Common.{◌≡◌, ℕ, ◌+◌, ◌<◌, length, ⊎_elim, List, slice_set, sym, ap, subst, ◌∙◌, arith, length-set}
use Rattle.std.proofs.lemmas.List.{get_or-set_same, get_or-set_other}
use Rattle.std.proofs.lemmas.Bool.{cases_eq}
use Rattle.td_verify.specs.declared.shape.Shape.{Shape}
use Rattle.td_verify.specs.declared.bracket.Innermost.{Innermost}
use Rattle.td_verify.specs.declared.bracket.Innermost.TheVariants.{Broken}
use Rattle.td_verify.specs.Brackets.{opened, and_then, innermost}
use Rattle.td_verify.specs.Contexts.{innermost_at, AreContexts}
use Rattle.td_verify.proofs.Chain.{outer_is}
use Rattle.td_verify.proofs.contexts.fill.Goals as goal
use Rattle.td_verify.proofs.Flat.{next_opened}

more : (s : List Shape) (contexts : List Innermost) (n : ℕ) (v : Innermost) → AreContexts s contexts n → n < length contexts → v ≡ innermost (opened s n) → AreContexts s (slice_set contexts n v) (n + 1)
more s contexts n v are l e = λ p h. ⊎_elim
    (λ (same : p ≡ n). subst (λ x. innermost_at (slice_set contexts n v) x ≡ innermost (opened s x)) (sym same) (get_or-set_same contexts n v Broken l ∙ e))
    (λ (other : (p ≡ n) → ⊥). get_or-set_other contexts n p v Broken other ∙ are p (omega (arith, other)))
    (cases_eq p n)

pub loop-at-preserved : goal.loop-at-preserved
loop-at-preserved c =
    let s = c.args.shapes.now in
    let at = c.loop-at.at in
    let here : c.context-now.result ≡ innermost (opened s at) = c.context-now.ensures ∙ c.loop-at.invariant.contexts at (omega arith) in
    let out = outer_is s c.loop-at.contexts at (at + 1) c.context-now.result c.outer.result c.loop-at.invariant.contexts (omega arith) here c.outer.ensures in
    let next : c.step-next.result ≡ innermost (opened s (at + 1)) =
    c.step-next.ensures (opened s at) here out ∙ ap innermost (ap (λ i. and_then at i (opened s at)) c.read.ensures ∙ sym (next_opened s at)) in
    record {
      length = length-set c.loop-at.contexts (at + 1) c.step-next.result ∙ c.loop-at.invariant.length;
      contexts = more s c.loop-at.contexts (at + 1) c.step-next.result c.loop-at.invariant.contexts (let e = c.loop-at.invariant.length in omega arith) next;
    }
