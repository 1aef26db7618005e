use Rattle.std.proofs.Common.{◌+◌, ◌≤◌, ◌↔◌, subst, sym}
use Rattle.td_verify.specs.Operands.{AreBelow}
use Rattle.td_verify.specs.Findings.{AreTops}
use Rattle.td_verify.proofs.Tops.{tops_next}
use Rattle.td_verify.proofs.operands.tops.Goals as goal

pub loop-k-preserved : goal.loop-k-preserved
loop-k-preserved c =
    let parts = c.args.parts.now in
    subst (λ x. AreTops parts x (c.loop-k.k + 1)) (sym c.in_ok-push.ensures.items)
    (tops_next parts c.loop-k.tops.items c.top_of.result c.loop-k.k c.loop-k.invariant
    (λ m. subst (λ x. AreBelow m x ↔ (c.top_of.result ≤ m)) c.map_at.ensures (c.top_of.ensures m)))
