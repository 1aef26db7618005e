use Rattle.std.proofs.Common.{◌≡◌, suc, ◌+◌, ◌-◌, Some, sym, ap, ◌∙◌, subst, arith}
use Rattle.td_core.specs.declared.outcome.Reason.TheVariants.{Padding}
use Rattle.td_num.specs.Numbers.{places_from}
use Rattle.td_num.specs.Lists.{first_where}
use Rattle.td_stream.specs.StreamInvariant.{Looked, position, end_of}
use Rattle.td_ir.specs.Values.{is_nonzero, numbers_from}
use Rattle.td_ir.specs.Flow.{Fails}
use Rattle.td_vm_step.specs.Stepping.{state_of, effect_of}
use Rattle.td_vm_step.proofs.Stretches.{ran_here}
use Rattle.td_vm_step.proofs.Elements.{one_wide, same_state, zeros_by}
use Rattle.td_vm_step.proofs.reads.zeros.Goals as goal

pub returns-in-Some-clause-same : goal.returns-in-Some-clause-same
returns-in-Some-clause-same g c =
    let a = c.args in
    let e = c.in-Some.ensures in
    let s = c.args.stream.now in
    let t = c.seek.new.stream in
    let p = position s in
    let k = c.in-Some.k in
    let left : c.end.result - c.pos-start.result ≡ end_of s - p = omega (arith, c.end.ensures, c.pos-start.ensures) in
    ran_here s t a.steps.now c.seek.new.steps (places_from p (suc k)) (suc k) _ e.counted (subst (λ x. Looked g.W.Words.loads s t (places_from p x)) (one_wide (suc k)) e.moves.looked) (λ b h regs cells.
    zeros_by b a.next a.site (state_of regs cells a.act.now s) (Some k) (e.first b h ∙ ap (λ m. first_where is_nonzero (numbers_from b p 1 m)) left)
    ∙ ap (λ q. effect_of (Fails Padding a.site (q + k) (state_of regs cells a.act.now s)) (places_from p (suc k)) (1 + suc k)) (sym c.pos-start.ensures)
    ∙ ap (λ u. effect_of (Fails Padding a.site (c.pos-start.result + k) u) (places_from p (suc k)) (1 + suc k)) (same_state regs cells a.act.now s t e.moves.ends))
