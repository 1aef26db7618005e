use Rattle.std.proofs.Common.{◌≡◌, ◌+◌, ◌-◌, ◌≤◌, sym, ap, ◌∙◌, subst, arith}
use Rattle.std.specs.Prelude.{slice_set}
use Rattle.td_num.specs.Numbers.{ordered_at, places_from}
use Rattle.td_stream.specs.StreamInvariant.{Looked, position, end_of}
use Rattle.td_ir.specs.Values.{order_of}
use Rattle.td_ir.specs.State.{with_reg, at_pos}
use Rattle.td_ir.specs.Flow.{Goes}
use Rattle.td_vm_step.specs.Stepping.{state_of, effect_of}
use Rattle.td_vm_step.proofs.Stretches.{ran_self, ran_here}
use Rattle.td_vm_step.proofs.Bytes.{fetch_short, fetch_enough, some_width, few_width}
use Rattle.td_vm_step.proofs.Elements.{moved_state}
use Rattle.td_vm_step.proofs.reads.fetch.Goals as goal

pub returns-then-not-need-clause-same : goal.returns-then-not-need-clause-same
returns-then-not-need-clause-same g c = λ n.
    let short : c.args.operands.width ≤ end_of c.args.stream.now - position c.args.stream.now → ⊥ = λ k. let a = c.need.ensures.1 (omega (arith, c.from-count.ensures, k)) in let b = c.if-not-need.true in cc in
    ran_self c.args.stream.now n _ (λ b cells. fetch_short b c.args.next c.args.operands.into c.args.operands.order c.args.operands.width c.args.operands.site _ short)

pub take_bytes-requires-clause-some : goal.take_bytes-requires-clause-some
take_bytes-requires-clause-some g c = let some = some_width c.args.operands.width c.requires.width in omega (arith, some, c.from-count.ensures)

pub take_bytes-requires-clause-few : goal.take_bytes-requires-clause-few
take_bytes-requires-clause-few g c = let few = few_width c.args.operands.width c.requires.width in omega (arith, few, c.from-count.ensures)

pub returns-clause-same : goal.returns-clause-same
returns-clause-same g c = λ n.
    let a = c.args in
    let e = c.take_bytes.ensures in
    let o = e.moves in
    let s = c.args.stream.now in
    let t = c.take_bytes.new.self in
    let p = position s in
    let wide = c.from-count.ensures in
    let zero : n ≡ n + 0 = omega arith in
    let enough : a.operands.width ≤ end_of s - p = (let k = c.need.ensures.0 c.if-not-need.false in omega (arith, k, c.from-count.ensures)) in
    ran_here s t n n (places_from p a.operands.width) 0 _ zero (subst (λ k. Looked g.W.Words.loads s t (places_from p k)) wide o.looked) (λ b h cells.
    fetch_enough b a.next a.operands.into a.operands.order a.operands.width a.operands.site (state_of a.regs.now cells a.act.now s) enough c.requires.whole.within
    ∙ ap (λ v. effect_of (Goes a.next (at_pos (with_reg (state_of a.regs.now cells a.act.now s) a.operands.into v) (p + a.operands.width))) (places_from p a.operands.width) 1) (sym (e.value b h ∙ ap (λ o. ordered_at o b p (c.from-count.result)) c.order_of.ensures ∙ ap (ordered_at (order_of a.operands.order) b p) wide))
    ∙ ap (λ u. effect_of (Goes a.next u) (places_from p a.operands.width) 1) (moved_state (slice_set a.regs.now a.operands.into c.take_bytes.result) cells a.act.now s t (p + a.operands.width) (o.at ∙ ap (λ k. p + k) wide) o.ends))
