use Rattle.std.proofs.Common.{◌≡◌, ◌+◌, ◌-◌, ◌≤◌, [], ap, ◌∙◌, arith}
use Rattle.td_stream.specs.StreamInvariant.{position, end_of}
use Rattle.td_ir.specs.Flow.{Goes, plain}
use Rattle.td_vm_step.specs.Stepping.{state_of}
use Rattle.td_vm_step.proofs.Stretches.{ran_self, ran_here}
use Rattle.td_vm_step.proofs.Bytes.{narrow_short, narrow_enough}
use Rattle.td_vm_step.proofs.Elements.{narrowed_state}
use Rattle.td_vm_step.proofs.windows.narrow.Goals as goal

pub returns-then-n-from-clause-same : goal.returns-then-n-from-clause-same
returns-then-n-from-clause-same g c = λ k.
    let short : c.args.n ≤ end_of c.args.stream.now - position c.args.stream.now → ⊥ = λ l. omega (arith, l, c.if-n-from.true, c.from.ensures, c.end.ensures, c.pos.ensures) in
    ran_self c.args.stream.now k _ (λ b regs cells. narrow_short c.args.next c.args.n c.args.site _ short)

pub returns-clause-same : goal.returns-clause-same
returns-clause-same g c = λ k.
    let a = c.args in
    let s = a.stream.now in
    let t = c.narrow.new.self in
    let e = c.narrow.ensures.moves in
    let none : k ≡ k + 0 = omega arith in
    let enough : a.n ≤ end_of s - position s = omega (arith, c.if-n-from.false, c.from.ensures, c.end.ensures, c.pos.ensures) in
    ran_here s t k k [] 0 _ none e.looked (λ b h regs cells. narrow_enough a.next a.n a.site (state_of regs cells a.act.now s) enough c.requires.whole.within ∙ ap (λ u. plain (Goes a.next u)) (narrowed_state regs cells a.act.now s t c.end-act.result (position s + a.n) e.at e.ends c.end-act.ensures))
