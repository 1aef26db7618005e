use Rattle.std.proofs.Common.{◌≡◌, ◌+◌, ◌-◌, [], slice_index, sym, ap, ◌∙◌, arith}
use Rattle.td_num.specs.Lists.{is_among}
use Rattle.td_ir.specs.State.{with_reg}
use Rattle.td_ir.specs.Values.{bit}
use Rattle.td_ir.specs.Flow.{Goes, Fails, plain, effect}
use Rattle.td_stream.specs.StreamInvariant.{position, end_of}
use Rattle.td_vm_step.specs.Stepping.{state_of}
use Rattle.td_vm_step.proofs.Stretches.{ran_self, ran_here, ran_weaker}
use Rattle.td_vm_step.proofs.Bytes.{when_zero, when_more, when_other, when_same, where_zero, where_more}
use Rattle.td_vm_step.proofs.Elements.{moved_state, widened_state}
use Rattle.td_vm_step.proofs.step.step.Goals as goal

pub returns-in-Const-clause-same : goal.returns-in-Const-clause-same
returns-in-Const-clause-same g c = ran_self c.args.stream.now c.args.steps.now _ (λ b. ap (λ j. effect c.args.level.now.code.parts.now c.args.level.now.n b c.args.level.now.places.now c.args.current.pc j (state_of c.args.regs.now c.args.slate.now.cells.now c.args.act.now c.args.stream.now)) c.in-Const.is)

pub returns-in-Member-clause-same : goal.returns-in-Member-clause-same
returns-in-Member-clause-same g c = ran_self c.args.stream.now c.args.steps.now _ (λ b. ap (λ j. effect c.args.level.now.code.parts.now c.args.level.now.n b c.args.level.now.places.now c.args.current.pc j (state_of c.args.regs.now c.args.slate.now.cells.now c.args.act.now c.args.stream.now)) c.in-Member.is ∙ ap (λ v. plain (Goes (c.args.current.pc + 1) (with_reg (state_of c.args.regs.now c.args.slate.now.cells.now c.args.act.now c.args.stream.now) c.in-Member.into v))) (ap (λ t. bit (is_among t (slice_index c.args.regs.now c.in-Member.source))) (sym c.set_at.ensures) ∙ ap bit (sym c.is_member.ensures) ∙ sym c.bit.ensures))

pub returns-in-Op-clause-same : goal.returns-in-Op-clause-same
returns-in-Op-clause-same g c = ran_self c.args.stream.now c.args.steps.now _ (λ b. ap (λ j. effect c.args.level.now.code.parts.now c.args.level.now.n b c.args.level.now.places.now c.args.current.pc j (state_of c.args.regs.now c.args.slate.now.cells.now c.args.act.now c.args.stream.now)) c.in-Op.is ∙ ap (λ v. plain (Goes (c.args.current.pc + 1) (with_reg (state_of c.args.regs.now c.args.slate.now.cells.now c.args.act.now c.args.stream.now) c.in-Op.into v))) (sym c.operated.ensures))

pub returns-in-Bits-clause-same : goal.returns-in-Bits-clause-same
returns-in-Bits-clause-same g c = ran_self c.args.stream.now c.args.steps.now _ (λ b. ap (λ j. effect c.args.level.now.code.parts.now c.args.level.now.n b c.args.level.now.places.now c.args.current.pc j (state_of c.args.regs.now c.args.slate.now.cells.now c.args.act.now c.args.stream.now)) c.in-Bits.is ∙ ap (λ v. plain (Goes (c.args.current.pc + 1) (with_reg (state_of c.args.regs.now c.args.slate.now.cells.now c.args.act.now c.args.stream.now) c.in-Bits.into v))) (sym c.bits.ensures))

pub returns-in-Pos-clause-same : goal.returns-in-Pos-clause-same
returns-in-Pos-clause-same g c = ran_self c.args.stream.now c.args.steps.now _ (λ b. ap (λ j. effect c.args.level.now.code.parts.now c.args.level.now.n b c.args.level.now.places.now c.args.current.pc j (state_of c.args.regs.now c.args.slate.now.cells.now c.args.act.now c.args.stream.now)) c.in-Pos.is ∙ ap (λ v. plain (Goes (c.args.current.pc + 1) (with_reg (state_of c.args.regs.now c.args.slate.now.cells.now c.args.act.now c.args.stream.now) c.in-Pos.into v))) (sym c.from.ensures))

pub returns-in-Jump-clause-same : goal.returns-in-Jump-clause-same
returns-in-Jump-clause-same g c = ran_self c.args.stream.now c.args.steps.now _ (λ b. ap (λ j. effect c.args.level.now.code.parts.now c.args.level.now.n b c.args.level.now.places.now c.args.current.pc j (state_of c.args.regs.now c.args.slate.now.cells.now c.args.act.now c.args.stream.now)) c.in-Jump.is)

pub returns-then-regs-test-eq0-clause-same : goal.returns-then-regs-test-eq0-clause-same
returns-then-regs-test-eq0-clause-same g c = ran_self c.args.stream.now c.args.steps.now _ (λ b. ap (λ j. effect c.args.level.now.code.parts.now c.args.level.now.n b c.args.level.now.places.now c.args.current.pc j (state_of c.args.regs.now c.args.slate.now.cells.now c.args.act.now c.args.stream.now)) c.in-JumpIf.is ∙ when_zero _ _ _ c.if-regs-test-eq0.true)

pub returns-else-regs-test-eq0-clause-same : goal.returns-else-regs-test-eq0-clause-same
returns-else-regs-test-eq0-clause-same g c = ran_self c.args.stream.now c.args.steps.now _ (λ b. ap (λ j. effect c.args.level.now.code.parts.now c.args.level.now.n b c.args.level.now.places.now c.args.current.pc j (state_of c.args.regs.now c.args.slate.now.cells.now c.args.act.now c.args.stream.now)) c.in-JumpIf.is ∙ when_more _ _ _ c.if-regs-test-eq0.false)

pub returns-then-regs-test-eq0-2-clause-same : goal.returns-then-regs-test-eq0-2-clause-same
returns-then-regs-test-eq0-2-clause-same g c = ran_self c.args.stream.now c.args.steps.now _ (λ b. ap (λ j. effect c.args.level.now.code.parts.now c.args.level.now.n b c.args.level.now.places.now c.args.current.pc j (state_of c.args.regs.now c.args.slate.now.cells.now c.args.act.now c.args.stream.now)) c.in-JumpUnless.is ∙ when_zero _ _ _ c.if-regs-test-eq0-2.true)

pub returns-else-regs-test-eq0-2-clause-same : goal.returns-else-regs-test-eq0-2-clause-same
returns-else-regs-test-eq0-2-clause-same g c = ran_self c.args.stream.now c.args.steps.now _ (λ b. ap (λ j. effect c.args.level.now.code.parts.now c.args.level.now.n b c.args.level.now.places.now c.args.current.pc j (state_of c.args.regs.now c.args.slate.now.cells.now c.args.act.now c.args.stream.now)) c.in-JumpUnless.is ∙ when_more _ _ _ c.if-regs-test-eq0-2.false)

pub returns-in-Call-clause-same : goal.returns-in-Call-clause-same
returns-in-Call-clause-same g c = ran_self c.args.stream.now c.args.steps.now _ (λ b. ap (λ j. effect c.args.level.now.code.parts.now c.args.level.now.n b c.args.level.now.places.now c.args.current.pc j (state_of c.args.regs.now c.args.slate.now.cells.now c.args.act.now c.args.stream.now)) c.in-Call.is)

pub returns-in-Return-clause-same : goal.returns-in-Return-clause-same
returns-in-Return-clause-same g c = ran_self c.args.stream.now c.args.steps.now _ (λ b. ap (λ j. effect c.args.level.now.code.parts.now c.args.level.now.n b c.args.level.now.places.now c.args.current.pc j (state_of c.args.regs.now c.args.slate.now.cells.now c.args.act.now c.args.stream.now)) c.in-Return.is)

pub returns-in-Fetch-clause-same : goal.returns-in-Fetch-clause-same
returns-in-Fetch-clause-same g c = ran_weaker c.args.stream.now c.fetch.new.stream c.args.steps.now c.args.steps.now _ _ (c.fetch.ensures.same c.args.steps.now) (λ b x k p. ap (λ j. effect c.args.level.now.code.parts.now c.args.level.now.n b c.args.level.now.places.now c.args.current.pc j (state_of c.args.regs.now c.args.slate.now.cells.now c.args.act.now c.args.stream.now)) c.in-Fetch.is ∙ p c.args.slate.now.cells.now)

pub returns-in-SkipK-clause-same : goal.returns-in-SkipK-clause-same
returns-in-SkipK-clause-same g c = ran_weaker c.args.stream.now c.skip.new.stream c.args.steps.now c.args.steps.now _ _ (c.skip.ensures.same c.args.steps.now) (λ b x k p. ap (λ j. effect c.args.level.now.code.parts.now c.args.level.now.n b c.args.level.now.places.now c.args.current.pc j (state_of c.args.regs.now c.args.slate.now.cells.now c.args.act.now c.args.stream.now)) c.in-SkipK.is ∙ p c.args.regs.now c.args.slate.now.cells.now)

pub returns-in-Skip-clause-same : goal.returns-in-Skip-clause-same
returns-in-Skip-clause-same g c = ran_weaker c.args.stream.now c.skip-in-Skip.new.stream c.args.steps.now c.args.steps.now _ _ (c.skip-in-Skip.ensures.same c.args.steps.now) (λ b x k p. ap (λ j. effect c.args.level.now.code.parts.now c.args.level.now.n b c.args.level.now.places.now c.args.current.pc j (state_of c.args.regs.now c.args.slate.now.cells.now c.args.act.now c.args.stream.now)) c.in-Skip.is ∙ p c.args.regs.now c.args.slate.now.cells.now)

pub returns-in-NarrowK-clause-same : goal.returns-in-NarrowK-clause-same
returns-in-NarrowK-clause-same g c = ran_weaker c.args.stream.now c.narrow.new.stream c.args.steps.now c.args.steps.now _ _ (c.narrow.ensures.same c.args.steps.now) (λ b x k p. ap (λ j. effect c.args.level.now.code.parts.now c.args.level.now.n b c.args.level.now.places.now c.args.current.pc j (state_of c.args.regs.now c.args.slate.now.cells.now c.args.act.now c.args.stream.now)) c.in-NarrowK.is ∙ p c.args.regs.now c.args.slate.now.cells.now)

pub returns-in-Narrow-clause-same : goal.returns-in-Narrow-clause-same
returns-in-Narrow-clause-same g c = ran_weaker c.args.stream.now c.narrow-in-Narrow.new.stream c.args.steps.now c.args.steps.now _ _ (c.narrow-in-Narrow.ensures.same c.args.steps.now) (λ b x k p. ap (λ j. effect c.args.level.now.code.parts.now c.args.level.now.n b c.args.level.now.places.now c.args.current.pc j (state_of c.args.regs.now c.args.slate.now.cells.now c.args.act.now c.args.stream.now)) c.in-Narrow.is ∙ p c.args.regs.now c.args.slate.now.cells.now)

pub returns-then-regs-size-eq0-clause-same : goal.returns-then-regs-size-eq0-clause-same
returns-then-regs-size-eq0-clause-same g c = ran_self c.args.stream.now c.args.steps.now _ (λ b. ap (λ j. effect c.args.level.now.code.parts.now c.args.level.now.n b c.args.level.now.places.now c.args.current.pc j (state_of c.args.regs.now c.args.slate.now.cells.now c.args.act.now c.args.stream.now)) c.in-Divides.is ∙ where_zero _ _ _ _ _ c.if-regs-size-eq0.true)

pub returns-else-regs-size-eq0-clause-same : goal.returns-else-regs-size-eq0-clause-same
returns-else-regs-size-eq0-clause-same g c = ran_self c.args.stream.now c.args.steps.now _ (λ b. ap (λ j. effect c.args.level.now.code.parts.now c.args.level.now.n b c.args.level.now.places.now c.args.current.pc j (state_of c.args.regs.now c.args.slate.now.cells.now c.args.act.now c.args.stream.now)) c.in-Divides.is ∙ where_more _ _ _ _ _ c.if-regs-size-eq0.false)

pub returns-in-While-clause-same : goal.returns-in-While-clause-same
returns-in-While-clause-same g c = ran_self c.args.stream.now c.args.steps.now _ (λ b. ap (λ j. effect c.args.level.now.code.parts.now c.args.level.now.n b c.args.level.now.places.now c.args.current.pc j (state_of c.args.regs.now c.args.slate.now.cells.now c.args.act.now c.args.stream.now)) c.in-While.is)

pub returns-in-Again-clause-same : goal.returns-in-Again-clause-same
returns-in-Again-clause-same g c = ran_self c.args.stream.now c.args.steps.now _ (λ b. ap (λ j. effect c.args.level.now.code.parts.now c.args.level.now.n b c.args.level.now.places.now c.args.current.pc j (state_of c.args.regs.now c.args.slate.now.cells.now c.args.act.now c.args.stream.now)) c.in-Again.is)

pub returns-else-pos-end-clause-same : goal.returns-else-pos-end-clause-same
returns-else-pos-end-clause-same g c = ran_self c.args.stream.now c.args.steps.now _ (λ b. ap (λ j. effect c.args.level.now.code.parts.now c.args.level.now.n b c.args.level.now.places.now c.args.current.pc j (state_of c.args.regs.now c.args.slate.now.cells.now c.args.act.now c.args.stream.now)) c.in-Widen.is ∙ when_other _ _ _ _ (λ e. c.if-pos-end.false (c.pos-in-Widen.ensures ∙ e ∙ sym c.end-in-Widen.ensures)))

pub returns-in-Fail-clause-same : goal.returns-in-Fail-clause-same
returns-in-Fail-clause-same g c = ran_self c.args.stream.now c.args.steps.now _ (λ b. ap (λ j. effect c.args.level.now.code.parts.now c.args.level.now.n b c.args.level.now.places.now c.args.current.pc j (state_of c.args.regs.now c.args.slate.now.cells.now c.args.act.now c.args.stream.now)) c.in-Fail.is ∙ ap (λ r. plain (Fails r c.in-Fail.site c.args.act.now.start (state_of c.args.regs.now c.args.slate.now.cells.now c.args.act.now c.args.stream.now))) (sym c.reason_of.ensures))

pub returns-in-Get-clause-same : goal.returns-in-Get-clause-same
returns-in-Get-clause-same g c = ran_self c.args.stream.now c.args.steps.now _ (λ b. ap (λ j. effect c.args.level.now.code.parts.now c.args.level.now.n b c.args.level.now.places.now c.args.current.pc j (state_of c.args.regs.now c.args.slate.now.cells.now c.args.act.now c.args.stream.now)) c.in-Get.is)

pub returns-in-Set-clause-same : goal.returns-in-Set-clause-same
returns-in-Set-clause-same g c = ran_self c.args.stream.now c.args.steps.now _ (λ b. ap (λ j. effect c.args.level.now.code.parts.now c.args.level.now.n b c.args.level.now.places.now c.args.current.pc j (state_of c.args.regs.now c.args.slate.now.cells.now c.args.act.now c.args.stream.now)) c.in-Set.is)

pub returns-in-Mark-clause-same : goal.returns-in-Mark-clause-same
returns-in-Mark-clause-same g c = ran_self c.args.stream.now c.args.steps.now _ (λ b. ap (λ j. effect c.args.level.now.code.parts.now c.args.level.now.n b c.args.level.now.places.now c.args.current.pc j (state_of c.args.regs.now c.args.slate.now.cells.now c.args.act.now c.args.stream.now)) c.in-Mark.is ∙ ap (λ x. plain (Goes (c.args.current.pc + 1) (record (state_of c.args.regs.now c.args.slate.now.cells.now c.args.act.now c.args.stream.now) { start = x }))) (sym c.pos-act.ensures))

pub returns-in-Left-clause-same : goal.returns-in-Left-clause-same
returns-in-Left-clause-same g c =
    let s = c.args.stream.now in
    let behind : end_of s - position s ≡ c.from-in-Left.result = ap (λ x. x - position s) (sym c.end-in-Left.ensures) ∙ ap (λ x. c.end-in-Left.result - x) (sym c.pos-in-Left.ensures) ∙ sym c.from-in-Left.ensures in
    ran_self s c.args.steps.now _ (λ b. ap (λ j. effect c.args.level.now.code.parts.now c.args.level.now.n b c.args.level.now.places.now c.args.current.pc j (state_of c.args.regs.now c.args.slate.now.cells.now c.args.act.now c.args.stream.now)) c.in-Left.is ∙ ap (λ v. plain (Goes (c.args.current.pc + 1) (with_reg (state_of c.args.regs.now c.args.slate.now.cells.now c.args.act.now c.args.stream.now) c.in-Left.into v))) behind)

pub returns-in-Rest-clause-same : goal.returns-in-Rest-clause-same
returns-in-Rest-clause-same g c =
    let a = c.args in
    let s = c.args.stream.now in
    let t = c.skip-in-Rest.new.self in
    let e = c.skip-in-Rest.ensures.moves in
    let n = c.args.steps.now in
    let none : n ≡ n + 0 = omega arith in
    let all : position t ≡ end_of s = omega (arith, e.at, c.end.ensures, c.pos.ensures, c.requires.whole.within) in
    ran_here s t n n [] 0 _ none e.looked (λ b h. ap (λ j. effect c.args.level.now.code.parts.now c.args.level.now.n b c.args.level.now.places.now c.args.current.pc j (state_of c.args.regs.now c.args.slate.now.cells.now c.args.act.now c.args.stream.now)) c.in-Rest.is ∙ ap (λ u. plain (Goes (a.current.pc + 1) u)) (moved_state a.regs.now a.slate.now.cells.now a.act.now s t (end_of s) all e.ends))

pub returns-then-pos-end-clause-same : goal.returns-then-pos-end-clause-same
returns-then-pos-end-clause-same g c =
    let a = c.args in
    let s = c.args.stream.now in
    let t = c.widen.new.self in
    let e = c.widen.ensures.moves in
    let n = c.args.steps.now in
    let none : n ≡ n + 0 = omega arith in
    ran_here s t n n [] 0 _ none e.looked (λ b h. ap (λ j. effect c.args.level.now.code.parts.now c.args.level.now.n b c.args.level.now.places.now c.args.current.pc j (state_of c.args.regs.now c.args.slate.now.cells.now c.args.act.now c.args.stream.now)) c.in-Widen.is
    ∙ when_same (position s) (end_of s) _ _ (sym c.pos-in-Widen.ensures ∙ c.if-pos-end.true ∙ c.end-in-Widen.ensures)
    ∙ ap (λ u. plain (Goes (a.current.pc + 1) u)) (widened_state a.regs.now a.slate.now.cells.now a.act.now s t e.at e.ends))
