mod Calls
mod Steps
mod Turns
use Rattle.std.proofs.Common.{◌≡◌, suc, ◌+◌, ◌++◌, arith, sym, ap, ◌∙◌, subst, refl}
use Rattle.td_ir.specs.Tables.{lengths_of}
use Rattle.td_ir.specs.State.{after}
use Rattle.td_ir.specs.State as ir
use Rattle.td_ir.proofs.Begins.{begin_up}
use Rattle.td_verify.specs.Shape.{shape}
use Rattle.td_stream.specs.StreamInvariant.{position, end_of}
use Rattle.td_verify_runs.specs.Moves.{Ends}
use Rattle.td_vm.specs.Imports.{TraceRoom}
use Rattle.td_stream.proofs.Stages.{later_trans, later_self}
use Rattle.td_vm_step.proofs.Stretches.{lent_self, lent_trans, hold_on, ran_self}
use Rattle.td_vm.specs.Exits.{exit_by}
use Rattle.td_vm.proofs.Stretches.{ran_step, after_once, after_none}
use Rattle.td_verify_runs.proofs.Shapes.{shape_here}
use Rattle.td_verify_runs.proofs.Ways.{goes_on}
use Rattle.td_vm.proofs.Calls.{fine_at}
use Rattle.td_verify_runs.proofs.Stretches.{loop_whole, return_outside, in_code}
use Rattle.td_vm.proofs.Turns.{room_stepped, one_frame, callee_at, spare_same}
use Rattle.td_vm.proofs.machine.+machine.Answers.Calls as calls
use Rattle.td_vm.proofs.machine.+machine.Answers.Steps as steps
use Rattle.td_vm.proofs.machine.+machine.Answers.Turns as turns
use Rattle.td_vm.proofs.machine.+machine.Goals as goal

pub run_block-steps-init : goal.run_block-steps-init
run_block-steps-init g t c =
    record {
      room = c.requires.room;
      lent = lent_self c.args.slate.now;
      held = λ b h k. k;
      kept = spare_same c.args.spare.now;
      place = c.requires.stretch.place;
      on = omega arith;
      under = c.requires.stretch.some;
      later = later_self g.met.W.Words.reaches_itself c.args.stream.now;
      whole = c.requires.whole;
      window = c.requires.window;
      outer = omega arith;
      kind = refl;
      fixed = λ h. refl;
      end = λ h. refl;
      narrow = omega (arith, c.requires.stretch.outside, c.requires.whole.within);
      idle = λ e set closed m. m;
      same = ran_self c.args.stream.now c.args.steps.now _ (λ b. after_none _);
    }

pub run_block-step-requires-clause-fine : goal.run_block-step-requires-clause-fine
run_block-step-requires-clause-fine g t c =
    let i = c.steps.invariant in
    fine_at c.args.stretch.now.level.now.code.parts.now c.args.stretch.now.level.now.n c.steps.pc _ c.instruction_at-instruction.result.now i.room.runnable.safe i.place c.instruction_at-instruction.ensures.is i.room.register_count

pub run_block-steps-preserved-in-Goes : goal.run_block-steps-preserved-in-Goes
run_block-steps-preserved-in-Goes = steps.run_block-steps-preserved-in-Goes

pub run_turns-turns-init : goal.run_turns-turns-init
run_turns-turns-init = turns.run_turns-turns-init

pub run_block-instruction_at-instruction-requires : goal.run_block-instruction_at-instruction-requires
run_block-instruction_at-instruction-requires g t c = in_code c.args.stretch.now.level.now.code.parts.now c.args.stretch.now.level.now.n c.steps.pc c.steps.invariant.room.runnable c.steps.invariant.place

pub run_block-step-requires-clause-next : goal.run_block-step-requires-clause-next
run_block-step-requires-clause-next g t c = omega (arith, c.steps.invariant.under, c.well_formed)

pub run_block-steps-smaller-in-Goes : goal.run_block-steps-smaller-in-Goes
run_block-steps-smaller-in-Goes g t c =
    let i = c.steps.invariant in
    let e = c.in-Goes.ensures in
    let C = c.args.stretch.now.level.now.code.parts.now in
    let at = shape_here C c.steps.pc c.instruction_at-instruction.result.now c.instruction_at-instruction.ensures.is in
    let o = goes_on C c.args.stretch.now.level.now.n c.steps.pc c.in-Goes.target (shape c.instruction_at-instruction.result.now) i.room.runnable.safe i.place at e.leads.1 in
    omega (arith, o.0, i.under)

pub run_block-returns-in-Fails-clause-same : goal.run_block-returns-in-Fails-clause-same
run_block-returns-in-Fails-clause-same g t c =
    let i = c.steps.invariant in
    let e = c.in-Fails.ensures in
    let C = c.args.stretch.now.level.now.code.parts.now in
    let I = c.instruction_at-instruction.result.now in
    ran_step c.args.stream.now c.steps.stream c.step.new.stream c.args.steps.now c.steps.steps c.tick.new.self c.step.new.steps _ _ _ i.later e.later i.same e.same c.tick.ensures (λ b x y j k p r.
    p ∙ ap (after x j) (c.laws.ensures.fails C b c.args.stretch.now.level.now.places.now c.args.stretch.now.level.now.n c.steps.pc c.in-Fails.reason c.in-Fails.site c.in-Fails.pos _ _ y (1 + k) (record { instruction = I; there = c.instruction_at-instruction.ensures.there; within = i.place.to; is = r }) ∙ after_once y (1 + k) _)
    ∙ ap (λ f. exit_by (ir.Failed c.in-Fails.reason c.in-Fails.pos f c.step.new.slate.cells.now) (x ++ y) (j + (1 + k))) (one_frame c.step.new.slate.trace.now c.push_frame.new.trace _ (ap (λ (t : TraceRoom). t.count) e.trace ∙ i.room.trace) c.push_frame.ensures.frames))

pub run_block-returns-in-Returns-clause-outside : goal.run_block-returns-in-Returns-clause-outside
run_block-returns-in-Returns-clause-outside g t c =
    let i = c.steps.invariant in
    let e = c.in-Returns.ensures in
    let C = c.args.stretch.now.level.now.code.parts.now in
    let I = c.instruction_at-instruction.result.now in
    let at = shape_here C c.steps.pc I c.instruction_at-instruction.ensures.is in
    sym i.kind ∙ return_outside C c.args.stretch.now.level.now.n c.steps.pc i.room.runnable.safe i.place (at ∙ ap shape e.leads)

pub run_block-returns-in-Returns-clause-idle_return : goal.run_block-returns-in-Returns-clause-idle_return
run_block-returns-in-Returns-clause-idle_return g t c = λ z.
    let i = c.steps.invariant in
    let e = c.in-Returns.ensures in
    let C = c.args.stretch.now.level.now.code.parts.now in
    let I = c.instruction_at-instruction.result.now in
    let at = shape_here C c.steps.pc I c.instruction_at-instruction.ensures.is in
    record { at = c.steps.pc; within = i.place; is = at ∙ ap shape e.leads; way = i.idle (omega (arith, z, i.later.pos, e.later.pos)) }

pub run_block-returns-in-Returns-clause-same : goal.run_block-returns-in-Returns-clause-same
run_block-returns-in-Returns-clause-same g t c =
    let i = c.steps.invariant in
    let e = c.in-Returns.ensures in
    let C = c.args.stretch.now.level.now.code.parts.now in
    ran_step c.args.stream.now c.steps.stream c.step.new.stream c.args.steps.now c.steps.steps c.tick.new.self c.step.new.steps _ _ _ i.later e.later i.same e.same c.tick.ensures (λ b x y j k p r.
    p ∙ ap (after x j) (c.laws.ensures.returns C b c.args.stretch.now.level.now.places.now c.args.stretch.now.level.now.n c.steps.pc _ _ y (1 + k) (record { instruction = c.instruction_at-instruction.result.now; there = c.instruction_at-instruction.ensures.there; within = i.place.to; is = r }) ∙ after_once y (1 + k) _))

pub run_block-returns-in-Turns-clause-inside : goal.run_block-returns-in-Turns-clause-inside
run_block-returns-in-Turns-clause-inside g t c =
    let i = c.steps.invariant in
    let e = c.in-Turns.ensures in
    let C = c.args.stretch.now.level.now.code.parts.now in
    let at = shape_here C c.steps.pc c.instruction_at-instruction.result.now c.instruction_at-instruction.ensures.is in
    sym i.kind ∙ i.room.runnable.safe.loops.again c.args.stretch.now.level.now.n c.steps.pc c.in-Turns.field-0 i.place (at ∙ ap shape e.leads)

pub run_block-returns-in-Turns-clause-idle_turn : goal.run_block-returns-in-Turns-clause-idle_turn
run_block-returns-in-Turns-clause-idle_turn g t c = λ z.
    let i = c.steps.invariant in
    let e = c.in-Turns.ensures in
    let C = c.args.stretch.now.level.now.code.parts.now in
    let at = shape_here C c.steps.pc c.instruction_at-instruction.result.now c.instruction_at-instruction.ensures.is in
    let is = at ∙ ap shape e.leads in
    let inside = sym i.kind ∙ i.room.runnable.safe.loops.again c.args.stretch.now.level.now.n c.steps.pc c.in-Turns.field-0 i.place is in
    record { at = c.steps.pc; start = c.in-Turns.field-0; within = i.place; is = is; same = i.fixed inside; way = i.idle (omega (arith, z, i.later.pos, e.later.pos)) }

pub run_block-returns-in-Turns-clause-end : goal.run_block-returns-in-Turns-clause-end
run_block-returns-in-Turns-clause-end g t c =
    let i = c.steps.invariant in
    let e = c.in-Turns.ensures in
    let C = c.args.stretch.now.level.now.code.parts.now in
    let at = shape_here C c.steps.pc c.instruction_at-instruction.result.now c.instruction_at-instruction.ensures.is in
    let is = at ∙ ap shape e.leads in
    let inside = sym i.kind ∙ i.room.runnable.safe.loops.again c.args.stretch.now.level.now.n c.steps.pc c.in-Turns.field-0 i.place is in
    let end : end_of c.step.new.stream ≡ end_of c.steps.stream = subst (λ x. Ends (shape x) (position c.steps.stream) (end_of c.steps.stream) (end_of c.step.new.stream)) e.leads e.end in
    end ∙ i.end inside

pub run_block-returns-in-Turns-clause-same : goal.run_block-returns-in-Turns-clause-same
run_block-returns-in-Turns-clause-same g t c =
    let i = c.steps.invariant in
    let e = c.in-Turns.ensures in
    let C = c.args.stretch.now.level.now.code.parts.now in
    ran_step c.args.stream.now c.steps.stream c.step.new.stream c.args.steps.now c.steps.steps c.tick.new.self c.step.new.steps _ _ _ i.later e.later i.same e.same c.tick.ensures (λ b x y j k p r.
    p ∙ ap (after x j) (c.laws.ensures.turns C b c.args.stretch.now.level.now.places.now c.args.stretch.now.level.now.n c.steps.pc _ _ y (1 + k) (record { instruction = c.instruction_at-instruction.result.now; there = c.instruction_at-instruction.ensures.there; within = i.place.to; is = r }) ∙ after_once y (1 + k) _))

pub call-split_at_mut-mine-requires : goal.call-split_at_mut-mine-requires
call-split_at_mut-mine-requires = calls.call-split_at_mut-mine-requires

pub call-split_at_mut-mine_places-requires : goal.call-split_at_mut-mine_places-requires
call-split_at_mut-mine_places-requires = calls.call-split_at_mut-mine_places-requires

pub call-run_block-exit-requires : goal.call-run_block-exit-requires
call-run_block-exit-requires = calls.call-run_block-exit-requires

pub call-returns-clause-traced : goal.call-returns-clause-traced
call-returns-clause-traced = calls.call-returns-clause-traced

pub call-returns-clause-idle : goal.call-returns-clause-idle
call-returns-clause-idle = calls.call-returns-clause-idle

pub call-returns-clause-same : goal.call-returns-clause-same
call-returns-clause-same = calls.call-returns-clause-same

pub run_block-call-requires : goal.run_block-call-requires
run_block-call-requires g t c =
    let i = c.steps.invariant in
    let e = c.in-Calls.ensures in
    let C = c.args.stretch.now.level.now.code.parts.now in
    let n = c.args.stretch.now.level.now.n in
    let d = callee_at C n c.steps.pc c.in-Calls.from c.in-Calls.routine c.in-Calls.map c.in-Calls.site c.instruction_at-instruction.result.now i.room.runnable.safe i.place c.instruction_at-instruction.ensures.is e.leads in
    let room = room_stepped c.args.stretch.now.level.now c.steps.spare c.steps.regs c.step.new.regs c.steps.slate c.step.new.slate i.room c.step.auto.regs e.lent e.trace in
    let up = begin_up (lengths_of C) (suc c.in-Calls.routine) n (omega (arith, d.lower)) in
    λ κs h. (omega (arith, c.decreases, up, c.requires.stretch.place.from, c.requires.stretch.place.to), (h.0, (h.1.0, (h.1.1, (room, (d, e.whole))))))

pub run_block-steps-preserved-in-Returned : goal.run_block-steps-preserved-in-Returned
run_block-steps-preserved-in-Returned = steps.run_block-steps-preserved-in-Returned

pub run_block-returns-in-Failed-clause-later : goal.run_block-returns-in-Failed-clause-later
run_block-returns-in-Failed-clause-later g t c =
    later_trans g.met.W.Words.reaches_on c.args.stream.now c.step.new.stream c.call.new.stream (later_trans g.met.W.Words.reaches_on c.args.stream.now c.steps.stream c.step.new.stream c.steps.invariant.later c.in-Calls.ensures.later) c.in-Failed.ensures.later

pub run_block-returns-in-Failed-clause-same : goal.run_block-returns-in-Failed-clause-same
run_block-returns-in-Failed-clause-same = steps.run_block-returns-in-Failed-clause-same

pub run_block-run_turns-requires : goal.run_block-run_turns-requires
run_block-run_turns-requires g t c =
    let i = c.steps.invariant in
    let e = c.in-Loops.ensures in
    let C = c.args.stretch.now.level.now.code.parts.now in
    let n = c.args.stretch.now.level.now.n in
    let at = shape_here C c.steps.pc c.instruction_at-instruction.result.now c.instruction_at-instruction.ensures.is in
    let room = room_stepped c.args.stretch.now.level.now c.steps.spare c.steps.regs c.step.new.regs c.steps.slate c.step.new.slate i.room c.step.auto.regs e.lent e.trace in
    λ κs h. (omega (arith, c.decreases, i.on, i.place.to, i.place.from), (h.0, (h.1.0, (h.1.1, (room, (i.place, (at ∙ ap shape e.leads, (e.whole, e.window))))))))

pub run_block-steps-smaller : goal.run_block-steps-smaller
run_block-steps-smaller g t c =
    let i = c.steps.invariant in
    let C = c.args.stretch.now.level.now.code.parts.now in
    let at = shape_here C c.steps.pc c.instruction_at-instruction.result.now c.instruction_at-instruction.ensures.is in
    let w = loop_whole C c.args.stretch.now.level.now.n c.steps.pc c.in-Loops.target i.room.runnable i.place (at ∙ ap shape c.in-Loops.ensures.leads) in
    omega (arith, w.body, i.under)

pub run_block-steps-preserved : goal.run_block-steps-preserved
run_block-steps-preserved = steps.run_block-steps-preserved

pub run_block-returns-in-Failed-run_turns-clause-later : goal.run_block-returns-in-Failed-run_turns-clause-later
run_block-returns-in-Failed-run_turns-clause-later g t c =
    later_trans g.met.W.Words.reaches_on c.args.stream.now c.step.new.stream c.run_turns.new.stream (later_trans g.met.W.Words.reaches_on c.args.stream.now c.steps.stream c.step.new.stream c.steps.invariant.later c.in-Loops.ensures.later) c.in-Failed-run_turns.ensures.later

pub run_block-returns-in-Failed-run_turns-clause-same : goal.run_block-returns-in-Failed-run_turns-clause-same
run_block-returns-in-Failed-run_turns-clause-same = steps.run_block-returns-in-Failed-run_turns-clause-same

pub run_turns-run_block-requires : goal.run_turns-run_block-requires
run_turns-run_block-requires = turns.run_turns-run_block-requires

pub run_turns-turns-smaller : goal.run_turns-turns-smaller
run_turns-turns-smaller = turns.run_turns-turns-smaller

pub run_turns-turns-preserved : goal.run_turns-turns-preserved
run_turns-turns-preserved = turns.run_turns-turns-preserved

pub run_turns-unreachable-requires : goal.run_turns-unreachable-requires
run_turns-unreachable-requires = turns.run_turns-unreachable-requires

pub run_turns-returns-in-Failed-clause-later : goal.run_turns-returns-in-Failed-clause-later
run_turns-returns-in-Failed-clause-later = turns.run_turns-returns-in-Failed-clause-later

pub run_turns-returns-in-Failed-clause-same : goal.run_turns-returns-in-Failed-clause-same
run_turns-returns-in-Failed-clause-same = turns.run_turns-returns-in-Failed-clause-same

pub run_turns-returns-clause-same : goal.run_turns-returns-clause-same
run_turns-returns-clause-same = turns.run_turns-returns-clause-same

pub run_block-returns-in-Fails-clause-later : goal.run_block-returns-in-Fails-clause-later
run_block-returns-in-Fails-clause-later g t c = later_trans g.met.W.Words.reaches_on c.args.stream.now c.steps.stream c.step.new.stream c.steps.invariant.later c.in-Fails.ensures.later

pub run_block-returns-in-Returns-clause-later : goal.run_block-returns-in-Returns-clause-later
run_block-returns-in-Returns-clause-later g t c = later_trans g.met.W.Words.reaches_on c.args.stream.now c.steps.stream c.step.new.stream c.steps.invariant.later c.in-Returns.ensures.later

pub run_block-returns-in-Turns-clause-later : goal.run_block-returns-in-Turns-clause-later
run_block-returns-in-Turns-clause-later g t c = later_trans g.met.W.Words.reaches_on c.args.stream.now c.steps.stream c.step.new.stream c.steps.invariant.later c.in-Turns.ensures.later

pub run_turns-overflow_add-first : goal.run_turns-overflow_add-first
run_turns-overflow_add-first = turns.run_turns-overflow_add-first

pub call-set_registers-requires : goal.call-set_registers-requires
call-set_registers-requires = calls.call-set_registers-requires

pub call-returns-clause-later : goal.call-returns-clause-later
call-returns-clause-later = calls.call-returns-clause-later

pub call-returns-clause-no_turn : goal.call-returns-clause-no_turn
call-returns-clause-no_turn = calls.call-returns-clause-no_turn

pub call-returns-clause-kept : goal.call-returns-clause-kept
call-returns-clause-kept = calls.call-returns-clause-kept

pub run_block-returns-in-Fails-clause-lent : goal.run_block-returns-in-Fails-clause-lent
run_block-returns-in-Fails-clause-lent g t c =
    let i = c.steps.invariant in
    let e = c.in-Fails.ensures in
    record {
      same_cells = e.lent.same_cells ∙ i.lent.same_cells;
      same_copies = e.lent.same_copies ∙ i.lent.same_copies;
      same_trace = e.lent.same_trace ∙ i.lent.same_trace;
      cells = e.lent.cells ∙ i.lent.cells;
      copies = e.lent.copies ∙ i.lent.copies;
      rooms = e.lent.rooms ∙ i.lent.rooms;
      frames = c.push_frame.ensures.kept ∙ e.lent.frames ∙ i.lent.frames;
      memory = c.push_frame.ensures.memory ∙ e.lent.memory ∙ i.lent.memory;
    }

pub run_block-returns-in-Returns-clause-lent : goal.run_block-returns-in-Returns-clause-lent
run_block-returns-in-Returns-clause-lent g t c =
    let i = c.steps.invariant in
    let e = c.in-Returns.ensures in
    lent_trans _ _ _ i.lent e.lent

pub run_block-returns-in-Turns-clause-lent : goal.run_block-returns-in-Turns-clause-lent
run_block-returns-in-Turns-clause-lent g t c =
    let i = c.steps.invariant in
    let e = c.in-Turns.ensures in
    lent_trans _ _ _ i.lent e.lent

pub run_block-returns-in-Failed-clause-lent : goal.run_block-returns-in-Failed-clause-lent
run_block-returns-in-Failed-clause-lent g t c =
    let i = c.steps.invariant in
    let e = c.in-Calls.ensures in
    let f = c.in-Failed.ensures in
    record {
      same_cells = f.lent.same_cells ∙ e.lent.same_cells ∙ i.lent.same_cells;
      same_copies = f.lent.same_copies ∙ e.lent.same_copies ∙ i.lent.same_copies;
      same_trace = f.lent.same_trace ∙ e.lent.same_trace ∙ i.lent.same_trace;
      cells = f.lent.cells ∙ e.lent.cells ∙ i.lent.cells;
      copies = f.lent.copies ∙ e.lent.copies ∙ i.lent.copies;
      rooms = f.lent.rooms ∙ e.lent.rooms ∙ i.lent.rooms;
      frames = c.push_frame-in-Failed.ensures.kept ∙ f.lent.frames ∙ e.lent.frames ∙ i.lent.frames;
      memory = c.push_frame-in-Failed.ensures.memory ∙ f.lent.memory ∙ e.lent.memory ∙ i.lent.memory;
    }

pub run_block-returns-in-Failed-run_turns-clause-lent : goal.run_block-returns-in-Failed-run_turns-clause-lent
run_block-returns-in-Failed-run_turns-clause-lent g t c =
    let i = c.steps.invariant in
    let e = c.in-Loops.ensures in
    let f = c.in-Failed-run_turns.ensures in
    lent_trans _ _ _ i.lent (lent_trans _ _ _ e.lent f.lent)

pub run_turns-returns-in-Failed-clause-lent : goal.run_turns-returns-in-Failed-clause-lent
run_turns-returns-in-Failed-clause-lent g t c = lent_trans _ _ _ c.turns.invariant.lent c.in-Failed.ensures.lent

pub run_block-returns-in-Fails-clause-held : goal.run_block-returns-in-Fails-clause-held
run_block-returns-in-Fails-clause-held g t c =
    let i = c.steps.invariant in
    let e = c.in-Fails.ensures in
    hold_on c.args.stream.now c.steps.stream c.step.new.stream c.args.stretch.now.level.now.first c.args.slate.now c.steps.slate c.step.new.slate i.later e.later i.held e.held

pub run_block-returns-in-Returns-clause-held : goal.run_block-returns-in-Returns-clause-held
run_block-returns-in-Returns-clause-held g t c =
    let i = c.steps.invariant in
    let e = c.in-Returns.ensures in
    hold_on c.args.stream.now c.steps.stream c.step.new.stream c.args.stretch.now.level.now.first c.args.slate.now c.steps.slate c.step.new.slate i.later e.later i.held e.held

pub run_block-returns-in-Turns-clause-held : goal.run_block-returns-in-Turns-clause-held
run_block-returns-in-Turns-clause-held g t c =
    let i = c.steps.invariant in
    let e = c.in-Turns.ensures in
    hold_on c.args.stream.now c.steps.stream c.step.new.stream c.args.stretch.now.level.now.first c.args.slate.now c.steps.slate c.step.new.slate i.later e.later i.held e.held

pub run_block-returns-in-Failed-clause-held : goal.run_block-returns-in-Failed-clause-held
run_block-returns-in-Failed-clause-held g t c =
    let i = c.steps.invariant in
    let e = c.in-Calls.ensures in
    let f = c.in-Failed.ensures in
    let s0 = c.args.stream.now in
    let s = c.steps.stream in
    let u = c.step.new.stream in
    hold_on s0 u c.call.new.stream c.args.stretch.now.level.now.first c.args.slate.now c.step.new.slate c.call.new.slate
    (later_trans g.met.W.Words.reaches_on s0 s u i.later e.later) f.later
    (hold_on s0 s u c.args.stretch.now.level.now.first c.args.slate.now c.steps.slate c.step.new.slate i.later e.later i.held e.held) f.held

pub run_block-returns-in-Failed-run_turns-clause-held : goal.run_block-returns-in-Failed-run_turns-clause-held
run_block-returns-in-Failed-run_turns-clause-held g t c =
    let i = c.steps.invariant in
    let e = c.in-Loops.ensures in
    let f = c.in-Failed-run_turns.ensures in
    let s0 = c.args.stream.now in
    let s = c.steps.stream in
    let u = c.step.new.stream in
    hold_on s0 u c.run_turns.new.stream c.args.stretch.now.level.now.first c.args.slate.now c.step.new.slate c.run_turns.new.slate
    (later_trans g.met.W.Words.reaches_on s0 s u i.later e.later) f.later
    (hold_on s0 s u c.args.stretch.now.level.now.first c.args.slate.now c.steps.slate c.step.new.slate i.later e.later i.held e.held) f.held

pub run_turns-returns-in-Failed-clause-held : goal.run_turns-returns-in-Failed-clause-held
run_turns-returns-in-Failed-clause-held = turns.run_turns-returns-in-Failed-clause-held

pub call-returns-clause-held : goal.call-returns-clause-held
call-returns-clause-held = calls.call-returns-clause-held

pub call-place_count-requires : goal.call-place_count-requires
call-place_count-requires = calls.call-place_count-requires

pub call-set_callee_places-requires-clause-fits : goal.call-set_callee_places-requires-clause-fits
call-set_callee_places-requires-clause-fits = calls.call-set_callee_places-requires-clause-fits

pub call-set_callee_places-requires-clause-size : goal.call-set_callee_places-requires-clause-size
call-set_callee_places-requires-clause-size = calls.call-set_callee_places-requires-clause-size

pub call-set_callee_places-requires-clause-within : goal.call-set_callee_places-requires-clause-within
call-set_callee_places-requires-clause-within = calls.call-set_callee_places-requires-clause-within

pub call-set_callee_places-requires-clause-buffers : goal.call-set_callee_places-requires-clause-buffers
call-set_callee_places-requires-clause-buffers = calls.call-set_callee_places-requires-clause-buffers
