-- What stays true from step to step of `run_block`, and how calls and loops that fail are left.
use Rattle.std.proofs.Common.{◌≡◌, suc, ◌+◌, ◌-◌, ◌++◌, arith, sym, ap, ◌∙◌, subst, refl}
use Rattle.td_ir.specs.Tables.{routine_of, cells_by, lengths_of, first_of}
use Rattle.td_ir.specs.State.{State, after, registers_from}
use Rattle.td_ir.specs.State as ir
use Rattle.td_ir.specs.Run.{back, turns, places_by, entered, block}
use Rattle.td_vm.specs.Imports.{Call, While}
use Rattle.td_verify.specs.Shape.{shape, shapes_of}
use Rattle.td_verify.specs.Brackets.{in_loop, window_bytes}
use Rattle.td_stream.specs.Layouts.{length_in}
use Rattle.td_stream.specs.StreamInvariant.{position, end_of, length_of}
use Rattle.td_verify_runs.specs.Moves.{Ends}
use Rattle.td_vm_step.specs.Stepping.{state_of}
use Rattle.td_stream.proofs.Stages.{later_trans}
use Rattle.td_vm_step.proofs.Stretches.{lent_trans, hold_on}
use Rattle.td_vm.specs.Exits.{exit_by}
use Rattle.td_vm.proofs.Stretches.{ran_trans, ran_step, after_more}
use Rattle.td_verify_runs.proofs.Shapes.{shape_here}
use Rattle.td_verify_runs.proofs.Ways.{kept_on, goes_on, room_on, idle_more, idle_on, empty_up, end_kept}
use Rattle.td_verify_runs.proofs.Stretches.{loop_whole, call_on}
use Rattle.td_vm.proofs.Turns.{room_kept, room_stepped, callee_at, spare_on}
use Rattle.td_vm.proofs.machine.+machine.Goals as goal

pub run_block-steps-preserved-in-Goes : goal.run_block-steps-preserved-in-Goes
run_block-steps-preserved-in-Goes g t c =
    let i = c.steps.invariant in
    let e = c.in-Goes.ensures in
    let C = c.args.stretch.now.level.now.code.parts.now in
    let n = c.args.stretch.now.level.now.n in
    let first = c.args.stretch.now.first in
    let pc = c.steps.pc in
    let q = c.in-Goes.target in
    let I = c.instruction_at-instruction.result.now in
    let safe = i.room.runnable.safe in
    let at = shape_here C pc I c.instruction_at-instruction.ensures.is in
    let o = goes_on C n pc q (shape I) safe i.place at e.leads.1 in
    let k = kept_on C n pc q (shape I) safe i.place at e.leads.0 e.leads.1 in
    let s0 = c.args.stream.now in
    let s = c.steps.stream in
    let u = c.step.new.stream in
    record {
      room = room_stepped c.args.stretch.now.level.now c.steps.spare c.steps.regs c.step.new.regs c.steps.slate c.step.new.slate i.room c.step.auto.regs e.lent e.trace;
      lent = lent_trans _ _ _ i.lent e.lent;
      held = hold_on s0 s u c.args.stretch.now.level.now.first c.args.slate.now c.steps.slate c.step.new.slate i.later e.later i.held e.held;
      kept = i.kept;
      place = o.1;
      on = omega (arith, i.on, o.0);
      under = c.requires.stretch.closed q o.1 (λ h. k.fixed (i.kind ∙ h) ∙ i.fixed h);
      later = later_trans g.met.W.Words.reaches_on s0 s u i.later e.later;
      whole = e.whole;
      window = e.window;
      outer = omega (arith, i.outer, e.outer);
      kind = k.looped ∙ i.kind;
      fixed = λ h. k.fixed (i.kind ∙ h) ∙ i.fixed h;
      end = λ h. end_kept C n pc q (shape I) (position s) (end_of s) (end_of u) safe i.place at e.leads.0 e.leads.1 e.end (i.kind ∙ h) ∙ i.end h;
      narrow = room_on C pc q (shape I) (position s0) (position s) (position u) (end_of s) (end_of u) e.leads.0 o.2 e.leads.1 e.end i.narrow i.later.pos e.later.pos e.whole.within;
      idle = idle_on C n first pc q (shape I) (position s0) (position s) (position u) (end_of s) (end_of u) at o.0 e.leads.1 e.leads.0 e.end e.takes i.narrow i.later.pos i.idle;
      same = ran_step s0 s u c.args.steps.now c.steps.steps c.tick.new.self c.step.new.steps _ _ _ i.later e.later i.same e.same c.tick.ensures (λ b x y j k p r.
          p ∙ ap (after x j) (c.laws.ensures.goes C b c.args.stretch.now.level.now.places.now n pc q _ _ y (1 + k) (record { instruction = I; there = c.instruction_at-instruction.ensures.there; within = i.place.to; is = r }) o.0 o.1.to)
          ∙ after_more x y j (1 + k) _);
    }

pub run_block-steps-preserved-in-Returned : goal.run_block-steps-preserved-in-Returned
run_block-steps-preserved-in-Returned g t c =
    let i = c.steps.invariant in
    let e = c.in-Calls.ensures in
    let f = c.in-Returned.ensures in
    let C = c.args.stretch.now.level.now.code.parts.now in
    let n = c.args.stretch.now.level.now.n in
    let first = c.args.stretch.now.first in
    let pc = c.steps.pc in
    let m = c.in-Calls.routine in
    let I = c.instruction_at-instruction.result.now in
    let safe = i.room.runnable.safe in
    let d = callee_at C n pc c.in-Calls.from m c.in-Calls.map c.in-Calls.site I safe i.place c.instruction_at-instruction.ensures.is e.leads in
    let o = call_on C n pc m safe i.place d.is in
    let s0 = c.args.stream.now in
    let s = c.steps.stream in
    let u = c.step.new.stream in
    let v = c.call.new.stream in
    let still : end_of u ≡ end_of s = subst (λ x. Ends (shape x) (position s) (end_of s) (end_of u)) e.leads e.end in
    let lent = lent_trans _ _ _ e.lent f.lent in
    let room = room_kept c.args.stretch.now.level.now c.steps.spare c.call.new.spare c.steps.regs c.step.new.regs c.steps.slate c.call.new.slate i.room f.kept c.step.auto.regs lent f.traced in
    let long : length_of v ≡ length_of u = ap length_in f.later.layout in
    let later1 = later_trans g.met.W.Words.reaches_on s0 s u i.later e.later in
    let U : State = state_of c.step.new.regs c.step.new.slate.cells.now c.step.new.act u in
    record {
      room = room;
      lent = lent_trans _ _ _ i.lent lent;
      held = hold_on s0 u v c.args.stretch.now.level.now.first c.args.slate.now c.step.new.slate c.call.new.slate later1 f.later
          (hold_on s0 s u c.args.stretch.now.level.now.first c.args.slate.now c.steps.slate c.step.new.slate i.later e.later i.held e.held) f.held;
      kept = spare_on _ _ _ i.kept f.kept;
      place = o.1;
      on = omega (arith, i.on);
      under = c.requires.stretch.closed (pc + 1) o.1 (λ h. o.2 ∙ i.fixed h);
      later = later_trans g.met.W.Words.reaches_on s0 u v later1 f.later;
      whole = f.whole;
      window = record { around = omega (arith, f.end, e.window.around); within = omega (arith, e.window.within, long) };
      outer = omega (arith, i.outer, e.outer);
      kind = ap in_loop o.2 ∙ i.kind;
      fixed = λ h. o.2 ∙ i.fixed h;
      end = λ h. f.end ∙ still ∙ i.end h;
      narrow = let a = ap window_bytes o.2 in omega (arith, a, f.end, still, i.narrow);
      idle = λ z. idle_more C n first pc (pc + 1) (Call m) d.is (omega arith) refl (empty_up (shapes_of C) (lengths_of C) n m d.lower (f.idle (omega (arith, z, i.later.pos, e.later.pos, f.later.pos)))) (i.idle (omega (arith, z, i.later.pos, e.later.pos, f.later.pos)));
      same = ran_trans s0 u v c.args.steps.now c.step.new.steps c.call.new.steps (λ b x j. block C b n c.args.stretch.now.level.now.places.now first (state_of c.args.regs.now c.args.slate.now.cells.now c.args.act.now s0) ≡ after x j (back C c.in-Calls.site U (block C b n c.args.stretch.now.level.now.places.now (pc + 1)) (block C b m (places_by c.args.stretch.now.level.now.places.now (cells_by C n m c.in-Calls.map)) (first_of C m) (entered (routine_of C m) (registers_from c.step.new.regs c.in-Calls.from (routine_of C m).params) U)))) _ _
          later1 f.later
          (ran_step s0 s u c.args.steps.now c.steps.steps c.tick.new.self c.step.new.steps _ _ _ i.later e.later i.same e.same c.tick.ensures (λ b x y j k p q.
          p ∙ ap (after x j) (c.laws.ensures.calls C b c.args.stretch.now.level.now.places.now n pc c.in-Calls.from m c.in-Calls.map c.in-Calls.site _ _ y (1 + k) (record { instruction = I; there = c.instruction_at-instruction.ensures.there; within = i.place.to; is = q }) o.1.to d.lower)
          ∙ after_more x y j (1 + k) _))
          (f.same c.step.new.act.start c.step.new.act.outer)
          (λ b x y j k p q.
          p ∙ ap (λ w. after x j (back C c.in-Calls.site U (block C b n c.args.stretch.now.level.now.places.now (pc + 1)) w)) q
          ∙ after_more x y j k _
          ∙ ap (λ w. after (x ++ y) (j + k) (block C b n c.args.stretch.now.level.now.places.now (pc + 1) (record { regs = c.step.new.regs; cells = c.call.new.slate.cells.now; start = c.step.new.act.start; pos = position v; end = w; outer = c.step.new.act.outer }))) (sym f.end));
    }

pub run_block-returns-in-Failed-clause-same : goal.run_block-returns-in-Failed-clause-same
run_block-returns-in-Failed-clause-same g t c =
    let i = c.steps.invariant in
    let e = c.in-Calls.ensures in
    let f = c.in-Failed.ensures in
    let C = c.args.stretch.now.level.now.code.parts.now in
    let n = c.args.stretch.now.level.now.n in
    let pc = c.steps.pc in
    let m = c.in-Calls.routine in
    let I = c.instruction_at-instruction.result.now in
    let safe = i.room.runnable.safe in
    let d = callee_at C n pc c.in-Calls.from m c.in-Calls.map c.in-Calls.site I safe i.place c.instruction_at-instruction.ensures.is e.leads in
    let o = call_on C n pc m safe i.place d.is in
    let s0 = c.args.stream.now in
    let s = c.steps.stream in
    let u = c.step.new.stream in
    let v = c.call.new.stream in
    let U : State = state_of c.step.new.regs c.step.new.slate.cells.now c.step.new.act u in
    ran_trans s0 u v c.args.steps.now c.step.new.steps c.call.new.steps (λ b x j. block C b n c.args.stretch.now.level.now.places.now c.args.stretch.now.first (state_of c.args.regs.now c.args.slate.now.cells.now c.args.act.now s0) ≡ after x j (back C c.in-Calls.site U (block C b n c.args.stretch.now.level.now.places.now (pc + 1)) (block C b m (places_by c.args.stretch.now.level.now.places.now (cells_by C n m c.in-Calls.map)) (first_of C m) (entered (routine_of C m) (registers_from c.step.new.regs c.in-Calls.from (routine_of C m).params) U)))) _ _
    (later_trans g.met.W.Words.reaches_on s0 s u i.later e.later) f.later
    (ran_step s0 s u c.args.steps.now c.steps.steps c.tick.new.self c.step.new.steps _ _ _ i.later e.later i.same e.same c.tick.ensures (λ b x y j k p q.
    p ∙ ap (after x j) (c.laws.ensures.calls C b c.args.stretch.now.level.now.places.now n pc c.in-Calls.from m c.in-Calls.map c.in-Calls.site _ _ y (1 + k) (record { instruction = I; there = c.instruction_at-instruction.ensures.there; within = i.place.to; is = q }) o.1.to d.lower)
    ∙ after_more x y j (1 + k) _))
    (f.same c.step.new.act.start c.step.new.act.outer)
    (λ b x y j k p q.
    p ∙ ap (λ w. after x j (back C c.in-Calls.site U (block C b n c.args.stretch.now.level.now.places.now (pc + 1)) w)) q
    ∙ ap (λ l. exit_by (ir.Failed c.in-Failed.reason c.in-Failed.pos l c.call.new.slate.cells.now) (x ++ y) (j + k)) (sym c.push_frame-in-Failed.ensures.frames))

pub run_block-steps-preserved : goal.run_block-steps-preserved
run_block-steps-preserved g t c =
    let i = c.steps.invariant in
    let e = c.in-Loops.ensures in
    let f = c.in-Turned-run_turns.ensures in
    let C = c.args.stretch.now.level.now.code.parts.now in
    let n = c.args.stretch.now.level.now.n in
    let first = c.args.stretch.now.first in
    let pc = c.steps.pc in
    let q = c.in-Loops.target in
    let I = c.instruction_at-instruction.result.now in
    let is = shape_here C pc I c.instruction_at-instruction.ensures.is ∙ ap shape e.leads in
    let w = loop_whole C n pc q i.room.runnable i.place is in
    let s0 = c.args.stream.now in
    let s = c.steps.stream in
    let u = c.step.new.stream in
    let v = c.run_turns.new.stream in
    let still : end_of u ≡ end_of s = subst (λ x. Ends (shape x) (position s) (end_of s) (end_of u)) e.leads e.end in
    let later1 = later_trans g.met.W.Words.reaches_on s0 s u i.later e.later in
    let lent = lent_trans _ _ _ e.lent f.lent in
    record {
      room = room_kept c.args.stretch.now.level.now c.steps.spare c.run_turns.new.spare c.steps.regs c.run_turns.new.regs c.steps.slate c.run_turns.new.slate i.room f.kept (c.run_turns.auto.regs ∙ c.step.auto.regs) lent f.traced;
      lent = lent_trans _ _ _ i.lent lent;
      held = hold_on s0 u v c.args.stretch.now.level.now.first c.args.slate.now c.step.new.slate c.run_turns.new.slate later1 f.later
          (hold_on s0 s u c.args.stretch.now.level.now.first c.args.slate.now c.steps.slate c.step.new.slate i.later e.later i.held e.held) f.held;
      kept = spare_on _ _ _ i.kept f.kept;
      place = w.behind;
      on = omega (arith, i.on, w.body);
      under = c.requires.stretch.closed q w.behind (λ h. w.same ∙ i.fixed h);
      later = later_trans g.met.W.Words.reaches_on s0 u v later1 f.later;
      whole = f.whole;
      window = f.window;
      outer = omega (arith, i.outer, e.outer, f.outer);
      kind = ap in_loop w.same ∙ i.kind;
      fixed = λ h. w.same ∙ i.fixed h;
      end = λ h. f.end ∙ still ∙ i.end h;
      narrow = let a = ap window_bytes w.same in omega (arith, a, f.end, still, i.narrow);
      idle = λ z. idle_more C n first pc q (While q) is (omega (arith, w.body)) refl tt (i.idle (omega (arith, z, i.later.pos, e.later.pos, f.later.pos)));
      same = ran_trans s0 u v c.args.steps.now c.step.new.steps c.run_turns.new.steps (λ b x j. block C b n c.args.stretch.now.level.now.places.now first (state_of c.args.regs.now c.args.slate.now.cells.now c.args.act.now s0) ≡ after x j (turns (suc (end_of u - position u)) (block C b n c.args.stretch.now.level.now.places.now (pc + 1)) (block C b n c.args.stretch.now.level.now.places.now q) (state_of c.step.new.regs c.step.new.slate.cells.now c.step.new.act u))) _ _
          later1 f.later
          (ran_step s0 s u c.args.steps.now c.steps.steps c.tick.new.self c.step.new.steps _ _ _ i.later e.later i.same e.same c.tick.ensures (λ b x y j k p r.
          p ∙ ap (after x j) (c.laws.ensures.loops C b c.args.stretch.now.level.now.places.now n pc q _ _ y (1 + k) (record { instruction = I; there = c.instruction_at-instruction.ensures.there; within = i.place.to; is = r }) w.body w.behind.to)
          ∙ after_more x y j (1 + k) _))
          f.same
          (λ b x y j k p r. p ∙ ap (after x j) (r (block C b n c.args.stretch.now.level.now.places.now q)) ∙ after_more x y j k _);
    }

pub run_block-returns-in-Failed-run_turns-clause-same : goal.run_block-returns-in-Failed-run_turns-clause-same
run_block-returns-in-Failed-run_turns-clause-same g t c =
    let i = c.steps.invariant in
    let e = c.in-Loops.ensures in
    let f = c.in-Failed-run_turns.ensures in
    let C = c.args.stretch.now.level.now.code.parts.now in
    let n = c.args.stretch.now.level.now.n in
    let pc = c.steps.pc in
    let q = c.in-Loops.target in
    let I = c.instruction_at-instruction.result.now in
    let is = shape_here C pc I c.instruction_at-instruction.ensures.is ∙ ap shape e.leads in
    let w = loop_whole C n pc q i.room.runnable i.place is in
    let s0 = c.args.stream.now in
    let s = c.steps.stream in
    let u = c.step.new.stream in
    let v = c.run_turns.new.stream in
    ran_trans s0 u v c.args.steps.now c.step.new.steps c.run_turns.new.steps (λ b x j. block C b n c.args.stretch.now.level.now.places.now c.args.stretch.now.first (state_of c.args.regs.now c.args.slate.now.cells.now c.args.act.now s0) ≡ after x j (turns (suc (end_of u - position u)) (block C b n c.args.stretch.now.level.now.places.now (pc + 1)) (block C b n c.args.stretch.now.level.now.places.now q) (state_of c.step.new.regs c.step.new.slate.cells.now c.step.new.act u))) _ _
    (later_trans g.met.W.Words.reaches_on s0 s u i.later e.later) f.later
    (ran_step s0 s u c.args.steps.now c.steps.steps c.tick.new.self c.step.new.steps _ _ _ i.later e.later i.same e.same c.tick.ensures (λ b x y j k p r.
    p ∙ ap (after x j) (c.laws.ensures.loops C b c.args.stretch.now.level.now.places.now n pc q _ _ y (1 + k) (record { instruction = I; there = c.instruction_at-instruction.ensures.there; within = i.place.to; is = r }) w.body w.behind.to)
    ∙ after_more x y j (1 + k) _))
    f.same
    (λ b x y j k p r. p ∙ ap (after x j) (r (block C b n c.args.stretch.now.level.now.places.now q)))
