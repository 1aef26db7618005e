-- The answers of `run_turns`.
use Rattle.std.proofs.Common.{◌≡◌, suc, ◌+◌, ◌-◌, ◌<◌, ◌≤◌, arith, ap, ◌∙◌, refl}
use Rattle.td_ir.specs.State.{State, Exit, after}
use Rattle.td_ir.specs.Run.{turns, block}
use Rattle.td_stream.specs.StreamInvariant.{position, end_of}
use Rattle.td_vm_step.specs.Stepping.{state_of}
use Rattle.td_stream.proofs.Stages.{later_trans, later_self}
use Rattle.td_vm_step.proofs.Stretches.{lent_self, lent_trans, hold_on, ran_self, ran_weaker}
use Rattle.td_vm.proofs.Stretches.{ran_trans, ran_ticked, after_more, after_none}
use Rattle.td_verify_runs.proofs.Stretches.{grown}
use Rattle.td_verify_runs.proofs.Stretches.{body_stretch, loop_whole, turn_busy}
use Rattle.td_vm.proofs.Turns.{none_left, room_kept, turn_more, turn_fails, turns_over, spare_same, spare_on}
use Rattle.td_vm.proofs.machine.+machine.Goals as goal

pub run_turns-turns-init : goal.run_turns-turns-init
run_turns-turns-init g t c = record {
  room = c.requires.room;
  lent = lent_self c.args.slate.now;
  held = λ b h k. k;
  kept = spare_same c.args.spare.now;
  later = later_self g.met.W.Words.reaches_itself c.args.stream.now;
  whole = c.requires.whole;
  window = c.requires.window;
  outer = omega arith;
  end = refl;
  same = (suc (end_of c.args.stream.now - position c.args.stream.now), omega arith, ran_self c.args.stream.now c.args.steps.now _ (λ b behind. after_none _));
}

pub run_turns-run_block-requires : goal.run_turns-run_block-requires
run_turns-run_block-requires g t c =
    let i = c.turns.invariant in
    let C = c.args.stretch.now.level.now.code.parts.now in
    λ κs h. (omega (arith, c.decreases, c.requires.place.from, c.requires.place.to), (h.0, (h.1.0, (h.1.1, (i.room, (body_stretch C c.args.stretch.now.level.now.n c.args.stretch.now.first c.args.stretch.now.to i.room.runnable c.requires.place c.requires.loops, (i.whole, i.window)))))))

pub run_turns-turns-smaller : goal.run_turns-turns-smaller
run_turns-turns-smaller g t c =
    let e = c.in-Turned.ensures in
    let C = c.args.stretch.now.level.now.code.parts.now in
    let more : 1 ≤ end_of c.turns.stream - position c.turns.stream = c.need.ensures.0 c.turns-test.true in
    let moved = grown (position c.turns.stream) (position c.run_block.new.stream) e.later.pos (λ k. turn_busy C c.args.stretch.now.level.now.n c.args.stretch.now.first c.args.stretch.now.to c.requires.room.runnable c.requires.place c.requires.loops (e.idle_turn k)) in
    omega (arith, moved, e.end, more)

pub run_turns-turns-preserved : goal.run_turns-turns-preserved
run_turns-turns-preserved g t c =
    let i = c.turns.invariant in
    let e = c.in-Turned.ensures in
    let C = c.args.stretch.now.level.now.code.parts.now in
    let n = c.args.stretch.now.level.now.n in
    let s0 = c.args.stream.now in
    let s = c.turns.stream in
    let v = c.run_block.new.stream in
    let more : 1 ≤ end_of s - position s = c.need.ensures.0 c.turns-test.true in
    let moved = grown (position s) (position v) e.later.pos (λ k. turn_busy C n c.args.stretch.now.first c.args.stretch.now.to c.requires.room.runnable c.requires.place c.requires.loops (e.idle_turn k)) in
    let k = i.same.0 in
    let few : end_of s - position s < k = i.same.1 in
    record {
      room = room_kept c.args.stretch.now.level.now c.turns.spare c.run_block.new.spare c.turns.regs c.run_block.new.regs c.turns.slate c.run_block.new.slate i.room e.kept c.run_block.auto.regs e.lent e.traced;
      lent = lent_trans _ _ _ i.lent e.lent;
      held = hold_on s0 s v c.args.stretch.now.level.now.first c.args.slate.now c.turns.slate c.run_block.new.slate i.later e.later i.held e.held;
      kept = spare_on _ _ _ i.kept e.kept;
      later = later_trans g.met.W.Words.reaches_on s0 s v i.later e.later;
      whole = e.whole;
      window = e.window;
      outer = omega (arith, i.outer, e.outer);
      end = e.end ∙ i.end;
      same = (
        k - 1,
        omega (arith, moved, e.end, more, few),
        ran_trans s0 s v c.args.steps.now c.turns.steps c.tick.new.self _ (λ b y m. (behind : State → Exit) → turns k (block C b n c.args.stretch.now.level.now.places.now (c.args.stretch.now.first + 1)) behind (state_of c.turns.regs c.turns.slate.cells.now c.turns.act s) ≡ after y m (turns (k - 1) (block C b n c.args.stretch.now.level.now.places.now (c.args.stretch.now.first + 1)) behind (state_of c.run_block.new.regs c.run_block.new.slate.cells.now c.run_block.new.act v))) _ i.later e.later i.same.2
            (ran_ticked s v c.turns.steps c.run_block.new.steps c.tick.new.self _ _ e.same c.tick.ensures (λ b y m r behind. turn_more k _ behind _ _ y m more few r))
            (λ b x y j m p r behind. p behind ∙ ap (after x j) (r behind) ∙ after_more x y j m _),
      );
    }

pub run_turns-unreachable-requires : goal.run_turns-unreachable-requires
run_turns-unreachable-requires g t c =
    let a = c.in-Returned.ensures.outside in
    let b = c.requires.room.runnable.safe.loops.turning c.args.stretch.now.level.now.n c.args.stretch.now.first c.args.stretch.now.to c.requires.place c.requires.loops in
    cc

pub run_turns-returns-in-Failed-clause-later : goal.run_turns-returns-in-Failed-clause-later
run_turns-returns-in-Failed-clause-later g t c = later_trans g.met.W.Words.reaches_on c.args.stream.now c.turns.stream c.run_block.new.stream c.turns.invariant.later c.in-Failed.ensures.later

pub run_turns-returns-in-Failed-clause-same : goal.run_turns-returns-in-Failed-clause-same
run_turns-returns-in-Failed-clause-same g t c =
    let i = c.turns.invariant in
    let e = c.in-Failed.ensures in
    let more : 1 ≤ end_of c.turns.stream - position c.turns.stream = c.need.ensures.0 c.turns-test.true in
    ran_trans c.args.stream.now c.turns.stream c.run_block.new.stream c.args.steps.now c.turns.steps c.run_block.new.steps _ _ _ i.later e.later i.same.2 e.same (λ b x y j m p r behind.
    p behind ∙ ap (after x j) (turn_fails i.same.0 _ behind _ _ _ _ _ y m more i.same.1 r))

pub run_turns-returns-clause-same : goal.run_turns-returns-clause-same
run_turns-returns-clause-same g t c =
    let i = c.turns.invariant in
    let s = c.turns.stream in
    let over : end_of s - position s ≡ 0 = none_left (end_of s - position s) (λ h. let a = c.need.ensures.1 h in let b = c.turns-test.false in cc) in
    ran_weaker c.args.stream.now s c.args.steps.now c.turns.steps _ _ i.same.2 (λ b x j p behind. p behind ∙ ap (after x j) (turns_over i.same.0 _ behind _ over i.whole.within))

pub run_turns-overflow_add-first : goal.run_turns-overflow_add-first
run_turns-overflow_add-first g t c =
    let w = loop_whole c.args.stretch.now.level.now.code.parts.now c.args.stretch.now.level.now.n c.args.stretch.now.first c.args.stretch.now.to c.requires.room.runnable c.requires.place c.requires.loops in
    omega (arith, w.body, c.well_formed)

pub run_turns-returns-in-Failed-clause-held : goal.run_turns-returns-in-Failed-clause-held
run_turns-returns-in-Failed-clause-held g t c =
    let i = c.turns.invariant in
    let e = c.in-Failed.ensures in
    hold_on c.args.stream.now c.turns.stream c.run_block.new.stream c.args.stretch.now.level.now.first c.args.slate.now c.turns.slate c.run_block.new.slate i.later e.later i.held e.held
