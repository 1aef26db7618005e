-- The answers of `call`.
use Rattle.std.proofs.Common.{rules, ◌≡◌, suc, ◌+◌, ◌<◌, length, arith, sym, ap, ◌∙◌, refl}
use Rattle.std.specs.Prelude.{slice_index}
use Rattle.td_ir.specs.Tables.{routine_of, map_of, first_of}
use Rattle.td_ir.specs.State.{State, registers_from}
use Rattle.td_ir.specs.Run.{entered, block}
use Rattle.td_stream.specs.StreamInvariant.{position, end_of}
use Rattle.td_stream.specs.Copies.{rooms_of}
use Rattle.td_stream.proofs.Stages.{later_trans, carried}
use Rattle.td_vm.specs.Exits.{frames_of}
use Rattle.td_vm.specs.Need.{room_below, registers, cells, level}
use Rattle.td_vm.proofs.Stretches.{ran_after}
use Rattle.td_vm.proofs.Places.{widens}
use Rattle.td_vm.proofs.Calls.{callee_need}
use Rattle.td_verify_runs.proofs.Stretches.{whole_stretch}
use Rattle.td_vm.proofs.Turns.{callee_room, no_turn, call_idle, begun, entered_is, call_left, traced_more, length_registers}
use Rattle.td_vm.proofs.machine.+machine.Goals as goal

pub call-split_at_mut-mine-requires : goal.call-split_at_mut-mine-requires
call-split_at_mut-mine-requires g t c =
    let C = c.args.level.now.code.parts.now in
    let r = ap (λ x. x.registers) c.routine_at-routine.ensures in
    let d = c.requires.callee in
    omega (arith, r, callee_need (registers C) C c.args.level.now.n c.args.callee.at c.args.callee.routine d.place d.is d.lower, c.requires.room.register_room)

pub call-split_at_mut-mine_places-requires : goal.call-split_at_mut-mine_places-requires
call-split_at_mut-mine_places-requires g t c =
    let C = c.args.level.now.code.parts.now in
    let r = ap (λ x. x.cells) c.routine_at-routine.ensures in
    let b = ap (λ x. length x.buffers) c.routine_at-routine.ensures in
    let d = c.requires.callee in
    omega (arith, r, b, c.place_count.ensures.is, callee_need (cells C) C c.args.level.now.n c.args.callee.at c.args.callee.routine d.place d.is d.lower, c.requires.room.place_room)

pub call-run_block-exit-requires : goal.call-run_block-exit-requires
call-run_block-exit-requires g t c =
    let C = c.args.level.now.code.parts.now in
    let m = c.args.callee.routine in
    let d = c.requires.callee in
    let cell : c.routine_at-routine.result.now.cells ≡ (routine_of C m).cells = ap (λ x. x.cells) c.routine_at-routine.ensures in
    let buffer : length c.routine_at-routine.result.now.buffers ≡ length (routine_of C m).buffers = ap (λ x. length x.buffers) c.routine_at-routine.ensures in
    let places = c.set_callee_places.ensures in
    let register = ap (λ x. x.registers) c.routine_at-routine.ensures in
    let l : m < length C.routines = omega (arith, d.lower, c.requires.room.routine) in
    let b = c.requires.room.begins.each m (omega (arith, l)) in
    let q : m + 1 ≡ suc m = omega arith in
    let f = c.requires.room.begins.each (m + 1) (omega (arith, l)) ∙ ap (first_of C) q in
    λ κs h. (omega (arith, c.decreases, b, f), (h.0, (h.1.0, (h.1.1, (callee_room c.args.level.now _ c.args.spare.now _ c.args.regs.now c.set_registers.new.mine c.args.slate.now c.args.callee.at m c.args.callee.first c.args.callee.map c.requires.room d refl refl refl places (omega (arith, cell, buffer, c.place_count.ensures.is, c.split_at_mut-mine_places.ensures.back_len, c.split_at_mut-mine_places.ensures.front_len)) (omega (arith, register, c.set_registers.auto.mine, c.split_at_mut-mine.ensures.front_len)) (omega (arith, register, c.split_at_mut-mine.ensures.back_len)), (whole_stretch C m _ _ c.requires.room.runnable l b f, (c.requires.whole, record { around = omega (arith, c.end-end.ensures); within = omega (arith, c.end-end.ensures, c.requires.whole.short) })))))))

pub call-returns-clause-traced : goal.call-returns-clause-traced
call-returns-clause-traced g t c =
    let C = c.args.level.now.code.parts.now in
    let d = c.requires.callee in
    traced_more c.run_block-exit.result c.run_block-exit.new.slate.trace.now (room_below level C c.args.callee.routine + 1) (room_below level C c.args.level.now.n) (let k = callee_need level C c.args.level.now.n c.args.callee.at c.args.callee.routine d.place d.is d.lower in omega (arith, k)) c.run_block-exit.ensures.traced

pub call-returns-clause-idle : goal.call-returns-clause-idle
call-returns-clause-idle g t c =
    let C = c.args.level.now.code.parts.now in
    let m = c.args.callee.routine in
    let l : m < length C.routines = omega (arith, c.requires.callee.lower, c.requires.room.routine) in
    call_idle C m _ _ _ _ c.run_block-exit.result c.requires.room.runnable (c.requires.room.begins.each m (omega (arith, l))) c.run_block-exit.ensures.idle_return (sym c.widen.ensures.moves.at)

pub call-returns-clause-same : goal.call-returns-clause-same
call-returns-clause-same g t c = λ start outer.
    let C = c.args.level.now.code.parts.now in
    let m = c.args.callee.routine in
    let r = routine_of C m in
    let is = c.routine_at-routine.ensures in
    let l : m < length C.routines = omega (arith, c.requires.callee.lower, c.requires.room.routine) in
    let b' = c.requires.room.begins.each m (omega (arith, l)) in
    let s0 = c.args.stream.now in
    let s1 = c.run_block-exit.new.stream in
    let s2 = c.widen.new.self in
    let S : State = record { regs = c.args.regs.now; cells = c.args.slate.now.cells.now; start = start; pos = position s0; end = end_of s0; outer = outer } in
    let cell : c.routine_at-routine.result.now.cells ≡ r.cells = ap (λ x. x.cells) is in
    let places = c.set_callee_places.ensures in
    let args = registers_from c.args.regs.now c.args.callee.first r.params in
    let regs = begun r args c.arguments.result.now c.set_registers.new.mine _ c.set_registers.ensures (c.arguments.ensures ∙ ap (λ k. registers_from c.args.regs.now c.args.callee.first k.params) is) (c.split_at_mut-mine.ensures.front_len ∙ ap (λ k. k.registers) is) in
    let turn = no_turn C m _ c.run_block-exit.result c.requires.room.runnable l b' c.run_block-exit.ensures.inside in
    ran_after s0 s1 s2 c.args.steps.now c.run_block-exit.new.steps _ _ c.run_block-exit.ensures.later c.widen.ensures.moves.later c.run_block-exit.ensures.same c.widen.ensures.moves.looked (λ b x j p.
    let state = entered_is r args c.set_registers.new.mine S c.pos.result c.end-end.result regs c.pos.ensures c.end-end.ensures in
    let ran = ap (λ q. block C b m q (first_of C m) (entered r args S)) (sym places)
    ∙ ap (λ f. block C b m c.set_callee_places.new.mine f (entered r args S)) (sym b')
    ∙ ap (λ u. block C b m c.set_callee_places.new.mine (slice_index c.args.level.now.code.begins.now m) u) state ∙ p in
    call_left c.run_block-exit.result _ (position s2) (frames_of c.run_block-exit.new.slate.trace.now) x j _ turn ran (sym c.widen.ensures.moves.at))

pub call-set_registers-requires : goal.call-set_registers-requires
call-set_registers-requires g t c =
    let C = c.args.level.now.code.parts.now in
    let m = c.args.callee.routine in
    let is = c.routine_at-routine.ensures in
    let l : m < length C.routines = omega (arith, c.requires.callee.lower, c.requires.room.routine) in
    let count = ap length c.arguments.ensures ∙ length_registers c.args.regs.now c.args.callee.first c.routine_at-routine.result.now.params in
    omega (arith, count, ap (λ x. x.params) is, ap (λ x. x.registers) is, (c.requires.room.runnable.code.routines m l).room, c.split_at_mut-mine.ensures.front_len)

pub call-returns-clause-later : goal.call-returns-clause-later
call-returns-clause-later g t c = later_trans g.met.W.Words.reaches_on c.args.stream.now c.run_block-exit.new.stream c.widen.new.self c.run_block-exit.ensures.later c.widen.ensures.moves.later

pub call-returns-clause-no_turn : goal.call-returns-clause-no_turn
call-returns-clause-no_turn g t c =
    let m = c.args.callee.routine in
    let l : m < length c.args.level.now.code.parts.now.routines = omega (arith, c.requires.callee.lower, c.requires.room.routine) in
    no_turn c.args.level.now.code.parts.now m _ c.run_block-exit.result c.requires.room.runnable l (c.requires.room.begins.each m (omega (arith, l))) c.run_block-exit.ensures.inside

pub call-returns-clause-kept : goal.call-returns-clause-kept
call-returns-clause-kept g t c = record { same_places = refl; same_registers = refl; places = search rules; registers = search rules }

pub call-returns-clause-held : goal.call-returns-clause-held
call-returns-clause-held g t c = λ b h k.
    let d = carried c.args.stream.now c.run_block-exit.new.stream c.widen.new.self b c.run_block-exit.ensures.later c.widen.ensures.moves.later h in
    c.run_block-exit.ensures.held b d.0 k

pub call-place_count-requires : goal.call-place_count-requires
call-place_count-requires g t c =
    let C = c.args.level.now.code.parts.now in
    let m = c.args.callee.routine in
    let l : m < length C.routines = omega (arith, c.requires.callee.lower, c.requires.room.routine) in
    omega (arith, ap (λ x. length x.buffers) c.routine_at-routine.ensures, (c.requires.room.runnable.code.routines m l).few)

pub call-set_callee_places-requires-clause-fits : goal.call-set_callee_places-requires-clause-fits
call-set_callee_places-requires-clause-fits g t c = omega (arith, c.place_count.ensures.is, c.split_at_mut-mine_places.ensures.front_len)

pub call-set_callee_places-requires-clause-size : goal.call-set_callee_places-requires-clause-size
call-set_callee_places-requires-clause-size g t c =
    let C = c.args.level.now.code.parts.now in
    let w = widens C c.args.level.now.n c.args.callee.routine c.args.callee.map c.args.level.now.places.now c.args.level.now.first (length c.args.slate.now.cells.now) (rooms_of c.args.slate.now.copies.now) c.requires.room.in_cells c.requires.callee.cell_map c.routine_at-routine.result.now.cells (routine_of C c.args.level.now.n).cells (map_of C c.args.callee.map) (ap (λ x. x.cells) c.routine_at-routine.ensures) refl refl in
    let b = ap (λ x. length x.buffers) c.routine_at-routine.ensures in
    omega (arith, b, w.size)

pub call-set_callee_places-requires-clause-within : goal.call-set_callee_places-requires-clause-within
call-set_callee_places-requires-clause-within g t c =
    let C = c.args.level.now.code.parts.now in
    let w = widens C c.args.level.now.n c.args.callee.routine c.args.callee.map c.args.level.now.places.now c.args.level.now.first (length c.args.slate.now.cells.now) (rooms_of c.args.slate.now.copies.now) c.requires.room.in_cells c.requires.callee.cell_map c.routine_at-routine.result.now.cells (routine_of C c.args.level.now.n).cells (map_of C c.args.callee.map) (ap (λ x. x.cells) c.routine_at-routine.ensures) refl refl in
    w.below

pub call-set_callee_places-requires-clause-buffers : goal.call-set_callee_places-requires-clause-buffers
call-set_callee_places-requires-clause-buffers g t c =
    let C = c.args.level.now.code.parts.now in
    let w = widens C c.args.level.now.n c.args.callee.routine c.args.callee.map c.args.level.now.places.now c.args.level.now.first (length c.args.slate.now.cells.now) (rooms_of c.args.slate.now.copies.now) c.requires.room.in_cells c.requires.callee.cell_map c.routine_at-routine.result.now.cells (routine_of C c.args.level.now.n).cells (map_of C c.args.callee.map) (ap (λ x. x.cells) c.routine_at-routine.ensures) refl refl in
    w.behind
