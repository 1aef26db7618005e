-- How a stretch of verified code is left: as a routine or a turn is, within the window, and after no more steps than it weighs.
use Rattle.std.proofs.Common.{◌≡◌, ℕ, zero, suc, ◌+◌, ◌-◌, ◌*◌, ◌<◌, ◌≤◌, Bool, true, false, cond, List, [], ◌∷◌, length, sym, refl, ap, ◌∙◌, subst, arith}
use Rattle.std.specs.Prelude.{nat_eq}
use Rattle.std.proofs.Math.Nat.{mul-le-mul_left}
use Rattle.std.proofs.lemmas.Option.{slice_get-get_or}
use Rattle.td_core.specs.declared.outcome.Reason.{Reason}
use Rattle.td_verify_runs.specs.Imports.{Parts, Call, While, Again, Return}
use Rattle.td_ir.specs.declared.instructions.Instr.TheVariants as i
use Rattle.td_ir.specs.Tables.{routine_of, cells_by, instruction_of, lengths_of, first_of, end_of}
use Rattle.td_ir.specs.State.{State, left, registers_from, Way, Returned, Turned, Failed, Stuck, Exit, at_once, after}
use Rattle.td_ir.specs.Flow.{Flow, Goes, Fails, Calls, Returns, Loops, Turns, effect}
use Rattle.td_ir.specs.Run.{back, back_by, again, again_by, turns, frame, places_by, entered, block}
use Rattle.td_ir.specs.RunLaws.{HasEffect}
use Rattle.td_ir.proofs.Blocks.{run_goes, run_fails, run_returns, run_turns, run_calls, run_loops}
use Rattle.td_verify.specs.Shape.{shape, shapes_of}
use Rattle.td_verify.specs.Brackets.{shape_at, opened, in_loop, window_bytes}
use Rattle.td_verify.specs.Ways.{MayBeEmpty}
use Rattle.td_verify.specs.Verify.{IsIn}
use Rattle.td_verify.specs.Safe.{before, looped}
use Rattle.td_verify_runs.specs.Moves.{Passes}
use Rattle.td_verify_runs.specs.Stretches.{Idle, IsRunnable, IsStretch, IdleTurn, IdleReturn, scale}
use Rattle.td_verify_runs.proofs.Shapes.{shape_here}
use Rattle.td_verify_runs.proofs.Effects.{Does, InOrder, does}
use Rattle.td_verify_runs.proofs.Ways.{kept_on, goes_on, room_on, idle_more, idle_on, empty_up, end_kept}
use Rattle.td_verify_runs.proofs.Costs.{step_cost, call_cost, loop_cost, spend_turn, spend_last}
use Rattle.td_verify_runs.proofs.Stretches.{whole_stretch, body_stretch, loop_whole, turn_busy, return_outside, in_code, calls_lower, call_steps, call_on, grown}

-- where a stretch that began in state s0 is left
abbrev pub LeftBy : Parts → (n first : ℕ) → State → ℕ → Way → Type 0
LeftBy c n first s0 at (Returned pos cells) = (pos ≡ at) × (looped c first ≡ false) × (s0.pos ≡ at → IdleReturn c n first)
LeftBy c n first s0 at (Turned t) = (t.pos ≡ at) × (looped c first ≡ true) × (s0.pos ≡ at → IdleTurn c n first) × (t.end ≡ s0.end) × InOrder t × (t.outer ≤ s0.outer)
LeftBy c n first s0 at (Failed reason pos trace cells) = Unit {0}
LeftBy c n first s0 at Stuck = ⊥

-- an exit, k steps after the stretch began in state s0
pub record Bounded (c : Parts) (n first to : ℕ) (s0 : State) (k : ℕ) (e : Exit) : Type 0 where
  pub at : ℕ
  pub from : s0.pos ≤ at
  pub within : at ≤ s0.outer
  pub cost : scale c first * (k + e.steps) ≤ scale c first * 0 + (before c n to - before c n first) * (at - s0.pos + 1)
  pub leaves : LeftBy c n first s0 at e.way

-- at pc, k steps after the stretch began in state s0
pub record Going (c : Parts) (n first to pc : ℕ) (s0 s : State) (k : ℕ) : Type 0 where
  pub place : IsIn c n pc
  pub under : pc < to
  pub from : s0.pos ≤ s.pos
  pub order : InOrder s
  pub outer : s.outer ≤ s0.outer
  pub kind : looped c pc ≡ looped c first
  pub fixed : looped c first ≡ true → opened (shapes_of c) pc ≡ opened (shapes_of c) first
  pub end : looped c first ≡ true → s.end ≡ s0.end
  pub narrow : s0.pos + window_bytes (opened (shapes_of c) pc) ≤ s.end
  pub begun : before c n first ≤ before c n pc
  pub cost : scale c first * k ≤ scale c first * 0 + (before c n pc - before c n first) * (s.pos - s0.pos + 1)
  pub idle : s0.pos ≡ s.pos → Idle c n first pc

pub starts : (c : Parts) (n first to : ℕ) (s : State) → IsStretch c n first to → InOrder s → Going c n first to first s s 0
starts c n first to s h o = record {
  place = h.place;
  under = h.some;
  from = omega arith;
  order = o;
  outer = omega arith;
  kind = refl;
  fixed = λ q. refl;
  end = λ q. refl;
  narrow = omega (arith, h.outside, o.within);
  begun = omega arith;
  cost = omega arith;
  idle = λ e set closed m. m;
}

-- the same exit, of which some steps were counted before
earlier : (c : Parts) (n first to : ℕ) (s0 : State) (k y : ℕ) (x : List ℕ) (e : Exit) → Bounded c n first to s0 (k + y) e → Bounded c n first to s0 k (after x y e)
earlier c n first to s0 k y x e h =
    let same : k + (y + e.steps) ≡ k + y + e.steps = omega arith in
    record {
      at = h.at;
      from = h.from;
      within = h.within;
      cost = subst (λ z. scale c first * z ≤ scale c first * 0 + (before c n to - before c n first) * (h.at - s0.pos + 1)) (sym same) h.cost;
      leaves = h.leaves;
    }

-- left at once
over : (c : Parts) (n first to : ℕ) (s0 : State) (k at : ℕ) (w : Way) → s0.pos ≤ at → at ≤ s0.outer → scale c first * k ≤ scale c first * 0 + (before c n to - before c n first) * (at - s0.pos + 1) → LeftBy c n first s0 at w → Bounded c n first to s0 k (at_once w)
over c n first to s0 k at w f l h b =
    let same : k + 0 ≡ k = omega arith in
    record { at = at; from = f; within = l; cost = subst (λ z. scale c first * z ≤ scale c first * 0 + (before c n to - before c n first) * (at - s0.pos + 1)) (sym same) h; leaves = b }

-- any routine, from its beginning
abbrev IsLight : Parts → List ℕ → ℕ → Type 0
IsLight c b n = (places : List ℕ) (s : State) → InOrder s → Bounded c n (first_of c n) (end_of c n) s 0 (block c b n places (first_of c n) s)

-- the steps of a callee
pub callee_steps : (c : Parts) (m : ℕ) (s0 : State) (e : Exit) → IsRunnable c → m < length c.routines → (h : Bounded c m (first_of c m) (end_of c m) s0 0 e) → e.steps ≤ before c m (end_of c m) * (h.at - s0.pos + 1)
callee_steps c m s0 e r l h = let a = call_steps c m (first_of c m) (end_of c m) 0 (0 + e.steps) s0.pos h.at h.at r l refl refl h.cost refl in omega (arith, a)

-- the exit from each later place of a routine on
abbrev From : Parts → List ℕ → ℕ → List ℕ → ℕ → Type 0
From c b n places pc = (first to q : ℕ) (s0 s : State) (k : ℕ) → pc < q → IsStretch c n first to → Going c n first to q s0 s k → Bounded c n first to s0 k (block c b n places q s)

-- by what the instruction at pc leads to

goes_case : (c : Parts) → IsRunnable c → (b places : List ℕ) (n first to pc target : ℕ) (s0 s t : State) (k : ℕ) (x : List ℕ) (y : ℕ) → From c b n places pc → IsStretch c n first to → Going c n first to pc s0 s k → HasEffect c b places n pc s (Goes target t) x y → Does pc (instruction_of c pc) s y (Goes target t) → Bounded c n first to s0 k (block c b n places pc s)
goes_case c r b places n first to pc target s0 s t k x y on h g f m =
    let j = shape (instruction_of c pc) in
    let at = shape_here c pc (instruction_of c pc) refl in
    let o = goes_on c n pc target j r.safe g.place at m.1 in
    let kept = kept_on c n pc target j r.safe g.place at m.0 m.1 in
    let w = (r.safe.weighed n pc g.place).on target o.0 (omega (arith, o.1.to)) in
    let move = m.2 in
    let up : s.pos ≤ t.pos = omega (arith, move.takes) in
    let next : Going c n first to target s0 t (k + y) = record {
      place = o.1;
      under = h.closed target o.1 (λ z. kept.fixed (g.kind ∙ z) ∙ g.fixed z);
      from = omega (arith, g.from, up);
      order = record { within = move.within; around = move.around };
      outer = omega (arith, move.outer, g.outer);
      kind = kept.looped ∙ g.kind;
      fixed = λ z. kept.fixed (g.kind ∙ z) ∙ g.fixed z;
      end = λ z. end_kept c n pc target j s.pos s.end t.end r.safe g.place at m.0 m.1 move.ends (g.kind ∙ z) ∙ g.end z;
      narrow = room_on c pc target j s0.pos s.pos t.pos s.end t.end m.0 o.2 m.1 move.ends g.narrow g.from up move.within;
      begun = omega (arith, g.begun, w);
      cost = step_cost c n first pc target j 0 k (k + y) s0.pos s.pos t.pos r.safe g.place at m.0 g.kind o.0 (omega (arith, o.1.to)) g.begun g.cost (omega (arith, move.cost)) g.from up;
      idle = idle_on c n first pc target j s0.pos s.pos t.pos s.end t.end at o.0 m.1 m.0 move.ends move.takes g.narrow g.from g.idle;
    } in
    subst (Bounded c n first to s0 k) (sym (run_goes c b places n pc target s t x y f o.0 o.1.to)) (earlier c n first to s0 k y x (block c b n places target t) (on first to target s0 t (k + y) o.0 h next))

fails_case : (c : Parts) → IsRunnable c → (b places : List ℕ) (n first to pc : ℕ) (reason : Reason) (site pos : ℕ) (s0 s t : State) (k : ℕ) (x : List ℕ) (y : ℕ) → IsStretch c n first to → Going c n first to pc s0 s k → HasEffect c b places n pc s (Fails reason site pos t) x y → Does pc (instruction_of c pc) s y (Fails reason site pos t) → Bounded c n first to s0 k (block c b n places pc s)
fails_case c r b places n first to pc reason site pos s0 s t k x y h g f m =
    let j = shape (instruction_of c pc) in
    let at = shape_here c pc (instruction_of c pc) refl in
    let stop = m.1 in
    let cost = step_cost c n first pc to j 0 k (k + y) s0.pos s.pos stop.at r.safe g.place at m.0 g.kind g.under h.within g.begun g.cost (omega (arith, stop.cost)) g.from stop.from in
    let way = Failed reason pos (frame c site t reason ∷ []) t.cells in
    subst (Bounded c n first to s0 k) (sym (run_fails c b places n pc reason site pos s t x y f))
    (earlier c n first to s0 k y x (at_once way) (over c n first to s0 (k + y) stop.at way (omega (arith, g.from, stop.from)) (omega (arith, stop.within, g.order.around, g.outer)) cost tt))

returns_case : (c : Parts) → IsRunnable c → (b places : List ℕ) (n first to pc : ℕ) (s0 s t : State) (k : ℕ) (x : List ℕ) (y : ℕ) → IsStretch c n first to → Going c n first to pc s0 s k → HasEffect c b places n pc s (Returns t) x y → Does pc (instruction_of c pc) s y (Returns t) → Bounded c n first to s0 k (block c b n places pc s)
returns_case c r b places n first to pc s0 s t k x y h g f m =
    let j = shape (instruction_of c pc) in
    let at = shape_here c pc (instruction_of c pc) refl in
    let is : shape_at (shapes_of c) pc ≡ Return = at ∙ ap shape m.0 in
    let passes : Passes j = subst (λ z. Passes (shape z)) (sym m.0) tt in
    let cost = step_cost c n first pc to j 0 k (k + y) s0.pos s.pos s.pos r.safe g.place at passes g.kind g.under h.within g.begun g.cost (omega (arith, m.2)) g.from (omega arith) in
    let leaves : LeftBy c n first s0 s.pos (Returned t.pos t.cells) = (ap (λ (z : State). z.pos) m.1, sym g.kind ∙ return_outside c n pc r.safe g.place is, λ z. record { at = pc; within = g.place; is = is; way = g.idle z }) in
    subst (Bounded c n first to s0 k) (sym (run_returns c b places n pc s t x y f))
    (earlier c n first to s0 k y x (at_once (Returned t.pos t.cells)) (over c n first to s0 (k + y) s.pos (Returned t.pos t.cells) g.from (omega (arith, g.order.within, g.order.around, g.outer)) cost leaves))

turns_case : (c : Parts) → IsRunnable c → (b places : List ℕ) (n first to pc : ℕ) (s0 s t : State) (k : ℕ) (x : List ℕ) (y : ℕ) → IsStretch c n first to → Going c n first to pc s0 s k → HasEffect c b places n pc s (Turns t) x y → Does pc (instruction_of c pc) s y (Turns t) → Bounded c n first to s0 k (block c b n places pc s)
turns_case c r b places n first to pc s0 s t k x y h g f m =
    let j = shape (instruction_of c pc) in
    let at = shape_here c pc (instruction_of c pc) refl in
    let is : shape_at (shapes_of c) pc ≡ Again m.0 = at ∙ ap shape m.1 in
    let passes : Passes j = subst (λ z. Passes (shape z)) (sym m.1) tt in
    let inside : looped c first ≡ true = sym g.kind ∙ r.safe.loops.again n pc m.0 g.place is in
    let cost = step_cost c n first pc to j 0 k (k + y) s0.pos s.pos s.pos r.safe g.place at passes g.kind g.under h.within g.begun g.cost (omega (arith, m.3)) g.from (omega arith) in
    let leaves : LeftBy c n first s0 s.pos (Turned t) = (
      ap (λ (z : State). z.pos) m.2,
      inside,
      λ z. record { at = pc; start = m.0; within = g.place; is = is; same = g.fixed inside; way = g.idle z },
      ap (λ (z : State). z.end) m.2 ∙ g.end inside,
      subst InOrder (sym m.2) g.order,
      (let e = ap (λ (z : State). z.outer) m.2 in omega (arith, e, g.outer)),
    ) in
    subst (Bounded c n first to s0 k) (sym (run_turns c b places n pc s t x y f))
    (earlier c n first to s0 k y x (at_once (Turned t)) (over c n first to s0 (k + y) s.pos (Turned t) g.from (omega (arith, g.order.within, g.order.around, g.outer)) cost leaves))

-- a callee's exit, in its caller
back_case : (c : Parts) → IsRunnable c → (b places : List ℕ) (n first to pc m site : ℕ) (s0 s s1 : State) (k y : ℕ) → From c b n places pc → IsStretch c n first to → Going c n first to pc s0 s k → y ≡ 1 → shape_at (shapes_of c) pc ≡ Call m → m < n → s1.pos ≡ s.pos → (u : List ℕ) (v at : ℕ) (w : Way) → s.pos ≤ at → at ≤ s.end → v ≤ before c m (end_of c m) * (at - s.pos + 1) → LeftBy c m (first_of c m) s1 at w → Bounded c n first to s0 (k + y) (back_by c site s (block c b n places (pc + 1)) u v w)
back_case c r b places n first to pc m site s0 s s1 k y on h g one is lower p u v at (Returned pos cells) from within spent leaves =
    let o = call_on c n pc m r.safe g.place is in
    let s2 : State = record s { cells = cells; pos = pos } in
    let w = (r.safe.weighed n pc g.place).on (pc + 1) o.0 (omega (arith, o.1.to)) in
    let cost = call_cost c n first pc (pc + 1) m 0 k (k + y + v) s0.pos s.pos at r g.place is lower g.kind o.0 (omega (arith, o.1.to)) g.begun g.cost (omega (arith, one, spent)) g.from from in
    let empty : s1.pos ≡ at → MayBeEmpty (shapes_of c) (lengths_of c) (suc m) m = λ z. (let back = leaves.2 z in (r.safe.each m back.at back.within).empty back.is back.way) in
    let next : Going c n first to (pc + 1) s0 s2 (k + y + v) = record {
      place = o.1;
      under = h.closed (pc + 1) o.1 (λ z. o.2 ∙ g.fixed z);
      from = omega (arith, g.from, from, leaves.0);
      order = record { within = omega (arith, within, leaves.0); around = g.order.around };
      outer = g.outer;
      kind = ap in_loop o.2 ∙ g.kind;
      fixed = λ z. o.2 ∙ g.fixed z;
      end = g.end;
      narrow = let a = ap window_bytes o.2 in omega (arith, a, g.narrow);
      begun = omega (arith, g.begun, w);
      cost = subst (λ z. scale c first * (k + y + v) ≤ scale c first * 0 + (before c n (pc + 1) - before c n first) * (z - s0.pos + 1)) (sym leaves.0) cost;
      idle = λ z. idle_more c n first pc (pc + 1) (Call m) is (omega arith) refl (empty_up (shapes_of c) (lengths_of c) n m lower (empty (omega (arith, z, p, g.from, from, leaves.0)))) (g.idle (omega (arith, z, g.from, from, leaves.0)));
    } in
    earlier c n first to s0 (k + y) v u (block c b n places (pc + 1) s2) (on first to (pc + 1) s0 s2 (k + y + v) (omega arith) h next)
back_case c r b places n first to pc m site s0 s s1 k y on h g one is lower p u v at (Turned t) from within spent leaves =
    let e = ap in_loop (r.safe.begins m (omega (arith, lower, g.place.routine))).1 in
    let f = leaves.1 in
    absurd (cc)
back_case c r b places n first to pc m site s0 s s1 k y on h g one is lower p u v at (Failed reason pos trace cells) from within spent leaves = record {
  at = at;
  from = omega (arith, g.from, from);
  within = omega (arith, within, g.order.around, g.outer);
  cost = call_cost c n first pc to m 0 k (k + y + v) s0.pos s.pos at r g.place is lower g.kind g.under h.within g.begun g.cost (omega (arith, one, spent)) g.from from;
  leaves = tt;
}
back_case c r b places n first to pc m site s0 s s1 k y on h g one is lower p u v at Stuck from within spent leaves = absurd leaves

calls_case : (c : Parts) → IsRunnable c → (b places : List ℕ) (n first to pc a m map site : ℕ) (s0 s : State) (k : ℕ) (x : List ℕ) (y : ℕ) → ((m : ℕ) → m < n → IsLight c b m) → From c b n places pc → IsStretch c n first to → Going c n first to pc s0 s k → HasEffect c b places n pc s (Calls a m map site s) x y → instruction_of c pc ≡ i.Call a m map site → y ≡ 1 → Bounded c n first to s0 k (block c b n places pc s)
calls_case c r b places n first to pc a m map site s0 s k x y light on h g f is one =
    let at : shape_at (shapes_of c) pc ≡ Call m = shape_here c pc (instruction_of c pc) refl ∙ ap shape is in
    let lower = calls_lower c n pc m r.safe g.place at in
    let o = call_on c n pc m r.safe g.place at in
    let l : m < length c.routines = omega (arith, lower, g.place.routine) in
    let s1 = entered (routine_of c m) (registers_from s.regs a (routine_of c m).params) s in
    let e = block c b m (places_by places (cells_by c n m map)) (first_of c m) s1 in
    let q : Bounded c m (first_of c m) (end_of c m) s1 0 e = light m lower (places_by places (cells_by c n m map)) s1 (record { within = g.order.within; around = omega arith }) in
    let spent = callee_steps c m s1 e r l q in
    subst (Bounded c n first to s0 k) (sym (run_calls c b places n pc a m map site s s x y f o.1.to lower))
    (earlier c n first to s0 k y x (back c site s (block c b n places (pc + 1)) e)
    (back_case c r b places n first to pc m site s0 s s1 k y on h g one at lower refl e.touched e.steps q.at e.way q.from q.within spent q.leaves))

once_more : (a k w x : ℕ) → a ≤ k + w * x → a ≤ k + w * (x + 1)
once_more a k w x h = let y : w * x ≤ w * (x + 1) = mul-le-mul_left w (omega arith) in omega (arith, h, y)

-- behind a loop
behind_case : (c : Parts) → IsRunnable c → (b places : List ℕ) (n first to pc q : ℕ) (s0 s t : State) (k k1 : ℕ) → From c b n places pc → IsStretch c n first to → Going c n first to pc s0 s k → shape_at (shapes_of c) pc ≡ While q → s.pos ≤ t.pos → InOrder t → t.outer ≤ s.outer → t.end ≡ s.end → k1 ≤ k + 1 + (before c n q - before c n (pc + 1) + 1) * (t.pos - s.pos) → Bounded c n first to s0 k1 (block c b n places q t)
behind_case c r b places n first to pc q s0 s t k k1 on h g is from order outer end spent =
    let w = loop_whole c n pc q r g.place is in
    let on' = (r.safe.weighed n pc g.place).on q (omega (arith, w.body)) (omega (arith, w.behind.to)) in
    on first to q s0 t k1 (omega (arith, w.body)) h (record {
      place = w.behind;
      under = h.closed q w.behind (λ z. w.same ∙ g.fixed z);
      from = omega (arith, g.from, from);
      order = order;
      outer = omega (arith, outer, g.outer);
      kind = ap in_loop w.same ∙ g.kind;
      fixed = λ z. w.same ∙ g.fixed z;
      end = λ z. end ∙ g.end z;
      narrow = let a = ap window_bytes w.same in omega (arith, a, end, g.narrow);
      begun = omega (arith, g.begun, on');
      cost = loop_cost c n first pc q q 0 k k1 s0.pos s.pos t.pos r g.place is w.body (omega arith) (omega (arith, w.behind.to)) g.kind g.begun g.cost (once_more k1 (k + 1) (before c n q - before c n (pc + 1) + 1) (t.pos - s.pos) spent) g.from from;
      idle = λ z. idle_more c n first pc q (While q) is (omega (arith, w.body)) refl tt (g.idle (omega (arith, z, g.from, from)));
    })

-- a turn's exit, where the turns that follow are bounded
again_case : (c : Parts) → IsRunnable c → (b places : List ℕ) (n first to pc q : ℕ) (s0 s t : State) (k k1 : ℕ) (go : State → Exit) → IsStretch c n first to → Going c n first to pc s0 s k → shape_at (shapes_of c) pc ≡ While q → s.pos ≤ t.pos → InOrder t → t.outer ≤ s.outer → t.end ≡ s.end → k1 ≤ k + 1 + (before c n q - before c n (pc + 1) + 1) * (t.pos - s.pos)
    → ((t' : State) (k2 : ℕ) → s.pos ≤ t'.pos → InOrder t' → t'.outer ≤ s.outer → t'.end ≡ s.end → k2 ≤ k + 1 + (before c n q - before c n (pc + 1) + 1) * (t'.pos - s.pos) → Bounded c n first to s0 k2 (go t'))
    → (u : List ℕ) (v at : ℕ) (w : Way) → t.pos ≤ at → at ≤ t.outer → 2 * v ≤ (before c n q - before c n (pc + 1)) * (at - t.pos + 1) → LeftBy c n (pc + 1) t at w → Bounded c n first to s0 k1 (again_by go u v w)
again_case c r b places n first to pc q s0 s t k k1 go h g is from order outer end spent on u v at (Turned t') on_from within cost leaves =
    let up = grown t.pos t'.pos (omega (arith, on_from, leaves.0)) (λ z. turn_busy c n pc q r g.place is (leaves.2 (z ∙ leaves.0))) in
    let D = before c n q - before c n (pc + 1) in
    let all = spend_turn (k + 1) k1 (k1 + v) D (t.pos - s.pos) (at - t.pos) (t'.pos - s.pos) spent (omega (arith, cost)) (omega (arith, up, leaves.0)) (omega (arith, from, on_from, leaves.0)) in
    earlier c n first to s0 k1 (v + 1) u (go t') (on t' (k1 + (v + 1)) (omega (arith, from, up)) leaves.4 (omega (arith, leaves.5, outer)) (leaves.3 ∙ end) (omega (arith, all)))
again_case c r b places n first to pc q s0 s t k k1 go h g is from order outer end spent on u v at (Returned pos cells) on_from within cost leaves =
    let e = r.safe.loops.turning n pc q g.place is in
    let f = leaves.1 in
    absurd (cc)
again_case c r b places n first to pc q s0 s t k k1 go h g is from order outer end spent on u v at (Failed reason pos trace cells) on_from within cost leaves =
    let w = loop_whole c n pc q r g.place is in
    let under = h.closed q w.behind (λ z. w.same ∙ g.fixed z) in
    let D = before c n q - before c n (pc + 1) in
    let all = spend_last (k + 1) k1 (k1 + v) D (t.pos - s.pos) (at - t.pos) (at - s.pos) spent (omega (arith, cost)) (omega (arith, from, on_from)) in
    record {
      at = at;
      from = omega (arith, g.from, from, on_from);
      within = omega (arith, within, outer, g.outer);
      cost = loop_cost c n first pc q to 0 k (k1 + v) s0.pos s.pos at r g.place is w.body (omega (arith, under)) h.within g.kind g.begun g.cost all g.from (omega (arith, from, on_from));
      leaves = tt;
    }
again_case c r b places n first to pc q s0 s t k k1 go h g is from order outer end spent on u v at Stuck on_from within cost leaves = absurd leaves

-- all turns of the loop at pc
turning : (c : Parts) → IsRunnable c → (b places : List ℕ) (n first to pc q : ℕ) (s0 s : State) (k : ℕ) → From c b n places pc → IsStretch c n first to → Going c n first to pc s0 s k → shape_at (shapes_of c) pc ≡ While q → (fuel : ℕ) (t : State) (k1 : ℕ) → s.pos ≤ t.pos → InOrder t → t.outer ≤ s.outer → t.end ≡ s.end → k1 ≤ k + 1 + (before c n q - before c n (pc + 1) + 1) * (t.pos - s.pos) → Bounded c n first to s0 k1 (turns fuel (block c b n places (pc + 1)) (block c b n places q) t)
turning c r b places n first to pc q s0 s k on h g is zero t k1 from order outer end spent = behind_case c r b places n first to pc q s0 s t k k1 on h g is from order outer end spent
turning c r b places n first to pc q s0 s k on h g is (suc fuel) t k1 from order outer end spent =
    by (nat_eq t.pos t.end) (turning c r b places n first to pc q s0 s k on h g is fuel)
  where
    by : (v : Bool)
        → ((t' : State) (k2 : ℕ) → s.pos ≤ t'.pos → InOrder t' → t'.outer ≤ s.outer → t'.end ≡ s.end → k2 ≤ k + 1 + (before c n q - before c n (pc + 1) + 1) * (t'.pos - s.pos) → Bounded c n first to s0 k2 (turns fuel (block c b n places (pc + 1)) (block c b n places q) t'))
        → Bounded c n first to s0 k1 (cond v (block c b n places q t) (again (turns fuel (block c b n places (pc + 1)) (block c b n places q)) (block c b n places (pc + 1) t)))
    by true rest = behind_case c r b places n first to pc q s0 s t k k1 on h g is from order outer end spent
    by false rest =
        let body = body_stretch c n pc q r g.place is in
        let e = block c b n places (pc + 1) t in
        let turn : Bounded c n (pc + 1) q t 0 e = on (pc + 1) q (pc + 1) t t 0 (omega arith) body (starts c n (pc + 1) q t body order) in
        let D = before c n q - before c n (pc + 1) in
        let twice : scale c (pc + 1) ≡ 2 = ap (λ v. cond v 2 1) (r.safe.loops.turning n pc q g.place is) in
        let cost : 2 * (0 + e.steps) ≤ 2 * 0 + D * (turn.at - t.pos + 1) = subst (λ x. x * (0 + e.steps) ≤ x * 0 + D * (turn.at - t.pos + 1)) twice turn.cost in
        again_case c r b places n first to pc q s0 s t k k1 (turns fuel (block c b n places (pc + 1)) (block c b n places q)) h g is from order outer end spent rest e.touched e.steps turn.at e.way turn.from turn.within (omega (arith, cost)) turn.leaves

loops_case : (c : Parts) → IsRunnable c → (b places : List ℕ) (n first to pc q : ℕ) (s0 s : State) (k : ℕ) (x : List ℕ) (y : ℕ) → From c b n places pc → IsStretch c n first to → Going c n first to pc s0 s k → HasEffect c b places n pc s (Loops q s) x y → instruction_of c pc ≡ i.While q → y ≡ 1 → Bounded c n first to s0 k (block c b n places pc s)
loops_case c r b places n first to pc q s0 s k x y on h g f is one =
    let at : shape_at (shapes_of c) pc ≡ While q = shape_here c pc (instruction_of c pc) refl ∙ ap shape is in
    let w = loop_whole c n pc q r g.place at in
    subst (Bounded c n first to s0 k) (sym (run_loops c b places n pc q s s x y f w.body w.behind.to))
    (earlier c n first to s0 k y x (turns (suc (left s)) (block c b n places (pc + 1)) (block c b n places q) s)
    (turning c r b places n first to pc q s0 s k on h g at (suc (left s)) s (k + y) (omega arith) g.order (omega arith) refl (omega (arith, one))))

flow_case : (c : Parts) → IsRunnable c → (b places : List ℕ) (n first to pc : ℕ) (s0 s : State) (k : ℕ) (flow : Flow) (x : List ℕ) (y : ℕ) → ((m : ℕ) → m < n → IsLight c b m) → From c b n places pc → IsStretch c n first to → Going c n first to pc s0 s k → HasEffect c b places n pc s flow x y → Does pc (instruction_of c pc) s y flow → Bounded c n first to s0 k (block c b n places pc s)
flow_case c r b places n first to pc s0 s k (Goes target t) x y light on h g f m = goes_case c r b places n first to pc target s0 s t k x y on h g f m
flow_case c r b places n first to pc s0 s k (Fails reason site pos t) x y light on h g f m = fails_case c r b places n first to pc reason site pos s0 s t k x y h g f m
flow_case c r b places n first to pc s0 s k (Calls a m' map site t) x y light on h g f m =
    calls_case c r b places n first to pc a m' map site s0 s k x y light on h g (subst (λ (z : State). HasEffect c b places n pc s (Calls a m' map site z) x y) m.1 f) m.0 m.2
flow_case c r b places n first to pc s0 s k (Returns t) x y light on h g f m = returns_case c r b places n first to pc s0 s t k x y h g f m
flow_case c r b places n first to pc s0 s k (Loops q t) x y light on h g f m =
    loops_case c r b places n first to pc q s0 s k x y on h g (subst (λ (z : State). HasEffect c b places n pc s (Loops q z) x y) m.1 f) m.0 m.2
flow_case c r b places n first to pc s0 s k (Turns t) x y light on h g f m = turns_case c r b places n first to pc s0 s t k x y h g f m

-- the exit from pc on, of which d instructions or fewer are left
pub on_from : (c : Parts) → IsRunnable c → (b : List ℕ) (n : ℕ) → ((m : ℕ) → m < n → IsLight c b m) → (d : ℕ) (places : List ℕ) (first to pc : ℕ) (s0 s : State) (k : ℕ) → IsStretch c n first to → Going c n first to pc s0 s k → end_of c n ≤ pc + d → Bounded c n first to s0 k (block c b n places pc s)
on_from c r b n light zero places first to pc s0 s k h g l = absurd (omega (arith, g.place.to, l))
on_from c r b n light (suc d) places first to pc s0 s k h g l =
    let j = instruction_of c pc in
    let e = effect c n b places pc j s in
    let there = slice_get-get_or c.instructions pc (i.Fail 0 0) (in_code c n pc r g.place) in
    flow_case c r b places n first to pc s0 s k e.flow e.touched e.steps light
    (λ first' to' q s0' s' k' p h' g'. on_from c r b n light d places first' to' q s0' s' k' h' g' (omega (arith, l, p)))
    h g (record { instruction = j; there = there; within = g.place.to; is = refl }) (does c n b places pc j s g.order (r.safe.each n pc g.place).operands)

-- each routine, after those of lower numbers
pub light_below : (c : Parts) → IsRunnable c → (b : List ℕ) (n m : ℕ) → m < n → m < length c.routines → IsLight c b m
light_below c r b zero m h l = absurd (omega (arith, h))
light_below c r b (suc n) m h l = λ places s o.
    let whole = whole_stretch c m (first_of c m) (end_of c m) r l refl refl in
    on_from c r b m (λ m' h'. light_below c r b n m' (omega (arith, h, h')) (omega (arith, l, h'))) (end_of c m) places (first_of c m) (end_of c m) (first_of c m) s s 0 whole (starts c m (first_of c m) (end_of c m) s whole o) (omega arith)
