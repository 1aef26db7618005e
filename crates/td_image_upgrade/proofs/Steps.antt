-- One instruction leads to the same before and after its site got another number.
use Rattle.std.proofs.Common.{◌≡◌, ℕ, zero, suc, ◌+◌, ◌-◌, ◌*◌, ◌/◌, ◌%◌, Bool, true, false, cond, min, List, [], ◌∷◌, ◌++◌, Option, Some, None, map, refl, ap, ◌∙◌}
use Rattle.std.specs.Prelude.{nat_eq, nat_le, nat_lt, slice_index, slice_index_or, slice_set}
use Rattle.td_num.specs.Numbers.{ordered_at, places_from}
use Rattle.td_num.specs.Lists.{Each, is_among, first_where, looked_at}
use Rattle.td_core.specs.declared.module.NameId.{NameId}
use Rattle.td_core.specs.declared.outcome.Reason.{Reason}
use Rattle.td_core.specs.declared.outcome.Reason.TheVariants.{NotEnough, ListSize, Constraint, Padding}
use Rattle.td_core.specs.Outcome.{frame_at}
use Rattle.td_ir.specs.declared.instructions.Instr.{Instr}
use Rattle.td_ir.specs.declared.instructions.Instr.TheVariants as i
use Rattle.td_ir.specs.declared.tables.Parts.{Parts}
use Rattle.td_ir.specs.Tables.{routine_of, set_of}
use Rattle.td_ir.specs.State.{State, reg, with_reg, at_pos, left, Way, Returned, Turned, Failed, Stuck, Exit, at_once, after}
use Rattle.td_ir.specs.Values.{bit, operated, bits_of, reason_of, order_of, numbers_from, is_zero, is_nonzero}
use Rattle.td_ir.specs.Flow.{Flow, Goes, Fails, Calls, Effect, plain, where_so, has_bytes, zeros_flow, zeroterm_flow, effect}
use Rattle.td_ir.specs.Run.{Callees, spot_named, frame, back, back_by, led, follow, pick, goes, exits}
use Rattle.td_ir.specs.Fields.{named}
use Rattle.td_image_upgrade.specs.Upgrade.{renumbered, upgraded}
use Rattle.td_image_upgrade.proofs.Sites.{OfNamed, IsSame}
use Rattle.td_ir.proofs.Blocks.{branch_same, turns_same}

pub frame_same : (c : Parts) (m k : ℕ) (s : State) (reason : Reason) → IsSame c m k → frame (upgraded c) m s reason ≡ frame c k s reason
frame_same c m k s reason e =
    ap (λ (x : NameId × NameId). frame_at (record { ty = x.0; field = spot_named (slice_index_or c.names x.1.number []) x.1; start = s.start }) reason) e

module _ (c : Parts) (n : ℕ) (message places : List ℕ) (g : ℕ → ℕ) (calls' calls : Callees) (pc : ℕ) (go' go : ℕ → State → Exit)
    (C : (a b m : ℕ) (s : State) → calls' a b m s ≡ calls a b m s) (G : (t : ℕ) (s : State) → go' t s ≡ go t s) where
  abbrev new : Flow → Exit
  new f = led (upgraded c) calls' pc go' f

  abbrev old : Flow → Exit
  old f = led c calls pc go f

  abbrev follow_new : Effect → Exit
  follow_new e = follow (upgraded c) calls' pc go' e

  abbrev follow_old : Effect → Exit
  follow_old e = follow c calls pc go e

  fails : (reason : Reason) (k pos : ℕ) (s : State) → IsSame c (g k) k → new (Fails reason (g k) pos s) ≡ old (Fails reason k pos s)
  fails reason k pos s e = ap (λ f. at_once (Failed reason pos (f ∷ []) s.cells)) (frame_same c (g k) k s reason e)

  back_same : (k : ℕ) (s : State) → IsSame c (g k) k → (touched : List ℕ) (steps : ℕ) (w : Way) → back_by (upgraded c) (g k) s (go' (pc + 1)) touched steps w ≡ back_by c k s (go (pc + 1)) touched steps w
  back_same k s e touched steps (Returned pos cells) = ap (after touched steps) (G (pc + 1) (record s { cells = cells; pos = pos }))
  back_same k s e touched steps (Turned t) = refl
  back_same k s e touched steps (Failed reason pos trace cells) =
      ap (λ f. record { way = Failed reason pos (trace ++ f ∷ []) cells; touched = touched; steps = steps }) (frame_same c (g k) k s reason e)
  back_same k s e touched steps Stuck = refl

  calling : (first routine m k : ℕ) (s : State) → IsSame c (g k) k → new (Calls first routine m (g k) s) ≡ old (Calls first routine m k s)
  calling first routine m k s e =
      ap (back (upgraded c) (g k) s (go' (pc + 1))) (C first routine m s)
      ∙ back_same k s e (calls first routine m s).touched (calls first routine m s).steps (calls first routine m s).way

  either : (v : Bool) (x' y' x y : Flow) → new x' ≡ old x → new y' ≡ old y → new (cond v x' y') ≡ old (cond v x y)
  either true x' y' x y e f = e
  either false x' y' x y e f = f

  either_effect : (v : Bool) (x' y' x y : Effect) → follow_new x' ≡ follow_old x → follow_new y' ≡ follow_old y → follow_new (cond v x' y') ≡ follow_old (cond v x y)
  either_effect true x' y' x y e f = e
  either_effect false x' y' x y e f = f

  so : (v : Bool) (next : ℕ) (s : State) (reason : Reason) (k : ℕ) → IsSame c (g k) k → new (where_so v next s reason (g k)) ≡ old (where_so v next s reason k)
  so true next s reason k e = G next s
  so false next s reason k e = fails reason k s.start s e

  zeros_same : (next k : ℕ) (o : Option ℕ) (s : State) → IsSame c (g k) k → new (zeros_flow next (g k) o s) ≡ old (zeros_flow next k o s)
  zeros_same next k None s e = G next (at_pos s s.end)
  zeros_same next k (Some m) s e = fails Padding k (s.pos + m) s e

  zeroterm_same : (next k width bound room : ℕ) (o : Option ℕ) (s : State) → IsSame c (g k) k → new (zeroterm_flow next (g k) width bound room o s) ≡ old (zeroterm_flow next k width bound room o s)
  zeroterm_same next k width bound room (Some m) s e = G next (at_pos s (s.pos + suc m * width))
  zeroterm_same next k width bound room None s e = fails (cond (nat_le bound room) Constraint NotEnough) k s.start s e

  abbrev Leads : Instr → State → Type 0
  Leads j s = follow_new (effect (upgraded c) n message places pc (renumbered g j) s) ≡ follow_old (effect c n message places pc j s)

  pub step_same : (j : Instr) (s : State) → OfNamed (λ k. IsSame c (g k) k) (named j) → Leads j s
  step_same (i.Const into value) s a = ap (after [] 1) (G (pc + 1) (with_reg s into value))
  step_same (i.Member into source set) s a = ap (after [] 1) (G (pc + 1) (with_reg s into (bit (is_among (set_of c set) (reg s source)))))
  step_same (i.Op into operator x y) s a = ap (after [] 1) (G (pc + 1) (with_reg s into (operated operator (reg s x) (reg s y))))
  step_same (i.Bits into source low count) s a = ap (after [] 1) (G (pc + 1) (with_reg s into (bits_of (reg s source) low count)))
  step_same (i.Pos into) s a = ap (after [] 1) (G (pc + 1) (with_reg s into s.start))
  step_same (i.Jump target) s a = ap (after [] 1) (G target s)
  step_same (i.JumpIf test target) s a = ap (after [] 1) (either (nat_eq (reg s test) 0) (Goes (pc + 1) s) (Goes target s) (Goes (pc + 1) s) (Goes target s) (G (pc + 1) s) (G target s))
  step_same (i.JumpUnless test target) s a = ap (after [] 1) (either (nat_eq (reg s test) 0) (Goes target s) (Goes (pc + 1) s) (Goes target s) (Goes (pc + 1) s) (G target s) (G (pc + 1) s))
  step_same (i.Call first routine m site) s a = ap (after [] 1) (calling first routine m site s a)
  step_same i.Return s a = refl
  step_same (i.Fetch into order width site) s a =
      let next = at_pos (with_reg s into (ordered_at (order_of order) message s.pos width)) (s.pos + width) in
      either_effect (has_bytes s width)
      (record { flow = Goes (pc + 1) next; touched = places_from s.pos width; steps = 1 }) (plain (Fails NotEnough (g site) s.start s))
      (record { flow = Goes (pc + 1) next; touched = places_from s.pos width; steps = 1 }) (plain (Fails NotEnough site s.start s))
      (ap (after (places_from s.pos width) 1) (G (pc + 1) next)) (ap (after [] 1) (fails NotEnough site s.start s a))
  step_same (i.SkipK bytes site) s a =
      ap (after [] 1) (either (has_bytes s bytes) (Goes (pc + 1) (at_pos s (s.pos + bytes))) (Fails NotEnough (g site) s.start s) (Goes (pc + 1) (at_pos s (s.pos + bytes))) (Fails NotEnough site s.start s) (G (pc + 1) (at_pos s (s.pos + bytes))) (fails NotEnough site s.start s a))
  step_same (i.Skip size site) s a =
      let n = reg s size in
      ap (after [] 1) (either (has_bytes s n) (Goes (pc + 1) (at_pos s (s.pos + n))) (Fails NotEnough (g site) s.start s) (Goes (pc + 1) (at_pos s (s.pos + n))) (Fails NotEnough site s.start s) (G (pc + 1) (at_pos s (s.pos + n))) (fails NotEnough site s.start s a))
  step_same i.Rest s a = ap (after [] 1) (G (pc + 1) (at_pos s s.end))
  step_same (i.Zeros site) s a =
      let first = first_where is_nonzero (numbers_from message s.pos 1 (left s)) in
      let count = looked_at first (left s) in
      ap (after (places_from s.pos count) (1 + count)) (zeros_same (pc + 1) site first s a)
  step_same (i.Zeroterm bound width site) s a =
      let most = reg s bound / width in
      let room = left s / width in
      let first = first_where is_zero (numbers_from message s.pos width (min most room)) in
      let count = looked_at first (min most room) in
      ap (after (places_from s.pos (count * width)) (1 + count)) (zeroterm_same (pc + 1) site width most room first s a)
  step_same (i.NarrowK bytes site) s a =
      let inside = record s { end = s.pos + bytes; outer = s.end } in
      ap (after [] 1) (either (has_bytes s bytes) (Goes (pc + 1) inside) (Fails NotEnough (g site) s.start s) (Goes (pc + 1) inside) (Fails NotEnough site s.start s) (G (pc + 1) inside) (fails NotEnough site s.start s a))
  step_same (i.Narrow size site) s a =
      let inside = record s { end = s.pos + reg s size; outer = s.end } in
      ap (after [] 1) (either (has_bytes s (reg s size)) (Goes (pc + 1) inside) (Fails NotEnough (g site) s.start s) (Goes (pc + 1) inside) (Fails NotEnough site s.start s) (G (pc + 1) inside) (fails NotEnough site s.start s a))
  step_same (i.Divides size by site) s a = ap (after [] 1) (so (nat_eq (reg s size % by) 0) (pc + 1) s ListSize site a)
  step_same (i.While target) s a = ap (after [] 1) (turns_same (suc (left s)) (go' (pc + 1)) (go (pc + 1)) (go' target) (go target) (G (pc + 1)) (G target) s)
  step_same (i.Again target) s a = refl
  step_same (i.Widen site) s a =
      let outside = record s { end = s.outer } in
      ap (after [] 1) (either (nat_eq s.pos s.end) (Goes (pc + 1) outside) (Fails ListSize (g site) s.start s) (Goes (pc + 1) outside) (Fails ListSize site s.start s) (G (pc + 1) outside) (fails ListSize site s.start s a))
  step_same (i.Fail reason site) s a = ap (after [] 1) (fails (reason_of reason) site s.start s a)
  step_same (i.Get into cell) s a = ap (after [] 1) (G (pc + 1) (with_reg s into (slice_index s.cells (slice_index places cell))))
  step_same (i.Set source cell) s a = ap (after [] 1) (G (pc + 1) (record s { cells = slice_set s.cells (slice_index places cell) (reg s source) }))
  step_same i.Mark s a = ap (after [] 1) (G (pc + 1) (record s { start = s.pos }))
  step_same (i.Copy size buffer site) s a =
      let v = reg s size in
      let few = min v (slice_index (routine_of c n).buffers buffer) in
      let first = (routine_of c n).cells + 2 * buffer in
      let next = record s { cells = slice_set (slice_set s.cells (slice_index places first) s.pos) (slice_index places (first + 1)) few; pos = s.pos + v } in
      either_effect (has_bytes s v)
      (record { flow = Goes (pc + 1) next; touched = places_from s.pos few; steps = 1 + few }) (plain (Fails NotEnough (g site) s.start s))
      (record { flow = Goes (pc + 1) next; touched = places_from s.pos few; steps = 1 + few }) (plain (Fails NotEnough site s.start s))
      (ap (after (places_from s.pos few) (1 + few)) (G (pc + 1) next)) (ap (after [] 1) (fails NotEnough site s.start s a))
  step_same (i.Left into) s a = ap (after [] 1) (G (pc + 1) (with_reg s into (left s)))

-- the exits from all instructions of a stretch
pub exits_same : (c : Parts) (n : ℕ) (message places : List ℕ) (g : ℕ → ℕ) (calls' calls : Callees) → ((a b m : ℕ) (s : State) → calls' a b m s ≡ calls a b m s)
    → (pc : ℕ) (js : List Instr) → Each (λ j. OfNamed (λ k. IsSame c (g k) k) (named j)) js → (k : ℕ) (s : State)
    → pick (exits (upgraded c) n message places calls' pc (map (renumbered g) js)) k s ≡ pick (exits c n message places calls pc js) k s
exits_same c n message places g calls' calls C pc [] h k s = refl
exits_same c n message places g calls' calls C pc (j ∷ js) h zero s =
    step_same c n message places g calls' calls pc
    (goes pc (exits (upgraded c) n message places calls' (pc + 1) (map (renumbered g) js))) (goes pc (exits c n message places calls (pc + 1) js)) C
    (λ t u. branch_same (nat_lt pc t) _ (at_once Stuck) _ (at_once Stuck) (exits_same c n message places g calls' calls C (pc + 1) js h.1 (t - (pc + 1)) u) refl)
    j s h.0
exits_same c n message places g calls' calls C pc (j ∷ js) h (suc k) s = exits_same c n message places g calls' calls C (pc + 1) js h.1 k s
