-- Calls.
use Rattle.std.proofs.Common.{◌≡◌, ℕ, zero, suc, ◌+◌, ◌-◌, Bool, false, cond, ◌^◌, ◌<◌, ◌≤◌, List, [], ◌∷◌, ◌++◌, length, length-append, map, ◌*◌, append-nil, length-drop, refl, sym, ap, ◌∙◌, subst, arith, slice_index}
use Rattle.td_num.specs.Lists.{Each}
use Rattle.td_core.specs.Outcome.{frame_at}
use Rattle.td_core.specs.declared.outcome.Reason.{Reason}
use Rattle.td_core.specs.declared.outcome.TraceFrame.{TraceFrame}
use Rattle.td_core.specs.declared.module.NameId.{NameId}
use Rattle.td_core.specs.declared.outcome.Spot.{Spot}
use Rattle.td_ir.specs.declared.instructions.Instr.TheVariants as i
use Rattle.td_ir.specs.Tables.{routine_of, cells_by, first_of, end_of, site_of, map_of, own_cells, buffer_cells}
use Rattle.td_ir.specs.State.{State, registers_from, Way, Returned, Turned, Failed, Stuck, Exit, after}
use Rattle.td_ir.specs.Run.{frame, back_by, again, places_by, entered, block, spot_named}
use Rattle.td_ir.specs.Run as ir
use Rattle.td_ir.proofs.Blocks.{run_calls}
use Rattle.std.specs.Prelude.{take, drop, nat_eq}
use Rattle.td_ir.proofs.Buffers.{buffer_count}
use Rattle.std.proofs.lemmas.List.{get_or-append-add, length-take-le}
use Rattle.std.proofs.Math.ListN.{get_or-append}
use Rattle.td_prog.specs.Tree.{Tree, Done, bind, answer, loaded}
use Rattle.td_prog.specs.Syntax.{Block}
use Rattle.td_prog.specs.Values.{Locals}
use Rattle.td_prog.specs.Means.{Out, Gave, Refused, Undefined, Continuation, Labels, after_routine}
use Rattle.td_prog_code.specs.Instructions.{statement, spot}
use Rattle.td_prog_trees.specs.Agree.{state_of, IsGood, IsReturn, IsFailure, AgreesBy, Agrees, IsOnward, fresh, behind, reached, IsForward, called_at}
use Rattle.td_verify.specs.Operands.{IsCellMap}
use Rattle.td_prog_steps.specs.Laid.{OwnFits}
use Rattle.td_prog_trees.proofs.Composing.{agrees_after, again_after, answer_bind, loaded_bind, forward_up}
use Rattle.td_prog_steps.proofs.Goods.{small_at, cut_is, start_small}
use Rattle.td_prog_steps.proofs.Activation.{Activation, IsActive}
use Rattle.td_prog_steps.proofs.Activation as routine

buffer_place : (k : ℕ) (bs : List ℕ) (i : ℕ) → i < length bs → slice_index (buffer_cells k bs) (2 * i) ≡ k + 2 * slice_index bs i
buffer_place k [] i h = absurd (omega (arith, h))
buffer_place k (b ∷ bs) zero h = refl
buffer_place k (b ∷ bs) (suc i) h =
    let e : 2 * suc i ≡ suc (suc (2 * i)) = omega arith in
    ap (slice_index (buffer_cells k (b ∷ bs))) e ∙ buffer_place k bs i (omega (arith, h))

buffer_size : (k : ℕ) (bs : List ℕ) (i : ℕ) → i < length bs → slice_index (buffer_cells k bs) (2 * i + 1) ≡ k + 2 * slice_index bs i + 1
buffer_size k [] i h = absurd (omega (arith, h))
buffer_size k (b ∷ bs) zero h = refl
buffer_size k (b ∷ bs) (suc i) h =
    let e : 2 * suc i + 1 ≡ suc (suc (2 * i + 1)) = omega arith in
    ap (slice_index (buffer_cells k (b ∷ bs))) e ∙ buffer_size k bs i (omega (arith, h))

mapped_at : (f : ℕ → ℕ) (xs : List ℕ) (j : ℕ) → j < length xs → slice_index (map f xs) j ≡ f (slice_index xs j)
mapped_at f [] j h = absurd (omega (arith, h))
mapped_at f (x ∷ xs) zero h = refl
mapped_at f (x ∷ xs) (suc j) h = mapped_at f xs j (omega (arith, h))

-- a number below it isn't TD_FAILED
not_failure : (v : ℕ) → v < 2 ^ 64 - 1 → nat_eq v (2 ^ 64 - 1) ≡ false
not_failure v h = grind (arith, h)

-- the first of a list and more
pub take_again : {X : Type 0} (k : ℕ) (xs ys : List X) → take k (take k xs ++ ys) ≡ take k (xs ++ ys)
take_again zero xs ys = refl
take_again (suc k) [] ys = refl
take_again (suc k) (x ∷ xs) ys = ap (λ zs. x ∷ zs) (take_again k xs ys)

module _ (activation : Activation) (is : IsActive activation) where
  open activation use {extent, code as c, number as n, places, own, limit, routines}
  open extent use {memory, numbering, basis, to}
  open numbering use {word}
  open basis use {message}

  abbrev exit : (State → Exit) → ℕ → State → Exit
  exit f pc s = routine.exit activation f pc s

  abbrev Follows : Continuation → (State → Exit) → Type 0
  Follows go f = IsOnward extent go f

  module _ (s : Locals) (g : IsGood extent s) (k : ℕ) (f : State → Exit) (go : Continuation) (next : State → Exit)
      (ih : Follows go (λ t. again f (next t))) (x : Tree Out) where
    abbrev ty : NameId
    ty = (site_of c k).ty

    abbrev field : Spot
    field = spot c k

    abbrev there : Tree Out
    there = bind x (after_routine ty field s go)

    returned : (o : Out) (pos : ℕ) (cells touched : List ℕ) (steps : ℕ) → answer memory x ≡ o
        → IsReturn (called_at extent s) (behind word s.next touched) pos cells o → loaded memory x ≡ fresh word s.next touched → IsForward word s.end s.next touched
        → Agrees extent s.next there (again f (after touched steps (next (record (state_of s) { cells = cells; pos = pos }))))
    returned (Gave v t) pos cells touched steps e q l forward =
        let r = q.1 in
        let here : v ≡ t.pos = q.0 ∙ sym r.at in
        let u : Locals = record s { next = t.next; held = t.held; cells = t.cells; buffers = t.buffers; pos = v } in
        let below : v < 2 ^ 64 - 1 = omega
        (arith, here, r.good.within, r.good.window, r.good.short, g.within, g.window, g.short, is.within.short, is.within.inside) in
        let no = not_failure v below in
        let on : Bool → Tree Out = λ b. cond b (Done Undefined) (go u) in
        let good : IsGood extent u = record {
          begun = g.begun;
          started = omega (arith, here, g.started, r.good.begun, r.good.started);
          within = omega (arith, here, r.good.within, r.good.window, r.good.short);
          window = g.window;
          short = g.short;
          ahead = subst (λ p. t.next ≤ reached word p) (sym here) r.good.ahead;
          held = r.good.held;
          regs = g.regs;
          cells = r.good.cells;
          kept = r.good.kept;
        } in
        again_after extent f s.next there touched steps (next (record (state_of s) { cells = cells; pos = pos }))
        (agrees_after extent s.next t.next there (go u) touched steps (again f (next (record (state_of s) { cells = cells; pos = pos })))
        (record {
          same = answer_bind memory x (after_routine ty field s go) ∙ ap (λ o. answer memory (after_routine ty field s go o)) e ∙ ap
              (λ b. answer memory (on b)) no;
          words = loaded_bind memory x (after_routine ty field s go) ∙ ap (λ ws. ws ++ loaded memory (after_routine ty field s go (answer memory x))) l
              ∙ ap (λ o. fresh word s.next touched ++ loaded memory (after_routine ty field s go o)) e ∙ ap
              (λ b. fresh word s.next touched ++ loaded memory (on b)) no;
          behind_them = sym r.then;
          forward = forward_up word s.end to s.next touched (omega (arith, g.window, g.short)) forward;
        })
        (subst (λ v. Agrees extent t.next (go u) (again f (next v))) (λ i. record (state_of s) { cells = r.same i; pos = q.0 i }) (ih u good)))
    returned (Refused reason at trace t) pos cells touched steps e r l forward = absurd r
    returned Undefined pos cells touched steps e r l forward = absurd r

    failed : (o : Out) (reason : Reason) (pos : ℕ) (trace : List TraceFrame) (cells touched : List ℕ) (steps : ℕ) → answer memory x ≡ o
        → IsFailure reason pos trace cells o → loaded memory x ≡ fresh word s.next touched → IsForward word s.end s.next touched
        → Agrees extent s.next there
        (record { way = Failed reason pos (trace ++ frame c k (state_of s) reason ∷ []) cells; touched = touched; steps = steps })
    failed (Gave v t) reason pos trace cells touched steps e r l forward = absurd r
    failed (Refused reason' at trace' t) reason pos trace cells touched steps e r l forward =
        let same = answer_bind memory x (after_routine ty field s go) ∙ ap (λ o. answer memory (after_routine ty field s go o)) e in (
          subst (λ o. IsFailure reason pos (trace ++ frame c k (state_of s) reason ∷ []) cells o) (sym same) (
            r.0,
            r.1,
            ap (λ p. take 32 (trace' ++ frame_at (record { ty = ty; field = field; start = p }) reason' ∷ []))
                (cut_is s.start (start_small extent s is.within g)) ∙ (λ i. take 32 (r.2 i ++ frame c k (state_of s) (r.0 i) ∷ [])) ∙ take_again 32 trace
                (frame c k (state_of s) reason ∷ []),
            r.3,
          ),
          loaded_bind memory x (after_routine ty field s go) ∙ ap (λ o. loaded memory x ++ loaded memory (after_routine ty field s go o)) e ∙ append-nil
              (loaded memory x) ∙ l,
          forward_up word s.end to s.next touched (omega (arith, g.window, g.short)) forward,
        )
    failed Undefined reason pos trace cells touched steps e r l forward = absurd r

    backed : (touched : List ℕ) (steps : ℕ) (w : Way) → AgreesBy (called_at extent s) s.next x touched w
        → Agrees extent s.next there (again f (back_by c k (state_of s) next touched steps w))
    backed touched steps (Returned pos cells) h = returned (answer memory x) pos cells touched steps refl h.0 h.1 h.2
    backed touched steps (Turned t) h = tt
    backed touched steps (Failed reason pos trace cells) h = failed (answer memory x) reason pos trace cells touched steps refl h.0 h.1 h.2
    backed touched steps Stuck h = tt

  args_small : (xs : List ℕ) → Each (λ v. v < 2 ^ 64) xs → (k j : ℕ) → Each (λ v. v < 2 ^ 64) (registers_from xs j k)
  args_small xs h zero j = tt
  args_small xs h (suc k) j = (small_at xs h j, args_small xs h k (j + 1))

  own_there : (m k j : ℕ) → IsCellMap c n m k → j < length (routine_of c m).buffers
      → slice_index (map (slice_index own) (drop (routine_of c m).cells (map_of c k))) j
      ≡ slice_index own (slice_index (drop (routine_of c m).cells (map_of c k)) j)
  own_there m k j h l =
      let long = length-drop (routine_of c m).cells (map_of c k) in
      let size = h.size in
      mapped_at (slice_index own) (drop (routine_of c m).cells (map_of c k)) j (omega (arith, l, long, size))

  theirs_fit : (m k : ℕ) → IsCellMap c n m k
      → OwnFits c basis m (places_by places (cells_by c n m k)) (map (slice_index own) (drop (routine_of c m).cells (map_of c k)))
  theirs_fit m k h =
      let xs = map_of c k in
      let a = (routine_of c n).cells in
      let q = (routine_of c m).cells in
      let bs = (routine_of c m).buffers in
      let front = take q xs in
      let behind_them = drop q xs in
      let cells = own_cells a q xs in
      let few : length front ≡ q = length-take-le q xs (let e = h.size in omega (arith, e)) in
      let rest : length behind_them ≡ length bs = (let e = length-drop q xs in let s = h.size in omega (arith, e, s)) in
      let many : length cells ≡ q + 2 * length bs =
      (let e = length-append front (buffer_cells a behind_them) in let b = buffer_count a behind_them in omega (arith, e, b, few, rest)) in
      let at : (i : ℕ) → i < 2 * length bs → slice_index (places_by places cells) (q + i) ≡ slice_index places
      (slice_index (buffer_cells a behind_them) i) = (λ i z.
      mapped_at (slice_index places) cells (q + i) (omega (arith, z, many))
      ∙ ap (slice_index places) (ap (λ x. slice_index cells (x + i)) (sym few) ∙ get_or-append-add front (buffer_cells a behind_them) i 0)) in
      record {
        rooms = λ b l. let g = h.buffers b l in ap (slice_index basis.lengths) (own_there m k b h l) ∙ is.fits.rooms (slice_index behind_them b) g.0 ∙ g.1;
        there = λ b l. let g = h.buffers b l in let e = own_there m k b h l in let t = is.fits.there (slice_index behind_them b) g.0 in omega (arith, e, t);
        cells = λ j l.
            let there : j < length front = omega (arith, l, few) in
            let there_is : slice_index (places_by places cells) j ≡ slice_index places (slice_index front j) = mapped_at (slice_index places) cells j
            (omega (arith, l, many)) ∙ ap (slice_index places) (get_or-append front (buffer_cells a behind_them) 0 j there) in
            let below = is.fits.cells (slice_index front j) (h.numbers j there) in
            omega (arith, there_is, below);
        place = λ b l.
            let g = h.buffers b l in
            at (2 * b) (omega (arith, l)) ∙ ap (slice_index places) (buffer_place a behind_them b (omega (arith, l, rest))) ∙ is.fits.place
            (slice_index behind_them b) g.0
            ∙ ap (λ x. basis.first + 2 * x) (sym (own_there m k b h l));
        count = λ b l.
            let g = h.buffers b l in
            let e : q + 2 * b + 1 ≡ q + (2 * b + 1) = omega arith in
            ap (slice_index (places_by places cells)) e ∙ at (2 * b + 1) (omega (arith, l)) ∙ ap (slice_index places)
            (buffer_size a behind_them b (omega (arith, l, rest))) ∙ is.fits.count (slice_index behind_them b) g.0
            ∙ ap (λ x. basis.first + 2 * x + 1) (sym (own_there m k b h l));
      }

  pub case_call : (f : State → Exit) (pc : ℕ) (rest : Block) (go : Continuation) (around : Labels) (l : pc + 1 < end_of c n)
      (ih : Follows (routine.meaning activation rest go around).0 (exit f (pc + 1)))
      → (first_reg m k site : ℕ) → routine.IsHere activation pc (i.Call first_reg m k site) → m < n → IsCellMap c n m k
      → Follows (routine.meaning activation (statement c n (i.Call first_reg m k site) rest) go around).0 (exit f pc)
  case_call f pc rest go around l ih first_reg m k site a lower cell_map s g =
      let r = run_calls c message places n pc first_reg m k site (state_of s) (state_of s) [] 1
      (record { instruction = i.Call first_reg m k site; there = a.there; within = a.within; is = refl }) l lower in
      let args = registers_from s.regs first_reg (routine_of c m).params in
      let theirs = places_by places (cells_by c n m k) in
      let x = routines m args theirs (map (slice_index own) (drop (routine_of c m).cells (map_of c k))) s in
      let e = block c message m theirs (first_of c m) (entered (routine_of c m) args (state_of s)) in
      let next = block c message n places (pc + 1) in
      let there = bind x (after_routine (site_of c site).ty (spot c site) s (routine.meaning activation rest go around).0) in
      subst (λ y. Agrees extent s.next there (again f y)) (sym r)
      (again_after extent f s.next there [] 1 (ir.back c site (state_of s) next e)
      (backed s g site f (routine.meaning activation rest go around).0 next ih x e.touched e.steps e.way
      (is.below m lower args theirs (map (slice_index own) (drop (routine_of c m).cells (map_of c k))) s (theirs_fit m k cell_map) g
      (args_small s.regs g.regs (routine_of c m).params first_reg))))
