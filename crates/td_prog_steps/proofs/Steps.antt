-- A step of a routine: it goes on, or fails; and the test for room before it.
use Rattle.std.proofs.Common.{◌≡◌, ℕ, ◌+◌, ◌-◌, ◌%◌, ◌^◌, ◌<◌, ◌≤◌, true, false, cond, List, [], ◌∷◌, refl, sym, ap, subst}
use Rattle.std.specs.Prelude.{nat_lt, nat_le, nat_eq}
use Rattle.td_core.specs.declared.outcome.Reason.{Reason}
use Rattle.td_core.specs.declared.outcome.Reason.TheVariants.{NotEnough}
use Rattle.td_core.specs.Outcome.{frame_at}
use Rattle.td_ir.specs.declared.instructions.Instr.{Instr}
use Rattle.td_ir.specs.Tables.{end_of, site_of}
use Rattle.td_ir.specs.State.{State, Failed, Exit, at_once, after}
use Rattle.td_ir.specs.Values.{bit}
use Rattle.td_ir.specs.Flow.{Goes, Fails, Effect, plain, effect}
use Rattle.td_ir.specs.Run.{frame, again, block}
use Rattle.td_ir.proofs.Blocks.{run_goes, run_fails}
use Rattle.td_prog.specs.Tree.{Tree, Done}
use Rattle.td_prog.specs.Values.{Locals}
use Rattle.td_prog.specs.Means.{Out, Refused, framed}
use Rattle.td_prog_code.specs.Instructions.{spot}
use Rattle.td_prog_trees.specs.Agree.{state_of, IsGood, Agrees}
use Rattle.td_prog_trees.proofs.Composing.{by_cases, again_after}
use Rattle.td_prog_steps.proofs.Goods.{cut_is, room_test, has_room, start_small, end_small}
use Rattle.td_prog_steps.proofs.Activation.{Activation, IsActive}
use Rattle.td_prog_steps.proofs.Activation as routine

module _ (activation : Activation) (is : IsActive activation) where
  open activation use {extent, code as c, number as n, places}
  open extent use {basis}
  open basis use {message}

  abbrev exit : (State → Exit) → ℕ → State → Exit
  exit f pc s = routine.exit activation f pc s

  abbrev IsHere : ℕ → Instr → Type 0
  IsHere pc j = routine.IsHere activation pc j

  abbrev Ok : Locals → Tree Out → Exit → Type 0
  Ok s x e = Agrees extent s.next x e

  pub goes_on : (f : State → Exit) (pc target : ℕ) (j : Instr) (s : Locals) (t : State) (touched : List ℕ) (steps : ℕ) (x : Tree Out) → IsHere pc j
      → pc < target → target < end_of c n
      → effect c n message places pc j (state_of s) ≡ record { flow = Goes target t; touched = touched; steps = steps }
      → Ok s x (after touched steps (exit f target t)) → Ok s x (exit f pc (state_of s))
  goes_on f pc target j s t touched steps x a l m e h =
      let r = run_goes c message places n pc target (state_of s) t touched steps
      (record { instruction = j; there = a.there; within = a.within; is = e }) l m in
      subst (λ y. Ok s x (again f y)) (sym r) (again_after extent f s.next x touched steps (block c message n places target t) h)

  pub fails : (f : State → Exit) (pc : ℕ) (j : Instr) (s : Locals) (t : State) (reason : Reason) (site pos : ℕ) (touched : List ℕ) (steps : ℕ)
      (x : Tree Out)
      → IsHere pc j
      → effect c n message places pc j (state_of s) ≡ record { flow = Fails reason site pos t; touched = touched; steps = steps }
      → Ok s x (after touched steps (at_once (Failed reason pos (frame c site t reason ∷ []) t.cells))) → Ok s x (exit f pc (state_of s))
  fails f pc j s t reason site pos touched steps x a e h =
      let r = run_fails c message places n pc reason site pos (state_of s) t touched steps
      (record { instruction = j; there = a.there; within = a.within; is = e }) in
      subst (λ y. Ok s x (again f y)) (sym r) h

  -- where a function fails with a reason, at a position
  abbrev pub failed_at : Reason → ℕ → ℕ → Locals → Tree Out
  failed_at reason pos site s = Done (Refused reason (pos % 2 ^ 32) (framed [] (site_of c site).ty (spot c site) reason s.start) s)

  pub failed_there : (reason : Reason) (pos site : ℕ) (s : Locals) → pos < 2 ^ 32 → s.start < 2 ^ 32
      → Ok s (failed_at reason pos site s) (at_once (Failed reason pos (frame c site (state_of s) reason ∷ []) s.cells))
  failed_there reason pos site s h k = (
    (
      refl,
      cut_is pos h,
      ap (λ p. frame_at (record { ty = (site_of c site).ty; field = spot c site; start = p }) reason ∷ [])
          (cut_is s.start k),
      refl,
    ),
    refl,
    tt,
  )

  -- where it fails at its start
  abbrev pub failed : Reason → ℕ → Locals → Tree Out
  failed reason site s = failed_at reason s.start site s

  pub failed_ok : (reason : Reason) (site : ℕ) (s : Locals) → IsGood extent s
      → Ok s (failed reason site s) (at_once (Failed reason s.start (frame c site (state_of s) reason ∷ []) s.cells))
  failed_ok reason site s g = failed_there reason s.start site s (start_small extent s is.within g) (start_small extent s is.within g)

  -- Room: the test of C, before what follows where there is room
  pub with_room : (f : State → Exit) (pc v site : ℕ) (j : Instr) (s : Locals) (e : Effect) (x : Tree Out) → IsHere pc j → IsGood extent s
      → effect c n message places pc j (state_of s) ≡ cond (nat_le (s.pos + v) s.end) e (plain (Fails NotEnough site s.start (state_of s)))
      → (effect c n message places pc j (state_of s) ≡ e → s.pos + v ≤ s.end → Ok s x (exit f pc (state_of s)))
      → Ok s (cond (nat_eq (bit (nat_lt ((s.end + (2 ^ 64 - s.pos)) % 2 ^ 64) v)) 0) x (failed NotEnough site s)) (exit f pc (state_of s))
  with_room f pc v site j s e x a g m h =
      subst (λ t. Ok s (cond (nat_eq (bit t) 0) x (failed NotEnough site s)) (exit f pc (state_of s)))
      (sym (room_test s.pos v s.end g.within (end_small extent s is.within g)))
      (by_cases
      (λ b.
      effect c n message places pc j (state_of s) ≡ cond b e (plain (Fails NotEnough site s.start (state_of s)))
      → Ok s (cond (nat_eq (bit (cond b false true)) 0) x (failed NotEnough site s)) (exit f pc (state_of s)))
      (nat_le (s.pos + v) s.end)
      (λ q is_e. h is_e (has_room s.pos v s.end q))
      (λ q is_failure. fails f pc j s (state_of s) NotEnough site s.start [] 1 (failed NotEnough site s) a is_failure (failed_ok NotEnough site s g)) m)
