-- Loops, turn by turn.
use Rattle.std.proofs.Common.{◌≡◌, ℕ, zero, suc, ◌+◌, ◌<◌, ◌≤◌, ◌&&◌, cond, List, [], refl, sym, ap, subst, arith}
use Rattle.std.specs.Prelude.{nat_lt, nat_eq, Option}
use Rattle.std.proofs.lemmas.Bool.{ltb-true}
use Rattle.td_num.proofs.Truths.{both_true, eq_is}
use Rattle.td_ir.specs.declared.instructions.Instr.TheVariants as i
use Rattle.td_ir.specs.Tables.{end_of}
use Rattle.td_ir.specs.State.{State, left, Way, Returned, Turned, Failed, Stuck, Exit, at_once, after}
use Rattle.td_ir.specs.Run.{again, again_by, block}
use Rattle.td_ir.specs.Run as ir
use Rattle.td_ir.proofs.Blocks.{run_loops}
use Rattle.td_prog.specs.Tree.{Tree}
use Rattle.td_prog.specs.Syntax.{Pos, End, Ne, Get, Binary, Block}
use Rattle.td_prog.specs.Values.{Locals, value}
use Rattle.td_prog.specs.Means.{Out, Continuation, turns}
use Rattle.td_prog_trees.specs.Agree.{state_of, IsGood, Agrees, IsOnward}
use Rattle.td_prog_steps.specs.Laid.{IsBusy}
use Rattle.td_prog_trees.proofs.Composing.{again_after, again_again, by_cases}
use Rattle.td_prog_steps.proofs.Activation.{Activation, IsActive}
use Rattle.td_prog_steps.proofs.Activation as routine

-- what is done after each turn that can end is the same
same_again : (f g : State → Exit) (touched : List ℕ) (steps : ℕ) (w : Way) → ((t : State) → w ≡ Turned t → f t ≡ g t)
    → again_by f touched steps w ≡ again_by g touched steps w
same_again f g touched steps (Returned pos cells) h = refl
same_again f g touched steps (Turned t) h = ap (after touched (steps + 1)) (h t refl)
same_again f g touched steps (Failed reason pos trace cells) h = refl
same_again f g touched steps Stuck h = refl

module _ (activation : Activation) (is : IsActive activation) where
  open activation use {extent, code as c, number as n, places, own, limit, routines}
  open extent use {memory, basis, to}
  open basis use {message}

  abbrev exit : (State → Exit) → ℕ → State → Exit
  exit f pc s = routine.exit activation f pc s

  abbrev Follows : Continuation → (State → Exit) → Type 0
  Follows go f = IsOnward extent go f

  -- a block does what the code from a place on does, whatever follows it
  abbrev pub Runs : Block → ℕ → Type 0
  Runs b q = (go : Continuation) (f : State → Exit) → Follows go f → Follows (routine.meaning activation b go []).0 (exit f q)

  module _ (pc target : ℕ) (inner : Block) (behind : Continuation) (f : State → Exit) (busy : IsBusy c message places n pc) (runs : Runs inner (pc + 1))
      (rest : Follows behind (exit f target)) where
    abbrev body : State → Exit
    body s = block c message n places (pc + 1) s

    abbrev after_it : State → Exit
    after_it s = block c message n places target s

    abbrev test : Locals → Option ℕ
    test s = value places (Binary Ne (Get Pos) (Get End)) s

    abbrev looping : ℕ → Continuation
    looping m = turns m test (λ again. (routine.meaning activation inner again []).0) behind

    -- after a turn: only where it took a byte
    abbrev turned : ℕ → Locals → State → Exit
    turned k s t = cond (nat_lt s.pos t.pos && nat_eq t.end s.end) (again f (ir.turns k body after_it t)) (at_once Stuck)

    abbrev TurnsRight : ℕ → ℕ → Type 0
    TurnsRight k m =
        (s : Locals) → IsGood extent s → left (state_of s) < k → Agrees extent s.next (looping m s) (again f (ir.turns k body after_it (state_of s)))

    one_turn : (k m : ℕ) → TurnsRight k m → TurnsRight (suc k) (suc m)
    one_turn k m ih s g l =
        by_cases
        (λ b.
        Agrees extent s.next (cond (nat_eq (cond b 0 1) 0) (behind s) (ran s))
        (again f (cond b (after_it (state_of s)) (again (ir.turns k body after_it) (body (state_of s))))))
        (nat_eq s.pos s.end) (λ e. rest s g) (λ e. turn g.within)
      where
        onward : Follows (looping m) (turned k s)
        onward t u =
            by_cases (λ b. Agrees extent t.next (looping m t) (cond b (again f (ir.turns k body after_it (state_of t))) (at_once Stuck)))
            (nat_lt s.pos t.pos && nat_eq t.end s.end)
            (λ e.
            let p = both_true (nat_lt s.pos t.pos) (nat_eq t.end s.end) e in
            let further : s.pos < t.pos = ltb-true s.pos t.pos p.0 in
            let same : t.end ≡ s.end = eq_is t.end s.end p.1 in
            ih t u (omega (arith, further, same, l, u.within)))
            (λ e. tt)

        ran : Locals → Tree Out
        ran s = (routine.meaning activation inner (looping m) []).0 s

        turn : s.pos ≤ s.end → Agrees extent s.next (ran s) (again f (again (ir.turns k body after_it) (body (state_of s))))
        turn within =
            let b = body (state_of s) in
            let h = runs (looping m) (turned k s) onward s g in
            let same = same_again (turned k s) (λ t. again f (ir.turns k body after_it t)) b.touched b.steps b.way
            (λ t w. ap (λ v. cond v (again f (ir.turns k body after_it t)) (at_once Stuck)) (busy (state_of s) t within g.window w)) in
            again_again extent f (ir.turns k body after_it) s.next (ran s) b (subst (λ y. Agrees extent s.next (ran s) y) same h)

    turns_right : (k m : ℕ) → k ≤ m → TurnsRight k m
    turns_right zero m h s g l = absurd (omega (arith, l))
    turns_right (suc k) zero h s g l = absurd (omega (arith, h))
    turns_right (suc k) (suc m) h s g l = one_turn k m (λ t u v. turns_right k m (omega (arith, h)) t u v) s g l

    pub case_while : routine.IsHere activation pc (i.While target) → pc + 1 < target → target < end_of c n → Follows (looping limit) (exit f pc)
    case_while a l m s g =
        let r = run_loops c message places n pc target (state_of s) (state_of s) [] 1
        (record { instruction = i.While target; there = a.there; within = a.within; is = refl }) l m in
        let k = suc (left (state_of s)) in
        subst (λ y. Agrees extent s.next (looping limit s) (again f y)) (sym r)
        (again_after extent f s.next (looping limit s) [] 1 (ir.turns k body after_it (state_of s))
        (turns_right k limit (omega (arith, g.window, g.short, is.enough, is.within.inside)) s g (omega arith)))
