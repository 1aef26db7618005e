-- The instruction Zeros.
use Rattle.std.proofs.Common.{◌≡◌, ℕ, zero, suc, ◌+◌, ◌-◌, ◌%◌, ◌^◌, ◌<◌, ◌≤◌, inl, true, false, cond, List, [], ◌∷◌, Option, Some, None, refl, sym, ap, ◌∙◌, subst, arith}
use Rattle.std.specs.Prelude.{nat_eq}
use Rattle.std.proofs.lemmas.Bool.{ne_eqb}
use Rattle.td_num.specs.Numbers.{places_from, rising_at}
use Rattle.td_num.specs.Lists.{first_where, looked_at, one_more}
use Rattle.td_num.proofs.Truths.{is_eq}
use Rattle.td_core.specs.declared.outcome.Reason.TheVariants.{Padding}
use Rattle.td_ir.specs.declared.instructions.Instr.{Instr}
use Rattle.td_ir.specs.declared.instructions.Instr.TheVariants as i
use Rattle.td_ir.specs.Tables.{end_of}
use Rattle.td_ir.specs.State.{State, left, at_pos, Failed, Exit, at_once, after}
use Rattle.td_ir.specs.Values.{numbers_from, is_nonzero}
use Rattle.td_ir.specs.Flow.{zeros_flow}
use Rattle.td_ir.specs.Run.{frame}
use Rattle.td_prog.specs.Tree.{Tree, bind}
use Rattle.td_prog.specs.Syntax.{Pos, End, Number, Ne, Num, Get, Binary, Block, Ends, If, CallHelper}
use Rattle.td_prog.specs.Values.{Locals, value}
use Rattle.td_prog.specs.Means.{Out, Continuation, Labels, after_helper, turns}
use Rattle.td_prog_code.specs.Prelude.{number_helper, little_helper}
use Rattle.td_prog_code.specs.Instructions.{statement, taken, failure}
use Rattle.td_prog_trees.specs.Agree.{state_of, IsGood, Agrees, IsOnward}
use Rattle.td_prog_trees.proofs.Composing.{by_cases, Leads, agrees_after}
use Rattle.td_prog_trees.proofs.Leading.{asked, taken_leads, reached_near}
use Rattle.td_prog_steps.proofs.Goods.{sum_is, start_small, end_small, good_passed}
use Rattle.td_prog_steps.proofs.Activation.{Activation, IsActive}
use Rattle.td_prog_steps.proofs.Activation as routine
use Rattle.td_prog_steps.proofs.Steps.{goes_on, fails, failed_at, failed_there}

module _ (activation : Activation) (is : IsActive activation) where
  open activation use {extent, code as c, number as n, places, limit, helpers}
  open extent use {memory, numbering, basis}
  open numbering use {word}
  open basis use {message}

  abbrev exit : (State → Exit) → ℕ → State → Exit
  exit f pc s = routine.exit activation f pc s

  abbrev begin : Block → Continuation → Labels → Continuation
  begin b go around = (routine.meaning activation b go around).0

  abbrev IsHere : ℕ → Instr → Type 0
  IsHere pc j = routine.IsHere activation pc j

  abbrev Follows : Continuation → (State → Exit) → Type 0
  Follows go f = IsOnward extent go f

  -- Zeros
  module _ (site : ℕ) (behind_it : Continuation) (g : State → Exit) (ih : Follows behind_it g) where
    abbrev turn : Block
    turn = CallHelper Number (little_helper 1) (Get Pos ∷ []) [] (If (Get Number) (failure c n Padding (Get Pos) site Ends) (taken (Num 1) Ends))

    abbrev looping : ℕ → Continuation
    looping m = turns m (value places (Binary Ne (Get Pos) (Get End))) (λ again. (routine.meaning activation turn again []).0) behind_it

    -- up to the first of so many bytes that isn't zero
    abbrev found : Locals → ℕ → Option ℕ
    found s k = first_where is_nonzero (numbers_from message s.pos 1 k)

    abbrev way_on : Locals → Option ℕ → Exit
    way_on s None = g (at_pos (state_of s) s.end)
    way_on s (Some j) = at_once (Failed Padding (s.pos + j) (frame c site (state_of s) Padding ∷ []) s.cells)

    abbrev scanned : Locals → ℕ → Option ℕ → Exit
    scanned s k o = after (places_from s.pos (looked_at o k)) 0 (way_on s o)

    -- one byte further
    next_one : (s t : Locals) (k : ℕ) (o : Option ℕ) → t.pos ≡ s.pos + 1 → t.end ≡ s.end → t.start ≡ s.start → t.cells ≡ s.cells
        → state_of t ≡ at_pos (state_of s) (s.pos + 1)
        → (y : Tree Out) (next : ℕ) → Agrees extent next y (after (s.pos ∷ []) 0 (scanned t k o)) → Agrees extent next y (scanned s (suc k) (one_more o))
    next_one s t k None ep ee es ec et y next h =
        subst (λ p. Agrees extent next y (after (s.pos ∷ places_from p k) 0 (g (at_pos (state_of s) s.end)))) ep
        (subst (λ u. Agrees extent next y (after (s.pos ∷ places_from t.pos k) 0 (g u))) (λ i. record (et i) { pos = ee i }) h)
    next_one s t k (Some j) ep ee es ec et y next h =
        let e : t.pos + j ≡ s.pos + suc j = omega (arith, ep) in
        subst (λ p. Agrees extent next y
        (after (s.pos ∷ places_from p (suc j)) 0 (at_once (Failed Padding (s.pos + suc j) (frame c site (state_of s) Padding ∷ []) s.cells)))) ep
        (subst (λ (z : ℕ × ℕ × List ℕ). Agrees extent next y
        (after (s.pos ∷ places_from t.pos (suc j)) 0 (at_once (Failed Padding z.0 (frame c site (record (state_of s) { start = z.1 }) Padding ∷ []) z.2))))
        (λ i. (e i, es i, ec i)) h)

    abbrev ZerosRight : ℕ → ℕ → Type 0
    ZerosRight k m = (s : Locals) → IsGood extent s → s.end - s.pos ≡ k → Agrees extent s.next (looping m s) (scanned s k (found s k))

    one_zero : (k m : ℕ) → ZerosRight k m → ZerosRight (suc k) (suc m)
    one_zero k m rec s u e =
        subst (λ b. Agrees extent s.next (cond (nat_eq (cond b 0 1) 0) (behind_it s) tree) (scanned s (suc k) (found s (suc k)))) (sym apart)
        (by_cases (λ b. Agrees extent s.next tree (scanned s (suc k) (cond (cond b false true) (Some 0) (one_more later))))
        (nat_eq v 0) zero_there other_there)
      where
        apart : nat_eq s.pos s.end ≡ false
        apart = ne_eqb s.pos s.end (λ q. omega (arith, e, q))

        there : s.pos + 1 ≤ s.end
        there = omega (arith, e)

        asking : Tree Out
        asking = helpers (number_helper 0 1) (s.pos ∷ []) [] s

        onward : Continuation
        onward = (routine.meaning activation (If (Get Number) (failure c n Padding (Get Pos) site Ends) (taken (Num 1) Ends)) (looping m) []).0

        tree : Tree Out
        tree = bind asking (after_helper Number s onward)

        v : ℕ
        v = rising_at message s.pos 1

        q : ℕ
        q = word (s.pos + 1 - 1)

        seen : (v p : ℕ) → Locals
        seen v p = record s { next = q + 1; held = memory q; number = v; pos = p }

        led : Leads extent s.next (q + 1) tree (onward (seen v s.pos)) (places_from s.pos 1)
        led =
            let r = reached_near numbering s.pos in
            let near : s.next ≤ word s.pos + 1 = omega (arith, u.ahead, r) in
            let t = is.reads.number 0 1 s.pos s (inl refl) (omega (arith, there, u.window, u.short, is.within.inside)) near u.held in
            subst (λ y. Leads extent s.next (q + 1) tree y (places_from s.pos 1)) (λ i. onward (record (t.then i) { number = v }))
            (asked extent s.next (q + 1) asking v t.final s Number onward (places_from s.pos 1)
            (taken_leads extent s asking s.pos 1 v t (omega arith) near (omega (arith, there, u.window, u.short))))

        whole : (s.pos + 1) % 2 ^ 64 ≡ s.pos + 1
        whole = sum_is s.pos 1 (let m = end_small extent s is.within u in omega (arith, there, m))

        failing : Tree Out
        failing = failed_at activation is Padding s.pos site (seen v s.pos)

        -- where the first of the bytes behind this one stands that isn't zero
        later : Option ℕ
        later = first_where is_nonzero (numbers_from message (s.pos + 1) 1 k)

        zero_there : nat_eq v 0 ≡ true → Agrees extent s.next tree (scanned s (suc k) (one_more later))
        zero_there z =
            let t = seen v (s.pos + 1) in
            let good = good_passed extent s 1 v s.most s.room (omega arith) there u in
            next_one s t k (found t k) refl refl refl refl refl tree s.next
            (agrees_after extent s.next (q + 1) tree (looping m t) (places_from s.pos 1) 0 (scanned t k (found t k))
            (subst (λ y. Leads extent s.next (q + 1) tree y (places_from s.pos 1))
            (ap (λ b. cond b (looping m (seen v ((s.pos + 1) % 2 ^ 64))) failing) z ∙ ap (λ p. looping m (seen v p)) whole) led)
            (rec t good (omega (arith, e))))

        other_there : nat_eq v 0 ≡ false → Agrees extent s.next tree (scanned s (suc k) (Some 0))
        other_there z =
            let at : s.pos ≡ s.pos + 0 = omega arith in
            subst (λ p. Agrees extent s.next tree
            (after (places_from s.pos 1) 0 (at_once (Failed Padding p (frame c site (state_of s) Padding ∷ []) s.cells)))) at
            (agrees_after extent s.next (q + 1) tree failing (places_from s.pos 1) 0
            (at_once (Failed Padding s.pos (frame c site (state_of s) Padding ∷ []) s.cells))
            (subst (λ y. Leads extent s.next (q + 1) tree y (places_from s.pos 1))
            (ap (λ b. cond b (looping m (seen v ((s.pos + 1) % 2 ^ 64))) failing) z) led)
            (failed_there activation is Padding s.pos site (seen v s.pos) (let m = end_small extent s is.within u in omega (arith, there, m))
            (start_small extent s is.within u)))

    no_zero : (m : ℕ) → ZerosRight zero (suc m)
    no_zero m s u e =
        let same : s.pos ≡ s.end = omega (arith, e, u.within) in
        let equal : nat_eq s.pos s.end ≡ true = is_eq s.pos s.end same in
        subst (λ b. Agrees extent s.next (cond (nat_eq (cond b 0 1) 0) (behind_it s) ((routine.meaning activation turn (looping m) []).0 s))
        (scanned s 0 None)) (sym equal)
        (subst (λ p. Agrees extent s.next (behind_it s) (g (at_pos (state_of s) p))) same (ih s u))

    zeros_right : (k m : ℕ) → suc k ≤ m → ZerosRight k m
    zeros_right k zero h s u e = absurd (omega (arith, h))
    zeros_right zero (suc m) h s u e = no_zero m s u e
    zeros_right (suc k) (suc m) h s u e = one_zero k m (λ t v w. zeros_right k m (omega (arith, h)) t v w) s u e

  module _ (f : State → Exit) (pc : ℕ) (rest : Block) (go : Continuation) (around : Labels) (l : pc + 1 < end_of c n)
      (ih : Follows (begin rest go around) (exit f (pc + 1))) where
    pub case_zeros : (site : ℕ) → IsHere pc (i.Zeros site) → Follows (begin (statement c n (i.Zeros site) rest) go around) (exit f pc)
    case_zeros site a s u = by (first_where is_nonzero (numbers_from message s.pos 1 (left (state_of s)))) refl
        (zeros_right site (begin rest go around) (exit f (pc + 1)) ih (s.end - s.pos) limit
        (omega (arith, u.window, u.short, is.enough, is.within.inside)) s u refl)
      where
        tree : Tree Out
        tree = begin (statement c n (i.Zeros site) rest) go around s

        by : (o : Option ℕ) → first_where is_nonzero (numbers_from message s.pos 1 (left (state_of s))) ≡ o
            → Agrees extent s.next tree
            (scanned site (begin rest go around) (exit f (pc + 1)) ih s (s.end - s.pos)
            (first_where is_nonzero (numbers_from message s.pos 1 (left (state_of s)))))
            → Agrees extent s.next tree (exit f pc (state_of s))
        by None e h =
            let k = s.end - s.pos in
            goes_on activation is f pc (pc + 1) (i.Zeros site) s (at_pos (state_of s) s.end) (places_from s.pos k) (1 + k) tree a (omega arith) l
            (λ i. record {
              flow = zeros_flow (pc + 1) site (e i) (state_of s);
              touched = places_from s.pos (looked_at (e i) k);
              steps = 1 + looked_at
                  (e i) k;
            })
            (subst (λ o. Agrees extent s.next tree (scanned site (begin rest go around) (exit f (pc + 1)) ih s k o)) e h)
        by (Some j) e h =
            let k = s.end - s.pos in
            fails activation is f pc (i.Zeros site) s (state_of s) Padding site (s.pos + j) (places_from s.pos (suc j)) (1 + suc j) tree a
            (λ i. record {
              flow = zeros_flow (pc + 1) site (e i) (state_of s);
              touched = places_from s.pos (looked_at (e i) k);
              steps = 1 + looked_at
                  (e i) k;
            })
            (subst (λ o. Agrees extent s.next tree (scanned site (begin rest go around) (exit f (pc + 1)) ih s k o)) e h)
