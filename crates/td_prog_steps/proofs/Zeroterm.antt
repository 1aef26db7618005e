-- The instruction Zeroterm.
use Rattle.std.proofs.Common.{◌≡◌, ℕ, zero, suc, ◌+◌, ◌-◌, ◌*◌, ◌/◌, ◌%◌, ◌^◌, ◌<◌, ◌≤◌, true, false, cond, min, List, [], ◌∷◌, ◌++◌, append_assoc, Option, Some, None, refl, sym, ap, ◌∙◌, subst, arith, slice_index}
use Rattle.std.specs.Prelude.{nat_le, nat_eq}
use Rattle.std.proofs.lemmas.Bool.{lt-leb, ne_eqb}
use Rattle.std.proofs.Math.Dec.{leb-zero}
use Rattle.td_num.specs.Numbers.{places_from, rising_at}
use Rattle.td_num.specs.Lists.{first_where, looked_at, one_more}
use Rattle.td_num.proofs.Equals.{next_product}
use Rattle.td_core.specs.declared.outcome.Reason.TheVariants.{NotEnough, Constraint}
use Rattle.td_ir.specs.declared.instructions.Instr.{Instr}
use Rattle.td_ir.specs.declared.instructions.Instr.TheVariants as i
use Rattle.td_ir.specs.Tables.{end_of}
use Rattle.td_ir.specs.State.{State, at_pos, Failed, Exit, at_once, after}
use Rattle.td_ir.specs.Values.{bit, numbers_from, is_zero}
use Rattle.td_ir.specs.Flow.{zeroterm_flow}
use Rattle.td_ir.specs.Run.{frame}
use Rattle.td_verify.specs.Operands.{IsWidth}
use Rattle.td_prog.specs.Tree.{Tree, bind}
use Rattle.td_prog.specs.Syntax.{Pos, Number, Most, Room, Sub, Eq, Num, Get, Binary, Block, Ends, Assign, CallHelper}
use Rattle.td_prog.specs.Values.{Locals, value}
use Rattle.td_prog.specs.Means.{Out, Continuation, Labels, given, after_helper, turns}
use Rattle.td_prog_code.specs.Prelude.{number_helper, little_helper}
use Rattle.td_prog_code.specs.Instructions.{statement, taken, fails as fails_block}
use Rattle.td_prog_trees.specs.Agree.{state_of, IsGood, AgreesBy, Agrees, IsOnward}
use Rattle.td_prog_trees.proofs.Composing.{by_cases, Leads, agrees_after}
use Rattle.td_prog_trees.proofs.Numbers.{quotient_small}
use Rattle.td_prog_trees.proofs.Fetching.{some_width}
use Rattle.td_prog_trees.proofs.Leading.{asked, taken_leads, reached_near, places_split}
use Rattle.td_prog_steps.proofs.Goods.{small_at, left_is, sum_is, start_small, end_small, good_passed, good_counted}
use Rattle.td_prog_steps.proofs.Activation.{Activation, IsActive}
use Rattle.td_prog_steps.proofs.Activation as routine
use Rattle.td_prog_steps.proofs.Steps.{goes_on, fails, failed_at, failed_there}

module _ (activation : Activation) (is : IsActive activation) where
  open activation use {extent, code as c, number as n, places, limit, helpers}
  open extent use {memory, numbering, basis}
  open numbering use {word}
  open basis use {message}

  abbrev exit : (State → Exit) → ℕ → State → Exit
  exit f pc s = routine.exit activation f pc s

  abbrev begin : Block → Continuation → Labels → Continuation
  begin b go around = (routine.meaning activation b go around).0

  abbrev IsHere : ℕ → Instr → Type 0
  IsHere pc j = routine.IsHere activation pc j

  abbrev Follows : Continuation → (State → Exit) → Type 0
  Follows go f = IsOnward extent go f

  le_times : (b w : ℕ) → 0 < w → b ≤ b * w
  le_times b zero h = absurd (omega (arith, h))
  le_times b (suc w) h = let e : b * suc w ≡ b + b * w = grind arith in omega (arith, e)

  times_whole : (n w : ℕ) → n / w * w ≤ n
  times_whole n w = grind arith

  min_zero : (b : ℕ) → min 0 b ≡ 0
  min_zero b = grind arith

  min_none : (a : ℕ) → min (suc a) 0 ≡ 0
  min_none a = grind arith

  min_more : (a b : ℕ) → min (suc a) (suc b) ≡ suc (min a b)
  min_more a b = grind arith

  le_more : (a b : ℕ) → nat_le (suc a) (suc b) ≡ nat_le a b
  le_more a b =
      by_cases (λ v. nat_le (suc a) (suc b) ≡ v) (nat_le a b)
      (λ e. let h : a ≤ b = grind (arith, e) in let k : nat_le (suc a) (suc b) ≡ true = grind (arith, h) in k)
      (λ e. let h : b < a = grind (arith, e) in let k : nat_le (suc a) (suc b) ≡ false = grind (arith, h) in k)

  no_times : (w : ℕ) → 0 ≡ 0 * w
  no_times w = omega arith

  always : (b : ℕ) → nat_le 0 b ≡ true
  always b = leb-zero b

  never : (a : ℕ) → nat_le (suc a) 0 ≡ false
  never a = lt-leb (suc a) 0 (omega arith)

  regroup : (next : ℕ) (y : Tree Out) (xs ys : List ℕ) (e : Exit) → Agrees extent next y (after xs 0 (after ys 0 e))
      → Agrees extent next y (after (xs ++ ys) 0 e)
  regroup next y xs ys e h = subst (λ zs. AgreesBy extent next y zs e.way) (sym (append_assoc xs ys e.touched)) h

  suc_not : (a : ℕ) → nat_eq (suc a) 0 ≡ false
  suc_not a = ne_eqb (suc a) 0 (λ q. omega (arith, q))

  less_one : (a : ℕ) → a < 2 ^ 64 → (suc a + (2 ^ 64 - 1)) % 2 ^ 64 ≡ a
  less_one a h = omega (arith, h)

  -- Zeroterm
  module _ (site w : ℕ) (wide : IsWidth w) (behind_it : Continuation) (g : State → Exit) (ih : Follows behind_it g) where
    abbrev round : Block
    round =
        fails_block c n (Binary Eq (Get Most) (Num 0)) Constraint site
        (fails_block c n (Binary Eq (Get Room) (Num 0)) NotEnough site
        (CallHelper Number (little_helper w) (Get Pos ∷ []) []
        (taken (Num w)
        (Assign Most (Binary Sub (Get Most) (Num 1))
        (Assign Room (Binary Sub (Get Room) (Num 1))
        Ends)))))

    abbrev rounds : ℕ → Continuation
    rounds m = turns m (value places (Get Number)) (λ again. (routine.meaning activation round again []).0) behind_it

    abbrev counted : Locals → (a b v : ℕ) → Locals
    counted s a b v = record s { most = a; room = b; number = v }

    abbrev zero_at : Locals → ℕ → Option ℕ
    zero_at s k = first_where is_zero (numbers_from message s.pos w k)

    abbrev term_way : Locals → (a b : ℕ) → Option ℕ → Exit
    term_way s a b None =
        at_once (Failed (cond (nat_le a b) Constraint NotEnough) s.start (frame c site (state_of s) (cond (nat_le a b) Constraint NotEnough) ∷ []) s.cells)
    term_way s a b (Some k) = g (at_pos (state_of s) (s.pos + suc k * w))

    abbrev sought : Locals → (a b k : ℕ) → Option ℕ → Exit
    sought s a b k o = after (places_from s.pos (looked_at o k * w)) 0 (term_way s a b o)

    abbrev TermRight : (a b m : ℕ) → Type 0
    TermRight a b m = (s : Locals) (v : ℕ) → IsGood extent s → nat_eq v 0 ≡ false → a < 2 ^ 64 → b * w ≤ s.end - s.pos
        → Agrees extent s.next (rounds m (counted s a b v)) (sought s a b (min a b) (zero_at s (min a b)))

    -- no more elements are allowed, and there is room for no more
    none_allowed : (b m : ℕ) → TermRight 0 b (suc m)
    none_allowed b m s v u some la lb =
        subst (λ x. Agrees extent s.next (cond x (behind_it (counted s 0 b v)) (failed_at activation is Constraint s.start site (counted s 0 b v)))
        (sought s 0 b (min 0 b) (zero_at s (min 0 b)))) (sym some)
        (subst (λ k. Agrees extent s.next (failed_at activation is Constraint s.start site (counted s 0 b v)) (sought s 0 b k (zero_at s k)))
        (sym (min_zero b))
        (subst (λ k. Agrees extent s.next (failed_at activation is Constraint s.start site (counted s 0 b v))
        (after (places_from s.pos k) 0 (term_way s 0 b None))) (no_times w)
        (subst (λ x. Agrees extent s.next (failed_at activation is Constraint s.start site (counted s 0 b v))
        (at_once (Failed (cond x Constraint NotEnough) s.start (frame c site (state_of s) (cond x Constraint NotEnough) ∷ []) s.cells))) (sym (always b))
        (failed_there activation is Constraint s.start site (counted s 0 b v) (start_small extent s is.within u) (start_small extent s is.within u)))))

    none_left : (a m : ℕ) → TermRight (suc a) 0 (suc m)
    none_left a m s v u some la lb =
        subst (λ x. Agrees extent s.next (cond x (behind_it (counted s (suc a) 0 v)) more)
        (sought s (suc a) 0 (min (suc a) 0) (zero_at s (min (suc a) 0)))) (sym some)
        (subst (λ x. Agrees extent s.next (cond (nat_eq (bit x) 0) failing (failed_at activation is Constraint s.start site (counted s (suc a) 0 v)))
        (sought s (suc a) 0 (min (suc a) 0) (zero_at s (min (suc a) 0)))) (sym (suc_not a))
        (subst (λ k. Agrees extent s.next failing (sought s (suc a) 0 k (zero_at s k))) (sym (min_none a))
        (subst (λ k. Agrees extent s.next failing (after (places_from s.pos k) 0 (term_way s (suc a) 0 None))) (no_times w)
        (subst (λ x. Agrees extent s.next failing
        (at_once (Failed (cond x Constraint NotEnough) s.start (frame c site (state_of s) (cond x Constraint NotEnough) ∷ []) s.cells))) (sym (never a))
        (failed_there activation is NotEnough s.start site (counted s (suc a) 0 v) (start_small extent s is.within u)
        (start_small extent s is.within u))))))
      where
        failing : Tree Out
        failing = failed_at activation is NotEnough s.start site (counted s (suc a) 0 v)

        more : Tree Out
        more = cond (nat_eq (bit (nat_eq (suc a) 0)) 0) failing (failed_at activation is Constraint s.start site (counted s (suc a) 0 v))

    -- an element further
    next_element : (s t : Locals) (a b k : ℕ) (o : Option ℕ) → t.pos ≡ s.pos + w → t.start ≡ s.start → t.cells ≡ s.cells
        → state_of t ≡ at_pos (state_of s) (s.pos + w)
        → (y : Tree Out) (next : ℕ) → Agrees extent next y (after (places_from s.pos w) 0 (sought t a b k o))
        → Agrees extent next y (sought s (suc a) (suc b) (suc k) (one_more o))
    next_element s t a b k None ep es ec et y next h =
        let e : w + k * w ≡ suc k * w = sym (next_product k w) in
        subst (λ ps. Agrees extent next y (after ps 0 (term_way s (suc a) (suc b) None)))
        (ap (λ p. places_from s.pos w ++ places_from p (k * w)) ep ∙ sym (places_split s.pos w (k * w)) ∙ ap (places_from s.pos) e)
        (subst (λ x. Agrees extent next y
        (after (places_from s.pos w ++ places_from t.pos (k * w)) 0
        (at_once (Failed (cond x Constraint NotEnough) s.start (frame c site (state_of s) (cond x Constraint NotEnough) ∷ []) s.cells))))
        (sym (le_more a b))
        (subst (λ (z : ℕ × List ℕ). Agrees extent next y (after (places_from s.pos w ++ places_from t.pos (k * w)) 0
        (at_once (Failed (cond (nat_le a b) Constraint NotEnough) z.0
        (frame c site (record (state_of s) { start = z.0 }) (cond (nat_le a b) Constraint NotEnough) ∷ []) z.1)))) (λ i. (es i, ec i))
        (regroup next y (places_from s.pos w) (places_from t.pos (k * w)) (term_way t a b None) h)))
    next_element s t a b k (Some j) ep es ec et y next h =
        let e : w + suc j * w ≡ suc (suc j) * w = sym (next_product (suc j) w) in
        let p : t.pos + suc j * w ≡ s.pos + suc (suc j) * w = (let q = next_product (suc j) w in omega (arith, ep, q)) in
        subst (λ ps. Agrees extent next y (after ps 0 (g (at_pos (state_of s) (s.pos + suc (suc j) * w)))))
        (ap (λ p. places_from s.pos w ++ places_from p (suc j * w)) ep ∙ sym (places_split s.pos w (suc j * w)) ∙ ap (places_from s.pos) e)
        (subst (λ x. Agrees extent next y (after (places_from s.pos w ++ places_from t.pos (suc j * w)) 0 (g x))) (λ i. record (et i) { pos = p i })
        (regroup next y (places_from s.pos w) (places_from t.pos (suc j * w)) (term_way t a b (Some j)) h))

    one_element : (a b m : ℕ) → TermRight a b m
        → ((s : Locals) (v : ℕ) → IsGood extent s → nat_eq v 0 ≡ true → Agrees extent s.next (rounds m (counted s a b v)) (g (state_of s)))
        → TermRight (suc a) (suc b) (suc m)
    one_element a b m rec stop s v u some la lb =
        subst (λ x. Agrees extent s.next (cond x (behind_it (counted s (suc a) (suc b) v)) more)
        (sought s (suc a) (suc b) (min (suc a) (suc b)) (zero_at s (min (suc a) (suc b))))) (sym some)
        (subst (λ x. Agrees extent s.next
        (cond (nat_eq (bit x) 0) after_most (failed_at activation is Constraint s.start site (counted s (suc a) (suc b) v)))
        (sought s (suc a) (suc b) (min (suc a) (suc b)) (zero_at s (min (suc a) (suc b))))) (sym (suc_not a))
        (subst (λ x. Agrees extent s.next (cond (nat_eq (bit x) 0) tree (failed_at activation is NotEnough s.start site (counted s (suc a) (suc b) v)))
        (sought s (suc a) (suc b) (min (suc a) (suc b)) (zero_at s (min (suc a) (suc b))))) (sym (suc_not b))
        (subst (λ k. Agrees extent s.next tree (sought s (suc a) (suc b) k (zero_at s k))) (sym (min_more a b))
        (by_cases (λ z. Agrees extent s.next tree (sought s (suc a) (suc b) (suc (min a b)) (cond z (Some 0) (one_more later))))
        (nat_eq x 0) zero_there other_there))))
      where
        now : Locals
        now = counted s (suc a) (suc b) v

        asking : Tree Out
        asking = helpers (number_helper 0 w) (s.pos ∷ []) [] now

        onward : Continuation
        onward =
            (routine.meaning activation (taken (Num w) (Assign Most (Binary Sub (Get Most) (Num 1)) (Assign Room (Binary Sub (Get Room) (Num 1)) Ends)))
            (rounds m) []).0

        tree : Tree Out
        tree = bind asking (after_helper Number now onward)

        after_most : Tree Out
        after_most = cond (nat_eq (bit (nat_eq (suc b) 0)) 0) tree (failed_at activation is NotEnough s.start site now)

        more : Tree Out
        more = cond (nat_eq (bit (nat_eq (suc a) 0)) 0) after_most (failed_at activation is Constraint s.start site now)

        x : ℕ
        x = rising_at message s.pos w

        some_bytes : 0 < w
        some_bytes = some_width w wide

        room_here : s.pos + w ≤ s.end
        room_here = let q = next_product b w in omega (arith, lb, q, some_bytes)

        q : ℕ
        q = word (s.pos + w - 1)

        seen : (y p a b : ℕ) → Locals
        seen y p a b = record s { next = q + 1; held = memory q; number = y; pos = p; most = a; room = b }

        whole : (s.pos + w) % 2 ^ 64 ≡ s.pos + w
        whole = sum_is s.pos w (let m = end_small extent s is.within u in omega (arith, room_here, m))

        least : suc b < 2 ^ 64
        least =
            let q = next_product b w in let r = end_small extent s is.within u in let z : b ≤ b * w = le_times b w some_bytes in omega
            (arith, lb, q, r, z, some_bytes)

        there : Locals
        there = record s { next = q + 1; held = memory q; number = x; pos = s.pos + w }

        led : Leads extent s.next (q + 1) tree (rounds m (counted there a b x)) (places_from s.pos w)
        led =
            let r = reached_near numbering s.pos in
            let near : s.next ≤ word s.pos + 1 = omega (arith, u.ahead, r) in
            let t = is.reads.number 0 w s.pos now wide (omega (arith, room_here, u.window, u.short, is.within.inside)) near u.held in
            subst (λ y. Leads extent s.next (q + 1) tree y (places_from s.pos w))
            ((λ i. onward (record (t.then i) { number = x })) ∙
            (λ i. rounds m (seen x (whole i) (less_one a (omega (arith, la)) i) (less_one b (omega (arith, least)) i))))
            (asked extent s.next (q + 1) asking x t.final now Number onward (places_from s.pos w)
            (taken_leads extent now asking s.pos w x t some_bytes near (omega (arith, room_here, u.window, u.short))))

        good : IsGood extent there
        good = good_passed extent s w x s.most s.room some_bytes room_here u

        -- where the first zero among the elements behind this one stands
        later : Option ℕ
        later = first_where is_zero (numbers_from message (s.pos + w) w (min a b))

        zero_there : nat_eq x 0 ≡ true → Agrees extent s.next tree (sought s (suc a) (suc b) (suc (min a b)) (Some 0))
        zero_there z =
            let one : w ≡ 1 * w = omega arith in
            subst (λ k. Agrees extent s.next tree (after (places_from s.pos k) 0 (g (at_pos (state_of s) (s.pos + k))))) one
            (agrees_after extent s.next (q + 1) tree (rounds m (counted there a b x)) (places_from s.pos w) 0 (g (at_pos (state_of s) (s.pos + w))) led
            (stop there x good z))

        other_there : nat_eq x 0 ≡ false → Agrees extent s.next tree (sought s (suc a) (suc b) (suc (min a b)) (one_more later))
        other_there z =
            next_element s there a b (min a b) (zero_at there (min a b)) refl refl refl refl tree s.next
            (agrees_after extent s.next (q + 1) tree (rounds m (counted there a b x)) (places_from s.pos w) 0
            (sought there a b (min a b) (zero_at there (min a b))) led
            (rec there x good z (omega (arith, la)) (let q = next_product b w in omega (arith, lb, q))))

    stops : (a b m : ℕ) (s : Locals) (v : ℕ) → IsGood extent s → nat_eq v 0 ≡ true → 0 < m
        → Agrees extent s.next (rounds m (counted s a b v)) (g (state_of s))
    stops a b zero s v u z l = absurd (omega (arith, l))
    stops a b (suc m) s v u z l =
        subst (λ x. Agrees extent s.next (cond x (behind_it (counted s a b v)) ((routine.meaning activation round (rounds m) []).0 (counted s a b v)))
        (g (state_of s))) (sym z)
        (ih (counted s a b v) (good_counted extent s a b v u))

    terms_right : (b a m : ℕ) → suc b < m → TermRight a b m
    terms_right b a zero h s v u some la lb = absurd (omega (arith, h))
    terms_right b zero (suc m) h s v u some la lb = none_allowed b m s v u some la lb
    terms_right zero (suc a) (suc m) h s v u some la lb = none_left a m s v u some la lb
    terms_right (suc b) (suc a) (suc m) h s v u some la lb =
        one_element a b m (λ t x y z p q. terms_right b a m (omega (arith, h)) t x y z p q)
        (λ t x y z. stops a b m t x y z (omega (arith, h))) s v u some la lb

  module _ (f : State → Exit) (pc : ℕ) (rest : Block) (go : Continuation) (around : Labels) (l : pc + 1 < end_of c n)
      (ih : Follows (begin rest go around) (exit f (pc + 1))) where
    pub case_zeroterm : (bound width site : ℕ) → IsHere pc (i.Zeroterm bound width site) → IsWidth width
        → Follows (begin (statement c n (i.Zeroterm bound width site) rest) go around) (exit f pc)
    case_zeroterm bound width site a wide s u =
        subst (λ x. Agrees extent s.next x (exit f pc (state_of s))) (sym tree_is)
        (by (zero_at site width wide behind_it g ih s (min most room)) refl
        (terms_right site width wide behind_it g ih room most limit (omega (arith, u.window, u.short, is.enough, is.within.inside, fewer)) s 1 u refl
        (quotient_small (slice_index s.regs bound) width (small_at s.regs u.regs bound)) fits))
      where
        behind_it : Continuation
        behind_it = begin rest go around

        g : State → Exit
        g = exit f (pc + 1)

        some : 0 < width
        some = some_width width wide

        most : ℕ
        most = slice_index s.regs bound / width

        room : ℕ
        room = (s.end - s.pos) / width

        fits : room * width ≤ s.end - s.pos
        fits = times_whole (s.end - s.pos) width

        fewer : room ≤ s.end - s.pos
        fewer = let q = le_times room width some in omega (arith, q, fits)

        looped : Tree Out
        looped = rounds site width wide behind_it g ih limit (counted site width wide behind_it g ih s most room 1)

        divided : (m d : ℕ) → 0 < d → cond (nat_eq d 0) None (Some (m / d)) ≡ Some (m / d)
        divided m d h = ap (λ b. cond b None (Some (m / d))) (ne_eqb d 0 (λ q. omega (arith, h, q)))

        tree_is : begin (statement c n (i.Zeroterm bound width site) rest) go around s ≡ looped
        tree_is =
            ap (λ o. given o (λ a. given (cond (nat_eq width 0) None (Some ((s.end + (2 ^ 64 - s.pos)) % 2 ^ 64 / width)))
            (λ b. rounds site width wide behind_it g ih limit (counted site width wide behind_it g ih s a b 1))))
            (divided (slice_index s.regs bound) width some)
            ∙ ap (λ o. given o (λ b. rounds site width wide behind_it g ih limit (counted site width wide behind_it g ih s most b 1)))
            (divided ((s.end + (2 ^ 64 - s.pos)) % 2 ^ 64) width some ∙ ap (λ x. Some (x / width))
            (left_is s.end s.pos u.within (end_small extent s is.within u)))

        by : (o : Option ℕ) → zero_at site width wide behind_it g ih s (min most room) ≡ o
            → Agrees extent s.next looped
            (sought site width wide behind_it g ih s most room (min most room) (zero_at site width wide behind_it g ih s (min most room)))
            → Agrees extent s.next looped (exit f pc (state_of s))
        by None e h =
            let k = min most room in
            let reason = cond (nat_le most room) Constraint NotEnough in
            fails activation is f pc (i.Zeroterm bound width site) s (state_of s) reason site s.start (places_from s.pos (k * width)) (1 + k) looped a
            (λ j. record {
              flow = zeroterm_flow (pc + 1) site width most room (e j) (state_of s);
              touched = places_from s.pos
                  (looked_at (e j) k * width);
              steps = 1 + looked_at (e j) k;
            })
            (subst (λ o. Agrees extent s.next looped (sought site width wide behind_it g ih s most room k o)) e h)
        by (Some x) e h =
            let k = min most room in
            goes_on activation is f pc (pc + 1) (i.Zeroterm bound width site) s (at_pos (state_of s) (s.pos + suc x * width))
            (places_from s.pos (suc x * width)) (1 + suc x) looped a (omega arith) l
            (λ j. record {
              flow = zeroterm_flow (pc + 1) site width most room (e j) (state_of s);
              touched = places_from s.pos
                  (looked_at (e j) k * width);
              steps = 1 + looked_at (e j) k;
            })
            (subst (λ o. Agrees extent s.next looped (sought site width wide behind_it g ih s most room k o)) e h)
