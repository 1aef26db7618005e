-- Sound code is safe. Cited by other crates.
use Rattle.std.proofs.Common.{◌≡◌, ℕ, zero, suc, ◌+◌, ◌-◌, ◌*◌, ◌^◌, ◌<◌, ◌≤◌, ⊎_elim, inl, inr, List, [], ◌∷◌, length, Option, Some, None, Bool, true, false, cond, refl, sym, ap, subst, ◌∙◌, arith}
use Rattle.std.proofs.lemmas.Bool.{cases_eq}
use Rattle.td_ir.specs.declared.tables.Parts.{Parts}
use Rattle.td_ir.specs.declared.instructions.Instr.{Instr}
use Rattle.td_ir.specs.declared.instructions.Instr.TheVariants as i
use Rattle.td_verify.specs.declared.shape.Shape.{Shape}
use Rattle.td_verify.specs.declared.shape.Shape.TheVariants.{Straight, Jump, Branch, Call, Return, Fail, While, Again, Open, Close}
use Rattle.td_verify.specs.Shape.{shape, shapes_of}
use Rattle.td_ir.specs.Tables.{routine_of, instruction_of, lengths_of, begin}
use Rattle.td_verify.specs.Brackets.{shape_at, opened, and_then, opening, closing_window, closing_loop, innermost, in_window, in_loop}
use Rattle.td_verify.specs.Ways.{Leads, IdleWay, MayBeEmpty}
use Rattle.td_verify.specs.Flat.{IsFlat}
use Rattle.td_verify.specs.Rules.{IsJump, IsLoop, IsAgain, LeadsWell, MayBeLast, StandsWell, TurnsBusy, own_weight, counts_twice, weigh}
use Rattle.td_verify.specs.Verify.{IsIn, IsSound, weights}
use Rattle.td_verify.specs.Findings.{IsDivided}
use Rattle.td_verify.specs.Safe.{IsSafeAt, IsWeighedAt, IsWhole, IsWholeAt, Stays, before, cost_at}
use Rattle.td_ir.proofs.Begins.{begin_next}
use Rattle.td_verify.proofs.Chain.{chained, Chained, ChainedIn}
use Rattle.td_verify.proofs.Flat.{flat_next, flat_none, next_opened}
use Rattle.td_verify.proofs.Sums.{weigh_next, shape_there}
use Rattle.td_verify.specs.declared.bracket.Bracket.{Bracket}
use Rattle.td_verify.specs.declared.bracket.Bracket.TheVariants.{Window, Loop}
use Rattle.td_verify.specs.declared.bracket.Innermost.TheVariants.{Within}
use Rattle.td_verify.specs.declared.rule.Rule.TheVariants.{Target, Register, Depth, Loop as Nesting, Table, Weight, Operand}

-- an instruction of sound code keeps windows and loops as they may stand
flat_on : (c : Parts) → IsSound c → (n p : ℕ) → IsIn c n p → IsFlat (opened (shapes_of c) p) → IsFlat (opened (shapes_of c) (p + 1))
flat_on c s n p i f = flat_next (shapes_of c) (begin (lengths_of c) (suc n)) p f (s n p i Nesting).stands (s n p i Target).leads

in_routine : (c : Parts) (n k : ℕ) → n < length c.routines → k < (routine_of c n).length → IsIn c n (begin (lengths_of c) n + k)
in_routine c n k r h = let b = begin_next c n in record { routine = r; from = omega arith; to = omega (arith, b) }

flat_from : (c : Parts) → IsSound c → (n : ℕ) → n < length c.routines → opened (shapes_of c) (begin (lengths_of c) n) ≡ Some [] → (k : ℕ) → k ≤ (routine_of c n).length → IsFlat (opened (shapes_of c) (begin (lengths_of c) n + k))
flat_from c s n r o zero h = let e : begin (lengths_of c) n + 0 ≡ begin (lengths_of c) n = omega arith in subst (λ x. IsFlat (opened (shapes_of c) x)) (sym e) (subst IsFlat (sym o) tt)
flat_from c s n r o (suc k) h =
    let e : begin (lengths_of c) n + suc k ≡ (begin (lengths_of c) n + k) + 1 = omega arith in
    subst (λ x. IsFlat (opened (shapes_of c) x)) (sym e)
    (flat_on c s n (begin (lengths_of c) n + k) (in_routine c n k r (omega arith)) (flat_from c s n r o k (omega arith)))

pub opens : (c : Parts) → IsDivided c → IsSound c → (n : ℕ) → n ≤ length c.routines → opened (shapes_of c) (begin (lengths_of c) n) ≡ Some []
opens c d s zero h = refl
opens c d s (suc n) h =
    let o = opens c d s n (omega arith) in
    let some = d.some n (omega arith) in
    let b = begin_next c n in
    let end = begin (lengths_of c) (suc n) in
    let l = (routine_of c n).length in
    let last : (begin (lengths_of c) n + (l - 1)) + 1 ≡ end = omega (arith, some, b) in
    let f = flat_from c s n (omega arith) o l (omega arith) in
    let e : begin (lengths_of c) n + l ≡ end = sym b in
    flat_none (opened (shapes_of c) end) (subst (λ x. IsFlat (opened (shapes_of c) x)) e f)
    ((s n (begin (lengths_of c) n + (l - 1)) (in_routine c n (l - 1) (omega arith) (omega (arith, some))) Nesting).closed last)

pub flat_all : (c : Parts) → IsDivided c → IsSound c → (n p : ℕ) → IsIn c n p → IsFlat (opened (shapes_of c) p)
flat_all c d s n p i =
    let r = i.routine in
    let b = begin_next c n in
    let from = i.from in
    let to = i.to in
    let e : begin (lengths_of c) n + (p - begin (lengths_of c) n) ≡ p = omega (arith, from) in
    subst (λ x. IsFlat (opened (shapes_of c) x)) e (flat_from c s n r (opens c d s n (omega (arith, r))) (p - begin (lengths_of c) n) (omega (arith, b, from, to)))

-- an instruction that may not be a routine's last has a next one
next_in : (c : Parts) → IsSound c → (n p : ℕ) → IsIn c n p → (MayBeLast (shape_at (shapes_of c) p) → ⊥) → IsIn c n (p + 1)
next_in c s n p i not = ⊎_elim
    (λ (e : p + 1 ≡ begin (lengths_of c) (suc n)). absurd (not ((s n p i Target).last e)))
    (λ (e : (p + 1 ≡ begin (lengths_of c) (suc n)) → ⊥). let a = i.from in let b = i.to in record { routine = i.routine; from = omega (arith, a); to = omega (arith, b, e) })
    (cases_eq (p + 1) (begin (lengths_of c) (suc n)))

again_is : (j : Shape) → IsAgain j → (t : ℕ) × (j ≡ Again t)
again_is (Again t) h = (t, refl)
again_is (Straight b w) h = absurd h
again_is (Jump t) h = absurd h
again_is (Branch t) h = absurd h
again_is (Call m) h = absurd h
again_is Return h = absurd h
again_is Fail h = absurd h
again_is (While t) h = absurd h
again_is (Open k) h = absurd h
again_is Close h = absurd h

loop_closes : (o : Option (List Bracket)) (l : ℕ) → innermost o ≡ Within (Loop l) → (bs : List Bracket) × (o ≡ Some (Loop l ∷ bs))
loop_closes None l e = absurd (cc)
loop_closes (Some []) l e = absurd (cc)
loop_closes (Some (Window a k ∷ bs)) l e = absurd (cc)
loop_closes (Some (Loop a ∷ bs)) l e = (bs, cc)

whole_loop : (c : Parts) → IsDivided c → IsSound c → (n p t : ℕ) → IsIn c n p → shape_at (shapes_of c) p ≡ While t → IsWhole c n p t
whole_loop c d s n p t i e =
    let S = shapes_of c in
    let end = begin (lengths_of c) (suc n) in
    let l : IsLoop S end p t = subst (LeadsWell S end p) e (s n p i Target).leads in
    let busy : TurnsBusy S (λ m. MayBeEmpty S (lengths_of c) n m) p (While t) = subst (TurnsBusy S (λ m. MayBeEmpty S (lengths_of c) n m) p) e (s n p i Nesting).busy in
    let from = i.from in
    let later = l.later in
    let in_end = l.within in
    let last : IsIn c n (t - 1) = record { routine = i.routine; from = omega (arith, from, later); to = omega (arith, later, in_end) } in
    let a = again_is (shape_at S (t - 1)) l.again in
    let leads : innermost (opened S (t - 1)) ≡ Within (Loop a.0) = subst (LeadsWell S end (t - 1)) a.1 (s n (t - 1) last Target).leads in
    let same : a.0 ≡ p = (let x = l.own in cc) in
    let open_is = loop_closes (opened S (t - 1)) p l.own in
    let chain : Chained S (t - 1) (Loop p ∷ open_is.0) = subst (ChainedIn S (t - 1)) open_is.1 (chained S (t - 1)) in
    let step : t - 1 + 1 ≡ t = omega (arith, later) in
    let behind : IsIn c n t = subst (IsIn c n) step (next_in c s n (t - 1) last (subst (λ j. MayBeLast j → ⊥) (sym a.1) (λ x. x))) in
    let closes : opened S (t - 1 + 1) ≡ Some open_is.0 = next_opened S (t - 1) ∙ (ap (λ j. and_then (t - 1) j (opened S (t - 1))) a.1 ∙ ap closing_loop open_is.1) in
    record {
      body = later;
      behind = behind;
      again = a.1 ∙ ap Again same;
      same = subst (λ x. opened S x ≡ Some open_is.0) step closes ∙ sym chain.1;
      busy = busy;
    }

-- where nothing is open
none_open : (o : Option (List Bracket)) → IsFlat o → in_window o ≡ false → o ≡ Some []
none_open None f h = absurd f
none_open (Some []) f h = refl
none_open (Some (Window a k ∷ bs)) f h = absurd (cc)
none_open (Some (Loop l ∷ [])) f h = absurd f
none_open (Some (Loop l ∷ Window a k ∷ bs)) f h = absurd (cc)
none_open (Some (Loop l ∷ Loop a ∷ bs)) f h = absurd f

whole_at : (c : Parts) → IsDivided c → IsSound c → (n p : ℕ) (j : Shape) → IsIn c n p → shape_at (shapes_of c) p ≡ j → IsWholeAt c n p j
whole_at c d s n p (While t) i e = whole_loop c d s n p t i e
whole_at c d s n p (Straight b w) i e = tt
whole_at c d s n p (Jump t) i e = tt
whole_at c d s n p (Branch t) i e = tt
whole_at c d s n p (Call m) i e = tt
whole_at c d s n p Return i e = none_open (opened (shapes_of c) p) (flat_all c d s n p i) (subst (StandsWell (opened (shapes_of c) p)) e (s n p i Nesting).stands).0
whole_at c d s n p Fail i e = tt
whole_at c d s n p (Again t) i e = tt
whole_at c d s n p (Open k) i e = none_open (opened (shapes_of c) p) (flat_all c d s n p i) (subst (StandsWell (opened (shapes_of c) p)) e (s n p i Nesting).stands)
whole_at c d s n p Close i e = tt

-- where an instruction leads
abbrev GoesTo : Parts → (n p : ℕ) → Shape → ℕ → Type 0
GoesTo c n p j q = (p < q) × IsIn c n q × Stays (shapes_of c) p j q

next_goes : (c : Parts) → IsSound c → (n p : ℕ) (j : Shape) → IsIn c n p → shape_at (shapes_of c) p ≡ j → (MayBeLast j → ⊥) → Stays (shapes_of c) p j (p + 1) → (q : ℕ) → q ≡ p + 1 → GoesTo c n p j q
next_goes c s n p j i e not stays q eq = subst (GoesTo c n p j) (sym eq) (omega arith, next_in c s n p i (subst (λ x. MayBeLast x → ⊥) (sym e) not), stays)

jump_goes : (c : Parts) → (n p t : ℕ) → IsIn c n p → IsJump (shapes_of c) (begin (lengths_of c) (suc n)) p t → (p < t) × IsIn c n t × (opened (shapes_of c) t ≡ opened (shapes_of c) p)
jump_goes c n p t i j = let from = i.from in let later = j.later in (later, record { routine = i.routine; from = omega (arith, from, later); to = j.within }, j.same)

same_next : (s : List Shape) (p : ℕ) (j : Shape) → shape_at s p ≡ j → opened s (p + 1) ≡ and_then p j (opened s p)
same_next s p j e = next_opened s p ∙ ap (λ x. and_then p x (opened s p)) e

closed_open : (o : Option (List Bracket)) → IsFlat o → (in_window o ≡ true) × (in_loop o ≡ false) → closing_window o ≡ Some []
closed_open None f h = absurd f
closed_open (Some []) f h = (let x = h.0 in absurd (cc))
closed_open (Some (Window a k ∷ [])) f h = refl
closed_open (Some (Window a k ∷ b ∷ bs)) f h = absurd f
closed_open (Some (Loop l ∷ bs)) f h = (let x = h.1 in absurd (cc))

goes : (c : Parts) → IsDivided c → IsSound c → (n p : ℕ) (j : Shape) → IsIn c n p → shape_at (shapes_of c) p ≡ j → (q : ℕ) → Leads p j q → GoesTo c n p j q
goes c d s n p (Straight b w) i e q l = next_goes c s n p (Straight b w) i e (λ x. x) (same_next (shapes_of c) p (Straight b w) e) q l
goes c d s n p (Jump t) i e q l = subst (GoesTo c n p (Jump t)) (sym l) (jump_goes c n p t i (subst (LeadsWell (shapes_of c) (begin (lengths_of c) (suc n)) p) e (s n p i Target).leads))
goes c d s n p (Branch t) i e q (inl l) = subst (GoesTo c n p (Branch t)) (sym l) (jump_goes c n p t i (subst (LeadsWell (shapes_of c) (begin (lengths_of c) (suc n)) p) e (s n p i Target).leads))
goes c d s n p (Branch t) i e q (inr l) = next_goes c s n p (Branch t) i e (λ x. x) (same_next (shapes_of c) p (Branch t) e) q l
goes c d s n p (Call m) i e q l = next_goes c s n p (Call m) i e (λ x. x) (same_next (shapes_of c) p (Call m) e) q l
goes c d s n p Return i e q l = absurd l
goes c d s n p Fail i e q l = absurd l
goes c d s n p (While t) i e q l = let w = whole_loop c d s n p t i e in let b = w.body in subst (GoesTo c n p (While t)) (sym l) (omega (arith, b), w.behind, w.same)
goes c d s n p (Again t) i e q l = absurd l
goes c d s n p (Open k) i e q l =
    let o = whole_at c d s n p (Open k) i e in
    next_goes c s n p (Open k) i e (λ x. x) (same_next (shapes_of c) p (Open k) e ∙ ap (opening (Window p k)) o) q l
goes c d s n p Close i e q l =
    next_goes c s n p Close i e (λ x. x) (same_next (shapes_of c) p Close e ∙ closed_open (opened (shapes_of c) p) (flat_all c d s n p i) (subst (StandsWell (opened (shapes_of c) p)) e (s n p i Nesting).stands)) q l

empty_at : (c : Parts) (n p : ℕ) → IsIn c n p → shape_at (shapes_of c) p ≡ Return → IdleWay (shapes_of c) (λ m. MayBeEmpty (shapes_of c) (lengths_of c) n m) (begin (lengths_of c) n) p → MayBeEmpty (shapes_of c) (lengths_of c) (suc n) n
empty_at c n p i e w = inl (refl, (p, i.from, i.to, e, w))

-- weights
own_some : (ws : List ℕ) (j : Instr) → 1 ≤ own_weight ws (shape j)
own_some ws (i.Const a k) = omega arith
own_some ws (i.Member a b t) = omega arith
own_some ws (i.Op a x b c) = omega arith
own_some ws (i.Bits a b x c) = omega arith
own_some ws (i.Pos a) = omega arith
own_some ws (i.Jump t) = omega arith
own_some ws (i.JumpIf b t) = omega arith
own_some ws (i.JumpUnless b t) = omega arith
own_some ws (i.Call a t k site) = omega arith
own_some ws i.Return = omega arith
own_some ws (i.Fetch a x c site) = omega arith
own_some ws (i.SkipK k site) = omega arith
own_some ws (i.Skip b site) = omega arith
own_some ws i.Rest = omega arith
own_some ws (i.Zeros site) = omega arith
own_some ws (i.Zeroterm b c site) = omega arith
own_some ws (i.NarrowK k site) = omega arith
own_some ws (i.Narrow b site) = omega arith
own_some ws (i.Divides b k site) = omega arith
own_some ws (i.While t) = omega arith
own_some ws (i.Again t) = omega arith
own_some ws (i.Widen site) = omega arith
own_some ws (i.Fail x site) = omega arith
own_some ws (i.Get a c) = omega arith
own_some ws (i.Set b c) = omega arith
own_some ws i.Mark = omega arith
own_some ws (i.Copy b c site) = omega arith
own_some ws (i.Left a) = omega arith

twice_some : (b : Bool) (x : ℕ) → 1 ≤ x → 1 ≤ cond b (2 * x) x
twice_some true x h = omega arith
twice_some false x h = omega arith

cost_some : (c : Parts) (n p : ℕ) → 1 ≤ cost_at c n p
cost_some c n p =
    let ws = weights (shapes_of c) (lengths_of c) n in
    twice_some (counts_twice (opened (shapes_of c) p) (shape_at (shapes_of c) p)) (own_weight ws (shape_at (shapes_of c) p)) (subst (λ x. 1 ≤ own_weight ws x) (sym (shape_there c p)) (own_some ws (instruction_of c p)))

pub weigh_up : (s : List Shape) (ws : List ℕ) (from k d : ℕ) → weigh s ws from k ≤ weigh s ws from (k + d)
weigh_up s ws from k zero = let e : k + 0 ≡ k = omega arith in subst (λ x. weigh s ws from k ≤ weigh s ws from x) (sym e) (omega arith)
weigh_up s ws from k (suc d) = let e : k + suc d ≡ suc (k + d) = omega arith in let h = weigh_up s ws from k d in subst (λ x. weigh s ws from k ≤ weigh s ws from x) (sym e) (omega (arith, h))

on_at : (c : Parts) (n p q : ℕ) → begin (lengths_of c) n ≤ p → p < q → before c n p + cost_at c n p ≤ before c n q
on_at c n p q from lt =
    let s = shapes_of c in
    let b = begin (lengths_of c) n in
    let ws = weights s (lengths_of c) n in
    let e = weigh_next s ws b p from in
    let k : (p + 1 - b) + (q - (p + 1)) ≡ q - b = omega (arith, from, lt) in
    let h = weigh_up s ws b (p + 1 - b) (q - (p + 1)) in
    let g : weigh s ws b (p + 1 - b) ≤ weigh s ws b (q - b) = subst (λ x. weigh s ws b (p + 1 - b) ≤ weigh s ws b x) k h in
    omega (arith, e, g)

light_at : (c : Parts) → IsDivided c → IsSound c → (n : ℕ) → n < length c.routines → before c n (begin (lengths_of c) (suc n)) ≤ 2 ^ 40
light_at c d s n r =
    let some = d.some n r in
    let b = begin_next c n in
    let l = (routine_of c n).length in
    let p = begin (lengths_of c) n + (l - 1) in
    let e : p + 1 ≡ begin (lengths_of c) (suc n) = omega (arith, some, b) in
    subst (λ x. weigh (shapes_of c) (weights (shapes_of c) (lengths_of c) n) (begin (lengths_of c) n) (x - begin (lengths_of c) n) ≤ 2 ^ 40) e
    (s n p (in_routine c n (l - 1) r (omega (arith, some))) Weight)

pub begins_safe : (c : Parts) → IsDivided c → IsSound c → (n : ℕ) → n < length c.routines → IsIn c n (begin (lengths_of c) n) × (opened (shapes_of c) (begin (lengths_of c) n) ≡ Some [])
begins_safe c d s n r =
    let some = d.some n r in
    let e : begin (lengths_of c) n + 0 ≡ begin (lengths_of c) n = omega arith in
    (subst (IsIn c n) e (in_routine c n 0 r (omega (arith, some))), opens c d s n (omega (arith, r)))

pub each_safe : (c : Parts) → IsDivided c → IsSound c → (n p : ℕ) → IsIn c n p → IsSafeAt c n p
each_safe c d s n p j = record {
  registers = s n p j Register;
  tables = (s n p j Table).0;
  owns = (s n p j Table).1;
  operands = s n p j Operand;
  calls = s n p j Depth;
  flat = flat_all c d s n p j;
  goes = goes c d s n p (shape_at (shapes_of c) p) j refl;
  whole = whole_at c d s n p (shape_at (shapes_of c) p) j refl;
  empty = empty_at c n p j;
}

pub each_weighed : (c : Parts) → IsDivided c → IsSound c → (n p : ℕ) → IsIn c n p → IsWeighedAt c n p
each_weighed c d s n p j = record {
  some = cost_some c n p;
  on = λ q lt to. on_at c n p q j.from lt;
  light = light_at c d s n j.routine;
}
