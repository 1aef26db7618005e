-- Windows, loops and ways without a byte, from one instruction to the next. Cited by other crates.
use Rattle.std.proofs.Common.{◌≡◌, ℕ, zero, suc, ◌+◌, ◌<◌, ◌≤◌, true, false, List, [], ◌∷◌, Option, Some, None, inr, sym, refl, ap, ◌∙◌, subst, arith, ⊎_elim}
use Rattle.std.proofs.lemmas.Bool.{cases_eq}
use Rattle.td_verify_runs.specs.Imports.{Parts, Shape, Straight, Jump, Branch, Call, Return, Fail, While, Again, Open, Close, Bracket, Window, Loop}
use Rattle.td_ir.specs.Tables.{lengths_of}
use Rattle.td_verify.specs.Shape.{shapes_of}
use Rattle.td_verify.specs.Brackets.{shape_at, opened, and_then, closing_window, in_loop, some_loop, window_bytes}
use Rattle.td_verify.specs.Ways.{Leads, IsIdle, MayBeEmpty}
use Rattle.td_verify.specs.Verify.{IsIn}
use Rattle.td_verify.specs.Safe.{IsSafe, IsWholeAt, Stays, looped}
use Rattle.td_verify.proofs.Flat.{next_opened}
use Rattle.td_verify_runs.specs.Moves.{Passes, least, Ends}
use Rattle.td_verify_runs.specs.Stretches.{Idle}

no_loop : (o : Option (List Bracket)) → closing_window o ≡ Some [] → in_loop o ≡ false
no_loop None e = absurd (cc)
no_loop (Some []) e = absurd (cc)
no_loop (Some (Window a k ∷ bs)) e = none bs e
  where
    none : (bs : List Bracket) → Some bs ≡ Some [] → some_loop bs ≡ false
    none [] e = refl
    none (b ∷ bs) e = absurd (cc)
no_loop (Some (Loop a ∷ bs)) e = absurd (cc)

pub record Kept (o o' : Option (List Bracket)) : Type 0 where
  pub looped : in_loop o' ≡ in_loop o
  pub fixed : in_loop o ≡ true → o' ≡ o

kept_as : (o o' : Option (List Bracket)) → o' ≡ o → Kept o o'
kept_as o o' e = record { looped = ap in_loop e; fixed = λ h. e }

kept_by : (c : Parts) (n p q : ℕ) (j : Shape) → shape_at (shapes_of c) p ≡ j → Passes j → IsWholeAt c n p j → Leads p j q → Stays (shapes_of c) p j q → Kept (opened (shapes_of c) p) (opened (shapes_of c) q)
kept_by c n p q (Straight b w) e h w' l s = kept_as _ _ s
kept_by c n p q (Jump t) e h w l s = kept_as _ _ s
kept_by c n p q (Branch t) e h w l s = kept_as _ _ s
kept_by c n p q (Call m) e h w l s = absurd h
kept_by c n p q Return e h w l s = absurd l
kept_by c n p q Fail e h w l s = absurd l
kept_by c n p q (While t) e h w l s = absurd h
kept_by c n p q (Again t) e h w l s = absurd l
kept_by c n p q (Open k) e h w l s =
    let a = ap in_loop w in let b = ap in_loop s in
    record { looped = b ∙ sym a; fixed = λ h. absurd (cc) }
kept_by c n p q Close e h w l s =
    let closes : closing_window (opened (shapes_of c) p) ≡ Some [] = sym (next_opened (shapes_of c) p ∙ ap (λ j. and_then p j (opened (shapes_of c) p)) e) ∙ ap (opened (shapes_of c)) (sym l) ∙ s in
    let none = no_loop (opened (shapes_of c) p) closes in
    record { looped = ap in_loop s ∙ sym none; fixed = λ h. absurd (cc) }

pub kept_on : (c : Parts) (n p q : ℕ) (j : Shape) → IsSafe c → IsIn c n p → shape_at (shapes_of c) p ≡ j → Passes j → Leads p j q → Kept (opened (shapes_of c) p) (opened (shapes_of c) q)
kept_on c n p q j s i e h l =
    let a = s.each n p i in
    let g = a.goes q (subst (λ x. Leads p x q) (sym e) l) in
    kept_by c n p q j e h (subst (IsWholeAt c n p) e a.whole) l (subst (λ x. Stays (shapes_of c) p x q) e g.2)

pub goes_on : (c : Parts) (n p q : ℕ) (j : Shape) → IsSafe c → IsIn c n p → shape_at (shapes_of c) p ≡ j → Leads p j q → (p < q) × IsIn c n q × Stays (shapes_of c) p j q
goes_on c n p q j s i e l =
    let g = (s.each n p i).goes q (subst (λ x. Leads p x q) (sym e) l) in
    (g.0, g.1, subst (λ x. Stays (shapes_of c) p x q) e g.2)

-- an end behind the window's least bytes
pub room_on : (c : Parts) (p q : ℕ) (j : Shape) (p0 p1 p2 e1 e2 : ℕ) → Passes j → Stays (shapes_of c) p j q → Leads p j q → Ends j p1 e1 e2 → p0 + window_bytes (opened (shapes_of c) p) ≤ e1 → p0 ≤ p1 → p1 ≤ p2 → p2 ≤ e2 → p0 + window_bytes (opened (shapes_of c) q) ≤ e2
room_on c p q (Straight b w) p0 p1 p2 e1 e2 h s l e k x y z = let a = ap window_bytes s in omega (arith, a, e, k)
room_on c p q (Jump t) p0 p1 p2 e1 e2 h s l e k x y z = let a = ap window_bytes s in omega (arith, a, e, k)
room_on c p q (Branch t) p0 p1 p2 e1 e2 h s l e k x y z = let a = ap window_bytes s in omega (arith, a, e, k)
room_on c p q (Call m) p0 p1 p2 e1 e2 h s l e k x y z = absurd h
room_on c p q Return p0 p1 p2 e1 e2 h s l e k x y z = absurd l
room_on c p q Fail p0 p1 p2 e1 e2 h s l e k x y z = absurd l
room_on c p q (While t) p0 p1 p2 e1 e2 h s l e k x y z = absurd h
room_on c p q (Again t) p0 p1 p2 e1 e2 h s l e k x y z = absurd l
room_on c p q (Open b) p0 p1 p2 e1 e2 h s l e k x y z = let a : window_bytes (opened (shapes_of c) q) ≡ b = ap window_bytes s in omega (arith, a, e, x)
room_on c p q Close p0 p1 p2 e1 e2 h s l e k x y z = let a : window_bytes (opened (shapes_of c) q) ≡ 0 = ap window_bytes s in omega (arith, a, x, y, z)

idle_by : (E : ℕ → Type 0) (o : Option (List Bracket)) (j : Shape) (p0 p1 p2 e1 e2 : ℕ) → Passes j → Ends j p1 e1 e2 → p1 + least j ≤ p2 → p0 + window_bytes o ≤ e1 → p0 ≤ p1 → p0 ≡ p2 → IsIdle E o j
idle_by E o (Straight b w) p0 p1 p2 e1 e2 h e t k x y = omega (arith, t, x, y)
idle_by E o (Jump t) p0 p1 p2 e1 e2 h e u k x y = tt
idle_by E o (Branch t) p0 p1 p2 e1 e2 h e u k x y = tt
idle_by E o (Call m) p0 p1 p2 e1 e2 h e u k x y = absurd h
idle_by E o Return p0 p1 p2 e1 e2 h e u k x y = tt
idle_by E o Fail p0 p1 p2 e1 e2 h e u k x y = tt
idle_by E o (While t) p0 p1 p2 e1 e2 h e u k x y = absurd h
idle_by E o (Again t) p0 p1 p2 e1 e2 h e u k x y = tt
idle_by E o (Open b) p0 p1 p2 e1 e2 h e u k x y = tt
idle_by E o Close p0 p1 p2 e1 e2 h e u k x y = omega (arith, e, u, k, x, y)

pub idle_more : (c : Parts) (n first p q : ℕ) (j : Shape) → shape_at (shapes_of c) p ≡ j → p < q → Leads p j q → IsIdle (MayBeEmpty (shapes_of c) (lengths_of c) n) (opened (shapes_of c) p) j → Idle c n first p → Idle c n first q
idle_more c n first p q j e h l d w = λ set closed m. closed p q h (subst (λ x. Leads p x q) (sym e) l) (subst (IsIdle (MayBeEmpty (shapes_of c) (lengths_of c) n) (opened (shapes_of c) p)) (sym e) d) (w set closed m)

pub idle_on : (c : Parts) (n first p q : ℕ) (j : Shape) (p0 p1 p2 e1 e2 : ℕ) → shape_at (shapes_of c) p ≡ j → p < q → Leads p j q → Passes j → Ends j p1 e1 e2 → p1 + least j ≤ p2 → p0 + window_bytes (opened (shapes_of c) p) ≤ e1 → p0 ≤ p1 → (p0 ≡ p1 → Idle c n first p) → p0 ≡ p2 → Idle c n first q
idle_on c n first p q j p0 p1 p2 e1 e2 e h l a b t k x w y =
    let z : p0 ≡ p1 = omega (arith, x, t, y) in
    idle_more c n first p q j e h l (idle_by (MayBeEmpty (shapes_of c) (lengths_of c) n) (opened (shapes_of c) p) j p0 p1 p2 e1 e2 a b t k x y) (w z)

-- a routine that may be empty, among more
pub empty_up : (s : List Shape) (ls : List ℕ) (n m : ℕ) → m < n → MayBeEmpty s ls (suc m) m → MayBeEmpty s ls n m
empty_up s ls zero m h e = absurd (omega arith)
empty_up s ls (suc n) m h e = ⊎_elim
    (λ (q : m ≡ n). subst (λ k. MayBeEmpty s ls (suc k) m) q e)
    (λ (q : (m ≡ n) → ⊥). inr (q, empty_up s ls n m (omega (arith, h, q)) e))
    (cases_eq m n)

end_by : (c : Parts) (n p q : ℕ) (j : Shape) (p1 e1 e2 : ℕ) → shape_at (shapes_of c) p ≡ j → Passes j → IsWholeAt c n p j → Leads p j q → Stays (shapes_of c) p j q → Ends j p1 e1 e2 → looped c p ≡ true → e2 ≡ e1
end_by c n p q (Straight b w) p1 e1 e2 e h w' l s d v = d
end_by c n p q (Jump t) p1 e1 e2 e h w l s d v = d
end_by c n p q (Branch t) p1 e1 e2 e h w l s d v = d
end_by c n p q (Call m) p1 e1 e2 e h w l s d v = absurd h
end_by c n p q Return p1 e1 e2 e h w l s d v = absurd l
end_by c n p q Fail p1 e1 e2 e h w l s d v = absurd l
end_by c n p q (While t) p1 e1 e2 e h w l s d v = absurd h
end_by c n p q (Again t) p1 e1 e2 e h w l s d v = absurd l
end_by c n p q (Open k) p1 e1 e2 e h w l s d v = let a = ap in_loop w in absurd (cc)
end_by c n p q Close p1 e1 e2 e h w l s d v =
    let closes : closing_window (opened (shapes_of c) p) ≡ Some [] = sym (next_opened (shapes_of c) p ∙ ap (λ j. and_then p j (opened (shapes_of c) p)) e) ∙ ap (opened (shapes_of c)) (sym l) ∙ s in
    let none = no_loop (opened (shapes_of c) p) closes in absurd (cc)

pub end_kept : (c : Parts) (n p q : ℕ) (j : Shape) (p1 e1 e2 : ℕ) → IsSafe c → IsIn c n p → shape_at (shapes_of c) p ≡ j → Passes j → Leads p j q → Ends j p1 e1 e2 → looped c p ≡ true → e2 ≡ e1
end_kept c n p q j p1 e1 e2 s i e h l d v =
    let a = s.each n p i in
    let o = a.goes q (subst (λ x. Leads p x q) (sym e) l) in
    end_by c n p q j p1 e1 e2 e h (subst (IsWholeAt c n p) e a.whole) l (subst (λ x. Stays (shapes_of c) p x q) e o.2) d v
