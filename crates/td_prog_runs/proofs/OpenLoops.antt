-- The loop of verified code that is open at a place.
use Rattle.std.proofs.Common.{◌≡◌, ℕ, zero, suc, ◌+◌, ◌<◌, true, false, List, [], ◌∷◌, Option, Some, None, refl, sym, ap, ◌∙◌, subst, arith}
use Rattle.td_ir.specs.declared.tables.Parts.{Parts}
use Rattle.td_ir.specs.Tables.{lengths_of, begin}
use Rattle.td_verify.specs.declared.shape.Shape.{Shape}
use Rattle.td_verify.specs.declared.shape.Shape.TheVariants.{Straight, Jump, Branch, Call, Return, Fail, While, Again, Open, Close}
use Rattle.td_verify.specs.declared.bracket.Bracket.{Bracket}
use Rattle.td_verify.specs.declared.bracket.Bracket.TheVariants.{Window, Loop}
use Rattle.td_verify.specs.Shape.{shapes_of}
use Rattle.td_verify.specs.Brackets.{shape_at, opened, and_then, opening, closing_loop, closing_window, in_loop}
use Rattle.td_verify.specs.Flat.{IsFlat}
use Rattle.td_verify.specs.Ways.{Leads}
use Rattle.td_verify.specs.Verify.{IsIn}
use Rattle.td_verify.specs.Safe.{IsSafe, IsWholeAt, Stays, looped}
use Rattle.td_verify.proofs.Flat.{next_opened}

-- what neither begins nor ends a loop
abbrev pub IsPlain : Shape → Type 0
IsPlain (Straight b w) = Unit {0}
IsPlain (Jump t) = Unit {0}
IsPlain (Branch t) = Unit {0}
IsPlain (Call m) = Unit {0}
IsPlain Return = Unit {0}
IsPlain Fail = Unit {0}
IsPlain (While t) = ⊥
IsPlain (Again t) = ⊥
IsPlain (Open k) = Unit {0}
IsPlain Close = Unit {0}

pub not_looped : (x y : Option (List Bracket)) → x ≡ y → in_loop y ≡ false → in_loop x ≡ true → ⊥
not_looped x y e f t = let g = ap in_loop e in absurd (cc)

-- behind a loop that ends nothing is looped
pub behind_again : (o : Option (List Bracket)) → IsFlat o → in_loop o ≡ true → in_loop (closing_loop o) ≡ false
behind_again None f h = absurd f
behind_again (Some []) f h = refl
behind_again (Some (Window a m ∷ [])) f h = absurd (cc)
behind_again (Some (Window a m ∷ b ∷ bs)) f h = absurd f
behind_again (Some (Loop l ∷ [])) f h = absurd f
behind_again (Some (Loop l ∷ Window a m ∷ [])) f h = refl
behind_again (Some (Loop l ∷ Window a m ∷ b ∷ bs)) f h = absurd f
behind_again (Some (Loop l ∷ Loop a ∷ bs)) f h = absurd f

pub closed_loop : (o : Option (List Bracket)) → IsFlat o → in_loop (closing_loop o) ≡ false
closed_loop None f = absurd f
closed_loop (Some []) f = refl
closed_loop (Some (Window a m ∷ [])) f = refl
closed_loop (Some (Window a m ∷ b ∷ bs)) f = absurd f
closed_loop (Some (Loop l ∷ [])) f = absurd f
closed_loop (Some (Loop l ∷ Window a m ∷ [])) f = refl
closed_loop (Some (Loop l ∷ Window a m ∷ b ∷ bs)) f = absurd f
closed_loop (Some (Loop l ∷ Loop a ∷ bs)) f = absurd f

pub one_while : (o : Option (List Bracket)) (p l : ℕ) (x : Option (List Bracket)) → IsFlat (opening (Loop p) o) → IsFlat (opening (Loop l) x)
    → opening (Loop p) o ≡ opening (Loop l) x → p ≡ l
one_while None p l x f g e = absurd f
one_while (Some bs) p l None f g e = absurd g
one_while (Some bs) p l (Some cs) f g e = ap number e
  where
    number : Option (List Bracket) → ℕ
    number None = 0
    number (Some []) = 0
    number (Some (Window a m ∷ bs)) = 0
    number (Some (Loop l ∷ bs)) = l

pub one_target : (t u : ℕ) → (let z : Shape = While t in z ≡ While u) → t ≡ u
one_target t u e = ap number e
  where
    number : Shape → ℕ
    number (Straight b w) = 0
    number (Jump t) = 0
    number (Branch t) = 0
    number (Call m) = 0
    number Return = 0
    number Fail = 0
    number (While t) = t
    number (Again t) = 0
    number (Open k) = 0
    number Close = 0

module _ (c : Parts) (safe : IsSafe c) (n : ℕ) where
  abbrev O : ℕ → Option (List Bracket)
  O p = opened (shapes_of c) p

  abbrev shape_of : ℕ → Shape
  shape_of p = shape_at (shapes_of c) p

  -- a plain instruction leaves what is open of loops
  pub plain_open : (p : ℕ) (z : Shape) → IsIn c n p → shape_of p ≡ z → IsPlain z → (looped c (p + 1) ≡ looped c p) × (looped c (p + 1) ≡ true → O (p + 1) ≡ O p)
  plain_open p (Straight b w) i e h = let o = next_opened (shapes_of c) p ∙ ap (λ z. and_then p z (O p)) e in (ap in_loop o, λ t. o)
  plain_open p (Jump t) i e h = let o = next_opened (shapes_of c) p ∙ ap (λ z. and_then p z (O p)) e in (ap in_loop o, λ t. o)
  plain_open p (Branch t) i e h = let o = next_opened (shapes_of c) p ∙ ap (λ z. and_then p z (O p)) e in (ap in_loop o, λ t. o)
  plain_open p (Call m) i e h = let o = next_opened (shapes_of c) p ∙ ap (λ z. and_then p z (O p)) e in (ap in_loop o, λ t. o)
  plain_open p Return i e h = let o = next_opened (shapes_of c) p ∙ ap (λ z. and_then p z (O p)) e in (ap in_loop o, λ t. o)
  plain_open p Fail i e h = let o = next_opened (shapes_of c) p ∙ ap (λ z. and_then p z (O p)) e in (ap in_loop o, λ t. o)
  plain_open p (While t) i e h = absurd h
  plain_open p (Again t) i e h = absurd h
  plain_open p (Open k) i e h =
      let none : O p ≡ Some [] = subst (IsWholeAt c n p) e (safe.each n p i).whole in
      let o : O (p + 1) ≡ Some (Window p k ∷ []) = next_opened (shapes_of c) p ∙ ap (λ z. and_then p z (O p)) e ∙ ap (opening (Window p k)) none in
      let a = ap in_loop o in let b = ap in_loop none in
      ((let r : looped c (p + 1) ≡ looped c p = a ∙ sym b in r), λ t. absurd (not_looped (O (p + 1)) (Some (Window p k ∷ [])) o refl t))
  plain_open p Close i e h =
      let leads : Leads p (shape_of p) (p + 1) = subst (λ z. Leads p z (p + 1)) (sym e) refl in
      let o : O (p + 1) ≡ Some [] = subst (λ z. Stays (shapes_of c) p z (p + 1)) e ((safe.each n p i).goes (p + 1) leads).2 in
      let shut : closing_window (O p) ≡ Some [] = sym (next_opened (shapes_of c) p ∙ ap (λ z. and_then p z (O p)) e) ∙ o in
      (ap in_loop o ∙ sym (unlooped (O p) (safe.each n p i).flat shut), λ t. absurd (not_looped (O (p + 1)) (Some []) o refl t))
    where
      unlooped : (o : Option (List Bracket)) → IsFlat o → closing_window o ≡ Some [] → in_loop o ≡ false
      unlooped None f q = refl
      unlooped (Some []) f q = refl
      unlooped (Some (Window a m ∷ [])) f q = refl
      unlooped (Some (Window a m ∷ b ∷ bs)) f q = absurd f
      unlooped (Some (Loop l ∷ [])) f q = absurd f
      unlooped (Some (Loop l ∷ Window a m ∷ [])) f q = absurd (cc)
      unlooped (Some (Loop l ∷ Window a m ∷ b ∷ bs)) f q = absurd f
      unlooped (Some (Loop l ∷ Loop a ∷ bs)) f q = absurd f

  -- the loop that is open at a place
  pub record LoopOf (p : ℕ) : Type 0 where
    pub loop : ℕ
    pub target : ℕ
    pub at : IsIn c n loop
    pub before : loop < p
    pub is : shape_of loop ≡ While target
    pub same : O p ≡ O (loop + 1)

  loop_later : (p : ℕ) (z : Shape) → IsIn c n p → shape_of p ≡ z → IsPlain z → (looped c p ≡ true → LoopOf p) → looped c (p + 1) ≡ true → LoopOf (p + 1)
  loop_later p z i e pl ih h =
      let q = plain_open p z i e pl in
      let r = ih (sym q.0 ∙ h) in
      record { loop = r.loop; target = r.target; at = r.at; before = (let b = r.before in omega (arith, b)); is = r.is; same = q.1 h ∙ r.same }

  loop_by : (p : ℕ) (z : Shape) → IsIn c n p → shape_of p ≡ z → (looped c p ≡ true → LoopOf p) → looped c (p + 1) ≡ true → LoopOf (p + 1)
  loop_by p (While t) i e ih h = record { loop = p; target = t; at = i; before = omega arith; is = e; same = refl }
  loop_by p (Again t) i e ih h =
      let o : O (p + 1) ≡ closing_loop (O p) = next_opened (shapes_of c) p ∙ ap (λ z. and_then p z (O p)) e in
      absurd (not_looped (O (p + 1)) (closing_loop (O p)) o (closed_loop (O p) (safe.each n p i).flat) h)
  loop_by p (Straight b w) i e ih h = loop_later p (Straight b w) i e tt ih h
  loop_by p (Jump t) i e ih h = loop_later p (Jump t) i e tt ih h
  loop_by p (Branch t) i e ih h = loop_later p (Branch t) i e tt ih h
  loop_by p (Call m) i e ih h = loop_later p (Call m) i e tt ih h
  loop_by p Return i e ih h = loop_later p Return i e tt ih h
  loop_by p Fail i e ih h = loop_later p Fail i e tt ih h
  loop_by p (Open k) i e ih h = loop_later p (Open k) i e tt ih h
  loop_by p Close i e ih h = loop_later p Close i e tt ih h

  pub loop_of : (d p : ℕ) → begin (lengths_of c) n + d ≡ p → IsIn c n p → looped c p ≡ true → LoopOf p
  loop_of zero p e i h =
      let same : begin (lengths_of c) n ≡ p = omega (arith, e) in
      let none : O p ≡ Some [] = subst (λ q. O q ≡ Some []) same (safe.begins n i.routine).1 in
      absurd (not_looped (O p) (Some []) none refl h)
  loop_of (suc d) p e i h =
      let q = begin (lengths_of c) n + d in
      let there : q + 1 ≡ p = omega (arith, e) in
      let before : IsIn c n q = record { routine = i.routine; from = omega arith; to = (let t = i.to in omega (arith, there, t)) } in
      subst LoopOf there (loop_by q (shape_of q) before refl (loop_of d q refl before) (subst (λ x. looped c x ≡ true) (sym there) h))
