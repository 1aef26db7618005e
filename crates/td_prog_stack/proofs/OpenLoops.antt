-- Whether a loop is open at a place of verified code.
use Rattle.std.proofs.Common.{◌≡◌, ℕ, ◌+◌, true, false, List, [], ◌∷◌, Option, Some, None, refl, sym, ap, ◌∙◌, subst}
use Rattle.td_ir.specs.declared.tables.Parts.{Parts}
use Rattle.td_verify.specs.declared.shape.Shape.{Shape}
use Rattle.td_verify.specs.declared.shape.Shape.TheVariants.{Straight, Jump, Branch, Call, Return, Fail, While, Again, Open, Close}
use Rattle.td_verify.specs.declared.bracket.Bracket.{Bracket}
use Rattle.td_verify.specs.declared.bracket.Bracket.TheVariants.{Window, Loop}
use Rattle.td_verify.specs.Shape.{shapes_of}
use Rattle.td_verify.specs.Brackets.{shape_at, opened, and_then, opening, closing_loop, closing_window, in_loop}
use Rattle.td_verify.specs.Flat.{IsFlat}
use Rattle.td_verify.specs.Ways.{Leads}
use Rattle.td_verify.specs.Verify.{IsIn}
use Rattle.td_verify.specs.Safe.{IsSafe, IsWholeAt, Stays, looped}
use Rattle.td_verify.proofs.Flat.{next_opened}

-- what neither begins nor ends a loop
abbrev pub IsPlain : Shape → Type 0
IsPlain (Straight b w) = Unit {0}
IsPlain (Jump t) = Unit {0}
IsPlain (Branch t) = Unit {0}
IsPlain (Call m) = Unit {0}
IsPlain Return = Unit {0}
IsPlain Fail = Unit {0}
IsPlain (While t) = ⊥
IsPlain (Again t) = ⊥
IsPlain (Open k) = Unit {0}
IsPlain Close = Unit {0}

not_looped : (x y : Option (List Bracket)) → x ≡ y → in_loop y ≡ false → in_loop x ≡ true → ⊥
not_looped x y e f t = let g = ap in_loop e in absurd (cc)

-- behind a loop that ends nothing is looped
pub closed_loop : (o : Option (List Bracket)) → IsFlat o → in_loop (closing_loop o) ≡ false
closed_loop None f = absurd f
closed_loop (Some []) f = refl
closed_loop (Some (Window a m ∷ [])) f = refl
closed_loop (Some (Window a m ∷ b ∷ bs)) f = absurd f
closed_loop (Some (Loop l ∷ [])) f = absurd f
closed_loop (Some (Loop l ∷ Window a m ∷ [])) f = refl
closed_loop (Some (Loop l ∷ Window a m ∷ b ∷ bs)) f = absurd f
closed_loop (Some (Loop l ∷ Loop a ∷ bs)) f = absurd f

module _ (c : Parts) (safe : IsSafe c) (n : ℕ) where
  abbrev O : ℕ → Option (List Bracket)
  O p = opened (shapes_of c) p

  abbrev shape_of : ℕ → Shape
  shape_of p = shape_at (shapes_of c) p

  -- a plain instruction leaves what is open of loops
  pub plain_open : (p : ℕ) (z : Shape) → IsIn c n p → shape_of p ≡ z → IsPlain z → (looped c (p + 1) ≡ looped c p) × (looped c (p + 1) ≡ true → O (p + 1) ≡ O p)
  plain_open p (Straight b w) i e h = let o = next_opened (shapes_of c) p ∙ ap (λ z. and_then p z (O p)) e in (ap in_loop o, λ t. o)
  plain_open p (Jump t) i e h = let o = next_opened (shapes_of c) p ∙ ap (λ z. and_then p z (O p)) e in (ap in_loop o, λ t. o)
  plain_open p (Branch t) i e h = let o = next_opened (shapes_of c) p ∙ ap (λ z. and_then p z (O p)) e in (ap in_loop o, λ t. o)
  plain_open p (Call m) i e h = let o = next_opened (shapes_of c) p ∙ ap (λ z. and_then p z (O p)) e in (ap in_loop o, λ t. o)
  plain_open p Return i e h = let o = next_opened (shapes_of c) p ∙ ap (λ z. and_then p z (O p)) e in (ap in_loop o, λ t. o)
  plain_open p Fail i e h = let o = next_opened (shapes_of c) p ∙ ap (λ z. and_then p z (O p)) e in (ap in_loop o, λ t. o)
  plain_open p (While t) i e h = absurd h
  plain_open p (Again t) i e h = absurd h
  plain_open p (Open k) i e h =
      let none : O p ≡ Some [] = subst (IsWholeAt c n p) e (safe.each n p i).whole in
      let o : O (p + 1) ≡ Some (Window p k ∷ []) = next_opened (shapes_of c) p ∙ ap (λ z. and_then p z (O p)) e ∙ ap (opening (Window p k)) none in
      let a = ap in_loop o in let b = ap in_loop none in
      ((let r : looped c (p + 1) ≡ looped c p = a ∙ sym b in r), λ t. absurd (not_looped (O (p + 1)) (Some (Window p k ∷ [])) o refl t))
  plain_open p Close i e h =
      let leads : Leads p (shape_of p) (p + 1) = subst (λ z. Leads p z (p + 1)) (sym e) refl in
      let o : O (p + 1) ≡ Some [] = subst (λ z. Stays (shapes_of c) p z (p + 1)) e ((safe.each n p i).goes (p + 1) leads).2 in
      let shut : closing_window (O p) ≡ Some [] = sym (next_opened (shapes_of c) p ∙ ap (λ z. and_then p z (O p)) e) ∙ o in
      (ap in_loop o ∙ sym (unlooped (O p) (safe.each n p i).flat shut), λ t. absurd (not_looped (O (p + 1)) (Some []) o refl t))
    where
      unlooped : (o : Option (List Bracket)) → IsFlat o → closing_window o ≡ Some [] → in_loop o ≡ false
      unlooped None f q = refl
      unlooped (Some []) f q = refl
      unlooped (Some (Window a m ∷ [])) f q = refl
      unlooped (Some (Window a m ∷ b ∷ bs)) f q = absurd f
      unlooped (Some (Loop l ∷ [])) f q = absurd f
      unlooped (Some (Loop l ∷ Window a m ∷ [])) f q = absurd (cc)
      unlooped (Some (Loop l ∷ Window a m ∷ b ∷ bs)) f q = absurd f
      unlooped (Some (Loop l ∷ Loop a ∷ bs)) f q = absurd f
