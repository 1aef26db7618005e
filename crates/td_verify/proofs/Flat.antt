-- Windows and loops stand as they may after an instruction that breaks neither V1 nor V4. Cited by other crates.
use Rattle.std.proofs.Common.{◌≡◌, ℕ, ◌+◌, List, [], ◌∷◌, Option, Some, None, true, false, refl, sym, subst, add-one}
use Rattle.td_verify.specs.declared.shape.Shape.{Shape}
use Rattle.td_verify.specs.declared.shape.Shape.TheVariants.{Straight, Jump, Branch, Call, Return, Fail, While, Again, Open, Close}
use Rattle.td_verify.specs.declared.bracket.Bracket.{Bracket}
use Rattle.td_verify.specs.declared.bracket.Bracket.TheVariants.{Window, Loop}
use Rattle.td_verify.specs.declared.bracket.Innermost.TheVariants.{Within}
use Rattle.td_verify.specs.Brackets.{shape_at, opened, and_then, opening, closing_window, closing_loop, innermost, in_window, in_loop}
use Rattle.td_verify.specs.Flat.{IsFlat}
use Rattle.td_verify.specs.Rules.{StandsWell, LeadsWell, IsOutside}

open_flat : (p k : ℕ) (o : Option (List Bracket)) → IsFlat o → in_window o ≡ false → IsFlat (opening (Window p k) o)
open_flat p k None f n = f
open_flat p k (Some []) f n = tt
open_flat p k (Some (Window a m ∷ [])) f n = absurd (cc)
open_flat p k (Some (Window a m ∷ c ∷ bs)) f n = absurd f
open_flat p k (Some (Loop l ∷ [])) f n = absurd f
open_flat p k (Some (Loop l ∷ Window a m ∷ [])) f n = absurd (cc)
open_flat p k (Some (Loop l ∷ Window a m ∷ c ∷ bs)) f n = absurd f
open_flat p k (Some (Loop l ∷ Loop a ∷ bs)) f n = absurd f

while_flat : (p : ℕ) (o : Option (List Bracket)) → IsFlat o → (in_window o ≡ true) × (in_loop o ≡ false) → IsFlat (opening (Loop p) o)
while_flat p None f n = f
while_flat p (Some []) f n = (let e = n.0 in absurd (cc))
while_flat p (Some (Window a m ∷ [])) f n = tt
while_flat p (Some (Window a m ∷ c ∷ bs)) f n = absurd f
while_flat p (Some (Loop l ∷ [])) f n = absurd f
while_flat p (Some (Loop l ∷ Window a m ∷ [])) f n = (let e = n.1 in absurd (cc))
while_flat p (Some (Loop l ∷ Window a m ∷ c ∷ bs)) f n = absurd f
while_flat p (Some (Loop l ∷ Loop a ∷ bs)) f n = absurd f

close_flat : (o : Option (List Bracket)) → IsFlat o → (in_window o ≡ true) × (in_loop o ≡ false) → IsFlat (closing_window o)
close_flat None f n = f
close_flat (Some []) f n = (let e = n.0 in absurd (cc))
close_flat (Some (Window a m ∷ [])) f n = tt
close_flat (Some (Window a m ∷ c ∷ bs)) f n = absurd f
close_flat (Some (Loop l ∷ [])) f n = absurd f
close_flat (Some (Loop l ∷ Window a m ∷ [])) f n = (let e = n.1 in absurd (cc))
close_flat (Some (Loop l ∷ Window a m ∷ c ∷ bs)) f n = absurd f
close_flat (Some (Loop l ∷ Loop a ∷ bs)) f n = absurd f

again_flat : (t : ℕ) (o : Option (List Bracket)) → IsFlat o → innermost o ≡ Within (Loop t) → IsFlat (closing_loop o)
again_flat t None f n = f
again_flat t (Some []) f n = absurd (cc)
again_flat t (Some (Window a m ∷ bs)) f n = absurd (cc)
again_flat t (Some (Loop l ∷ [])) f n = absurd f
again_flat t (Some (Loop l ∷ Window a m ∷ [])) f n = tt
again_flat t (Some (Loop l ∷ Window a m ∷ c ∷ bs)) f n = absurd f
again_flat t (Some (Loop l ∷ Loop a ∷ bs)) f n = absurd f

flat_step : (s : List Shape) (end p : ℕ) (i : Shape) → IsFlat (opened s p) → StandsWell (opened s p) i → LeadsWell s end p i → IsFlat (and_then p i (opened s p))
flat_step s end p (Straight b w) f n l = f
flat_step s end p (Jump t) f n l = f
flat_step s end p (Branch t) f n l = f
flat_step s end p (Call m) f n l = f
flat_step s end p Return f n l = f
flat_step s end p Fail f n l = f
flat_step s end p (While t) f n l = while_flat p (opened s p) f n
flat_step s end p (Again t) f n l = again_flat t (opened s p) f l
flat_step s end p (Open k) f n l = open_flat p k (opened s p) f n
flat_step s end p Close f n l = close_flat (opened s p) f n

pub next_opened : (s : List Shape) (p : ℕ) → opened s (p + 1) ≡ and_then p (shape_at s p) (opened s p)
next_opened s p = rw add-one refl

pub flat_next : (s : List Shape) (end p : ℕ) → IsFlat (opened s p) → StandsWell (opened s p) (shape_at s p) → LeadsWell s end p (shape_at s p) → IsFlat (opened s (p + 1))
flat_next s end p f n l = subst IsFlat (sym (next_opened s p)) (flat_step s end p (shape_at s p) f n l)

-- nothing open
pub flat_none : (o : Option (List Bracket)) → IsFlat o → IsOutside o → o ≡ Some []
flat_none None f n = absurd f
flat_none (Some []) f n = refl
flat_none (Some (Window a m ∷ [])) f n = (let e = n.0 in absurd (cc))
flat_none (Some (Window a m ∷ c ∷ bs)) f n = absurd f
flat_none (Some (Loop l ∷ [])) f n = absurd f
flat_none (Some (Loop l ∷ Window a m ∷ [])) f n = (let e = n.0 in absurd (cc))
flat_none (Some (Loop l ∷ Window a m ∷ c ∷ bs)) f n = absurd f
flat_none (Some (Loop l ∷ Loop a ∷ bs)) f n = absurd f
