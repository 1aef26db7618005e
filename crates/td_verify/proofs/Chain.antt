-- What is open before a place is the innermost and what is open before that.
use Rattle.std.proofs.Common.{◌≡◌, ℕ, zero, suc, ◌<◌, List, [], ◌∷◌, Option, Some, None, refl, sym, ap, subst, ◌∙◌, arith}
use Rattle.td_verify.specs.declared.shape.Shape.{Shape}
use Rattle.td_verify.specs.declared.shape.Shape.TheVariants.{Straight, Jump, Branch, Call, Return, Fail, While, Again, Open, Close}
use Rattle.td_verify.specs.declared.bracket.Bracket.{Bracket}
use Rattle.td_verify.specs.declared.bracket.Bracket.TheVariants.{Window, Loop}
use Rattle.td_verify.specs.declared.bracket.Innermost.{Innermost}
use Rattle.td_verify.specs.declared.bracket.Innermost.TheVariants.{Within}
use Rattle.td_verify.specs.Brackets.{shape_at, opened, and_then, opening, closing_window, closing_loop, innermost}
use Rattle.td_verify.specs.Contexts.{place_of, AreContexts, IsOuter, OuterOf}

-- each bracket of a list stands before the place, and outside of it the rest is open
abbrev pub Chained : List Shape → ℕ → List Bracket → Type 0
Chained s p [] = Unit {0}
Chained s p (b ∷ bs) = (place_of b < p) × (opened s (place_of b) ≡ Some bs) × Chained s (place_of b) bs

abbrev pub ChainedIn : List Shape → ℕ → Option (List Bracket) → Type 0
ChainedIn s p None = Unit {0}
ChainedIn s p (Some bs) = Chained s p bs

later : (s : List Shape) (p : ℕ) (bs : List Bracket) → Chained s p bs → Chained s (suc p) bs
later s p [] h = tt
later s p (b ∷ bs) h = (omega (arith, h.0), h.1, h.2)

outward : (s : List Shape) (p : ℕ) (b : Bracket) (bs : List Bracket) → Chained s p (b ∷ bs) → Chained s (suc p) bs
outward s p b [] h = tt
outward s p b (c ∷ bs) h = (omega (arith, h.0, h.2.0), h.2.1, h.2.2)

opening_chained : (s : List Shape) (p : ℕ) (b : Bracket) (o : Option (List Bracket)) → place_of b ≡ p → opened s p ≡ o → ChainedIn s p o → ChainedIn s (suc p) (opening b o)
opening_chained s p b None e k h = tt
opening_chained s p b (Some bs) e k h = (omega (arith, e), subst (λ q. opened s q ≡ Some bs) (sym e) k, subst (λ q. Chained s q bs) (sym e) h)

window_chained : (s : List Shape) (p : ℕ) (o : Option (List Bracket)) → ChainedIn s p o → ChainedIn s (suc p) (closing_window o)
window_chained s p None h = tt
window_chained s p (Some []) h = tt
window_chained s p (Some (Window a k ∷ bs)) h = outward s p (Window a k) bs h
window_chained s p (Some (Loop a ∷ bs)) h = tt

loop_chained : (s : List Shape) (p : ℕ) (o : Option (List Bracket)) → ChainedIn s p o → ChainedIn s (suc p) (closing_loop o)
loop_chained s p None h = tt
loop_chained s p (Some []) h = tt
loop_chained s p (Some (Window a k ∷ bs)) h = tt
loop_chained s p (Some (Loop a ∷ bs)) h = outward s p (Loop a) bs h

same_chained : (s : List Shape) (p : ℕ) (o : Option (List Bracket)) → ChainedIn s p o → ChainedIn s (suc p) o
same_chained s p None h = tt
same_chained s p (Some bs) h = later s p bs h

step_chained : (s : List Shape) (p : ℕ) (i : Shape) (o : Option (List Bracket)) → opened s p ≡ o → ChainedIn s p o → ChainedIn s (suc p) (and_then p i o)
step_chained s p (Straight b w) o k h = same_chained s p o h
step_chained s p (Jump t) o k h = same_chained s p o h
step_chained s p (Branch t) o k h = same_chained s p o h
step_chained s p (Call m) o k h = same_chained s p o h
step_chained s p Return o k h = same_chained s p o h
step_chained s p Fail o k h = same_chained s p o h
step_chained s p (While t) o k h = opening_chained s p (Loop p) o refl k h
step_chained s p (Again t) o k h = loop_chained s p o h
step_chained s p (Open n) o k h = opening_chained s p (Window p n) o refl k h
step_chained s p Close o k h = window_chained s p o h

pub chained : (s : List Shape) (p : ℕ) → ChainedIn s p (opened s p)
chained s zero = tt
chained s (suc p) = step_chained s p (shape_at s p) (opened s p) refl (chained s p)

-- the innermost tells what is open
same_outer : (s : List Shape) (p q : ℕ) (b c : Bracket) (bs cs : List Bracket) → Within b ≡ Within c → Chained s p (b ∷ bs) → Chained s q (c ∷ cs) → b ∷ bs ≡ c ∷ cs
same_outer s p q b c bs cs e h k =
    let same : b ≡ c = cc in
    let there : opened s (place_of b) ≡ Some cs = subst (λ x. opened s (place_of x) ≡ Some cs) (sym same) k.1 in
    let rest : bs ≡ cs = (let x = h.1 in cc) in
    cc

by_innermost : (s : List Shape) (p q : ℕ) (o r : Option (List Bracket)) → ChainedIn s p o → ChainedIn s q r → innermost o ≡ innermost r → o ≡ r
by_innermost s p q None None h k e = refl
by_innermost s p q None (Some []) h k e = absurd (cc)
by_innermost s p q None (Some (c ∷ cs)) h k e = absurd (cc)
by_innermost s p q (Some []) None h k e = absurd (cc)
by_innermost s p q (Some []) (Some []) h k e = refl
by_innermost s p q (Some []) (Some (c ∷ cs)) h k e = absurd (cc)
by_innermost s p q (Some (b ∷ bs)) None h k e = absurd (cc)
by_innermost s p q (Some (b ∷ bs)) (Some []) h k e = absurd (cc)
by_innermost s p q (Some (b ∷ bs)) (Some (c ∷ cs)) h k e = ap Some (same_outer s p q b c bs cs e h k)

pub same_opened : (s : List Shape) (p q : ℕ) → innermost (opened s p) ≡ innermost (opened s q) → opened s p ≡ opened s q
same_opened s p q e = by_innermost s p q (opened s p) (opened s q) (chained s p) (chained s q) e

-- what the table says of the place outside
outside_is : (s : List Shape) (contexts : List Innermost) (p n : ℕ) (o : Option (List Bracket)) (r : Innermost) → AreContexts s contexts n → p < n → ChainedIn s p o → IsOuter contexts (innermost o) r → OuterOf o r
outside_is s contexts p n None r are l h i = tt
outside_is s contexts p n (Some []) r are l h i = tt
outside_is s contexts p n (Some (b ∷ bs)) r are l h i = i ∙ (are (place_of b) (omega (arith, h.0)) ∙ ap innermost h.1)

pub outer_is : (s : List Shape) (contexts : List Innermost) (p n : ℕ) (now r : Innermost) → AreContexts s contexts n → p < n → now ≡ innermost (opened s p) → IsOuter contexts now r → OuterOf (opened s p) r
outer_is s contexts p n now r are l e i = outside_is s contexts p n (opened s p) r are l (chained s p) (subst (λ x. IsOuter contexts x r) e i)
