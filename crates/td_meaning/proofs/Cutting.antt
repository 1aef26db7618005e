-- Arrays are cuts.
use Rattle.std.proofs.Common.{◌≡◌, ℕ, zero, suc, ◌<◌, ◌≤◌, ◌+◌, List, true, false, cond, refl, sym, ap, ◌∙◌, arith, subst, inl, inr, nat_eq}
use Rattle.std.proofs.lemmas.Bool.{cases_eq, eq-eqb, ne_eqb}
use Rattle.td_core.specs.Outcome.{Ending, Accepted, Rejected, Behavior, accepted, and_then}
use Rattle.td_meaning.specs.Meaning.{elements}
use Rattle.td_meaning.specs.Cuts.{Cuts, here, cut, MovesOn, ArraysAreCuts}

-- goes on where it accepts, endings alone
abbrev go_on : Ending → (ℕ → List ℕ → Ending) → Ending
go_on (Accepted position cells) go = go position cells
go_on (Rejected reason position trace cells) go = Rejected reason position trace cells

onward_is : (t : Behavior) (go : ℕ → List ℕ → Behavior) → (and_then t go).ending ≡ go_on t.ending (λ q cells. (go q cells).ending)
onward_is t go = by t.ending
  where
    by : (o : Ending) → (and_then (record { ending = o; reads = t.reads }) go).ending ≡ go_on o (λ q cells. (go q cells).ending)
    by (Accepted q cells) = refl
    by (Rejected reason position trace cells) = refl

elements_done : (each : ℕ → List ℕ → Behavior) (t start end p : ℕ) (cells : List ℕ) → nat_eq p end ≡ true → (elements each (suc t) start end p cells).ending ≡ Accepted p cells
unfolding elements
elements_done each t start end p cells e = ap (λ b. (cond b (accepted p cells) (and_then (each p cells) (elements each t start end))).ending) e

elements_step : (each : ℕ → List ℕ → Behavior) (t start end p : ℕ) (cells : List ℕ) → nat_eq p end ≡ false → (elements each (suc t) start end p cells).ending ≡ go_on (each p cells).ending (λ q cells. (elements each t start end q cells).ending)
unfolding elements
elements_step each t start end p cells e =
    ap (λ b. (cond b (accepted p cells) (and_then (each p cells) (elements each t start end))).ending) e ∙ onward_is (each p cells) (elements each t start end)

module _ (each : ℕ → List ℕ → Behavior) (start end : ℕ) where
  up : (p r : ℕ) (cells last : List ℕ) → Cuts each p cells r last → p ≤ r
  up p r cells last here = omega arith
  up p r cells last (cut {q = q} {more = more} lt e rest) = omega (arith, up q r more last rest)

  -- along the cuts the array's outcome stays the same
  along : (p r : ℕ) (cells last : List ℕ) → Cuts each p cells r last → r ≤ end → (t : ℕ) → end ≤ p + t → (o : Ending) → ((u : ℕ) → end ≤ r + u → (elements each (suc u) start end r last).ending ≡ o) → (elements each (suc t) start end p cells).ending ≡ o
  along p r cells last here h t room o at = at t room
  along p r cells last (cut {q = q} {more = more} lt e rest) h zero room o at = absurd (omega (arith, up q r more last rest))
  along p r cells last (cut {q = q} {more = more} lt e rest) h (suc t) room o at =
      let before : p < end = omega (arith, up q r more last rest) in
      let apart : p ≡ end → ⊥ = λ same. omega (arith, same) in
      let room' : end ≤ q + t = omega arith in
      elements_step each (suc t) start end p cells (ne_eqb p end apart)
      ∙ ap (λ v. go_on v (λ q cells. (elements each (suc t) start end q cells).ending)) e
      ∙ along q r more last rest h t room' o at

  -- what an outcome shows
  Shows : ℕ → List ℕ → Ending → Type 0
  Shows p cells (Accepted q last) = (q ≡ end) × Cuts each p cells end last
  Shows p cells (Rejected reason position trace last) = (q : ℕ) × (more : List ℕ) × Cuts each p cells q more × (q < end) × ((each q more).ending ≡ Rejected reason position trace last)

  shows_more : (p q : ℕ) (cells more : List ℕ) (o : Ending) → p < q → (each p cells).ending ≡ Accepted q more → Shows q more o → Shows p cells o
  unfolding Shows
  shows_more p q cells more (Accepted r last) lt e s = (s.0, cut lt e s.1)
  shows_more p q cells more (Rejected reason position trace last) lt e s = (s.0, s.1, cut lt e s.2, s.3, s.4)

  module _ (moves : MovesOn each end) where
    one_step : (t p : ℕ) (cells : List ℕ) → p ≤ end → end ≤ p + suc t → (p ≡ end → ⊥) → ((q : ℕ) (more : List ℕ) → q ≤ end → end ≤ q + t → Shows q more (elements each (suc t) start end q more).ending) → (o : Ending) → (each p cells).ending ≡ o → Shows p cells (go_on o (λ q cells. (elements each (suc t) start end q cells).ending))
    unfolding Shows
    one_step t p cells low room apart next (Accepted q more) e =
        let on = moves.by p q cells more low e in
        let room' : end ≤ q + t = omega (arith, on.0) in
        shows_more p q cells more (elements each (suc t) start end q more).ending on.0 e (next q more on.1 room')
    one_step t p cells low room apart next (Rejected reason position trace last) e = let before : p < end = omega arith in (p, cells, here, before, e)

    shown : (t p : ℕ) (cells : List ℕ) → p ≤ end → end ≤ p + t → Shows p cells (elements each (suc t) start end p cells).ending
    unfolding Shows
    shown zero p cells low room =
        let e : p ≡ end = omega arith in
        subst (Shows p cells) (sym (elements_done each zero start end p cells (eq-eqb p end e))) (e, subst (λ r. Cuts each p cells r cells) e here)
    shown (suc t) p cells low room = elim (cases_eq p end) [
      | inl e ↦ subst (Shows p cells) (sym (elements_done each (suc t) start end p cells (eq-eqb p end e))) (e, subst (λ r. Cuts each p cells r cells) e here)
      | inr apart ↦ subst (Shows p cells) (sym (elements_step each (suc t) start end p cells (ne_eqb p end apart))) (one_step t p cells low room apart (λ q more. shown t q more) (each p cells).ending refl)
    ]

pub arrays_are_cuts : ArraysAreCuts
unfolding Shows
arrays_are_cuts each start size p cells moves =
    let end = p + size in
    let room : end ≤ p + size = omega arith in
    let low : p ≤ end = omega arith in
    let s = shown each start end moves size p cells low room in
    record {
      accepts = λ q last. (
        (λ e. subst (Shows each start end p cells) e s),
        (λ w. along each start end p end cells last w.1 (omega arith) size room (Accepted end last) (λ u h. elements_done each u start end end last (eq-eqb end end refl)) ∙ ap (λ r. Accepted r last) (sym w.0)),
      );
      fails = λ reason position trace last. (
        (λ e. subst (Shows each start end p cells) e s),
        (λ w. along each start end p w.0 cells w.1 w.2 (omega (arith, w.3)) size room (Rejected reason position trace last) (λ u h.
            let apart : w.0 ≡ end → ⊥ = λ same. omega (arith, same, w.3) in
            elements_step each u start end w.0 w.1 (ne_eqb w.0 end apart) ∙ ap (λ v. go_on v (λ q cells. (elements each u start end q cells).ending)) w.4)),
      );
    }
