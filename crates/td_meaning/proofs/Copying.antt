-- Copies. Cited by other crates.
use Rattle.std.proofs.Common.{◌≡◌, ℕ, zero, suc, ◌+◌, ◌*◌, ◌%◌, ◌≤◌, Bool, true, false, cond, nat_eq, nat_le, List, ◌++◌, length, replicate, Some, refl, sym, ap, ◌∙◌, arith}
use Rattle.std.proofs.lemmas.List.{append-nil}
use Rattle.std.proofs.lemmas.Bool.{le-leb, eq-eqb, eqb-true, eqb-false}
use Rattle.td_num.specs.Numbers.{bytes_in, places_from}
use Rattle.td_meaning.specs.Imports.{NotEnough, ListSize}
use Rattle.td_core.specs.Outcome.{accepted, after_reading, and_then}
use Rattle.td_meaning.specs.Doing.{natural_of}
use Rattle.td_meaning.specs.Meaning.{demanded, taken, elements, divides, filled, with_copy}
use Rattle.td_meaning.specs.Copies.{buffers_at, opened, OpenedAlone, CopiedIsFilled}

pub opened_alone : OpenedAlone
opened_alone m entry cells none = ap (λ n. cells ++ replicate (2 * n) 0) none ∙ append-nil cells

-- bytes that aren't looked at fill what they stand in
bytes_fill : (start end turns p : ℕ) (cells : List ℕ) → p ≤ end → end ≤ p + turns → elements (taken 1 start end) turns start end p cells ≡ accepted end cells
unfolding elements
bytes_fill start end zero p cells le room =
    let e : p ≡ end = omega (arith, le, room) in
    ap (λ b. demanded ListSize b start p cells) (eq-eqb p end e) ∙ ap (λ q. accepted q cells) e
bytes_fill start end (suc turns) p cells le room = by (nat_eq p end) refl (λ lt. bytes_fill start end turns (p + 1) cells (omega (arith, lt)) (omega (arith, room)))
  where
    by : (v : Bool) → nat_eq p end ≡ v → (suc p ≤ end → elements (taken 1 start end) turns start end (p + 1) cells ≡ accepted end cells)
        → cond v (accepted p cells) (and_then (taken 1 start end p cells) (elements (taken 1 start end) turns start end)) ≡ accepted end cells
    by true e next = ap (λ q. accepted q cells) (eqb-true p end e)
    by false e next =
        let apart = eqb-false p end e in
        let lt : suc p ≤ end = omega (arith, le, apart) in
        ap (λ b. and_then (demanded NotEnough b start (p + 1) cells) (elements (taken 1 start end) turns start end)) (le-leb (p + 1) end (omega (arith, lt)))
        ∙ next lt

whole : (n : ℕ) → divides (Some 1) n ≡ true
whole n = let e : n % 1 ≡ 0 = omega arith in eq-eqb (n % 1) 0 e

filled_is : (n end p : ℕ) (cells : List ℕ) → filled (taken 1 p) (Some 1) n end p cells ≡ taken n p end p cells
filled_is n end p cells = by (nat_le (p + n) end)
  where
    by : (v : Bool) → and_then (demanded NotEnough v p (p + n) cells) (λ q cells. and_then (demanded ListSize (divides (Some 1) n) p p cells) (elements (taken 1 p q) (suc n) p q)) ≡ demanded NotEnough v p (p + n) cells
    by true =
        ap (λ b. and_then (demanded ListSize b p p cells) (elements (taken 1 p (p + n)) (suc n) p (p + n))) (whole n)
        ∙ bytes_fill p (p + n) (suc n) p cells (omega arith) (omega arith)
    by false = refl

pub copied_is_filled : CopiedIsFilled
copied_is_filled sets senses type size c env places message end p cells one =
    let n = natural_of size env in
    ap (λ t. and_then t (λ q cells. after_reading (places_from p n) (accepted q (with_copy c places p n cells)))) (
    sym (ap (λ w. filled (λ (q : ℕ). taken (bytes_in w) p q) (Some 1) n end p cells) one ∙ filled_is n end p cells))
