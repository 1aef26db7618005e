-- A set has no more numbers than the values of its enum, and they are among these.
use Rattle.std.proofs.Common.{◌≡◌, ℕ, suc, ◌+◌, ◌<◌, ◌≤◌, Bool, true, false, cond, ◌||◌, nat_eq, List, [], ◌∷◌, length, refl, sym, subst, ap, ◌∙◌, arith, slice_index_or}
use Rattle.td_num.specs.Lists.{Each, is_among}
use Rattle.td_core.specs.Weights.{total}
use Rattle.td_ir.specs.WellFormed.{Rises}
use Rattle.td_lower.specs.Sets.{IsSetOf, AreSetsOf}
use Rattle.td_image.specs.Within.{total as all_numbers}
use Rattle.td_num.proofs.Equals.{equal_itself as itself}
use Rattle.td_num.proofs.Truths.{eq_is as same_is, or_right}
use Rattle.td_ir.proofs.Rising.{rises_on, rises_above as above}

-- the numbers without one x
abbrev without : ℕ → List ℕ → List ℕ
without x [] = []
without x (y ∷ ys) = cond (nat_eq x y) ys (y ∷ without x ys)

shorter : (x : ℕ) (ys : List ℕ) → is_among ys x ≡ true → 1 + length (without x ys) ≡ length ys
shorter x [] h = absurd cc
shorter x (y ∷ ys) h = by (nat_eq x y) h (shorter x ys)
  where
    by : (b : Bool) → (b || is_among ys x) ≡ true → (is_among ys x ≡ true → 1 + length (without x ys) ≡ length ys) → 1 + length (cond b ys (y ∷ without x ys)) ≡ suc (length ys)
    by true h more = omega arith
    by false h more = let e = more h in omega (arith, e)

still_among : (x n : ℕ) (ys : List ℕ) → x < n → is_among ys n ≡ true → is_among (without x ys) n ≡ true
still_among x n [] l h = h
still_among x n (y ∷ ys) l h = by (nat_eq x y) refl (nat_eq n y) refl h (still_among x n ys l)
  where
    by : (b : Bool) → nat_eq x y ≡ b → (d : Bool) → nat_eq n y ≡ d → (d || is_among ys n) ≡ true → (is_among ys n ≡ true → is_among (without x ys) n ≡ true) → is_among (cond b ys (y ∷ without x ys)) n ≡ true
    by true e true f h more = absurd (let g = same_is x y e in let k = same_is n y f in omega (arith, l, g, k))
    by true e false f h more = h
    by false e true f h more = ap (λ b. b || is_among (without x ys) n) f
    by false e false f h more = ap (λ b. b || is_among (without x ys) n) f ∙ more h

abbrev AreAmong : List ℕ → List ℕ → Type 0
AreAmong values set = (n : ℕ) → is_among set n ≡ true → is_among values n ≡ true

no_longer : (values set : List ℕ) → Rises set → AreAmong values set → length set ≤ length values
no_longer values [] h a = omega arith
no_longer values (x ∷ xs) h a =
    let own : is_among values x ≡ true = a x (ap (λ b. b || is_among xs x) (itself x)) in
    let rest : AreAmong (without x values) xs = λ n e. still_among x n values (above x n xs h e) (a n (or_right (nat_eq n x) (is_among xs n) e)) in
    let more = no_longer (without x values) xs (rises_on x xs h) rest in
    let s = shorter x values own in
    omega (arith, more, s)

set_short : (values set : List ℕ) → IsSetOf values set → length set ≤ length values
set_short values set h = no_longer values set h.rises (λ n e. sym (h.same n) ∙ e)

-- ---- what holds of the values holds of the numbers of the set

of_among : (P : ℕ → Type 0) (values : List ℕ) (n : ℕ) → Each P values → is_among values n ≡ true → P n
of_among P [] n each h = absurd cc
of_among P (y ∷ ys) n each h = by (nat_eq n y) refl h (of_among P ys n each.1)
  where
    by : (b : Bool) → nat_eq n y ≡ b → (b || is_among ys n) ≡ true → (is_among ys n ≡ true → P n) → P n
    by true e g later = subst P (sym (same_is n y e)) each.0
    by false e g later = later g

each_among : (P : ℕ → Type 0) (values set : List ℕ) → Each P values → AreAmong values set → Each P set
each_among P values [] each a = tt
each_among P values (x ∷ xs) each a =
    (of_among P values x each (a x (ap (λ b. b || is_among xs x) (itself x))), each_among P values xs each (λ n e. a n (or_right (nat_eq n x) (is_among xs n) e)))

-- ---- the sets of a module

abbrev SetsAt : List (List ℕ) → List (List ℕ) → Type 0
SetsAt all sets = (k : ℕ) → IsSetOf (slice_index_or all k []) (slice_index_or sets k [])

sets_short : (all sets : List (List ℕ)) → length sets ≡ length all → SetsAt all sets → all_numbers sets ≤ total length all
sets_short [] [] e h = omega arith
sets_short [] (s ∷ sets) e h = absurd (omega (arith, e))
sets_short (v ∷ all) [] e h = absurd (omega (arith, e))
sets_short (v ∷ all) (s ∷ sets) e h =
    let one = set_short v s (h 0) in
    let more = sets_short all sets (omega (arith, e)) (λ k. h (suc k)) in
    omega (arith, one, more)

sets_among : (P : ℕ → Type 0) (all sets : List (List ℕ)) → length sets ≡ length all → SetsAt all sets → Each (Each P) all → Each (Each P) sets
sets_among P all [] e h each = tt
sets_among P [] (s ∷ sets) e h each = absurd (omega (arith, e))
sets_among P (v ∷ all) (s ∷ sets) e h each =
    (each_among P v s each.0 (λ n f. sym ((h 0).same n) ∙ f), sets_among P all sets (omega (arith, e)) (λ k. h (suc k)) each.1)

pub sets_few : (all sets : List (List ℕ)) → AreSetsOf all sets → all_numbers sets ≤ total length all
sets_few all sets h = sets_short all sets h.count h.each

pub sets_small : (P : ℕ → Type 0) (all sets : List (List ℕ)) → AreSetsOf all sets → Each (Each P) all → Each (Each P) sets
sets_small P all sets h each = sets_among P all sets h.count h.each each
