-- No part is taken twice, so what is taken sums up to no more than there is.
use Rattle.std.proofs.Common.{◌≡◌, ℕ, zero, suc, ◌+◌, ◌≤◌, Bool, true, false, cond, not, ◌&&◌, ◌||◌, List, [], ◌∷◌, ◌++◌, Option, Some, None, length, get_or, set, nat_eq, refl, ap₂, subst, arith}
use Rattle.std.specs.List.{list_all, find}
use Rattle.std.proofs.lemmas.Bool.Decides.{nat_tests}
use Rattle.std.proofs.lemmas.Bool.{or_parts}
use Rattle.td_num.specs.Lists.{is_among}
use Rattle.td_num.specs.Numbers.{places_from}
use Rattle.td_front_order.specs.Order.{used_by, is_ready, next, turned, taken_after, order}

-- no number twice
abbrev pub AreDistinct : List ℕ → Type 0
AreDistinct [] = Unit {0}
AreDistinct (i ∷ is) = (is_among is i ≡ false) × AreDistinct is

-- ---- the order has no number twice

among_push : (xs : List ℕ) (n j : ℕ) → is_among xs j ≡ false → nat_eq n j ≡ false → is_among (xs ++ n ∷ []) j ≡ false
among_push [] n j h e = by (nat_eq j n) refl
  where
    by : (b : Bool) → nat_eq j n ≡ b → (b || false) ≡ false
    by true k = absurd (grind (arith, nat_tests))
    by false k = refl
among_push (x ∷ xs) n j h e = by (nat_eq j x) (among_push xs n j) h
  where
    by : (b : Bool) → (is_among xs j ≡ false → nat_eq n j ≡ false → is_among (xs ++ n ∷ []) j ≡ false) → (b || is_among xs j) ≡ false → (b || is_among (xs ++ n ∷ []) j) ≡ false
    by true ih k = absurd cc
    by false ih k = ih k e

pub distinct_push : (xs : List ℕ) (n : ℕ) → AreDistinct xs → is_among xs n ≡ false → AreDistinct (xs ++ n ∷ [])
distinct_push [] n d h = (refl, tt)
distinct_push (x ∷ xs) n d h =
    let both = or_parts (nat_eq n x) (is_among xs n) h in
    (among_push xs n x d.0 both.0, distinct_push xs n d.1 both.1)

found_holds : (p : ℕ → Bool) (xs : List ℕ) (i : ℕ) → find p xs ≡ Some i → p i ≡ true
found_holds p [] i e = absurd cc
found_holds p (x ∷ xs) i e = by (p x) refl (found_holds p xs i) e
  where
    by : (b : Bool) → p x ≡ b → (find p xs ≡ Some i → p i ≡ true) → cond b (Some x) (find p xs) ≡ Some i → p i ≡ true
    by true h ih k = let same : x ≡ i = cc in subst (λ n. p n ≡ true) same h
    by false h ih k = ih k

-- what is ready wasn't taken
ready_new : (graph : List (List ℕ)) (taken : List ℕ) (i : ℕ) → is_ready graph taken i ≡ true → is_among taken i ≡ false
ready_new graph taken i h = by (is_among taken i) h
  where
    by : (b : Bool) → (not b && list_all (is_among taken) (used_by graph i)) ≡ true → b ≡ false
    by true k = absurd cc
    by false k = refl

pub next_new : (graph : List (List ℕ)) (taken : List ℕ) (i : ℕ) → next graph taken ≡ Some i → is_among taken i ≡ false
next_new graph taken i e = ready_new graph taken i (found_holds (is_ready graph taken) (places_from 0 (length graph)) i e)

taken_distinct : (n : ℕ) (graph : List (List ℕ)) (taken : List ℕ) → AreDistinct taken → AreDistinct (taken_after n graph taken)
taken_distinct zero graph taken d = d
taken_distinct (suc n) graph taken d = by (λ more. taken_distinct n graph more) (next graph taken) refl
  where
    by : ((more : List ℕ) → AreDistinct more → AreDistinct (taken_after n graph more)) → (o : Option ℕ) → next graph taken ≡ o
        → AreDistinct (turned (λ more. taken_after n graph more) taken o)
    by again None e = d
    by again (Some i) e = again (taken ++ i ∷ []) (distinct_push taken i d (next_new graph taken i e))

pub order_distinct : (graph : List (List ℕ)) → AreDistinct (order graph)
order_distinct graph = taken_distinct (length graph) graph [] tt

-- ---- sums

abbrev pub total : List ℕ → ℕ
total [] = 0
total (w ∷ ws) = w + total ws

abbrev pub picked : List ℕ → List ℕ → ℕ
picked ws [] = 0
picked ws (i ∷ is) = get_or ws i 0 + picked ws is

-- one weight taken out
without : (ws : List ℕ) (i : ℕ) → total (set ws i 0) + get_or ws i 0 ≡ total ws
without [] zero = refl
without [] (suc i) = refl
without (w ∷ ws) zero = omega arith
without (w ∷ ws) (suc i) = let ih = without ws i in omega arith

elsewhere : (ws : List ℕ) (i j : ℕ) → nat_eq i j ≡ false → get_or (set ws i 0) j 0 ≡ get_or ws j 0
elsewhere [] i j e = refl
elsewhere (w ∷ ws) zero zero e = absurd (grind (arith, nat_tests))
elsewhere (w ∷ ws) zero (suc j) e = refl
elsewhere (w ∷ ws) (suc i) zero e = refl
elsewhere (w ∷ ws) (suc i) (suc j) e = elsewhere ws i j (grind (arith, nat_tests))

picked_same : (ws : List ℕ) (i : ℕ) (is : List ℕ) → is_among is i ≡ false → picked (set ws i 0) is ≡ picked ws is
picked_same ws i [] h = refl
picked_same ws i (j ∷ is) h =
    let both = or_parts (nat_eq i j) (is_among is i) h in
    ap₂ (λ (n m : ℕ). n + m) (elsewhere ws i j both.0) (picked_same ws i is both.1)

pub picked_within : (ws is : List ℕ) → AreDistinct is → picked ws is ≤ total ws
picked_within ws [] d = omega arith
picked_within ws (i ∷ is) d =
    let ih = picked_within (set ws i 0) is d.1 in
    let same = picked_same ws i is d.0 in
    let out = without ws i in
    omega (arith, ih, same, out)
