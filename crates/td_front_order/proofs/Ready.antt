-- The first part that is ready, by flags and by the list of those taken. Cited by other crates.
use Rattle.std.proofs.Common.{◌≡◌, ℕ, zero, suc, ◌+◌, ◌-◌, ◌<◌, ◌≤◌, Bool, true, false, cond, not, ◌||◌, ◌&&◌, List, [], ◌∷◌, ◌++◌, length, get_or, set, replicate, Option, Some, None, nat_eq, refl, sym, ap, ◌∙◌, arith}
use Rattle.std.specs.List.{list_all, find}
use Rattle.std.proofs.lemmas.List.{get_or-set_same, get_or-set_other}
use Rattle.std.proofs.lemmas.Bool.Decides.{nat_tests}
use Rattle.td_num.specs.Lists.{is_among}
use Rattle.td_num.specs.Numbers.{places_from}
use Rattle.td_num.proofs.Truths.{or_right}
use Rattle.td_front_order.specs.Order.{used_by, is_ready, next, turned, taken_after, order}
use Rattle.td_front_order.specs.Flags.{flag_at, is_ready_by}

pub flag_is : (flags : List Bool) (i : ℕ) → flag_at flags i ≡ get_or flags i false
flag_is [] i = refl
flag_is (b ∷ flags) zero = refl
flag_is (b ∷ flags) (suc i) = flag_is flags i

pub none_flagged : (n i : ℕ) → flag_at (replicate n false) i ≡ false
none_flagged zero i = refl
none_flagged (suc n) zero = refl
none_flagged (suc n) (suc i) = none_flagged n i

pub among_append : (taken : List ℕ) (n j : ℕ) → is_among (taken ++ n ∷ []) j ≡ (is_among taken j || nat_eq j n)
among_append [] n j = by_test (nat_eq j n)
  where
    by_test : (b : Bool) → (b || false) ≡ b
    by_test true = refl
    by_test false = refl
among_append (v ∷ taken) n j = by_test (nat_eq j v) (among_append taken n j)
  where
    by_test : (b : Bool) → is_among (taken ++ n ∷ []) j ≡ (is_among taken j || nat_eq j n) → (b || is_among (taken ++ n ∷ []) j) ≡ ((b || is_among taken j) || nat_eq j n)
    by_test true h = refl
    by_test false h = h

or_false : (b c : Bool) → c ≡ false → (b || c) ≡ b
or_false true c e = refl
or_false false c e = e

-- one more taken
pub flagged_more : (flags : List Bool) (taken : List ℕ) (n : ℕ) → n < length flags → ((j : ℕ) → flag_at flags j ≡ is_among taken j) → (j : ℕ) → flag_at (set flags n true) j ≡ is_among (taken ++ n ∷ []) j
flagged_more flags taken n lt same j = by_test (nat_eq j n) refl
  where
    by_test : (b : Bool) → nat_eq j n ≡ b → flag_at (set flags n true) j ≡ is_among (taken ++ n ∷ []) j
    by_test true e =
        let at : j ≡ n = grind (arith, nat_tests) in
        flag_is (set flags n true) j ∙ ap (λ k. get_or (set flags n true) k false) at ∙ get_or-set_same flags n true false lt
        ∙ sym (among_append taken n j ∙ or_right (is_among taken j) (nat_eq j n) e)
    by_test false e =
        flag_is (set flags n true) j ∙ get_or-set_other flags n j true false (λ at. absurd (grind (arith, nat_tests))) ∙ sym (flag_is flags j) ∙ same j
        ∙ sym (among_append taken n j ∙ or_false (is_among taken j) (nat_eq j n) e)

all_same : (p q : ℕ → Bool) → ((j : ℕ) → p j ≡ q j) → (xs : List ℕ) → list_all p xs ≡ list_all q xs
all_same p q same [] = refl
all_same p q same (x ∷ xs) = ap (λ b. b && list_all p xs) (same x) ∙ ap (λ b. q x && b) (all_same p q same xs)

find_same : (p q : ℕ → Bool) → ((j : ℕ) → p j ≡ q j) → (xs : List ℕ) → find p xs ≡ find q xs
find_same p q same [] = refl
find_same p q same (x ∷ xs) = ap (λ b. cond b (Some x) (find p xs)) (same x) ∙ ap (λ o. cond (q x) (Some x) o) (find_same p q same xs)

ready_same : (graph : List (List ℕ)) (p q : ℕ → Bool) → ((j : ℕ) → p j ≡ q j) → (i : ℕ) → is_ready_by graph p i ≡ is_ready_by graph q i
ready_same graph p q same i = ap (λ b. not b && list_all p (used_by graph i)) (same i) ∙ ap (λ b. not (q i) && b) (all_same p q same (used_by graph i))

pub next_is : (graph : List (List ℕ)) (flags : List Bool) (taken : List ℕ) → ((j : ℕ) → flag_at flags j ≡ is_among taken j) → find (is_ready_by graph (flag_at flags)) (places_from 0 (length graph)) ≡ next graph taken
next_is graph flags taken same = find_same (is_ready_by graph (flag_at flags)) (is_ready graph taken) (ready_same graph (flag_at flags) (is_among taken) same) (places_from 0 (length graph))

-- what is found is a number of these
pub found_below : (p : ℕ → Bool) (from n i : ℕ) → find p (places_from from n) ≡ Some i → i < from + n
found_below p from zero i e = absurd cc
found_below p from (suc n) i e = by_test (p from) (found_below p (from + 1) n i) e
  where
    by_test : (b : Bool) → (find p (places_from (from + 1) n) ≡ Some i → i < from + 1 + n) → cond b (Some from) (find p (places_from (from + 1) n)) ≡ Some i → i < from + suc n
    by_test true h e = let same : from ≡ i = cc in omega (arith, same)
    by_test false h e = let lt = h e in omega (arith, lt)

-- so many turns
pub turn_more : (n : ℕ) (graph : List (List ℕ)) (taken : List ℕ) (i : ℕ) → next graph taken ≡ Some i → taken_after (suc n) graph taken ≡ taken_after n graph (taken ++ i ∷ [])
turn_more n graph taken i e = ap (λ o. turned (λ more. taken_after n graph more) taken o) e

pub turn_last : (n : ℕ) (graph : List (List ℕ)) (taken : List ℕ) → next graph taken ≡ None → taken_after n graph taken ≡ taken
turn_last zero graph taken e = refl
turn_last (suc n) graph taken e = ap (λ o. turned (λ more. taken_after n graph more) taken o) e

pub turns_left : (n i : ℕ) → i < n → n - i ≡ suc (n - (i + 1))
turns_left n i lt = omega arith

-- the search from one place on
pub find_on : (p : ℕ → Bool) (from n : ℕ) → 0 < n → p from ≡ false → find p (places_from from n) ≡ find p (places_from (from + 1) (n - 1))
find_on p from zero lt e = absurd (omega arith)
find_on p from (suc n) lt e = let less : suc n - 1 ≡ n = omega arith in rw (e, less) refl

pub find_here : (p : ℕ → Bool) (from n : ℕ) → 0 < n → p from ≡ true → find p (places_from from n) ≡ Some from
find_here p from zero lt e = absurd (omega arith)
find_here p from (suc n) lt e = rw e refl
