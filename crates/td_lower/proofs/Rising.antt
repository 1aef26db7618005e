-- Numbers in order, each once.
use Rattle.std.proofs.Common.{◌≡◌, ℕ, zero, suc, ◌+◌, ◌<◌, ◌≤◌, ◌||◌, ⊎_elim, List, [], ◌∷◌, ◌++◌, Bool, true, false, cond, nat_eq, nat_lt, length, slice_index_or, refl, sym, ap, subst, ◌∙◌, arith, length-append}
use Rattle.std.specs.Prelude.{IsPermutation, IsSorted}
use Rattle.std.specs.List.{sum_by}
use Rattle.std.specs.Ordering.{nat_cmp, is_lt}
use Rattle.std.proofs.lemmas.Bool.{cases_lt}
use Rattle.std.proofs.lemmas.Bool.Decides.{nat_tests}
use Rattle.std.proofs.lemmas.List.Sorted.{sum_by-IsPermutation}
use Rattle.std.proofs.lemmas.List.Sums.{sum_by-cons}
use Rattle.td_num.specs.Lists.{is_among}
use Rattle.td_ir.specs.WellFormed.{Rises}
use Rattle.td_lower.specs.Sets.{IsSetOf, AreSetsOf, once}
use Rattle.td_num.proofs.Truths.{eq_is as same_is}

-- the sets of the first n enums
pub record AreSetsTo (all sets : List (List ℕ)) (n : ℕ) : Type 0 where
  pub count : length sets ≡ n
  pub each : (k : ℕ) → k < n → IsSetOf (slice_index_or all k []) (slice_index_or sets k [])

-- each is at most the next
abbrev pub Climbs : List ℕ → Type 0
Climbs [] = Unit {0}
Climbs (x ∷ []) = Unit {0}
Climbs (x ∷ y ∷ ys) = (x ≤ y) × Climbs (y ∷ ys)

other_is : (x y : ℕ) → x ≤ y → nat_eq x y ≡ false → x < y
other_is x y h k = grind (arith, nat_tests)

-- the first of what is left is the first
abbrev head : ℕ → List ℕ → ℕ
head d [] = d
head d (x ∷ xs) = x

once_head : (d x : ℕ) (xs : List ℕ) → head d (once (x ∷ xs)) ≡ x
once_head d x [] = refl
once_head d x (y ∷ ys) = split (nat_eq x y) refl (once_head d y ys)
  where
    split : (b : Bool) → nat_eq x y ≡ b → head d (once (y ∷ ys)) ≡ y → head d (cond b (once (y ∷ ys)) (x ∷ once (y ∷ ys))) ≡ x
    split true e h = h ∙ sym (same_is x y e)
    split false e h = refl

abbrev pub Steep : List ℕ → Type 0
Steep [] = Unit {0}
Steep (x ∷ []) = Unit {0}
Steep (x ∷ y ∷ ys) = (x < y) × Steep (y ∷ ys)

steep_cons : (x y : ℕ) (zs : List ℕ) → x < y → head y zs ≡ y → Steep zs → Steep (x ∷ zs)
steep_cons x y [] l e s = tt
steep_cons x y (z ∷ zs) l e s = (subst (λ q. x < q) (sym e) l, s)

steep_once : (xs : List ℕ) → Climbs xs → Steep (once xs)
steep_once [] h = tt
steep_once (x ∷ []) h = tt
steep_once (x ∷ y ∷ ys) h = split (nat_eq x y) refl (steep_once (y ∷ ys) h.1)
  where
    split : (b : Bool) → nat_eq x y ≡ b → Steep (once (y ∷ ys)) → Steep (cond b (once (y ∷ ys)) (x ∷ once (y ∷ ys)))
    split true e rest = rest
    split false e rest = steep_cons x y (once (y ∷ ys)) (other_is x y h.0 e) (once_head y y ys) rest

rises : (xs : List ℕ) → Steep xs → Rises xs
rises [] h j l = absurd (omega (arith, l))
rises (x ∷ []) h j l = absurd (omega (arith, l))
rises (x ∷ y ∷ ys) h zero l = h.0
rises (x ∷ y ∷ ys) h (suc j) l = rises (y ∷ ys) h.1 j (omega (arith, l))

or_same : (a b : Bool) → (a || (a || b)) ≡ (a || b)
or_same true b = refl
or_same false b = refl

among_once : (n : ℕ) (xs : List ℕ) → is_among (once xs) n ≡ is_among xs n
among_once n [] = refl
among_once n (x ∷ []) = refl
among_once n (x ∷ y ∷ ys) = split (nat_eq x y) refl (among_once n (y ∷ ys))
  where
    split : (b : Bool) → nat_eq x y ≡ b → is_among (once (y ∷ ys)) n ≡ is_among (y ∷ ys) n → is_among (cond b (once (y ∷ ys)) (x ∷ once (y ∷ ys))) n ≡ (nat_eq n x || is_among (y ∷ ys) n)
    split true e rest = rest ∙ (sym (or_same (nat_eq n y) (is_among ys n)) ∙ ap (λ q. nat_eq n q || is_among (y ∷ ys) n) (sym (same_is x y e)))
    split false e rest = ap (λ b. nat_eq n x || b) rest

-- by how often a number stands there
abbrev hits : ℕ → ℕ → ℕ
hits n x = cond (nat_eq n x) 1 0

among_hits : (n : ℕ) (xs : List ℕ) → is_among xs n ≡ nat_lt 0 (sum_by (hits n) xs)
among_hits n [] = refl
among_hits n (x ∷ xs) = split (nat_eq n x) (is_among xs n) (sum_by (hits n) xs) (among_hits n xs) ∙ ap (nat_lt 0) (sym (sum_by-cons (hits n) x xs))
  where
    split : (b a : Bool) (k : ℕ) → a ≡ nat_lt 0 k → (b || a) ≡ nat_lt 0 (cond b 1 0 + k)
    split true a k e = grind (arith, nat_tests)
    split false a k e = grind (arith, nat_tests, e)

among_permuted : (n : ℕ) (xs ys : List ℕ) → IsPermutation xs ys → is_among ys n ≡ is_among xs n
among_permuted n xs ys p = among_hits n ys ∙ (ap (nat_lt 0) (sum_by-IsPermutation (hits n) xs ys p) ∙ sym (among_hits n xs))

not_less : (x y : ℕ) → is_lt (nat_cmp y x) ≡ false → x ≤ y
not_less x y h = grind (arith, nat_tests)

-- each is not less than the one before it
abbrev Follows : List ℕ → Type 0
Follows xs = (k : ℕ) → suc k < length xs → is_lt (nat_cmp (slice_index_or xs (suc k) 0) (slice_index_or xs k 0)) ≡ false

climbs : (xs : List ℕ) → Follows xs → Climbs xs
climbs [] h = tt
climbs (x ∷ []) h = tt
climbs (x ∷ y ∷ ys) h = (not_less x y (h 0 (omega arith)), climbs (y ∷ ys) (λ k b. h (suc k) (omega (arith, b))))

follows : (xs : List ℕ) → IsSorted nat_cmp xs → Follows xs
follows xs h k b = (let e : k + 1 ≡ suc k = omega arith in subst (λ n. is_lt (nat_cmp (slice_index_or xs n 0) (slice_index_or xs k 0)) ≡ false) e (h k 0 (omega arith) (omega (arith, b))))

pub is_set : (values sorted : List ℕ) → IsPermutation values sorted → IsSorted nat_cmp sorted → IsSetOf values (once sorted)
is_set values sorted p s = record {
  rises = rises (once sorted) (steep_once sorted (climbs sorted (follows sorted s)));
  same = λ n. among_once n sorted ∙ among_permuted n values sorted p;
}

-- sets of the first so many enums
pub past : (xs : List (List ℕ)) (k : ℕ) → length xs ≤ k → slice_index_or xs k [] ≡ []
past [] k h = refl
past (x ∷ xs) zero h = absurd (omega (arith, h))
past (x ∷ xs) (suc k) h = past xs k (omega (arith, h))

front_same : (xs : List (List ℕ)) (x : List ℕ) (k : ℕ) → k < length xs → slice_index_or (xs ++ x ∷ []) k [] ≡ slice_index_or xs k []
front_same [] x k h = absurd (omega (arith, h))
front_same (y ∷ ys) x zero h = refl
front_same (y ∷ ys) x (suc k) h = front_same ys x k (omega (arith, h))

last_is : (xs : List (List ℕ)) (x : List ℕ) (k : ℕ) → length xs ≡ k → slice_index_or (xs ++ x ∷ []) k [] ≡ x
last_is [] x zero h = refl
last_is [] x (suc k) h = absurd (omega (arith, h))
last_is (y ∷ ys) x zero h = absurd (omega (arith, h))
last_is (y ∷ ys) x (suc k) h = last_is ys x k (omega (arith, h))

pub sets_more : (all sets : List (List ℕ)) (set : List ℕ) (n : ℕ) → AreSetsTo all sets n → IsSetOf (slice_index_or all n []) set → AreSetsTo all (sets ++ set ∷ []) (n + 1)
sets_more all sets set n h s = record {
  count = (let x = h.count in let y = length-append sets (set ∷ []) in omega (arith, x, y));
  each = λ k l. ⊎_elim
      (λ (lt : k < n). subst (IsSetOf (slice_index_or all k [])) (sym (front_same sets set k (let x = h.count in omega (arith, x, lt)))) (h.each k lt))
      (λ (ge : n ≤ k). (let same : n ≡ k = omega (arith, l, ge) in
      subst (λ j. IsSetOf (slice_index_or all j []) (slice_index_or (sets ++ set ∷ []) j [])) same (subst (IsSetOf (slice_index_or all n [])) (sym (last_is sets set n h.count)) s)))
      (cases_lt k n);
}

pub sets_end : (all sets : List (List ℕ)) (n : ℕ) → n ≡ length all → AreSetsTo all sets n → AreSetsOf all sets
sets_end all sets n e h = record {
  count = h.count ∙ e;
  each = λ k. ⊎_elim
      (λ (lt : k < n). h.each k lt)
      (λ (ge : n ≤ k). (let c = h.count in
      subst (λ y. IsSetOf y (slice_index_or sets k [])) (sym (past all k (omega (arith, e, ge))))
      (subst (IsSetOf []) (sym (past sets k (omega (arith, c, ge)))) (record { rises = λ j l. absurd (omega (arith, l)); same = λ m. refl }))))
      (cases_lt k n);
}
