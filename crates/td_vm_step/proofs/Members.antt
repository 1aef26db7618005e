-- What a search finds in a set that rises.
use Rattle.std.proofs.Common.{◌≡◌, ℕ, zero, suc, ◌+◌, ◌-◌, ◌<◌, ◌≤◌, true, false, Bool, ◌||◌, List, [], ◌∷◌, length, ⊎_elim, refl, ap, ◌∙◌, arith, nat_cmp}
use Rattle.std.specs.Prelude.{nat_eq, slice_index, Ok, Err}
use Rattle.std.specs.List.Sorted.{IsBinarySearchResult}
use Rattle.std.proofs.lemmas.List.Sorted.{searched}
use Rattle.std.proofs.lemmas.Bool.{cases_lt}
use Rattle.td_num.specs.Lists.{is_among}
use Rattle.td_ir.specs.WellFormed.{Rises}

is_same : (m n : ℕ) → m ≡ n → nat_eq n m ≡ true
is_same m n e = grind arith

is_other : (m n : ℕ) → (m ≡ n → ⊥) → nat_eq n m ≡ false
is_other m n e = grind arith

or_true : (v : Bool) → v || true ≡ true
or_true true = refl
or_true false = refl

among : (xs : List ℕ) (n k : ℕ) → k < length xs → slice_index xs k ≡ n → is_among xs n ≡ true
among [] n k l e = absurd (omega arith)
among (x ∷ xs) n zero l e = ap (λ v. v || is_among xs n) (is_same x n e)
among (x ∷ xs) n (suc k) l e = ap (λ v. nat_eq n x || v) (among xs n k (omega (arith, l)) e) ∙ or_true (nat_eq n x)

not_among : (xs : List ℕ) (n : ℕ) → ((k : ℕ) → k < length xs → slice_index xs k ≡ n → ⊥) → is_among xs n ≡ false
not_among [] n h = refl
not_among (x ∷ xs) n h = ap (λ v. v || is_among xs n) (is_other x n (h 0 (omega arith))) ∙ not_among xs n (λ k l. h (suc k) (omega (arith, l)))

up : (xs : List ℕ) → Rises xs → (k i : ℕ) → i + k < length xs → slice_index xs i ≤ slice_index xs (i + k)
up xs r zero i l = let e : i ≡ i + 0 = omega arith in let a = ap (slice_index xs) e in omega (arith, a)
up xs r (suc k) i l =
    let e : suc (i + k) ≡ i + suc k = omega arith in
    let a = up xs r k i (omega (arith, l)) in
    let b = r (i + k) (omega (arith, l)) in
    let f = ap (slice_index xs) e in
    omega (arith, a, b, f)

ordered : (xs : List ℕ) → Rises xs → (i j : ℕ) → i ≤ j → j < length xs → slice_index xs i ≤ slice_index xs j
ordered xs r i j h l =
    let e : i + (j - i) ≡ j = omega (arith, h) in
    let a = up xs r (j - i) i (omega (arith, h, l)) in
    let f = ap (slice_index xs) e in
    omega (arith, a, f)

pub found : (n : ℕ) (xs : List ℕ) → Rises xs → (k : ℕ) → IsBinarySearchResult (λ y. nat_cmp y n) xs (Ok k) → is_among xs n ≡ true
found n xs r k h = let s = searched xs n (Ok k) h (ordered xs r) in among xs n k s.0 s.1

pub missing : (n : ℕ) (xs : List ℕ) → Rises xs → (k : ℕ) → IsBinarySearchResult (λ y. nat_cmp y n) xs (Err k) → is_among xs n ≡ false
missing n xs r k h =
    let s = searched xs n (Err k) h (ordered xs r) in
    not_among xs n (λ j l e. ⊎_elim (λ q. let a = s.1 j q in omega (arith, a, e)) (λ q. let a = s.2 j q l in omega (arith, a, e)) (cases_lt j k))
