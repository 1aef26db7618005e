-- A search along a list.
use Rattle.std.proofs.Common.{◌≡◌, ℕ, zero, suc, ◌+◌, ◌<◌, ◌≤◌, Bool, true, false, ◌&&◌, ◌||◌, List, [], ◌∷◌, drop, length, slice_index_or, nat_eq, refl, sym, ap, ◌∙◌, arith}
use Rattle.std.specs.Prelude.{slice_index}
use Rattle.std.specs.List.{list_all}
use Rattle.std.proofs.lemmas.Bool.Decides.{nat_tests}
use Rattle.td_num.specs.Lists.{is_among}

all_suc : (p : ℕ → Bool) (xs : List ℕ) (at : ℕ) → at < length xs → p (slice_index xs at) ≡ true → list_all p (drop (suc at) xs) ≡ list_all p (drop at xs)
all_suc p [] at lt h = absurd (omega arith)
all_suc p (x ∷ xs) zero lt h = sym (ap (λ b. b && list_all p xs) h)
all_suc p (x ∷ xs) (suc at) lt h = all_suc p xs at (omega arith) h

pub all_on : (p : ℕ → Bool) (xs : List ℕ) (at : ℕ) → at < length xs → p (slice_index xs at) ≡ true → list_all p (drop (at + 1) xs) ≡ list_all p (drop at xs)
all_on p xs at lt h = let next : at + 1 ≡ suc at = omega arith in ap (λ n. list_all p (drop n xs)) next ∙ all_suc p xs at lt h

pub all_past : (p : ℕ → Bool) (xs : List ℕ) (at : ℕ) → length xs ≤ at → list_all p (drop at xs) ≡ true
all_past p [] zero le = refl
all_past p [] (suc at) le = refl
all_past p (x ∷ xs) zero le = absurd (omega arith)
all_past p (x ∷ xs) (suc at) le = all_past p xs at (omega arith)

pub among_at : (xs : List ℕ) (at : ℕ) → at < length xs → is_among xs (slice_index xs at) ≡ true
among_at [] at lt = absurd (omega arith)
among_at (x ∷ xs) zero lt = let same : nat_eq x x ≡ true = grind (arith, nat_tests) in ap (λ b. b || is_among xs x) same
among_at (x ∷ xs) (suc at) lt = by (nat_eq (slice_index xs at) x) (among_at xs at (omega arith))
  where
    by : (b : Bool) → is_among xs (slice_index xs at) ≡ true → (b || is_among xs (slice_index xs at)) ≡ true
    by true h = refl
    by false h = h

drop_suc : (xs : List ℕ) (i : ℕ) → i < length xs → drop i xs ≡ slice_index_or xs i 0 ∷ drop (suc i) xs
drop_suc [] i lt = absurd (omega arith)
drop_suc (x ∷ xs) zero lt = refl
drop_suc (x ∷ xs) (suc i) lt = drop_suc xs i (omega arith)

-- what is left of a list begins with the item of this turn
pub drop_at : (xs : List ℕ) (i : ℕ) → i < length xs → drop i xs ≡ slice_index_or xs i 0 ∷ drop (i + 1) xs
drop_at xs i lt = let next : suc i ≡ i + 1 = omega arith in drop_suc xs i lt ∙ ap (λ n. slice_index_or xs i 0 ∷ drop n xs) next
