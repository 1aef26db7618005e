-- Rows that are written one after the other.
use Rattle.std.proofs.Common.{◌≡◌, ℕ, zero, suc, ◌+◌, ◌<◌, ◌≤◌, List, [], ◌∷◌, ◌++◌, length, map, min, take, drop, get_or, slice_set, refl, ap, subst, sym, ◌∙◌, arith}
use Rattle.std.proofs.lemmas.List.{take_all}
use Rattle.td_c_chain.specs.Told.{AreRows}

module _ {A B : Type 0} (f : A → B) where
  -- the first i rows are written
  abbrev pub AreWritten : List A → ℕ → List B → List B → Type 0
  AreWritten xs i was rows = rows ≡ map f (take i xs) ++ drop i was

  set_one : (xs : List A) (was : List B) (i : ℕ) (d : A) → i < length xs → i < length was
      → slice_set (map f (take i xs) ++ drop i was) i (f (get_or xs i d)) ≡ map f (take (suc i) xs) ++ drop (suc i) was
  set_one [] was i d lt few = absurd (omega (arith, lt))
  set_one (x ∷ xs) [] i d lt few = absurd (omega (arith, few))
  set_one (x ∷ xs) (w ∷ was) zero d lt few = refl
  set_one (x ∷ xs) (w ∷ was) (suc i) d lt few = ap (λ (ys : List B). f x ∷ ys) (set_one xs was i d (omega (arith, lt)) (omega (arith, few)))

  -- one row more
  pub written_one : (xs : List A) (was rows : List B) (i : ℕ) (d : A) → i < length xs → i < length was → AreWritten xs i was rows
      → AreWritten xs (i + 1) was (slice_set rows i (f (get_or xs i d)))
  written_one xs was rows i d lt few h =
      let next : i + 1 ≡ suc i = omega arith in
      subst (λ (n : ℕ). AreWritten xs n was (slice_set rows i (f (get_or xs i d)))) (sym next)
      (ap (λ (ys : List B). slice_set ys i (f (get_or xs i d))) h ∙ set_one xs was i d lt few)

  all_rows : (xs : List A) (was : List B) (i : ℕ) → i ≤ length xs → i ≤ length was → min (length xs) (length was) ≤ i
      → map f (take i xs) ++ drop i was ≡ take (length was) (map f xs ++ drop (length xs) was)
  all_rows [] [] i few room all = let none : i ≡ 0 = omega (arith, few) in ap (λ (n : ℕ). map f (take n []) ++ drop n []) none
  all_rows (x ∷ xs) [] i few room all = let none : i ≡ 0 = omega (arith, room) in ap (λ (n : ℕ). map f (take n (x ∷ xs)) ++ drop n []) none
  all_rows [] (w ∷ was) i few room all =
      let none : i ≡ 0 = omega (arith, few) in
      let size : length (w ∷ was) ≤ length (w ∷ was) = omega arith in
      ap (λ (n : ℕ). map f (take n []) ++ drop n (w ∷ was)) none ∙ sym (take_all (length (w ∷ was)) (w ∷ was) size)
  all_rows (x ∷ xs) (w ∷ was) zero few room all = absurd (omega (arith, all))
  all_rows (x ∷ xs) (w ∷ was) (suc i) few room all =
      ap (λ (ys : List B). f x ∷ ys) (all_rows xs was i (omega (arith, few)) (omega (arith, room)) (omega (arith, all)))

  -- all are written for which there is room
  pub written_all : (xs : List A) (was rows : List B) (i : ℕ) → i ≤ length xs → i ≤ length was → min (length xs) (length was) ≤ i
      → AreWritten xs i was rows → AreRows f xs was rows
  written_all xs was rows i few room all h = h ∙ all_rows xs was i few room all
