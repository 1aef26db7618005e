-- Bytes of a sort at the beginning.
use Rattle.std.proofs.Common.{◌≡◌, ℕ, suc, ◌+◌, ◌≤◌, Bool, true, false, cond, List, [], ◌∷◌, ◌++◌, length, take, drop, refl, arith}
use Rattle.std.specs.List.{prefix_len}
use Rattle.std.proofs.lemmas.List.Folds.{length-prefix_len}
use Rattle.td_lexer.specs.Bytes.{every, first_is, run}
use Rattle.td_lexer.proofs.Within.{and_left, and_right}

module _ (sort : ℕ → Bool) where
  run_is : (bytes : List ℕ) → run sort bytes ≡ prefix_len sort bytes
  run_is bytes = length-prefix_len sort bytes

  prefix_least : (bytes rest : List ℕ) → every sort bytes ≡ true → length bytes ≤ prefix_len sort (bytes ++ rest)
  prefix_least [] rest e = omega arith
  prefix_least (b ∷ bytes) rest e = let ih = prefix_least bytes rest (and_right (sort b) (every sort bytes) e) in rw (and_left (sort b) (every sort bytes) e) (omega arith)

  prefix_all : (bytes rest : List ℕ) → every sort bytes ≡ true → first_is sort rest ≡ false → prefix_len sort (bytes ++ rest) ≡ length bytes
  prefix_all [] [] e f = refl
  prefix_all [] (b ∷ rest) e f = rw f refl
  prefix_all (b ∷ bytes) rest e f = let ih = prefix_all bytes rest (and_right (sort b) (every sort bytes) e) f in rw (and_left (sort b) (every sort bytes) e) (omega arith)

  prefix_every : (bytes : List ℕ) → every sort (take (prefix_len sort bytes) bytes) ≡ true
  prefix_every [] = refl
  prefix_every (b ∷ bytes) = by_test (sort b) refl (prefix_every bytes)
    where
      by_test : (c : Bool) → sort b ≡ c → every sort (take (prefix_len sort bytes) bytes) ≡ true → every sort (take (cond c (1 + prefix_len sort bytes) 0) (b ∷ bytes)) ≡ true
      by_test true e ih = let one : 1 + prefix_len sort bytes ≡ suc (prefix_len sort bytes) = omega arith in rw (one, e) ih
      by_test false e ih = refl

  prefix_stops : (bytes : List ℕ) → first_is sort (drop (prefix_len sort bytes) bytes) ≡ false
  prefix_stops [] = refl
  prefix_stops (b ∷ bytes) = by_test (sort b) refl (prefix_stops bytes)
    where
      by_test : (c : Bool) → sort b ≡ c → first_is sort (drop (prefix_len sort bytes) bytes) ≡ false → first_is sort (drop (cond c (1 + prefix_len sort bytes) 0) (b ∷ bytes)) ≡ false
      by_test true e ih = let one : 1 + prefix_len sort bytes ≡ suc (prefix_len sort bytes) = omega arith in rw one ih
      by_test false e ih = e

  -- bytes of the sort are among those at the beginning
  pub run_least : (bytes rest : List ℕ) → every sort bytes ≡ true → length bytes ≤ run sort (bytes ++ rest)
  run_least bytes rest e = rw run_is (prefix_least bytes rest e)

  -- where none follows they are all
  pub run_all : (bytes rest : List ℕ) → every sort bytes ≡ true → first_is sort rest ≡ false → run sort (bytes ++ rest) ≡ length bytes
  run_all bytes rest e f = rw run_is (prefix_all bytes rest e f)

  pub run_every : (bytes : List ℕ) → every sort (take (run sort bytes) bytes) ≡ true
  run_every bytes = rw run_is (prefix_every bytes)

  pub run_stops : (bytes : List ℕ) → first_is sort (drop (run sort bytes) bytes) ≡ false
  run_stops bytes = rw run_is (prefix_stops bytes)
