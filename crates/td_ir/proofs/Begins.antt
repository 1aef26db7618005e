-- Where routines begin. Cited by other crates.
use Rattle.std.proofs.Common.{◌≡◌, ℕ, zero, suc, ◌+◌, ◌-◌, ◌≤◌, List, [], ◌∷◌, map, refl, sym, ap, subst, arith, slice_index, slice_index_or}
use Rattle.td_ir.specs.declared.tables.Parts.{Parts}
use Rattle.td_ir.specs.declared.tables.Routine.{Routine}
use Rattle.td_ir.specs.Tables.{routine_of, lengths_of, no_routine, begin}

mapped : (xs : List Routine) (n : ℕ) → slice_index (map (λ r. r.length) xs) n ≡ (slice_index_or xs n no_routine).length
mapped [] n = refl
mapped (x ∷ xs) zero = refl
mapped (x ∷ xs) (suc n) = mapped xs n

pub length_there : (c : Parts) (n : ℕ) → slice_index (lengths_of c) n ≡ (routine_of c n).length
length_there c n = mapped c.routines n

pub begin_next : (c : Parts) (n : ℕ) → begin (lengths_of c) (suc n) ≡ begin (lengths_of c) n + (routine_of c n).length
begin_next c n = ap (λ x. begin (lengths_of c) n + x) (length_there c n)

up : (ls : List ℕ) (n k : ℕ) → begin ls n ≤ begin ls (n + k)
up ls n zero = let e : n + 0 ≡ n = omega arith in subst (λ x. begin ls n ≤ begin ls x) (sym e) (omega arith)
up ls n (suc k) = let e : n + suc k ≡ suc (n + k) = omega arith in let h = up ls n k in subst (λ x. begin ls n ≤ begin ls x) (sym e) (omega (arith, h))

pub begin_up : (ls : List ℕ) (n m : ℕ) → n ≤ m → begin ls n ≤ begin ls m
begin_up ls n m h = let e : n + (m - n) ≡ m = omega arith in subst (λ x. begin ls n ≤ begin ls x) e (up ls n (m - n))
