-- A source in memory that never fails (own rule).
use Rattle.std.specs.Prelude.{◌≡◌, ℕ, min, List, ◌++◌, length, take, drop, Result, IsOkAnd}

-- a read gives as many bytes as are left and fit, to the beginning of the buffer, and they are left no more. The rest of the
-- buffer is as it was
abbrev pub HandsOver : {E : Type 0} → List ℕ → List ℕ → List ℕ → List ℕ → Result ℕ E → Type 0
HandsOver old new before after result = IsOkAnd result (λ n. (n ≡ min (length before) (length old)) × (new ≡ drop n old) × (after ≡ take n old ++ drop n before))
