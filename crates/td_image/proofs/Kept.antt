-- Memory runs out only once a first row was read.
use Rattle.std.proofs.Common.{◌≡◌, ℕ, ◌⊎◌, inl, inr, List, Result, Ok, Err, subst}
use Rattle.td_image.specs.declared.fault.ReadError.{ReadError}
use Rattle.td_image.specs.Format.{Format, HasFront}
use Rattle.td_image.specs.Reading.{RanOutOnlyIf}

-- what holds anyway holds where memory ran out
pub memory_where : {X : Type 0} (r : Result X ReadError) (P : Type 0) → P → RanOutOnlyIf r P
memory_where (Ok x) P h = tt
memory_where (Err e) P h = λ ran. h

pub memory_weaker : {X : Type 0} (r : Result X ReadError) (P Q : Type 0) → (P → Q) → RanOutOnlyIf r P → RanOutOnlyIf r Q
memory_weaker (Ok x) P Q f h = tt
memory_weaker (Err e) P Q f h = λ ran. f (h ran)

module _ {S A : Type 0} (f : S → Format A) where
  -- no row was read, or a first one was
  abbrev pub Begun : S → S → List ℕ → List ℕ → Type 0
  Begun first s bytes rest = ((s ≡ first) × (rest ≡ bytes)) ⊎ HasFront (f first) bytes

  pub first_row : (first s : S) (bytes rest : List ℕ) → Begun first s bytes rest → HasFront (f s) rest → HasFront (f first) bytes
  first_row first s bytes rest (inl none) row = subst (λ (b : List ℕ). HasFront (f first) b) none.1 (subst (λ (t : S). HasFront (f t) rest) none.0 row)
  first_row first s bytes rest (inr already) row = already

  pub row_runs_out : (first s : S) (bytes rest : List ℕ) → Begun first s bytes rest → (f s).RunsOut rest → (f first).RunsOut bytes ⊎ HasFront (f first) bytes
  row_runs_out first s bytes rest (inl none) out = inl (subst (λ (b : List ℕ). (f first).RunsOut b) none.1 (subst (λ (t : S). (f t).RunsOut rest) none.0 out))
  row_runs_out first s bytes rest (inr already) out = inr already
