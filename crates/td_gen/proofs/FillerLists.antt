-- Filler bytes, by their count.
use Rattle.std.proofs.Common.{◌≡◌, ℕ, zero, suc, ◌+◌, List, [], ◌∷◌, ◌++◌, length, refl, ap, sym, ◌∙◌, append_assoc, length-append, add-one, arith}
use Rattle.td_gen.specs.Message.{filler, fillers}

pub fillers_count : (n j k : ℕ) → length (fillers n j k) ≡ k
fillers_count n j zero = refl
fillers_count n j (suc k) =
    let before = fillers_count n j k in
    rw length-append (omega (arith, before))

-- one more
pub next_filler : (n k : ℕ) (bytes first : List ℕ) (b : ℕ) → bytes ≡ first ++ fillers n (length first) k → b ≡ filler n (length first + k)
    → bytes ++ b ∷ [] ≡ first ++ fillers n (length first) (k + 1)
next_filler n k bytes first b h is =
    rw (add-one, h, is) (append_assoc first (fillers n (length first) k) (filler n (length first + k) ∷ []))
