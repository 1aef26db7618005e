-- What two cells of a copy buffer say that it holds. Cited by other crates.
use Rattle.std.proofs.Common.{◌≡◌, ℕ, zero, suc, ◌+◌, ◌*◌, ◌<◌, List, [], ◌∷◌, length, refl, ap, ◌∙◌, arith, slice_set}
use Rattle.td_num.specs.Numbers.{places_from}
use Rattle.td_core.specs.Outcome.{bytes_at, copies_by}

-- another pair of cells
pub copies_set : (b xs : List ℕ) (k p n : ℕ) → 2 * k + 1 < length xs → copies_by b (slice_set (slice_set xs (2 * k) p) (2 * k + 1) n) ≡ slice_set (copies_by b xs) k (bytes_at b (places_from p n))
copies_set b [] k p n h = absurd (omega (arith, h))
copies_set b (x ∷ []) k p n h = absurd (omega (arith, h))
copies_set b (x ∷ y ∷ xs) zero p n h = refl
copies_set b (x ∷ y ∷ xs) (suc k) p n h =
    let e : 2 * suc k ≡ suc (suc (2 * k)) = omega arith in
    let f : 2 * suc k + 1 ≡ suc (suc (2 * k + 1)) = omega arith in
    (λ i. copies_by b (slice_set (slice_set (x ∷ y ∷ xs) (e i) p) (f i) n))
    ∙ ap (λ cs. bytes_at b (places_from x y) ∷ cs) (copies_set b xs k p n (omega (arith, h)))
