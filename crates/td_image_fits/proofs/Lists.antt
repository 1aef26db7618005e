-- What holds of each element of lists.
use Rattle.std.proofs.Common.{◌≡◌, ◌⊎◌, inl, inr, ℕ, zero, suc, List, [], ◌∷◌, ◌++◌, length, Some, slice_get, refl, ap}

-- an element of a list with one more at the end
pub get_end : {A : Type 0} (xs : List A) (y : A) (n : ℕ) (x : A) → slice_get (xs ++ y ∷ []) n ≡ Some x → (slice_get xs n ≡ Some x) ⊎ ((n ≡ length xs) × (y ≡ x))
get_end [] y zero x h = inr (refl, cc)
get_end [] y (suc n) x h = absurd cc
get_end (z ∷ zs) y zero x h = inl h
get_end (z ∷ zs) y (suc n) x h = by (get_end zs y n x h)
  where
    by : (slice_get zs n ≡ Some x) ⊎ ((n ≡ length zs) × (y ≡ x)) → (slice_get zs n ≡ Some x) ⊎ ((suc n ≡ suc (length zs)) × (y ≡ x))
    by (inl e) = inl e
    by (inr e) = inr (ap suc e.0, e.1)
