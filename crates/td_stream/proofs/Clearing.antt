-- Buffers that are emptied one after the other.
use Rattle.std.proofs.Common.{◌≡◌, ℕ, zero, suc, ◌<◌, List, [], ◌∷◌, ◌++◌, length, map, take, drop, refl, ap, arith, slice_index_or, slice_set}
use Rattle.td_stream.specs.Copies.{BufferView, empty_with, rooms_of}

-- the first k are empty, and the others are as they were
abbrev pub cleared : ℕ → List BufferView → List BufferView
cleared k buffers = map empty_with (rooms_of (take k buffers)) ++ drop k buffers

pub cleared_next : (buffers : List BufferView) (k : ℕ) (d v : BufferView) → k < length buffers → v.held ≡ [] → v.room ≡ (slice_index_or (cleared k buffers) k d).room → slice_set (cleared k buffers) k v ≡ cleared (suc k) buffers
cleared_next [] k d v lt h r = absurd (omega (arith, lt))
cleared_next (b ∷ bs) zero d v lt h r = λ i. record { held = h i; room = r i } ∷ bs
cleared_next (b ∷ bs) (suc k) d v lt h r = ap (λ xs. empty_with b.room ∷ xs) (cleared_next bs k d v (omega (arith, lt)) h r)

pub cleared_all : (buffers : List BufferView) (k : ℕ) → k ≡ length buffers → cleared k buffers ≡ map empty_with (rooms_of buffers)
cleared_all [] zero e = refl
cleared_all [] (suc k) e = absurd (omega (arith, e))
cleared_all (b ∷ bs) zero e = absurd (omega (arith, e))
cleared_all (b ∷ bs) (suc k) e = ap (λ xs. empty_with b.room ∷ xs) (cleared_all bs k (omega (arith, e)))
