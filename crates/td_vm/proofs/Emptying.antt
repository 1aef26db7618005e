-- Buffers that are emptied one after the other.
use Rattle.std.proofs.Common.{◌≡◌, ℕ, zero, suc, ◌<◌, List, [], ◌∷◌, ◌++◌, length, map, take, drop, refl, ap, arith, slice_index_or, slice_set}
use Rattle.td_stream.specs.Copies.{BufferView, empty_with, rooms_of}

-- the first k are empty, and the others are as they were
abbrev pub emptied : ℕ → List BufferView → List BufferView
emptied k buffers = map empty_with (rooms_of (take k buffers)) ++ drop k buffers

pub emptied_next : (buffers : List BufferView) (k : ℕ) (d v : BufferView) → k < length buffers → v.held ≡ [] → v.room ≡ (slice_index_or (emptied k buffers) k d).room → slice_set (emptied k buffers) k v ≡ emptied (suc k) buffers
emptied_next [] k d v lt h r = absurd (omega (arith, lt))
emptied_next (b ∷ bs) zero d v lt h r = λ i. record { held = h i; room = r i } ∷ bs
emptied_next (b ∷ bs) (suc k) d v lt h r = ap (λ xs. empty_with b.room ∷ xs) (emptied_next bs k d v (omega (arith, lt)) h r)

pub emptied_all : (buffers : List BufferView) (k : ℕ) → k ≡ length buffers → emptied k buffers ≡ map empty_with (rooms_of buffers)
emptied_all [] zero e = refl
emptied_all [] (suc k) e = absurd (omega (arith, e))
emptied_all (b ∷ bs) zero e = absurd (omega (arith, e))
emptied_all (b ∷ bs) (suc k) e = ap (λ xs. empty_with b.room ∷ xs) (emptied_all bs k (omega (arith, e)))
