-- How much buffers have room for. Cited by other crates.
use Rattle.std.proofs.Common.{◌≡◌, ℕ, zero, suc, ◌<◌, List, [], ◌∷◌, length, map, refl, ap, arith, slice_index, slice_index_or}
use Rattle.td_stream.specs.Copies.{BufferView, rooms_of, empty_with}

pub room_at : (copies : List BufferView) (n : ℕ) (d : BufferView) → n < length copies → slice_index (rooms_of copies) n ≡ (slice_index_or copies n d).room
room_at [] n d h = absurd (omega (arith, h))
room_at (b ∷ bs) zero d h = refl
room_at (b ∷ bs) (suc n) d h = room_at bs n d (omega (arith, h))

-- no buffer has another room once it is emptied
pub rooms_again : (rooms : List ℕ) → rooms_of (map empty_with rooms) ≡ rooms
rooms_again [] = refl
rooms_again (r ∷ rs) = ap (λ xs. r ∷ xs) (rooms_again rs)
