-- The cells of buffers, two for each. Cited by other crates.
use Rattle.std.proofs.Common.{◌≡◌, ℕ, ◌*◌, List, [], ◌∷◌, length, refl, arith}
use Rattle.td_ir.specs.Tables.{buffer_cells}

pub buffer_count : (k : ℕ) (bs : List ℕ) → length (buffer_cells k bs) ≡ 2 * length bs
buffer_count k [] = refl
buffer_count k (b ∷ bs) = let h = buffer_count k bs in omega (arith, h)
