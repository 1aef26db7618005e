-- The definition of an entry point, the cells that are handed on, and how many a definition has. Cited by other crates.
use Rattle.std.proofs.Common.{◌≡◌, ℕ, suc, List, [], ◌∷◌, length, Some, slice_get, refl, ap, length-append, ◌+◌, ◌*◌, ◌∙◌, arith}
use Rattle.std.proofs.lemmas.List.{length-map}
use Rattle.td_core.specs.declared.module.Buffer.{Buffer}
use Rattle.td_core.specs.declared.module.Module.{Module}
use Rattle.td_core.specs.declared.module.TypeDef.{TypeDef}
use Rattle.td_core.specs.Entries.{entry_definition}
use Rattle.td_core.specs.Formed.{Bound, AreCellsFormed, cell_bound, cell_bounds, buffer_bounds, own_bounds}

pub entry_found : (m : Module) (n place : ℕ) (d : TypeDef) → slice_get m.entries n ≡ Some place → slice_get m.definitions place ≡ Some d → entry_definition m n ≡ Some d
entry_found m n place d e f = rw e f

pub cells_mapped : (cells bs : List Bound) (ks : List ℕ) → AreCellsFormed cells bs ks → length ks ≡ length bs
cells_mapped cells [] [] h = refl
cells_mapped cells [] (k ∷ ks) h = absurd h
cells_mapped cells (b ∷ bs) [] h = absurd h
cells_mapped cells (b ∷ bs) (k ∷ ks) h = ap suc (cells_mapped cells bs ks h.1)

-- a definition's cells, and two for each of its buffers
buffers_count : (bs : List Buffer) → length (buffer_bounds bs) ≡ 2 * length bs
buffers_count [] = refl
buffers_count (b ∷ bs) = let h = buffers_count bs in omega (arith, h)

pub own_count : (d : TypeDef) → length (own_bounds d) ≡ length d.cells + 2 * length d.buffers
own_count d =
    length-append (cell_bounds d.cells) (buffer_bounds d.buffers)
    ∙ (λ i. length-map d.cells (λ c. cell_bound c.kind) i + buffers_count d.buffers i)
