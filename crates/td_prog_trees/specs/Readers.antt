-- Helpers that take numbers and bytes of the message (own rule).
use Rattle.std.specs.Prelude.{◌≡◌, ℕ, ◌+◌, ◌-◌, ◌^◌, ◌<◌, ◌≤◌, List, [], ◌∷◌, length, map, take, slice_index, slice_index_or}
use Rattle.td_num.specs.Numbers.{places_from, ordered_at}
use Rattle.td_ir.specs.Values.{order_of}
use Rattle.td_verify.specs.Operands.{IsWidth}
use Rattle.td_prog.specs.Tree.{Tree, answer, loaded}
use Rattle.td_prog.specs.Values.{Locals}
use Rattle.td_prog.specs.Means.{Out, Gave, Helpers, shared}
use Rattle.td_prog_code.specs.Prelude.{number_helper, copy_helper}
use Rattle.td_prog_trees.specs.Memory.{HasHeld}
use Rattle.td_prog_trees.specs.Agree.{Numbering, Basis, fresh, behind, reached}

-- on memory that stays a tree gives this number, and loads the words of these places that weren't loaded before
pub record IsTaken (word memory : ℕ → ℕ) (s : Locals) (tree : Tree Out) (touched : List ℕ) (value last : ℕ) : Type 0 where
  pub final : Locals
  pub gives : answer memory tree ≡ Gave value final
  pub words : loaded memory tree ≡ fresh word s.next touched
  pub then : shared s final ≡ record s { next = last + 1; held = memory last }
  pub fits : value < 2 ^ 64

-- On memory that stays a tree gives the count of the bytes from a place on, which a buffer then holds. The others hold what they did.
pub record IsCopied (word memory : ℕ → ℕ) (basis : Basis) (s : Locals) (tree : Tree Out) (buffer place count : ℕ) : Type 0 where
  pub final : Locals
  pub gives : answer memory tree ≡ Gave count final
  pub words : loaded memory tree ≡ fresh word s.next (places_from place count)
  pub then : behind word s.next (places_from place count) ≡ final.next
  pub ahead : final.next ≤ reached word (place + count)
  pub held : HasHeld memory final
  pub cells : final.cells ≡ s.cells
  pub lengths : map length final.buffers ≡ basis.lengths
  pub copied : take count (slice_index_or final.buffers buffer []) ≡ map (slice_index basis.message) (places_from place count)
  pub others : (b : ℕ) → (b ≡ buffer → ⊥) → slice_index_or final.buffers b [] ≡ slice_index_or s.buffers b []

-- Helpers that read a message, by their numbers: where no word behind that of the first byte was loaded, they give the number at a place, and copy the bytes from it on.
pub record IsReader (numbering : Numbering) (memory : ℕ → ℕ) (basis : Basis) (limit : ℕ) (helpers : Helpers) : Type 0 where
  pub number : (order width place : ℕ) (s : Locals) → IsWidth width → place + width ≤ length basis.message → s.next ≤ numbering.word place + 1
      → HasHeld memory s
      → IsTaken numbering.word memory s (helpers (number_helper order width) (place ∷ []) [] s) (places_from place width)
      (ordered_at (order_of order) basis.message place width) (numbering.word (place + width - 1))
  pub copy : (buffer place count : ℕ) (s : Locals) → place + count ≤ length basis.message → count < limit → map length s.buffers ≡ basis.lengths
      → count ≤ slice_index basis.lengths buffer → s.next ≤ reached numbering.word place → HasHeld memory s
      → IsCopied numbering.word memory basis s (helpers copy_helper (place ∷ count ∷ []) (buffer ∷ []) s) buffer place count
