-- What the laws of rings say.
use Rattle.std.specs.Prelude.{◌≡◌, ℕ, true, List, [], ◌∷◌}
use Rattle.td_num.specs.Lists.{AreBytes}
use Rattle.td_descr.specs.Imports.{Constraint}
use Rattle.td_core.specs.declared.outcome.Spot.TheVariants.{Field}
use Rattle.td_core.specs.Outcome.{Behavior, Accepted, Rejected}
use Rattle.td_meaning.specs.Meaning.{meaning}
use Rattle.td_meaning.specs.Throughout.{OnEnding}
use Rattle.td_descr.specs.declared.next.Standing.TheVariants.{Nothing, Lost, Waiting}
use Rattle.td_descr.specs.Ring.{desc_entry, desc_args, desc_cells, CellsAreWithin, standing, desc_word}
use Rattle.td_descr.specs.Format.{id, ring_module}
use Rattle.td_descr.specs.Shape.{has_ring_shape}

-- what a descriptor of sixteen bytes comes to
abbrev pub described : ℕ → ℕ → List ℕ → Behavior
described room most b = meaning ring_module desc_entry (desc_args room most) desc_cells b

-- the worked ring: a buffer of 48 bytes, two entries, messages of at most eight bytes
pub record IsWorkedRing : Type 0 where
  pub accepted : described 48 8 (40 ∷ 0 ∷ 0 ∷ 0 ∷ 1 ∷ 0 ∷ 0 ∷ 0 ∷ 9 ∷ 0 ∷ 0 ∷ 0 ∷ 0 ∷ 0 ∷ 0 ∷ 0 ∷ [])
      ≡ record { ending = Accepted 16 (40 ∷ 1 ∷ 9 ∷ []); reads = 0 ∷ 1 ∷ 2 ∷ 3 ∷ 4 ∷ 5 ∷ 6 ∷ 7 ∷ 8 ∷ 9 ∷ 10 ∷ 11 ∷ [] }
  -- a byte past the buffer
  pub past : described 48 8 (48 ∷ 0 ∷ 0 ∷ 0 ∷ 1 ∷ 0 ∷ 0 ∷ 0 ∷ 9 ∷ 0 ∷ 0 ∷ 0 ∷ 0 ∷ 0 ∷ 0 ∷ 0 ∷ [])
      ≡ record { ending = Rejected Constraint 4 (record { ty = id 11; field = Field (id 7); reason = Constraint; start = 4 } ∷ []) (48 ∷ 0 ∷ 0 ∷ []); reads = 0 ∷ 1 ∷ 2 ∷ 3 ∷ 4 ∷ 5 ∷ 6 ∷ 7 ∷ [] }
  pub shape : has_ring_shape ring_module ≡ true
  pub first : standing 2 0 1 ≡ Waiting
  pub second : standing 2 1 1 ≡ Nothing
  pub lost : standing 2 0 3 ≡ Lost
  pub full : standing 2 0 2 ≡ Waiting
  pub fell : standing 2 2 1 ≡ Lost
  pub word : desc_word 2 0 ≡ 1
  pub next_word : desc_word 2 1 ≡ 3
  pub round : desc_word 2 2 ≡ 1
  -- past the numbers of 32 bits
  pub far : standing 1024 4294967295 4294967296 ≡ Waiting
  pub far_word : desc_word 1024 4294967296 ≡ 1
  -- at the ends of the count: it never wraps, and what was taken stands still at its type's end
  pub last : standing 2 18446744073709551613 18446744073709551615 ≡ Waiting
  pub end : standing 2 18446744073709551615 18446744073709551615 ≡ Nothing
  pub wrapped : standing 2 18446744073709551615 0 ≡ Lost

-- whatever the room and the bytes, a descriptor that is accepted lies within the room
abbrev pub DescriptorsLieWithin : Type 0
DescriptorsLieWithin = (room most : ℕ) (b : List ℕ) → AreBytes b → OnEnding (described room most b).ending (λ q cells. CellsAreWithin room most cells)
