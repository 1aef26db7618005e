-- What is shown of each instruction on the way through blocks, and the blocks that it is shown of.
use Rattle.std.specs.Prelude.{◌≡◌, ℕ, ◌^◌, ◌<◌, ◌≤◌, ◌⊎◌, List, Some, false, length}
use Rattle.td_verify_lowered.specs.Imports.{Parts, Bracket}
use Rattle.td_ir.specs.Tables.{lengths_of, instruction_of, routine_of, begin}
use Rattle.td_verify.specs.Shape.{shapes_of}
use Rattle.td_verify.specs.Brackets.{opened}
use Rattle.td_verify.specs.Ways.{MayBeEmpty}
use Rattle.td_verify.specs.Rules.{KeepsTarget, KeepsNesting}
use Rattle.td_verify.specs.Verify.{weights}
use Rattle.td_lower_blocks.specs.Block.{Block, Stands, size, Ends}
use Rattle.td_verify_lowered.specs.Nesting.{Level, Outside, Nests, IsFit, Fits, weight}

-- an instruction keeps all rules but that on weight
pub record IsFine (c : Parts) (Empty : ℕ → Type 0) (depth : ℕ → ℕ) (n end p : ℕ) : Type 0 where
  pub target : KeepsTarget (shapes_of c) end p
  pub fit : IsFit c depth n (instruction_of c p)
  pub nesting : KeepsNesting (shapes_of c) Empty end p

-- something follows, or the block ends its routine
abbrev pub IsFollowed : (end q : ℕ) → Level → Block → Type 0
IsFollowed end q l b = (q < end) ⊎ ((q ≡ end) × Ends b × (l ≡ Outside))

-- the place to which it leaves
pub record IsExit (c : Parts) (end q x : ℕ) (bs : List Bracket) : Type 0 where
  pub later : q ≤ x
  pub within : x < end
  pub same : opened (shapes_of c) x ≡ Some bs

-- code whose routines are blocks that stand as they may
pub record IsBlocked (c : Parts) (blocks : ℕ → Block) (depth : ℕ → ℕ) : Type 0 where
  pub stands : (n : ℕ) → n < length c.routines → Stands c (begin (lengths_of c) n) 0 (blocks n)
  pub sizes : (n : ℕ) → n < length c.routines → (routine_of c n).length ≡ size (blocks n)
  pub nests : (n : ℕ) → n < length c.routines → Nests (λ m. MayBeEmpty (shapes_of c) (lengths_of c) n m) Outside false (blocks n)
  pub ends : (n : ℕ) → n < length c.routines → Ends (blocks n)
  pub fits : (n : ℕ) → n < length c.routines → Fits c depth n (blocks n)
  pub shallow : (n : ℕ) → n < length c.routines → depth n ≤ 32
  pub some_depth : (n : ℕ) → 1 ≤ depth n
  pub light : (n : ℕ) → n < length c.routines → weight (weights (shapes_of c) (lengths_of c) n) false (blocks n) ≤ 2 ^ 40
