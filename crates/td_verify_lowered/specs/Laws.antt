-- Laws of blocks.
use Rattle.std.specs.Prelude.{◌≡◌, ℕ, ◌^◌, ◌<◌, ◌≤◌, Bool, true, false, length}
use Rattle.td_verify_lowered.specs.Imports.{Parts}
use Rattle.td_ir.specs.Tables.{lengths_of, routine_of, begin}
use Rattle.td_verify.specs.Shape.{shapes_of}
use Rattle.td_verify.specs.Verify.{IsSound, weights}
use Rattle.td_lower_blocks.specs.Constructs.{Body, body}
use Rattle.td_verify_lowered.specs.Weights.{body_weight, body_least}
use Rattle.td_verify_lowered.specs.Good.{GoodBody}
use Rattle.td_lower_blocks.specs.Block.{Block, Stands, size, Ends}
use Rattle.td_verify_lowered.specs.Nesting.{Outside, Nests, Busy, Fits, weight}

-- a routine n that is called from routine m may take no byte, where a table says which take one
abbrev pub NotBusy : (ℕ → Bool) → ℕ → ℕ → Type 0
NotBusy busy n m = m < n → busy m ≡ false

-- code laid out from blocks, by what can be told of each block alone
pub record AreBlocks (c : Parts) (blocks : ℕ → Block) (depth : ℕ → ℕ) (busy : ℕ → Bool) : Type 0 where
  pub stands : (n : ℕ) → n < length c.routines → Stands c (begin (lengths_of c) n) 0 (blocks n)
  pub sizes : (n : ℕ) → n < length c.routines → (routine_of c n).length ≡ size (blocks n)
  pub nests : (n : ℕ) → n < length c.routines → Nests (NotBusy busy n) Outside false (blocks n)
  pub takes : (n : ℕ) → n < length c.routines → busy n ≡ true → Busy (NotBusy busy n) (blocks n)
  pub ends : (n : ℕ) → n < length c.routines → Ends (blocks n)
  pub fits : (n : ℕ) → n < length c.routines → Fits c depth n (blocks n)
  pub shallow : (n : ℕ) → n < length c.routines → depth n ≤ 32
  pub some_depth : (n : ℕ) → 1 ≤ depth n
  pub light : (n : ℕ) → n < length c.routines → weight (weights (shapes_of c) (lengths_of c) n) false (blocks n) ≤ 2 ^ 40

abbrev pub LaidCodeIsSound : Type 0
LaidCodeIsSound = (c : Parts) (blocks : ℕ → Block) (depth : ℕ → ℕ) (busy : ℕ → Bool) → AreBlocks c blocks depth busy → IsSound c

-- code laid out from a module's definitions, which are as they may be
pub record IsLowered (c : Parts) (bodies : ℕ → Body) (depth W least : ℕ → ℕ) (busy : ℕ → Bool) : Type 0 where
  pub stands : (n : ℕ) → n < length c.routines → Stands c (begin (lengths_of c) n) 0 (body (bodies n))
  pub sizes : (n : ℕ) → n < length c.routines → (routine_of c n).length ≡ size (body (bodies n))
  pub good : (n : ℕ) → n < length c.routines → GoodBody c depth busy n (bodies n)
  pub shallow : (n : ℕ) → n < length c.routines → depth n ≤ 32
  pub some_depth : (n : ℕ) → 1 ≤ depth n
  pub weights : (n : ℕ) → n < length c.routines → body_weight W (bodies n) ≤ W n
  pub light : (n : ℕ) → n < length c.routines → W n ≤ 2 ^ 40
  pub bytes : (n : ℕ) → n < length c.routines → busy n ≡ true → 1 ≤ body_least least (bodies n)
  pub tells : (m : ℕ) → 1 ≤ least m → busy m ≡ true

-- the verifier accepts it
abbrev pub LoweredCodeIsSound : Type 0
LoweredCodeIsSound = (c : Parts) (bodies : ℕ → Body) (depth W least : ℕ → ℕ) (busy : ℕ → Bool) → IsLowered c bodies depth W least busy → IsSound c

-- no block of a definition is empty
abbrev pub BlocksHaveCode : Type 0
BlocksHaveCode = (b : Body) → 1 ≤ size (body b)
