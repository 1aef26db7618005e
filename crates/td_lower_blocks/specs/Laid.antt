-- Code that is the blocks of a module's definitions, laid out.
use Rattle.std.specs.Prelude.{◌≡◌, ℕ, ◌<◌, List, length, map, Some, slice_get}
use Rattle.td_core.specs.declared.module.Buffer.{Buffer}
use Rattle.td_lower_blocks.specs.Imports.{TypeDef, Module, Parts}
use Rattle.td_ir.specs.Tables.{routine_of, entry_of, first_of}
use Rattle.td_lower_blocks.specs.Block.{Stands, size}
use Rattle.td_lower_blocks.specs.Lowered.{block_of}
use Rattle.td_lower_blocks.specs.Placed.{params_of}

-- the room of each buffer
abbrev pub rooms : List Buffer → List ℕ
rooms bs = map (λ b. b.room) bs

-- routine n is definition n's block, with as many parameters, cells and buffers; entry point n is the module's, with its parameters and cells
pub record IsLaid (c : Parts) (units : ℕ → ℕ) (m : Module) : Type 0 where
  pub count : length c.routines ≡ length m.definitions
  pub stands : (n : ℕ) → n < length m.definitions → Stands c (first_of c n) 0 (block_of units m.definitions n)
  pub sizes : (n : ℕ) → n < length m.definitions → (routine_of c n).length ≡ size (block_of units m.definitions n)
  pub params : (n : ℕ) → n < length m.definitions → (routine_of c n).params ≡ params_of m.definitions n
  pub cells : (n : ℕ) (d : TypeDef) → slice_get m.definitions n ≡ Some d → (routine_of c n).cells ≡ length d.cells
  pub buffers : (n : ℕ) (d : TypeDef) → slice_get m.definitions n ≡ Some d → (routine_of c n).buffers ≡ rooms d.buffers
  pub entries : (n place : ℕ) → slice_get m.entries n ≡ Some place → (entry_of c n).routine ≡ place
  pub entry_count : length c.entries ≡ length m.entries
  pub entry_params : (n place : ℕ) (d : TypeDef) → slice_get m.entries n ≡ Some place → slice_get m.definitions place ≡ Some d → (entry_of c n).params ≡ d.params
  pub entry_cells : (n place : ℕ) (d : TypeDef) → slice_get m.entries n ≡ Some place → slice_get m.definitions place ≡ Some d → (entry_of c n).cells ≡ d.cells
