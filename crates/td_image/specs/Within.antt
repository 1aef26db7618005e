-- Which code has an image, in one record: tables that fit together have one exactly where they are within this (own rule).
use Rattle.std.specs.Prelude.{◌≡◌, ℕ, ◌+◌, ◌^◌, ◌<◌, ◌≤◌, true, List, [], ◌∷◌, length}
use Rattle.td_num.specs.Lists.{Each, AreApart}
use Rattle.td_image.specs.Imports.{Routine, Parts, Fields}
use Rattle.td_image.specs.declared.limits.TheConstants.{MOST_ROWS, MOST_INSTRUCTIONS, MOST_CELLS, MOST_BUFFERS, MOST_ROOM, MOST_MAPPED, MOST_NUMBERS, MOST_PARAMETERS, MOST_REGISTERS}
use Rattle.td_image.specs.Format.{AreBytes}
use Rattle.td_ir.specs.Fields.{fields_of}
use Rattle.td_image.specs.declared.version.ImageVersion.TheVariants.{Third}
use Rattle.td_image.specs.Names.{is_image_name}

-- a name of versions 3 and 4
pub record IsSpelled (name : List ℕ) : Type 0 where
  pub word : is_image_name Third name ≡ true
  pub bytes : AreBytes name
  pub few : length name < 2 ^ 32

-- cells, and then buffers
pub record IsSmallMap (mapped : List ℕ) : Type 0 where
  pub few : length mapped ≤ MOST_MAPPED
  pub numbers : Each (λ n. n < 2 ^ 32) mapped

abbrev pub total : List (List ℕ) → ℕ
total [] = 0
total (xs ∷ xss) = length xs + total xss

-- the room of a copy buffer
abbrev pub IsRoom : ℕ → Type 0
IsRoom n = (1 ≤ n) × (n ≤ MOST_ROOM)

pub record IsSmallRoutine (r : Routine) : Type 0 where
  pub params : r.params ≤ MOST_PARAMETERS
  pub cells : r.cells ≤ MOST_CELLS
  pub registers : r.registers ≤ MOST_REGISTERS
  pub buffers : length r.buffers ≤ MOST_BUFFERS
  pub rooms : Each IsRoom r.buffers

-- operands are numbers of their fields' bytes
pub record HasSmallOperands (f : Fields) : Type 0 where
  pub x : f.x < 2 ^ 8
  pub a : f.a < 2 ^ 16
  pub b : f.b < 2 ^ 16
  pub c : f.c < 2 ^ 16
  pub t : f.t < 2 ^ 32
  pub site : f.site < 2 ^ 32
  pub k : f.k < 2 ^ 64

pub record IsWithinFormat (p : Parts) : Type 0 where
  pub names : length p.names ≤ MOST_ROWS
  pub sites : length p.sites ≤ MOST_ROWS
  pub maps : length p.maps ≤ MOST_ROWS
  pub sets : length p.sets ≤ MOST_ROWS
  pub routines : length p.routines ≤ MOST_ROWS
  pub entries : length p.entries ≤ MOST_ROWS
  pub instructions : length p.instructions ≤ MOST_INSTRUCTIONS
  pub spelled : Each IsSpelled p.names
  pub apart : AreApart p.names
  pub small_maps : Each IsSmallMap p.maps
  pub numbers : Each (Each (λ n. n < 2 ^ 64)) p.sets
  pub few_numbers : total p.sets ≤ MOST_NUMBERS
  pub small_routines : Each IsSmallRoutine p.routines
  pub small_operands : Each (λ i. HasSmallOperands (fields_of i)) p.instructions
