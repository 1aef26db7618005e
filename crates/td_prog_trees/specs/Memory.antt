-- Memory that stays, and the message in it (own rule).
use Rattle.std.specs.Prelude.{◌≡◌, ℕ, ◌+◌, ◌/◌, ◌%◌, ◌^◌, ◌<◌, List, length, slice_index}
use Rattle.td_num.specs.Numbers.{byte_of}
use Rattle.td_stream.specs.declared.stretch.Stretch.{Stretch}
use Rattle.td_stream.specs.Layouts.{word_at, offset_at}
use Rattle.td_prog.specs.Values.{Locals}

-- words have 64 bits
abbrev pub AreWords : (ℕ → ℕ) → Type 0
AreWords memory = (i : ℕ) → memory i < 2 ^ 64

-- memory that holds the message at its front
pub record IsMemory (memory : ℕ → ℕ) (message : List ℕ) : Type 0 where
  pub bytes : (j : ℕ) → j < length message → byte_of (memory (j / 8)) (j % 8) ≡ slice_index message j
  pub words : AreWords memory

-- memory that holds the message in the words of a layout
pub record IsLaidMemory (layout : List Stretch) (memory : ℕ → ℕ) (message : List ℕ) : Type 0 where
  pub bytes : (j : ℕ) → j < length message → byte_of (memory (word_at layout j)) (offset_at layout j) ≡ slice_index message j
  pub words : AreWords memory

-- what is held is the word that was loaded last
abbrev pub HasHeld : (memory : ℕ → ℕ) → Locals → Type 0
HasHeld memory s = (w : ℕ) → s.next ≡ w + 1 → s.held ≡ memory w
