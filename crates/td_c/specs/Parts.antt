-- Messages that are several stretches of the words (own rule; `td_stretch` and `td_piece` of capi/td.h).
use Rattle.std.specs.Prelude.{◌≡◌, ℕ, ℤ, pos, ◌<◌, ◌≤◌, ◌^◌, ◌⊎◌, List, length, map}
use Rattle.td_stream.specs.declared.stretch.Stretch.{Stretch}
use Rattle.td_stream.specs.Layouts.{length_in}
use Rattle.td_c.specs.declared.parts.TdStretch.{TdStretch}

abbrev pub stretch_told : TdStretch → Stretch
stretch_told s = record { place = s.place; size = s.size }

abbrev pub stretches_told : List TdStretch → List Stretch
stretches_told parts = map stretch_told parts

-- stretches that are a message, of at most so many
pub record IsMessage (most : ℕ) (layout : List Stretch) : Type 0 where
  pub few : length layout ≤ most
  pub short : length_in layout < 2 ^ 32

-- the number of an answer to stretches that have no layout: they are no message (8), or they are one and there was no memory for its layout (4)
pub record IsTooMuch (most : ℕ) (layout : List Stretch) (code : ℤ) : Type 0 where
  pub which : (code ≡ pos 4) ⊎ (code ≡ pos 8)
  pub cause : code ≡ pos 8 → IsMessage most layout → ⊥
  pub memory : code ≡ pos 4 → IsMessage most layout
