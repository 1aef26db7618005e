-- The words that bytes fill (own rule).
use Rattle.std.specs.Prelude.{◌≡◌, ℕ, ◌*◌, ◌^◌, ◌<◌, List, length, slice_index}
use Rattle.td_num.specs.Numbers.{byte_at}

-- The first words that bytes fill, this many, zero bytes making the last one whole: byte j of the words is byte j of the
-- list, and past the list's end it is 0, which `slice_index` is there.
pub record IsFilled (bytes : List ℕ) (many : ℕ) (words : List ℕ) : Type 0 where
  pub count : length words ≡ many
  pub fits : (i : ℕ) → i < length words → slice_index words i < 2 ^ 64
  pub same : (j : ℕ) → j < 8 * length words → byte_at words j ≡ slice_index bytes j
