-- Cited by other crates.
-- A number has as many bytes as its width says.
use Rattle.std.proofs.Common.{◌≡◌, ℕ, zero, suc, ◌/◌, length, refl, ap}
use Rattle.td_num.specs.Numbers.{bytes_in}
use Rattle.td_write_values.specs.Imports.{ByteOrder, LittleEndian, BigEndian, NumberType}
use Rattle.td_write_values.specs.Bytes.{rising_bytes, falling_bytes, ordered_bytes, number_bytes}

rising_length : (w n : ℕ) → length (rising_bytes w n) ≡ w
rising_length zero n = refl
rising_length (suc w) n = ap suc (rising_length w (n / 256))

falling_length : (w n : ℕ) → length (falling_bytes w n) ≡ w
falling_length zero n = refl
falling_length (suc w) n = ap suc (falling_length w n)

ordered_length : (o : ByteOrder) (w n : ℕ) → length (ordered_bytes o w n) ≡ w
ordered_length LittleEndian w n = rising_length w n
ordered_length BigEndian w n = falling_length w n

pub number_length : (t : NumberType) (n : ℕ) → length (number_bytes t n) ≡ bytes_in t.width
number_length t n = ordered_length t.order (bytes_in t.width) n
