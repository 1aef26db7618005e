-- The line of written bytes, and what it determines.
use Rattle.std.proofs.Common.{◌≡◌, ℕ, ◌<◌, List, [], ◌∷◌, ◌++◌, flat_map, Option, Some, None, refl, sym, arith, codes}
use Rattle.std.proofs.lemmas.List.{append-nil}
use Rattle.std.proofs.lemmas.List.Elements.{All-head, All-tail}
use Rattle.std.specs.List.{All}
use Rattle.td_report.specs.ErrorLine.{after_space}
use Rattle.td_report.specs.Report.{line, hex_digits, byte_digits, bytes_line, written_line}
use Rattle.td_report.proofs.Cutting.{Above, above_append, after, AreLines}
use Rattle.td_report.proofs.Hexadecimals.{hex_above, same_byte}

-- the words of the line
abbrev pub bytes_words : List ℕ → List ℕ
bytes_words bytes = codes "bytes" ++ after_space (byte_digits bytes)

abbrev pub written_words : Option (List ℕ) → List (List ℕ)
written_words None = []
written_words (Some bytes) = bytes_words bytes ∷ []

pub written_is : (written : Option (List ℕ)) → written_line written ≡ flat_map line (written_words written)
unfolding bytes_line
written_is None = refl
written_is (Some bytes) = sym (append-nil (bytes_line bytes))

pub digits_above : (bytes : List ℕ) → Above 10 (byte_digits bytes)
digits_above [] = tt
digits_above (b ∷ bytes) = above_append 10 (hex_digits 2 b) (byte_digits bytes) (hex_above 2 b) (digits_above bytes)

pub spaced_above : (digits : List ℕ) → Above 10 digits → Above 10 (after_space digits)
spaced_above [] h = tt
spaced_above (x ∷ digits) h = (omega arith, h)

pub written_above : (written : Option (List ℕ)) → AreLines (written_words written)
written_above None = tt
written_above (Some bytes) = (above_append 10 (codes "bytes") _ (search arith) (spaced_above (byte_digits bytes) (digits_above bytes)), tt)

pub same_spaced : (a b : List ℕ) → after_space a ≡ after_space b → a ≡ b
same_spaced [] [] e = refl
same_spaced [] (y ∷ b) e = cc
same_spaced (x ∷ a) [] e = cc
same_spaced (x ∷ a) (y ∷ b) e = cc

-- equal digits are of equal bytes
pub same_digits : (a b : List ℕ) → All (λ b. b < 256) a → All (λ b. b < 256) b → byte_digits a ≡ byte_digits b → a ≡ b
unfolding hex_digits
same_digits [] [] ha hb e = refl
same_digits [] (y ∷ b) ha hb e = cc
same_digits (x ∷ a) [] ha hb e = cc
same_digits (x ∷ a) (y ∷ b) ha hb e =
    let P : ℕ → Type 0 = λ b. b < 256 in
    let here : hex_digits 2 x ≡ hex_digits 2 y = cc in
    let later : byte_digits a ≡ byte_digits b = cc in
    let first = same_byte x y (All-head P x a ha) (All-head P y b hb) here in
    let rest = same_digits a b (All-tail P x a ha) (All-tail P y b hb) later in
    cc

pub same_bytes : (a b : List ℕ) → All (λ b. b < 256) a → All (λ b. b < 256) b → bytes_words a ≡ bytes_words b → a ≡ b
same_bytes a b ha hb e = same_digits a b ha hb (same_spaced (byte_digits a) (byte_digits b) (after (codes "bytes") (after_space (byte_digits a)) (after_space (byte_digits b)) e))
