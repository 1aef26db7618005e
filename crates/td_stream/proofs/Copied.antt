-- Bytes that are copied one after the other.
use Rattle.std.proofs.Common.{◌≡◌, ℕ, zero, suc, ◌+◌, ◌<◌, List, ◌∷◌, ◌++◌, map, refl, sym, ap, ◌∙◌, arith, slice_index}
use Rattle.std.proofs.lemmas.List.{map-append}
use Rattle.td_num.specs.Numbers.{byte_of, places_from}
use Rattle.td_stream.specs.Digits.{HasDigits}
use Rattle.td_stream.proofs.Places.{places_join}

-- bytes in a row, and the bytes behind them
pub bytes_more : (b : List ℕ) (p n m q : ℕ) (held more : List ℕ) → held ≡ map (slice_index b) (places_from p n) → q ≡ p + n → more ≡ held ++ map (slice_index b) (places_from q m) → more ≡ map (slice_index b) (places_from p (n + m))
bytes_more b p n m q held more h e is =
    is
    ∙ ap (λ xs. xs ++ map (slice_index b) (places_from q m)) h
    ∙ ap (λ x. map (slice_index b) (places_from p n) ++ map (slice_index b) (places_from x m)) e
    ∙ sym (map-append (slice_index b) (places_from p n) (places_from (p + n) m))
    ∙ ap (map (slice_index b)) (places_join p n m)

-- the digits of a number are the bytes that it was read from
pub digits_copied : (b : List ℕ) (p n number : ℕ) → HasDigits b p n number → map (byte_of number) (places_from 0 n) ≡ map (slice_index b) (places_from p n)
digits_copied b p n number h = go 0 p n from_zero
  where
    from_zero : (j : ℕ) → j < n → byte_of number (0 + j) ≡ slice_index b (p + j)
    from_zero j lt = let e : 0 + j ≡ j = omega arith in ap (byte_of number) e ∙ h j lt

    go : (i q n : ℕ) → ((j : ℕ) → j < n → byte_of number (i + j) ≡ slice_index b (q + j)) → map (byte_of number) (places_from i n) ≡ map (slice_index b) (places_from q n)
    go i q zero each = refl
    go i q (suc n) each =
        let a : i + 0 ≡ i = omega arith in
        let c : q + 0 ≡ q = omega arith in
        let first : byte_of number i ≡ slice_index b q = ap (byte_of number) (sym a) ∙ each 0 (omega arith) ∙ ap (slice_index b) c in
        let later : (j : ℕ) → j < n → byte_of number (i + 1 + j) ≡ slice_index b (q + 1 + j) = λ j lt.
        let d : i + 1 + j ≡ i + suc j = omega arith in
        let e : q + suc j ≡ q + 1 + j = omega arith in
        ap (byte_of number) d ∙ each (suc j) (omega (arith, lt)) ∙ ap (slice_index b) e in
        λ k. first k ∷ go (i + 1) (q + 1) n later k
