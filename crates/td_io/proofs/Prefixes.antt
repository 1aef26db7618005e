-- What is left of a list after its prefix was copied into a buffer.
use Rattle.std.proofs.Common.{◌≡◌, ℕ, ◌+◌, ◌<◌, min, List, [], ◌∷◌, ◌++◌, length, take, drop, refl, sym, ap, ◌∙◌, arith, length-drop}
use Rattle.std.proofs.lemmas.List.{drop-drop, take-append-drop, take_at, length-take-le}

-- the buffer begins with the bytes that were copied
prefix_copied : (rest before after : List ℕ) (n : ℕ) → n ≡ min (length before) (length rest) → after ≡ take n rest ++ drop n before → take n after ≡ take n rest
prefix_copied rest before after n count e = ap (λ (l : List ℕ). take n l) e ∙ take_at (take n rest) (drop n before) n (length-take-le n rest (omega (arith, count)))

nothing_left : (rest : List ℕ) → length rest ≡ 0 → rest ≡ []
nothing_left [] e = refl
nothing_left (x ∷ xs) e = absurd (omega (arith, e))

-- a prefix of the rest was copied, and nothing only where none is left or there is no room
pub prefix_read : (xs rest before after : List ℕ) (at n : ℕ) → rest ≡ drop at xs → n ≡ min (length before) (length rest) → after ≡ take n rest ++ drop n before → length after ≡ length before → (drop at xs ≡ take n after ++ drop (at + n) xs) × (n ≡ 0 → 0 < length after → drop (at + n) xs ≡ [])
prefix_read xs rest before after at n e count copied same = (
  sym e ∙ sym (take-append-drop n rest) ∙ ap (λ (l : List ℕ). l ++ drop n rest) (sym (prefix_copied rest before after n count copied)) ∙ ap (λ (l : List ℕ). take n after ++ drop n l) e ∙ ap (λ (l : List ℕ). take n after ++ l) (drop-drop n at xs),
  λ none some. nothing_left (drop (at + n) xs) (omega (arith, ap length e, length-drop at xs, length-drop (at + n) xs)),
)
