-- What bytes are over which a text was written, as far as there was room.
use Rattle.std.proofs.Common.{◌≡◌, ℕ, ◌≤◌, List, ◌++◌, length, min, take, drop, subst, ap, ◌∙◌, arith}
use Rattle.std.proofs.Math.Seq.{take-append_seam}
use Rattle.std.proofs.lemmas.List.{length-take}
use Rattle.std.proofs.lemmas.Slice.{drop-append-drop}
use Rattle.td_c.specs.Told.{IsWritten}

pub written : (text was front : List ℕ) (n : ℕ) → n ≡ min (length text) (length was) → front ≡ take n text → IsWritten text was (front ++ drop n was)
written text was front n count is =
    let cut : length (take n text) ≡ min n (length text) = length-take n text in
    let whole : length front ≡ length (take n text) = ap length is in
    let size : length front ≡ n = omega (arith, cut, whole, count) in
    let P : ℕ → Type 0 = λ k. (take k (front ++ drop n was) ≡ take k text) × (drop k (front ++ drop n was) ≡ drop k was) in
    let same : n ≤ n = omega arith in
    let first : take n (front ++ drop n was) ≡ take n text = subst (λ (k : ℕ). take k (front ++ drop n was) ≡ front) size (take-append_seam front (drop n was)) ∙ is in
    let p : P (min (length text) (length was)) = subst P count (first, drop-append-drop n was front n same size) in
    record { front = p.0; behind = p.1 }
