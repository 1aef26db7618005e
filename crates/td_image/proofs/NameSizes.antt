-- Names as they are written, and how many bytes they are.
use Rattle.std.proofs.Common.{◌≡◌, ℕ, ◌+◌, ◌<◌, List, [], ◌++◌, length, take, get_or, sym, ap, ◌∙◌, arith, append_assoc, length-append}
use Rattle.std.specs.List.{flat_map}
use Rattle.std.specs.Int.{w32, to_le_bytes}
use Rattle.std.proofs.lemmas.List.{take_more, flat_map_more}
use Rattle.td_image.specs.Rows as rows
use Rattle.td_image.proofs.Chain.{chain4}
use Rattle.td_image.proofs.Flat.{name_flat}

-- a name that was written in pieces
pub pieces_put : {n1 n2 n3 n4 : List ℕ} (o part dot own name : List ℕ) → n1 ≡ o ++ to_le_bytes w32 (length name) → n2 ≡ n1 ++ part → n3 ≡ n2 ++ dot → n4 ≡ n3 ++ own → name ≡ part ++ dot ++ own → n4 ≡ o ++ rows.name name
pieces_put o part dot own name e1 e2 e3 e4 is =
    let size : List ℕ = to_le_bytes w32 (length name) in
    chain4 o size part dot own e1 e2 e3 e4
    ∙ (ap (λ (l : List ℕ). o ++ (size ++ l)) (sym (is ∙ append_assoc part dot own))
    ∙ ap (λ (l : List ℕ). o ++ l) (sym (name_flat name)))

name_size : (x : List ℕ) → length (rows.name x) ≡ 4 + length x
name_size x = ap (λ (l : List ℕ). length l) (name_flat x) ∙ length-append (to_le_bytes w32 (length x)) x

-- one name more
pub one_more : (xs : List (List ℕ)) (i : ℕ) (x : List ℕ) → i < length xs → x ≡ get_or xs i x → length (flat_map rows.name (take (i + 1) xs)) ≡ length (flat_map rows.name (take i xs)) + 4 + length x
one_more xs i x lt is =
    let f : List ℕ → List ℕ = rows.name in
    let more : flat_map f (take (i + 1) xs) ≡ flat_map f (take i xs) ++ f (get_or xs i x) = ap (flat_map f) (take_more xs i x lt) ∙ sym (flat_map_more f [] (take i xs) (get_or xs i x)) in
    let size = name_size (get_or xs i x) in
    let same = ap (λ (l : List ℕ). length l) is in
    ap (λ (l : List ℕ). length l) more ∙ (length-append (flat_map f (take i xs)) (f (get_or xs i x)) ∙ omega (arith, size, same))
