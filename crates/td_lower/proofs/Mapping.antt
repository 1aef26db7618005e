-- A cell map gives the cells back that it is made of. Cited by other crates.
use Rattle.std.proofs.Common.{◌≡◌, ℕ, ◌+◌, ◌-◌, ◌*◌, ◌/◌, ◌%◌, ◌<◌, ◌≤◌, true, false, cond, nat_eq, nat_lt, List, [], ◌∷◌, ◌++◌, length, take, drop, Option, Some, None, refl, sym, ap, ◌∙◌, arith}
use Rattle.std.proofs.lemmas.List.{length-take-le, take_at, drop_at, take-append-drop}
use Rattle.std.proofs.lemmas.Bool.Decides.{nat_tests}
use Rattle.td_num.specs.Lists.{Each}
use Rattle.td_lower.specs.Imports.{Buffer, TypeDef}
use Rattle.td_core.specs.Copies.{AreBuffersGiven, AreOwnGiven}
use Rattle.td_ir.specs.Tables.{buffer_cells, own_cells}
use Rattle.td_lower.specs.Tables.{number_for, in_map, map_for}

pub in_map_then : (o : Option ℕ) (ns : List ℕ) → in_map o [] ++ ns ≡ in_map o ns
in_map_then None ns = refl
in_map_then (Some n) ns = refl

in_map_both : (o : Option ℕ) (xs ys : List ℕ) → in_map o xs ++ ys ≡ in_map o (xs ++ ys)
in_map_both None xs ys = refl
in_map_both (Some n) xs ys = refl

map_both : (C : ℕ) (xs ys : List ℕ) → map_for C (xs ++ ys) ≡ map_for C xs ++ map_for C ys
map_both C [] ys = refl
map_both C (x ∷ xs) ys = ap (in_map (number_for C x)) (map_both C xs ys) ∙ sym (in_map_both (number_for C x) (map_for C xs) (map_for C ys))

-- a cell stands for itself
low_number : (C k : ℕ) → k < C → number_for C k ≡ Some k
low_number C k h = let e : nat_lt k C ≡ true = grind (arith, nat_tests, h) in ap (λ b. cond b (Some k) (cond (nat_eq ((k - C) % 2) 0) (Some ((k - C) / 2)) None)) e

low_map : (C : ℕ) (ks : List ℕ) → Each (λ k. k < C) ks → map_for C ks ≡ ks
low_map C [] h = refl
low_map C (k ∷ ks) h = ap (λ o. in_map o (map_for C ks)) (low_number C k h.0) ∙ ap (λ xs. k ∷ xs) (low_map C ks h.1)

-- the first cell of a buffer stands for it
past : (C k : ℕ) → C ≤ k → nat_lt k C ≡ false
past C k h = grind (arith, nat_tests, h)

first_number : (C n : ℕ) → number_for C (C + 2 * n) ≡ Some n
first_number C n =
    let k = C + 2 * n in
    let low : nat_lt k C ≡ false = past C k (omega arith) in
    let even : (k - C) % 2 ≡ 0 = omega arith in
    let half : (k - C) / 2 ≡ n = omega arith in
    ap (λ b. cond b (Some k) (cond (nat_eq ((k - C) % 2) 0) (Some ((k - C) / 2)) None)) low
    ∙ (ap (λ r. cond (nat_eq r 0) (Some ((k - C) / 2)) None) even ∙ ap Some half)

-- its second for nothing
second_number : (C n : ℕ) → number_for C (C + 2 * n + 1) ≡ None
second_number C n =
    let k = C + 2 * n + 1 in
    let low : nat_lt k C ≡ false = past C k (omega arith) in
    let odd : (k - C) % 2 ≡ 1 = omega arith in
    ap (λ b. cond b (Some k) (cond (nat_eq ((k - C) % 2) 0) (Some ((k - C) / 2)) None)) low
    ∙ ap (λ r. cond (nat_eq r 0) (Some ((k - C) / 2)) None) odd

pairs_back : (C : ℕ) (own theirs : List Buffer) (ks : List ℕ) → AreBuffersGiven C own theirs ks → buffer_cells C (map_for C ks) ≡ ks
pairs_back C own [] [] h = refl
pairs_back C own [] (k ∷ ks) h = absurd h
pairs_back C own (e ∷ es) [] h = absurd h
pairs_back C own (e ∷ es) (k ∷ []) h = absurd h
pairs_back C own (e ∷ es) (k ∷ l ∷ ks) h =
    let n = h.0.number in
    let first : k ≡ C + 2 * n = h.0.cell_is in
    let second : l ≡ C + 2 * n + 1 = h.1.0 ∙ ap (λ x. x + 1) first in
    let rest = pairs_back C own es ks h.1.1 in
    let numbers : map_for C (k ∷ l ∷ ks) ≡ n ∷ map_for C ks =
    ap (λ o. in_map o (map_for C (l ∷ ks))) (ap (number_for C) first ∙ first_number C n)
    ∙ ap (λ o. n ∷ in_map o (map_for C ks)) (ap (number_for C) second ∙ second_number C n) in
    ap (buffer_cells C) numbers
    ∙ (ap (λ xs. (C + 2 * n) ∷ (C + 2 * n + 1) ∷ xs) rest
    ∙ (ap (λ x. x ∷ (C + 2 * n + 1) ∷ ks) (sym first) ∙ ap (λ x. k ∷ x ∷ ks) (sym second)))

pub map_back : (d e : TypeDef) (own : List ℕ) → length e.cells ≤ length own → AreOwnGiven d (Some e) own → own_cells (length d.cells) (length e.cells) (map_for (length d.cells) own) ≡ own
map_back d e own long given =
    let C = length d.cells in
    let K = length e.cells in
    let xs = take K own in
    let ys = drop K own in
    let size : length xs ≡ K = length-take-le K own long in
    let whole : map_for C own ≡ xs ++ map_for C ys = ap (map_for C) (sym (take-append-drop K own)) ∙ (map_both C xs ys ∙ ap (λ zs. zs ++ map_for C ys) (low_map C xs given.0)) in
    ap (own_cells C K) whole
    ∙ (ap (λ zs. zs ++ buffer_cells C (drop K (xs ++ map_for C ys))) (take_at xs (map_for C ys) K size)
    ∙ (ap (λ zs. xs ++ buffer_cells C zs) (drop_at xs (map_for C ys) K size)
    ∙ (ap (λ zs. xs ++ zs) (pairs_back C d.buffers e.buffers ys given.1) ∙ take-append-drop K own)))
