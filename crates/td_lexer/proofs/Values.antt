-- Numbers that digits spell, and ends of comments.
use Rattle.std.proofs.Common.{◌≡◌, ℕ, zero, suc, ◌+◌, ◌*◌, ◌≤◌, ◌<◌, true, false, List, [], ◌∷◌, length, drop, get_or, Option, Some, None, refl, ap, subst, ◌∙◌, arith, drop-cons}
use Rattle.std.proofs.lemmas.List.{drop_all}
use Rattle.td_num.specs.Lists.{one_more}
use Rattle.td_lexer.specs.Bytes.{digit_value, value_from}
use Rattle.td_lexer.specs.Scanner.{close_of, closes}

-- more digits don't make it less
pub value_grows : (base n : ℕ) (ds : List ℕ) → 0 < base → n ≤ value_from base n ds
value_grows base n [] pos = omega arith
value_grows base n (d ∷ ds) pos =
    let more = value_grows base (base * n + digit_value d) ds pos in
    let at_least : n ≤ base * n = times base n pos in
    omega arith
  where
    times : (b m : ℕ) → 0 < b → m ≤ b * m
    times zero m h = absurd (omega arith)
    times (suc b) m h = grind arith

-- so many bytes further
abbrev pub further : ℕ → Option ℕ → Option ℕ
further k None = None
further k (Some n) = Some (n + k)

pub further_one : (k : ℕ) (o : Option ℕ) → further (k + 1) o ≡ further k (one_more o)
further_one k None = refl
further_one k (Some n) = ap (λ (m : ℕ). Some m) (omega arith)

-- the number so far, with the next digit, is at most the whole one
pub next_within : (base n i : ℕ) (ds : List ℕ) (total : ℕ) → 0 < base → i < length ds → value_from base n (drop i ds) ≡ total → base * n + digit_value (get_or ds i 0) ≤ total
next_within base n i ds total pos lt e =
    let next : value_from base (base * n + digit_value (get_or ds i 0)) (drop (suc i) ds) ≡ total = subst (λ (l : List ℕ). value_from base n l ≡ total) (drop-cons ds i 0 lt) e in
    let more = value_grows base (base * n + digit_value (get_or ds i 0)) (drop (suc i) ds) pos in
    omega arith

pub all_read : (base n i : ℕ) (ds : List ℕ) (total : ℕ) → length ds ≤ i → value_from base n (drop i ds) ≡ total → n ≡ total
all_read base n i ds total le e = subst (λ (l : List ℕ). value_from base n l ≡ total) (drop_all i ds le) e

pub close_here : (k : ℕ) (rest : List ℕ) (total : Option ℕ) → closes rest ≡ true → further k (close_of rest) ≡ total → Some (k + 2) ≡ total
close_here k [] total h e = absurd cc
close_here k (a ∷ rest) total h e = ap (λ (m : ℕ). Some m) (omega arith) ∙ rw h at e

pub close_next : (k : ℕ) (rest : List ℕ) (total : Option ℕ) → 0 < length rest → closes rest ≡ false → further k (close_of rest) ≡ total → further (k + 1) (close_of (drop 1 rest)) ≡ total
close_next k [] total long h e = absurd (omega arith)
close_next k (a ∷ rest) total long h e = further_one k (close_of rest) ∙ rw h at e
