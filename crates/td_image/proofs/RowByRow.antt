-- Rows that a loop writes, one behind the other.
use Rattle.std.proofs.Common.{◌≡◌, ℕ, ◌+◌, ◌<◌, List, [], ◌++◌, length, take, get_or, sym, ap, ◌∙◌, append_assoc}
use Rattle.std.specs.List.{flat_map}
use Rattle.std.proofs.lemmas.List.{take_more, flat_map_more}

-- one row more
pub next_row : {A : Type 0} (f : A → List ℕ) (xs : List A) (i : ℕ) (d : A) (o a b : List ℕ) → i < length xs → a ≡ o ++ flat_map f (take i xs) → b ≡ a ++ f (get_or xs i d) → b ≡ o ++ flat_map f (take (i + 1) xs)
next_row f xs i d o a b lt so_far e =
    let x = get_or xs i d in
    let more : flat_map f (take (i + 1) xs) ≡ flat_map f (take i xs) ++ f x = ap (flat_map f) (take_more xs i d lt) ∙ sym (flat_map_more f [] (take i xs) x) in
    e ∙ (ap (λ (l : List ℕ). l ++ f x) so_far ∙ (append_assoc o (flat_map f (take i xs)) (f x) ∙ ap (λ (l : List ℕ). o ++ l) (sym more)))

pub one_more : {A : Type 0} (f : A → List ℕ) (xs : List A) (i : ℕ) (x : A) (o a b : List ℕ) → i < length xs → x ≡ get_or xs i x → a ≡ o ++ flat_map f (take i xs) → b ≡ a ++ f x → b ≡ o ++ flat_map f (take (i + 1) xs)
one_more {A} f xs i x o a b lt is so_far e = next_row f xs i x o a b lt so_far (e ∙ ap (λ (y : A). a ++ f y) is)
