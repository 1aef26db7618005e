-- What is made of two lists element by element, by their lengths.
use Rattle.std.proofs.Common.{◌≡◌, ℕ, zero, suc, ◌<◌, ◌≤◌, List, [], ◌∷◌, length, map, take, get_or, refl, ap, ◌∙◌, sym, arith}
use Rattle.td_report.specs.Report.{paired}

pub few_first : {A B C : Type 0} (make : A → B → C) (xs : List A) (ys : List B) → length (paired make xs ys) ≤ length xs
few_first make [] ys = omega arith
few_first make (x ∷ xs) [] = omega arith
few_first make (x ∷ xs) (y ∷ ys) = let rest = few_first make xs ys in omega (arith, rest)

pub few_second : {A B C : Type 0} (make : A → B → C) (xs : List A) (ys : List B) → length (paired make xs ys) ≤ length ys
few_second make [] ys = omega arith
few_second make (x ∷ xs) [] = omega arith
few_second make (x ∷ xs) (y ∷ ys) = let rest = few_second make xs ys in omega (arith, rest)

-- where both have one
pub pair_within : {A B C : Type 0} (make : A → B → C) (xs : List A) (ys : List B) (i : ℕ) → i < length xs → i < length ys → i < length (paired make xs ys)
pair_within make [] ys i h k = absurd (omega (arith, h))
pair_within make (x ∷ xs) [] i h k = absurd (omega (arith, k))
pair_within make (x ∷ xs) (y ∷ ys) zero h k = omega arith
pair_within make (x ∷ xs) (y ∷ ys) (suc i) h k = let rest = pair_within make xs ys i (omega (arith, h)) (omega (arith, k)) in omega (arith, rest)

pub pair_at : {A B C : Type 0} (make : A → B → C) (xs : List A) (ys : List B) (i : ℕ) (x : A) (y : B) → i < length xs → i < length ys
    → get_or (paired make xs ys) i (make x y) ≡ make (get_or xs i x) (get_or ys i y)
pair_at make [] ys i d e h k = absurd (omega (arith, h))
pair_at make (x ∷ xs) [] i d e h k = absurd (omega (arith, k))
pair_at make (x ∷ xs) (y ∷ ys) zero d e h k = refl
pair_at make (x ∷ xs) (y ∷ ys) (suc i) d e h k = pair_at make xs ys i d e (omega (arith, h)) (omega (arith, k))

-- what has this second part
pub pair_here : {A B C : Type 0} (make : A → B → C) (xs : List A) (ys : List B) (i : ℕ) (x : A) (y : B) → i < length xs → i < length ys → y ≡ get_or ys i y
    → get_or (paired make xs ys) i (make x y) ≡ make (get_or xs i x) y
pair_here make xs ys i x y h k is = pair_at make xs ys i x y h k ∙ ap (make (get_or xs i x)) (sym is)

-- so many of them are all
pub take_whole : {A : Type 0} (xs : List A) (n : ℕ) → length xs ≤ n → take n xs ≡ xs
take_whole [] zero h = refl
take_whole [] (suc n) h = refl
take_whole (x ∷ xs) zero h = absurd (omega (arith, h))
take_whole (x ∷ xs) (suc n) h = ap (λ l. x ∷ l) (take_whole xs n (omega (arith, h)))

-- what is made of an element
pub mapped_at : {A B : Type 0} (f : A → B) (xs : List A) (i : ℕ) (x : A) → get_or (map f xs) i (f x) ≡ f (get_or xs i x)
mapped_at f [] i d = refl
mapped_at f (x ∷ xs) zero d = refl
mapped_at f (x ∷ xs) (suc i) d = mapped_at f xs i d

pub mapped_same : {A : Type 0} (xs : List A) → map (λ (x : A). x) xs ≡ xs
mapped_same [] = refl
mapped_same (x ∷ xs) = ap (λ l. x ∷ l) (mapped_same xs)
