-- Pieces of each element of a list, one more each time.
use Rattle.std.proofs.Common.{◌≡◌, ◌<◌, ◌+◌, ℕ, suc, List, [], ◌∷◌, ◌++◌, length, take, flat_map, Result, Ok, refl, ap, sym, ◌∙◌, append_assoc, length-take, arith}
use Rattle.std.specs.Prelude.{slice_index_or}
use Rattle.std.specs.declared.alloc.AllocError.{AllocError}
use Rattle.std.proofs.lemmas.List.{append-nil, take_more}
use Rattle.std.proofs.lemmas.Grind.{flat_map-append}
use Rattle.td_prog_emit.proofs.Texts.{joined, recut}
use Rattle.td_prog_emit.specs.Written.{Wrote}
use Rattle.td_prog_text.specs.Entries.{indexed, lines}
use Rattle.td_prog_text.specs.Expressions.{Pieces, text}

pub indexed_push : {A B : Type 0} → (f : ℕ → A → B) (j : ℕ) (xs : List A) (x : A) → indexed f j (xs ++ x ∷ []) ≡ indexed f j xs ++ f (j + length xs) x ∷ []
indexed_push {A} {B} f j [] x = let e : j ≡ j + 0 = omega arith in ap (λ (n : ℕ). f n x ∷ []) e
indexed_push {A} {B} f j (y ∷ ys) x =
    let e : j + 1 + length ys ≡ j + suc (length ys) = omega arith in
    ap (λ (l : List B). f j y ∷ l) (indexed_push f (j + 1) ys x) ∙ ap (λ (n : ℕ). f j y ∷ (indexed f (j + 1) ys ++ f n x ∷ [])) e

-- one element more
pub indexed_more : {A B : Type 0} → (f : ℕ → A → B) (xs : List A) (k : ℕ) (d : A) → k < length xs → indexed f 0 (take (k + 1) xs) ≡ indexed f 0 (take k xs) ++ f k (slice_index_or xs k d) ∷ []
indexed_more {A} {B} f xs k d h =
    let e : 0 + length (take k xs) ≡ k = omega (arith, length-take k xs) in
    ap (indexed f 0) (take_more xs k d h) ∙ indexed_push f 0 (take k xs) (slice_index_or xs k d) ∙ ap (λ (n : ℕ). indexed f 0 (take k xs) ++ f n (slice_index_or xs k d) ∷ []) e

pub list_more :
    {A B : Type 0} → (f : ℕ → A → B) (xs : List A) (k : ℕ) (d x : A) (y : B) (now new : List B) → now ≡ indexed f 0 (take k xs) → x ≡ slice_index_or xs k d → y ≡ f k x → new ≡ now ++ y ∷ [] → k < length xs
    → new ≡ indexed f 0 (take (k + 1) xs)
list_more {A} {B} f xs k d x y now new before e made step h =
    step ∙ ap (λ (l : List B). l ++ y ∷ []) before ∙ ap (λ (z : B). indexed f 0 (take k xs) ++ z ∷ []) (made ∙ ap (f k) e) ∙ sym (indexed_more f xs k d h)

lines_push : (a : List Pieces) (ps : Pieces) → lines (a ++ ps ∷ []) ≡ lines a ++ ps
lines_push [] ps = append-nil ps
lines_push (qs ∷ a) ps = ap (λ (l : Pieces). qs ++ l) (lines_push a ps) ∙ sym (append_assoc qs (lines a) ps)

pub written_more :
    {X : Type 0} {r : Result (Unit {0}) AllocError} {o m n : List ℕ} {u v : Unit {0}} → (f : ℕ → X → Pieces) (xs : List X) (k : ℕ) (d x : X) → Wrote (Ok u) o m (lines (indexed f 0 (take k xs)))
    → x ≡ slice_index_or xs k d → Wrote r m n (f k x) → k < length xs → Wrote r o n (lines (indexed f 0 (take (k + 1) xs)))
written_more {X} {r} {o} {m} {n} {u} {v} f xs k d x before e step h =
    recut (joined before step)
    (ap (λ (y : X). text (lines (indexed f 0 (take k xs)) ++ f k y)) e
    ∙ ap text (sym (ap lines (indexed_more f xs k d h) ∙ lines_push (indexed f 0 (take k xs)) (f k (slice_index_or xs k d)))))

take_all : {X : Type 0} → (xs : List X) → take (length xs) xs ≡ xs
take_all {X} [] = refl
take_all {X} (x ∷ xs) = ap (λ (l : List X). x ∷ l) (take_all xs)

-- all of them
pub taken_all : {X : Type 0} → (xs : List X) (k : ℕ) → k ≡ length xs → take k xs ≡ xs
taken_all {X} xs k e = ap (λ (n : ℕ). take n xs) e ∙ take_all xs

pub written_all :
    {X : Type 0} {r : Result (Unit {0}) AllocError} {o n : List ℕ} → (f : ℕ → X → Pieces) (xs : List X) (k : ℕ) → Wrote r o n (lines (indexed f 0 (take k xs))) → k ≡ length xs
    → Wrote r o n (lines (indexed f 0 xs))
written_all {X} f xs k w e = recut w (ap (λ (l : List X). text (lines (indexed f 0 l))) (taken_all xs k e))

-- the same without numbers
pub each_more :
    {X : Type 0} {r : Result (Unit {0}) AllocError} {o m n : List ℕ} {u : Unit {0}} → (f : X → Pieces) (xs : List X) (k : ℕ) (d : X) → Wrote (Ok u) o m (flat_map f (take k xs))
    → Wrote r m n (f (slice_index_or xs k d)) → k < length xs → Wrote r o n (flat_map f (take (k + 1) xs))
each_more {X} {r} {o} {m} {n} {u} f xs k d before step h =
    let x = slice_index_or xs k d in
    recut (joined before step)
    (ap text
    (ap (λ (ps : Pieces). flat_map f (take k xs) ++ ps) (sym (append-nil (f x))) ∙ sym (flat_map-append f (take k xs) (x ∷ [])) ∙ ap (flat_map f) (sym (take_more xs k d h))))

pub each_all :
    {X : Type 0} {r : Result (Unit {0}) AllocError} {o n : List ℕ} → (f : X → Pieces) (xs : List X) (k : ℕ) → Wrote r o n (flat_map f (take k xs)) → k ≡ length xs → Wrote r o n (flat_map f xs)
each_all {X} f xs k w e = recut w (ap (λ (l : List X). text (flat_map f l)) (taken_all xs k e))
