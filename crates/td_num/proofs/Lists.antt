-- What holds of each item of a list, and what stands at a place of it. Cited by other crates.
use Rattle.std.proofs.Common.{◌≡◌, ℕ, zero, suc, ◌+◌, ◌-◌, ◌<◌, ◌≤◌, Bool, true, false, cond, Option, None, List, [], ◌∷◌, ◌++◌, length, take, drop, get_or, slice_index_or, Some, refl, sym, ap, subst, ◌∙◌, arith, replicate, set}
use Rattle.std.specs.Prelude.{slice_get, slice_range, slice_index}
use Rattle.std.specs.List.{Contains, All}
use Rattle.std.proofs.lemmas.List.{drop_more, drop-take, drop-drop, take_at}
use Rattle.std.proofs.lemmas.Option.{none-some, same_Some}
use Rattle.std.proofs.lemmas.List.Elements.{All-nil, All-cons, All-head, All-tail}
use mathlib.Core.Option.{some, some-ne-none}
use lib.ListN.{get_elem?}
use Rattle.td_num.specs.Lists.{Each, one_more, first_where}
use Rattle.td_num.specs.Numbers.{places_from}

-- there is an item at each place
pub got : {A : Type 0} (xs : List A) (n : ℕ) → n < length xs → (x : A) × (slice_get xs n ≡ Some x)
got [] n h = absurd (omega (arith, h))
got (x ∷ xs) zero h = (x, refl)
got (x ∷ xs) (suc n) h = got xs n (omega (arith, h))

pub each_at : {A : Type 0} (P : A → Type 0) (xs : List A) (n : ℕ) (x : A) → Each P xs → slice_get xs n ≡ Some x → P x
each_at P [] n x h e = absurd (none-some x e)
each_at P (y ∷ xs) zero x h e = subst P (same_Some y x e) h.0
each_at P (y ∷ xs) (suc n) x h e = each_at P xs n x h.1 e

pub each_index : {A : Type 0} (P : A → Type 0) (xs : List A) (d : A) (n : ℕ) → Each P xs → n < length xs → P (slice_index_or xs n d)
each_index P [] d n e h = absurd (omega (arith, h))
each_index P (x ∷ xs) d zero e h = e.0
each_index P (x ∷ xs) d (suc n) e h = each_index P xs d n e.1 (omega (arith, h))

-- what holds at each place holds of each item
pub each_by : {A : Type 0} (P : A → Type 0) (xs : List A) (d : A) → ((k : ℕ) → k < length xs → P (slice_index_or xs k d)) → Each P xs
each_by P [] d h = tt
each_by P (x ∷ xs) d h = (h 0 (omega arith), each_by P xs d (λ k lt. h (suc k) (omega (arith, lt))))

pub each_map : {A : Type 0} (P Q : A → Type 0) (xs : List A) → ((x : A) → P x → Q x) → Each P xs → Each Q xs
each_map P Q [] f h = tt
each_map P Q (x ∷ xs) f h = (f x h.0, each_map P Q xs f h.1)

pub each_append : {A : Type 0} (P : A → Type 0) (xs ys : List A) → Each P xs → Each P ys → Each P (xs ++ ys)
each_append P [] ys h k = k
each_append P (x ∷ xs) ys h k = (h.0, each_append P xs ys h.1 k)

pub each_push : {A : Type 0} (P : A → Type 0) (xs : List A) (y : A) → Each P xs → P y → Each P (xs ++ y ∷ [])
each_push P xs y h p = each_append P xs (y ∷ []) h (p, tt)

pub each_among : {A : Type 0} (P : A → Type 0) (xs : List A) (x : A) → Each P xs → Contains xs x → P x
each_among P [] x h (k, lt, e) = absurd (omega (arith, lt))
each_among P (y ∷ ys) x h (zero, lt, e) = subst P e h.0
each_among P (y ∷ ys) x h (suc k, lt, e) = each_among P ys x h.1 (k, omega (arith, lt), e)

pub all_among : {A : Type 0} (P : A → Type 0) (xs ys : List A) → Each P xs → Each (Contains xs) ys → Each P ys
all_among P xs [] h c = tt
all_among P xs (y ∷ ys) h c = (each_among P xs y h c.0, all_among P xs ys h c.1)

-- what is left of a list begins with the item of this turn
pub drop_next : {A : Type 0} (xs : List A) (i : ℕ) (x : A) → i < length xs → x ≡ get_or xs i x → drop i xs ≡ x ∷ drop (i + 1) xs
drop_next xs i x h e = drop_more xs i x h ∙ ap (λ y. y ∷ drop (i + 1) xs) (sym e)

pub drop_range : {X : Type 0} (xs : List X) (a k to : ℕ) → a + k ≤ to → drop k (slice_range xs a to) ≡ slice_range xs (a + k) to
drop_range {X} xs a k to h =
    let e : to - a ≡ k + (to - (a + k)) = omega arith in
    ap (λ n. drop k (take n (drop a xs))) e ∙ drop-take k (to - (a + k)) (drop a xs) ∙ ap (λ l. take (to - (a + k)) l) (drop-drop k a xs)

-- what holds of each item of a beginning holds of the one at each of its places
pub each_taken : (P : ℕ → Type 0) (n : ℕ) (xs : List ℕ) (k : ℕ) → Each P (take n xs) → k < n → k < length xs → P (slice_index xs k)
each_taken P zero xs k h l m = absurd (omega (arith, l))
each_taken P (suc n) [] k h l m = absurd (omega (arith, m))
each_taken P (suc n) (x ∷ xs) zero h l m = h.0
each_taken P (suc n) (x ∷ xs) (suc k) h l m = each_taken P n xs k h.1 (omega (arith, l)) (omega (arith, m))

-- what a list has of which a slice was lent: all of it
pub lent : {A : Type 0} (n : ℕ) (xs ys : List A) → length xs ≡ n → take n (xs ++ drop (length xs) ys) ≡ xs
lent n xs ys e = take_at xs (drop (length xs) ys) n e

-- the numbers of places, and zeros
pub index_places : (n c from : ℕ) → c < n → slice_index (places_from from n) c ≡ from + c
index_places zero c from lt = absurd (omega (arith, lt))
index_places (suc n) zero from lt = omega arith
index_places (suc n) (suc c) from lt = index_places n c (from + 1) (omega (arith, lt)) ∙ omega arith

pub index_zeros : (n i : ℕ) → slice_index (replicate n 0) i ≡ 0
index_zeros zero i = refl
index_zeros (suc n) zero = refl
index_zeros (suc n) (suc i) = index_zeros n i

-- what holds of all holds of those ahead, and of those behind
pub all_left : {A : Type 0} (P : A → Type 0) (xs ys : List A) → All P (xs ++ ys) → All P xs
all_left P [] ys a = All-nil P
all_left P (x ∷ xs) ys a = All-cons P x xs (All-head P x (xs ++ ys) a) (all_left P xs ys (All-tail P x (xs ++ ys) a))

pub all_right : {A : Type 0} (P : A → Type 0) (xs ys : List A) → All P (xs ++ ys) → All P ys
all_right P [] ys a = a
all_right P (x ∷ xs) ys a = all_right P xs ys (All-tail P x (xs ++ ys) a)

-- what was put at a place stands there
pub set_at : {A : Type 0} (l : List A) (i : ℕ) (a b : A) → get_elem? l i ≡ some a → get_elem? (set l i b) i ≡ some b
set_at [] i a b e = absurd (some-ne-none a (sym e))
set_at (x ∷ xs) zero a b e = refl
set_at (x ∷ xs) (suc i) a b e = set_at xs i a b e

-- parts of nothing
pub left_none : {A : Type 0} (xs ys : List A) → xs ++ ys ≡ [] → xs ≡ []
left_none [] ys h = refl
left_none (x ∷ xs) ys h = absurd cc

pub right_none : {A : Type 0} (xs ys : List A) → xs ++ ys ≡ [] → ys ≡ []
right_none [] ys h = h
right_none (x ∷ xs) ys h = absurd cc

-- the first number that passes a test is one of the list
pub found_below : (test : ℕ → Bool) (xs : List ℕ) (k : ℕ) → first_where test xs ≡ Some k → k < length xs
found_below test [] k e = absurd (none-some k e)
found_below test (x ∷ xs) k e = by (found_below test xs) (test x) (first_where test xs) refl e
  where
    by : ((j : ℕ) → first_where test xs ≡ Some j → j < length xs) → (b : Bool) (o : Option ℕ) → first_where test xs ≡ o → cond b (Some 0) (one_more o) ≡ Some k → k < length (x ∷ xs)
    by later true o h e = let z : 0 ≡ k = same_Some 0 k e in omega (arith, z)
    by later false None h e = absurd (none-some k e)
    by later false (Some j) h e = let z : suc j ≡ k = same_Some (suc j) k e in omega (arith, z, later j h)
