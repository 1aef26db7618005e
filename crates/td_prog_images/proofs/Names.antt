-- Names of images stand for themselves in C's strings.
use Rattle.std.proofs.Common.{◌≡◌, ℕ, suc, ◌+◌, Bool, true, false, cond, List, [], ◌∷◌, length, refl, subst, arith, take, drop}
use Rattle.std.specs.Prelude.{nat_eq, ◌||◌, ◌&&◌, ◌==◌, not, take_while}
use Rattle.std.specs.List.{prefix_len, position_or_len, before_first, after_first}
use Rattle.std.proofs.lemmas.Bool.{eqb-true}
use Rattle.td_num.specs.Lists.{Each}
use Rattle.td_num.specs.Text.{is_dot}
use Rattle.td_lexer.specs.Spellings.{is_keyword}
use Rattle.td_image.specs.declared.version.ImageVersion.{ImageVersion}
use Rattle.td_image.specs.Versions.{has_dots}
use Rattle.td_image.specs.Names.{is_letter_or_digit, is_name, is_plain, are_two_names, is_image_name}
use Rattle.td_image.specs.Names as images
use Rattle.td_prog.specs.Names.{is_letter, is_digit, IsName}

abbrev IsFine : ℕ → Type 0
IsFine b = (is_letter b || is_digit b || nat_eq b 46) ≡ true

pub and_parts : (a b : Bool) → (a && b) ≡ true → (a ≡ true) × (b ≡ true)
and_parts true b h = (refl, h)
and_parts false b h = absurd (cc)

fine_letter : (l d t : Bool) → l ≡ true → (l || d || t) ≡ true
fine_letter true d t h = refl
fine_letter false d t h = absurd (cc)

fine_inside : (l d t : Bool) → (l || d) ≡ true → (l || d || t) ≡ true
fine_inside true d t h = refl
fine_inside false true t h = refl
fine_inside false false t h = absurd (cc)

fine_dot : (l d t : Bool) → t ≡ true → (l || d || t) ≡ true
fine_dot true d t h = refl
fine_dot false true t h = refl
fine_dot false false t h = h

-- all are taken, so each passes
taken : (bs : List ℕ) → length (take_while is_letter_or_digit bs) ≡ length bs → Each IsFine bs
taken [] e = tt
taken (b ∷ bs) e = by (is_letter_or_digit b) refl e (λ k. taken bs k)
  where
    by : (t : Bool) → is_letter_or_digit b ≡ t → length (take (cond t (1 + prefix_len is_letter_or_digit bs) 0) (b ∷ bs)) ≡ suc (length bs)
        → (length (take_while is_letter_or_digit bs) ≡ length bs → Each IsFine bs) → Each IsFine (b ∷ bs)
    by true h e rest =
        let one : 1 + prefix_len is_letter_or_digit bs ≡ suc (prefix_len is_letter_or_digit bs) = omega arith in
        let all : suc (length (take_while is_letter_or_digit bs)) ≡ suc (length bs) = subst (λ (n : ℕ). length (take n (b ∷ bs)) ≡ suc (length bs)) one e in
        (fine_inside (is_letter b) (is_digit b) (nat_eq b 46) h, rest (omega (arith, all)))
    by false h e rest = let none : 0 ≡ suc (length bs) = e in absurd (omega (arith, none))

name_fine : (name : List ℕ) → is_name name ≡ true → Each IsFine name
name_fine [] h = tt
name_fine (b ∷ bs) h =
    let both = and_parts (images.is_letter b) (length (take_while is_letter_or_digit bs) == length bs) h in
    (fine_letter (is_letter b) (is_digit b) (nat_eq b 46) both.0, taken bs (eqb-true (length (take_while is_letter_or_digit bs)) (length bs) both.1))

plain_fine : (name : List ℕ) → is_plain name ≡ true → Each IsFine name
plain_fine name h = name_fine name (and_parts (is_name name) (not (is_keyword name)) h).0

-- what stands before a dot, the dot, and what stands behind it
joined : (name : List ℕ) → Each IsFine (before_first is_dot name) → Each IsFine (after_first is_dot name) → Each IsFine name
joined [] h k = tt
joined (b ∷ bs) h k = by (is_dot b) refl h k (λ x y. joined bs x y)
  where
    by : (t : Bool) → is_dot b ≡ t → Each IsFine (take (cond (not t) (1 + position_or_len is_dot bs) 0) (b ∷ bs)) → Each IsFine (drop (cond (not t) (1 + position_or_len is_dot bs) 0 + 1) (b ∷ bs))
        → (Each IsFine (before_first is_dot bs) → Each IsFine (after_first is_dot bs) → Each IsFine bs) → Each IsFine (b ∷ bs)
    by true e h k rest = (fine_dot (is_letter b) (is_digit b) (nat_eq b 46) e, k)
    by false e h k rest =
        let one : 1 + position_or_len is_dot bs ≡ suc (position_or_len is_dot bs) = omega arith in
        let more : 1 + position_or_len is_dot bs + 1 ≡ suc (position_or_len is_dot bs + 1) = omega arith in
        let front : IsFine b × Each IsFine (before_first is_dot bs) = subst (λ (n : ℕ). Each IsFine (take n (b ∷ bs))) one h in
        let back : Each IsFine (after_first is_dot bs) = subst (λ (n : ℕ). Each IsFine (drop n (b ∷ bs))) more k in
        (front.0, rest front.1 back)

pub image_name : (version : ImageVersion) (name : List ℕ) → is_image_name version name ≡ true → IsName name
image_name version name h = by (is_name name) refl h
  where
    by : (t : Bool) → is_name name ≡ t → (t || (has_dots version && are_two_names name)) ≡ true → IsName name
    by true e h = name_fine name e
    by false e h =
        let two : are_two_names name ≡ true = (and_parts (has_dots version) (are_two_names name) h).1 in
        let both = and_parts (is_plain (before_first is_dot name)) (is_plain (after_first is_dot name)) two in
        joined name (plain_fine (before_first is_dot name) both.0) (plain_fine (after_first is_dot name) both.1)
