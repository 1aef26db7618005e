-- Names of the one tree as they are spelled. Cited by other crates.
use Rattle.std.proofs.Common.{◌≡◌, ℕ, zero, suc, ◌+◌, ◌*◌, ◌/◌, ◌^◌, ◌<◌, ◌≤◌, Bool, true, false, cond, ◌||◌, List, [], ◌∷◌, ◌++◌, length, get_or, drop, Some, None, refl, sym, ap, ap₂, subst, ◌∙◌, inl, inr, arith}
use Rattle.std.specs.Prelude.{◌==◌}
use Rattle.std.specs.Str.{bytes_eq}
use Rattle.std.proofs.lemmas.Bool.Decides.{nat_tests}
use Rattle.std.proofs.lemmas.List.Folds.{list_any-append}
use Rattle.std.proofs.lemmas.Slice.Eq.{bytes_eq-Decides}
use Rattle.td_num.specs.Numbers.{byte_of}
use Rattle.td_num.specs.Lists.{Each}
use Rattle.td_num.proofs.Truths.{both_true}
use Rattle.td_num.proofs.Digits.{byte_below}
use Rattle.td_front_flat_facts.specs.Imports.{PartTree}
use Rattle.td_lexer.specs.Bytes.{is_letter, is_word_byte, every}
use Rattle.td_lexer.specs.Splits.{IsName, IsDotted}
use Rattle.td_names.specs.Names.{is_seen}
use Rattle.td_front_flat.specs.Names.{of_part, spelled}
use Rattle.td_front_flat.specs.Order.{names_of, first_twice}
use Rattle.td_front_flat_facts.specs.Laws.{OfPart, IsNumbered, WordsAreSpelledSo, NumberedAreDotted, NamesStayApart}

-- ---- the number in four bytes

-- the number that these bytes spell, the least first
abbrev four : ℕ → ℕ → ℕ → ℕ → ℕ
four a b c d = 256 * (256 * (256 * (256 * 0 + d) + c) + b) + a

-- the number that a name of the part k has, as it is read back
abbrev pub place : ℕ → ℕ
place k = four (byte_of k 0) (byte_of k 1) (byte_of k 2) (byte_of k 3)

-- the bytes of a number by its digits in base 256
record HasDigits (k a b c d : ℕ) : Type 0 where
  rest : ℕ
  whole : k ≡ four a b c d + 4294967296 * rest
  none : k < 4294967296 → rest ≡ 0

digits : (k : ℕ) → HasDigits k (byte_of k 0) (byte_of k 1) (byte_of k 2) (byte_of k 3)
digits k = record {
  rest = k / 4294967296;
  whole = omega arith;
  none = λ lt. omega (arith, lt);
}

pub place_low : (k : ℕ) → place k ≤ k
place_low k = let h = (digits k).whole in omega (arith, h)

pub place_is : (k : ℕ) → k < 4294967296 → place k ≡ k
place_is k lt = let d = digits k in let h = d.whole in let n = d.none lt in omega (arith, h, n)

record AreSame (a b c d e f g h : ℕ) : Type 0 where
  first : a ≡ e
  second : b ≡ f
  third : c ≡ g
  fourth : d ≡ h

same_digits : (a b c d e f g h : ℕ) → a < 256 → b < 256 → c < 256 → e < 256 → f < 256 → g < 256 → four a b c d ≡ four e f g h → AreSame a b c d e f g h
same_digits a b c d e f g h la lb lc le lf lg s = record { first = omega (arith, la, le, s); second = omega (arith, la, lb, le, lf, s); third = omega (arith, la, lb, lc, le, lf, lg, s); fourth = omega (arith, la, lb, lc, le, lf, lg, s) }

same_part : (k l : ℕ) (x : List ℕ) → place k ≡ place l → of_part k x ≡ of_part l x
same_part k l x s =
    let h =
    same_digits (byte_of k 0) (byte_of k 1) (byte_of k 2) (byte_of k 3) (byte_of l 0) (byte_of l 1) (byte_of l 2) (byte_of l 3) (byte_below (k / 2 ^ (8 * 0))) (byte_below (k / 2 ^ (8 * 1))) (byte_below (k / 2 ^ (8 * 2)))
    (byte_below (l / 2 ^ (8 * 0))) (byte_below (l / 2 ^ (8 * 1))) (byte_below (l / 2 ^ (8 * 2))) s
    in
    ap (λ (b : ℕ). 46 ∷ b ∷ byte_of k 1 ∷ byte_of k 2 ∷ byte_of k 3 ∷ x) h.first ∙ ap (λ (b : ℕ). 46 ∷ byte_of l 0 ∷ b ∷ byte_of k 2 ∷ byte_of k 3 ∷ x) h.second
    ∙ ap (λ (b : ℕ). 46 ∷ byte_of l 0 ∷ byte_of l 1 ∷ b ∷ byte_of k 3 ∷ x) h.third ∙ ap (λ (b : ℕ). 46 ∷ byte_of l 0 ∷ byte_of l 1 ∷ byte_of l 2 ∷ b ∷ x) h.fourth

-- a name with a number as it is spelled
pub numbered_spelled : (names : List (List ℕ)) (k : ℕ) (x : List ℕ) → spelled names (of_part k x) ≡ get_or names (place k) [] ++ 46 ∷ x
numbered_spelled names k x = refl

-- ---- words

no_letter : is_letter 46 ≡ false
no_letter = refl

pub words_are_spelled_so : WordsAreSpelledSo
words_are_spelled_so names [] h = refl
words_are_spelled_so names (b ∷ x) h = by (b == 46) refl
  where
    by : (t : Bool) → (b == 46) ≡ t → cond t (get_or names (four (get_or (b ∷ x) 1 0) (get_or (b ∷ x) 2 0) (get_or (b ∷ x) 3 0) (get_or (b ∷ x) 4 0)) [] ++ 46 ∷ drop 5 (b ∷ x)) (b ∷ x) ≡ b ∷ x
    by true e = let same : b ≡ 46 = grind (arith, nat_tests) in let no : is_letter 46 ≡ true = subst (λ n. is_letter n ≡ true) same h.0 in absurd cc
    by false e = refl

-- no dot stands in a word
no_dot : (a b : List ℕ) → every is_word_byte (a ++ 46 ∷ b) ≡ true → ⊥
no_dot [] b h = absurd cc
no_dot (x ∷ a) b h = no_dot a b (both_true (is_word_byte x) (every is_word_byte (a ++ 46 ∷ b)) h).1

-- what is joined by the first dot
record AreBoth (a b x y : List ℕ) : Type 0 where
  fronts : a ≡ b
  backs : x ≡ y

parted : (a b x y : List ℕ) → every is_word_byte a ≡ true → every is_word_byte b ≡ true → a ++ 46 ∷ x ≡ b ++ 46 ∷ y → AreBoth a b x y
parted [] [] x y h k e = record { fronts = refl; backs = cc }
parted [] (c ∷ b) x y h k e =
    let same : c ≡ 46 = cc in
    let no : is_word_byte 46 ≡ true = subst (λ n. is_word_byte n ≡ true) same (both_true (is_word_byte c) (every is_word_byte b) k).0 in
    absurd cc
parted (c ∷ a) [] x y h k e =
    let same : c ≡ 46 = cc in
    let no : is_word_byte 46 ≡ true = subst (λ n. is_word_byte n ≡ true) same (both_true (is_word_byte c) (every is_word_byte a) h).0 in
    absurd cc
parted (c ∷ a) (d ∷ b) x y h k e =
    let same : c ≡ d = cc in
    let rest : a ++ 46 ∷ x ≡ b ++ 46 ∷ y = cc in
    let ih = parted a b x y (both_true (is_word_byte c) (every is_word_byte a) h).1 (both_true (is_word_byte d) (every is_word_byte b) k).1 rest in
    record { fronts = ap₂ (λ (u : ℕ) (v : List ℕ). u ∷ v) same ih.fronts; backs = ih.backs }

-- ---- parts' names

pub name_there : (P : List ℕ → Type 0) (parts : List PartTree) (k : ℕ) → k < length parts → Each (OfPart P) parts → P (get_or (names_of parts) k [])
name_there P [] k lt h = absurd (omega (arith, lt))
name_there P (p ∷ ps) zero lt h = h.0.0
name_there P (p ∷ ps) (suc k) lt h = name_there P ps k (omega (arith, lt)) h.1

-- no name of these is among those that were seen before
not_left : (names : List (List ℕ)) (n x : List ℕ) → is_seen (names ++ n ∷ []) x ≡ false → is_seen names x ≡ false
not_left names n x h = by (is_seen names x) (sym (list_any-append (bytes_eq x) names (n ∷ [])) ∙ h)
  where
    by : (b : Bool) → (b || is_seen (n ∷ []) x) ≡ false → b ≡ false
    by true e = cc
    by false e = refl

not_last : (names : List (List ℕ)) (n x : List ℕ) → is_seen (names ++ n ∷ []) x ≡ false → bytes_eq x n ≡ false
not_last names n x h = by (is_seen names x) (bytes_eq x n) (sym (list_any-append (bytes_eq x) names (n ∷ [])) ∙ h)
  where
    by : (b c : Bool) → (b || (c || false)) ≡ false → c ≡ false
    by true c e = absurd cc
    by false true e = absurd cc
    by false false e = refl

next_names : (names : List (List ℕ)) (p : PartTree) (ps : List PartTree) → first_twice names (p ∷ ps) ≡ None → first_twice (names ++ p.name.text ∷ []) ps ≡ None
next_names names p ps h = by (is_seen names p.name.text) h
  where
    by : (b : Bool) → cond b (Some p.name.span) (first_twice (names ++ p.name.text ∷ []) ps) ≡ None → first_twice (names ++ p.name.text ∷ []) ps ≡ None
    by true e = absurd cc
    by false e = e

first_new : (names : List (List ℕ)) (p : PartTree) (ps : List PartTree) → first_twice names (p ∷ ps) ≡ None → is_seen names p.name.text ≡ false
first_new names p ps h = by (is_seen names p.name.text) h
  where
    by : (b : Bool) → cond b (Some p.name.span) (first_twice (names ++ p.name.text ∷ []) ps) ≡ None → b ≡ false
    by true e = absurd cc
    by false e = refl

all_new : (names : List (List ℕ)) (parts : List PartTree) (k : ℕ) → first_twice names parts ≡ None → k < length parts → is_seen names (get_or (names_of parts) k []) ≡ false
all_new names [] k h lt = absurd (omega (arith, lt))
all_new names (p ∷ ps) zero h lt = first_new names p ps h
all_new names (p ∷ ps) (suc k) h lt =
    not_left names p.name.text (get_or (names_of ps) k []) (all_new (names ++ p.name.text ∷ []) ps k (next_names names p ps h) (omega (arith, lt)))

-- so a part's name isn't that of a later one
not_later : (names : List (List ℕ)) (p : PartTree) (ps : List PartTree) (k : ℕ) → first_twice names (p ∷ ps) ≡ None → k < length ps → get_or (names_of ps) k [] ≡ p.name.text → ⊥
not_later names p ps k h lt e =
    let new = not_last names p.name.text (get_or (names_of ps) k []) (all_new (names ++ p.name.text ∷ []) ps k (next_names names p ps h) lt) in
    let same = (bytes_eq-Decides (get_or (names_of ps) k []) p.name.text).1 e in
    absurd cc

one_place : (names : List (List ℕ)) (parts : List PartTree) (i j : ℕ) → first_twice names parts ≡ None → i < length parts → j < length parts → get_or (names_of parts) i [] ≡ get_or (names_of parts) j [] → i ≡ j
one_place names [] i j h li lj e = absurd (omega (arith, li))
one_place names (p ∷ ps) zero zero h li lj e = refl
one_place names (p ∷ ps) zero (suc j) h li lj e = absurd (not_later names p ps j h (omega (arith, lj)) (sym e))
one_place names (p ∷ ps) (suc i) zero h li lj e = absurd (not_later names p ps i h (omega (arith, li)) e)
one_place names (p ∷ ps) (suc i) (suc j) h li lj e = ap suc (one_place (names ++ p.name.text ∷ []) ps i j (next_names names p ps h) (omega (arith, li)) (omega (arith, lj)) e)

-- ---- the laws

told_within : (parts : List PartTree) (k : ℕ) → k < length parts → place k < length parts
told_within parts k lt = let low = place_low k in omega (arith, low, lt)

pub numbered_are_dotted : NumberedAreDotted
numbered_are_dotted parts x words (k, own, lt, word, is) =
    subst (λ y. IsDotted (spelled (names_of parts) y)) (sym is) (get_or (names_of parts) (place k) [], own, name_there IsName parts (place k) (told_within parts k lt) words, word, refl)

-- a word and a name with a number are told apart
not_word : (parts : List PartTree) (x y : List ℕ) → IsName x → IsNumbered IsName (length parts) y → spelled (names_of parts) x ≡ spelled (names_of parts) y → ⊥
not_word parts x y word (k, own, lt, also, is) e =
    let same : x ≡ get_or (names_of parts) (place k) [] ++ 46 ∷ own = sym (words_are_spelled_so (names_of parts) x word) ∙ e ∙ ap (spelled (names_of parts)) is in
    no_dot (get_or (names_of parts) (place k) []) own (subst (λ z. every is_word_byte z ≡ true) same word.1)

both_numbered : (parts : List PartTree) (x y : List ℕ) → first_twice [] parts ≡ None → Each (OfPart IsName) parts → IsNumbered IsName (length parts) x → IsNumbered IsName (length parts) y
    → spelled (names_of parts) x ≡ spelled (names_of parts) y → x ≡ y
both_numbered parts x y once words (k, own, lt, word, is) (l, other, ll, also, are) e =
    let names = names_of parts in
    let front = get_or names (place k) [] in
    let back = get_or names (place l) [] in
    let same : front ++ 46 ∷ own ≡ back ++ 46 ∷ other = sym (ap (spelled names) is) ∙ e ∙ ap (spelled names) are in
    let both = parted front back own other (name_there IsName parts (place k) (told_within parts k lt) words).1 (name_there IsName parts (place l) (told_within parts l ll) words).1 same in
    let part = one_place [] parts (place k) (place l) once (told_within parts k lt) (told_within parts l ll) both.fronts in
    is ∙ same_part k l own part ∙ ap (of_part l) both.backs ∙ sym are

pub names_stay_apart : NamesStayApart
names_stay_apart parts x y once words (inl word) (inl also) e = sym (words_are_spelled_so (names_of parts) x word) ∙ e ∙ words_are_spelled_so (names_of parts) y also
names_stay_apart parts x y once words (inl word) (inr numbered) e = absurd (not_word parts x y word numbered e)
names_stay_apart parts x y once words (inr numbered) (inl word) e = absurd (not_word parts y x word numbered (sym e))
names_stay_apart parts x y once words (inr numbered) (inr also) e = both_numbered parts x y once words numbered also e
