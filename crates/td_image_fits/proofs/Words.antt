-- The names of a module's code are spelled as an image's, and no two are the same.
use Rattle.std.proofs.Common.{◌≡◌, ◌⊎◌, inl, inr, ℕ, zero, suc, ◌+◌, ◌^◌, ◌<◌, Bool, true, false, ◌&&◌, ◌||◌, not, List, [], ◌∷◌, ◌++◌, length, length-append, take, drop, codes, Some, slice_get, refl, sym, ap, ◌∙◌, subst, arith, append_assoc, cond}
use Rattle.std.specs.Prelude.{◌==◌, nat_le, take_while, is_some}
use Rattle.std.specs.List.{position_or_len, before_first, after_first}
use Rattle.std.proofs.lemmas.List.{take_at, drop_at}
use Rattle.std.proofs.lemmas.Bool.{leb-true, and_parts}
use Rattle.std.proofs.lemmas.Bool.Decides.{Decides-eqb}
use Rattle.std.proofs.lemmas.List.Sums.{take_while-cons}
use Rattle.td_num.specs.Lists.{Each, AreApart}
use Rattle.td_lexer.specs.Bytes.{is_letter, is_digit, is_word_byte, every, first_is}
use Rattle.td_lexer.specs.Spellings.{is_keyword}
use Rattle.td_lexer.specs.Splits.{IsName, IsLongName}
use Rattle.td_image.specs.Format.{AreBytes}
use Rattle.td_image.specs.Names as names
use Rattle.td_image.specs.Within.{IsSpelled}
use Rattle.td_lower.proofs.Tabling.{no_where, no_switch}
use Rattle.td_image_fits.proofs.Lists.{get_end}
use Rattle.td_num.proofs.Lists.{each_at, each_append}
use Rattle.td_num.proofs.Truths.{or_left, or_right}
use Rattle.td_num.specs.Text.{is_dot}

-- ---- spelling

all_taken : (bs : List ℕ) → every is_word_byte bs ≡ true → length (take_while names.is_letter_or_digit bs) ≡ length bs
all_taken [] h = refl
all_taken (b ∷ bs) h =
    let both = and_parts (is_word_byte b) (every is_word_byte bs) h in
    let own : names.is_letter_or_digit b ≡ true = both.0 in
    ap length (take_while-cons names.is_letter_or_digit b bs)
    ∙ (ap (λ c. length (cond c (b ∷ take_while names.is_letter_or_digit bs) [])) own ∙ ap suc (all_taken bs both.1))

word_is : (name : List ℕ) → first_is is_letter name ≡ true → every is_word_byte name ≡ true → names.is_name name ≡ true
word_is [] first all = absurd cc
word_is (b ∷ bs) first all =
    let rest = (and_parts (is_word_byte b) (every is_word_byte bs) all).1 in
    let same : (length (take_while names.is_letter_or_digit bs) == length bs) ≡ true = (Decides-eqb (length (take_while names.is_letter_or_digit bs)) (length bs)).1 (all_taken bs rest) in
    rw first same

-- ---- bytes

low_range : (lo hi b : ℕ) → hi < 256 → (nat_le lo b && nat_le b hi) ≡ true → b < 256
low_range lo hi b few h = (let x = leb-true b hi (and_parts (nat_le lo b) (nat_le b hi) h).1 in omega (arith, x, few))

low_either : (a c : Bool) (b : ℕ) → (a ≡ true → b < 256) → (c ≡ true → b < 256) → (a || c) ≡ true → b < 256
low_either true c b f g h = f refl
low_either false c b f g h = g h

low_letter : (b : ℕ) → is_letter b ≡ true → b < 256
low_letter b h =
    low_either ((nat_le 97 b && nat_le b 122) || (nat_le 65 b && nat_le b 90)) (b == 95) b
    (low_either (nat_le 97 b && nat_le b 122) (nat_le 65 b && nat_le b 90) b (low_range 97 122 b (omega arith)) (low_range 65 90 b (omega arith)))
    (λ e. let x = (Decides-eqb b 95).0 e in omega (arith, x)) h

low_byte : (b : ℕ) → is_word_byte b ≡ true → b < 256
low_byte b h = low_either (is_letter b) (is_digit b) b (low_letter b) (low_range 48 57 b (omega arith)) h

bytes_low : (name : List ℕ) → every is_word_byte name ≡ true → AreBytes name
bytes_low [] h i = omega arith
bytes_low (b ∷ bs) h zero = low_byte b (and_parts (is_word_byte b) (every is_word_byte bs) h).0
bytes_low (b ∷ bs) h (suc i) = bytes_low bs (and_parts (is_word_byte b) (every is_word_byte bs) h).1 i

spelled : (name : List ℕ) → first_is is_letter name ≡ true → every is_word_byte name ≡ true → length name < 2 ^ 32 → IsSpelled name
spelled name first all few = record { word = or_left (names.is_name name) (names.are_two_names name) (word_is name first all); bytes = bytes_low name all; few = few }

-- ---- two names, joined by a dot

no_dot : (b : ℕ) → is_word_byte b ≡ true → not (b == 46) ≡ true
no_dot b h = by (b == 46) refl
  where
    by : (c : Bool) → (b == 46) ≡ c → not c ≡ true
    by false e = refl
    by true e = (let low : is_word_byte 46 ≡ true = subst (λ x. is_word_byte x ≡ true) ((Decides-eqb b 46).0 e) h in absurd cc)

dot_at : (part own : List ℕ) → every is_word_byte part ≡ true → position_or_len is_dot (part ++ 46 ∷ own) ≡ length part
dot_at [] own h = refl
dot_at (b ∷ bs) own h =
    let both = and_parts (is_word_byte b) (every is_word_byte bs) h in
    let further = dot_at bs own both.1 in
    let one_more : 1 + position_or_len is_dot (bs ++ 46 ∷ own) ≡ length (b ∷ bs) = omega (arith, further) in
    ap (λ c. cond c (1 + position_or_len is_dot (bs ++ 46 ∷ own)) 0) (no_dot b both.0) ∙ one_more

before : (part own : List ℕ) → every is_word_byte part ≡ true → before_first is_dot (part ++ 46 ∷ own) ≡ part
before part own h = ap (λ n. take n (part ++ 46 ∷ own)) (dot_at part own h) ∙ take_at part (46 ∷ own) (length part) refl

behind : (part own : List ℕ) → every is_word_byte part ≡ true → after_first is_dot (part ++ 46 ∷ own) ≡ own
behind part own h =
    let count : length (part ++ 46 ∷ []) ≡ length part + 1 = length-append part (46 ∷ []) in
    ap (λ n. drop (n + 1) (part ++ 46 ∷ own)) (dot_at part own h)
    ∙ ap (drop (length part + 1)) (sym (append_assoc part (46 ∷ []) own))
    ∙ drop_at (part ++ 46 ∷ []) own (length part + 1) count

plain : (name : List ℕ) → IsName name → names.is_plain name ≡ true
plain name h =
    let word = word_is name h.0 h.1 in
    let none : not (is_keyword name) ≡ true = ap (λ o. not (is_some o)) h.2 in
    ap (λ b. b && not (is_keyword name)) word ∙ none

two_names : (part own : List ℕ) → IsName part → IsName own → names.are_two_names (part ++ 46 ∷ own) ≡ true
two_names part own first second =
    ap (λ l. names.is_plain l && names.is_plain (after_first is_dot (part ++ 46 ∷ own))) (before part own first.1)
    ∙ ap (λ l. names.is_plain part && names.is_plain l) (behind part own first.1)
    ∙ ap (λ b. b && names.is_plain own) (plain part first)
    ∙ plain own second

two_low : (part own : List ℕ) → every is_word_byte part ≡ true → every is_word_byte own ≡ true → AreBytes (part ++ 46 ∷ own)
two_low [] own first second zero = omega arith
two_low [] own first second (suc i) = bytes_low own second i
two_low (b ∷ bs) own first second zero = low_byte b (and_parts (is_word_byte b) (every is_word_byte bs) first).0
two_low (b ∷ bs) own first second (suc i) = two_low bs own (and_parts (is_word_byte b) (every is_word_byte bs) first).1 second i

long_spelled : (name : List ℕ) → IsLongName name → length name < 2 ^ 32 → IsSpelled name
long_spelled name (inl h) few = spelled name h.0 h.1 few
long_spelled name (inr (part, own, first, second, is)) few = record {
  word = or_right (names.is_name name) (names.are_two_names name) (ap names.are_two_names is ∙ two_names part own first second);
  bytes = subst AreBytes (sym is) (two_low part own first.1 second.1);
  few = few;
}

each_spelled : (ns : List (List ℕ)) → Each IsLongName ns → Each (λ n. length n < 2 ^ 32) ns → Each IsSpelled ns
each_spelled [] h few = tt
each_spelled (n ∷ ns) h few = (long_spelled n h.0 few.0, each_spelled ns h.1 few.1)

-- the names of a module, and two keywords
abbrev with_two : List (List ℕ) → List (List ℕ)
with_two ns = ns ++ (codes "where" ∷ codes "switch" ∷ [])

pub all_spelled : (ns : List (List ℕ)) → Each IsLongName ns → Each (λ n. length n < 2 ^ 32) ns → Each IsSpelled (with_two ns)
all_spelled ns h few =
    each_append IsSpelled ns (codes "where" ∷ codes "switch" ∷ []) (each_spelled ns h few)
    (spelled (codes "where") refl refl (omega arith), (spelled (codes "switch") refl refl (omega arith), tt))

-- ---- apart

apart_more : (ns : List (List ℕ)) (x : List ℕ) → AreApart ns → ((n : ℕ) (name : List ℕ) → slice_get ns n ≡ Some name → name ≡ x → ⊥) → AreApart (ns ++ x ∷ [])
apart_more ns x apart new i j name e f = by (get_end ns x i name e) (get_end ns x j name f)
  where
    by : (slice_get ns i ≡ Some name) ⊎ ((i ≡ length ns) × (x ≡ name)) → (slice_get ns j ≡ Some name) ⊎ ((j ≡ length ns) × (x ≡ name)) → i ≡ j
    by (inl a) (inl b) = apart i j name a b
    by (inl a) (inr b) = absurd (new i name a (sym b.1))
    by (inr a) (inl b) = absurd (new j name b (sym a.1))
    by (inr a) (inr b) = a.0 ∙ sym b.0

pub all_apart : (ns : List (List ℕ)) → Each IsLongName ns → AreApart ns → AreApart (with_two ns)
all_apart ns words apart =
    let first : AreApart (ns ++ codes "where" ∷ []) = apart_more ns (codes "where") apart (λ n name e. no_where name (each_at IsLongName ns n name words e)) in
    let different : codes "where" ≡ codes "switch" → ⊥ = λ e. cc in
    let new : (n : ℕ) (name : List ℕ) → slice_get (ns ++ codes "where" ∷ []) n ≡ Some name → name ≡ codes "switch" → ⊥ =
    λ n name e. each_at (λ x. x ≡ codes "switch" → ⊥) (ns ++ codes "where" ∷ []) n name (each_append (λ x. x ≡ codes "switch" → ⊥) ns (codes "where" ∷ []) (none_is ns words) (different, tt)) e in
    subst AreApart (append_assoc ns (codes "where" ∷ []) (codes "switch" ∷ [])) (apart_more (ns ++ codes "where" ∷ []) (codes "switch") first new)
  where
    none_is : (xs : List (List ℕ)) → Each IsLongName xs → Each (λ x. x ≡ codes "switch" → ⊥) xs
    none_is [] h = tt
    none_is (x ∷ xs) h = (no_switch x h.0, none_is xs h.1)
