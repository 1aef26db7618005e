-- Names of functions are different identifiers.
use Rattle.std.proofs.Common.{◌≡◌, ℕ, zero, suc, ◌+◌, ◌%◌, ◌^◌, ◌<◌, Bool, true, false, cond, List, [], ◌∷◌, ◌++◌, length, Some, refl, sym, ap, ◌∙◌, arith, drop}
use Rattle.std.specs.Prelude.{nat_eq, ◌||◌, ◌&&◌, map, slice_get, slice_index, slice_index_or, codes, decimal}
use Rattle.std.specs.Str.{bytes_eq}
use Rattle.std.specs.Str.Parse.{digits_value}
use Rattle.std.proofs.lemmas.Fmt.{decimal_by_steps, decimal_is_IsNumeral}
use Rattle.std.proofs.lemmas.Option.{none-some, same_Some}
use Rattle.std.proofs.Math.Nat.{mod-lt}
use Rattle.td_num.specs.Lists.{Each, AreApart}
use Rattle.td_num.proofs.Lists.{each_append}
use Rattle.td_ir.specs.declared.tables.Parts.{Parts}
use Rattle.td_ir.specs.Tables.{routine_of}
use Rattle.td_prog.specs.Syntax.{Helper, Function}
use Rattle.td_prog.specs.Names.{is_letter, is_digit, IsIdentifier, IsName}
use Rattle.td_prog.specs.Text.{function_names}
use Rattle.td_prog_code.specs.Prelude.{prelude}
use Rattle.td_prog_code.specs.Program.{functions, program}
use Rattle.td_prog_text.specs.Names.{undotted_byte, undotted, name_of, routine_name}

-- what an identifier may have behind its first byte
abbrev IsInside : ℕ → Type 0
IsInside b = (is_letter b || is_digit b) ≡ true

-- digits
abbrev IsDigit : ℕ → Type 0
IsDigit b = is_digit b ≡ true

digit_is : (d : ℕ) → d < 10 → IsDigit (48 + d)
digit_is d h = let P : ℕ → Type 0 = λ n. IsDigit (48 + n) in by_ten P refl refl refl refl refl refl refl refl refl refl d h
  where
    by_ten : (P : ℕ → Type 0) → P 0 → P 1 → P 2 → P 3 → P 4 → P 5 → P 6 → P 7 → P 8 → P 9 → (d : ℕ) → d < 10 → P d
    by_ten P a b c d e f g h i j zero l = a
    by_ten P a b c d e f g h i j (suc zero) l = b
    by_ten P a b c d e f g h i j (suc (suc zero)) l = c
    by_ten P a b c d e f g h i j (suc (suc (suc zero))) l = d
    by_ten P a b c d e f g h i j (suc (suc (suc (suc zero)))) l = e
    by_ten P a b c d e f g h i j (suc (suc (suc (suc (suc zero))))) l = f
    by_ten P a b c d e f g h i j (suc (suc (suc (suc (suc (suc zero)))))) l = g
    by_ten P a b c d e f g h i j (suc (suc (suc (suc (suc (suc (suc zero))))))) l = h
    by_ten P a b c d e f g h i j (suc (suc (suc (suc (suc (suc (suc (suc zero)))))))) l = i
    by_ten P a b c d e f g h i j (suc (suc (suc (suc (suc (suc (suc (suc (suc zero))))))))) l = j
    by_ten P a b c d e f g h i j (suc (suc (suc (suc (suc (suc (suc (suc (suc (suc n)))))))))) l = absurd (omega (arith, l))

rest_small : (n : ℕ) → n % 10 < 10
rest_small n = let some : 0 < 10 = omega arith in mod-lt n some

decimal_digits : (n : ℕ) → n < 2 ^ 64 → Each IsDigit (decimal n)
decimal_digits n h =
    decimal_by_steps (λ n ds. Each IsDigit ds) (λ n l. (digit_is n l, tt)) (λ n ds l e. each_append IsDigit ds ((48 + n % 10) ∷ []) e (digit_is (n % 10) (rest_small n), tt)) n h

-- there is a first digit
abbrev Begins : List ℕ → Type 0
Begins [] = ⊥
Begins (b ∷ bs) = IsDigit b

decimal_begins : (n : ℕ) → n < 2 ^ 64 → Begins (decimal n)
decimal_begins n h = decimal_by_steps (λ n ds. Begins ds) (λ n l. digit_is n l) (λ n ds l e. longer ds ((48 + n % 10) ∷ []) e) n h
  where
    longer : (ds es : List ℕ) → Begins ds → Begins (ds ++ es)
    longer [] es e = absurd e
    longer (d ∷ ds) es e = e

or_behind : (a b : Bool) → b ≡ true → (a || b) ≡ true
or_behind true b h = refl
or_behind false b h = h

digits_inside : (ds : List ℕ) → Each IsDigit ds → Each IsInside ds
digits_inside [] h = tt
digits_inside (d ∷ ds) h = (or_behind (is_letter d) (is_digit d) h.0, digits_inside ds h.1)

-- a dot becomes `_`
undotted_inside : (b : ℕ) → (is_letter b || is_digit b || nat_eq b 46) ≡ true → IsInside (undotted_byte b)
undotted_inside b h = by (nat_eq b 46) h
  where
    by : (t : Bool) → (is_letter b || is_digit b || t) ≡ true → IsInside (cond t 95 b)
    by true e = refl
    by false e = plain (is_letter b) (is_digit b) e
      where
        plain : (x y : Bool) → (x || y || false) ≡ true → (x || y) ≡ true
        plain true y e = refl
        plain false true e = refl
        plain false false e = e

names_inside : (name : List ℕ) → IsName name → Each IsInside (undotted name)
names_inside [] h = tt
names_inside (b ∷ bs) h = (undotted_inside b h.0, names_inside bs h.1)

-- a list's default is spelled well, too
name_spelled : (names : List (List ℕ)) (k : ℕ) → Each IsName names → IsName (slice_index_or names k [])
name_spelled [] k h = tt
name_spelled (name ∷ names) zero h = h.0
name_spelled (name ∷ names) (suc k) h = name_spelled names k h.1

-- a test for identifiers
abbrev is_inside : List ℕ → Bool
is_inside [] = true
is_inside (b ∷ bs) = (is_letter b || is_digit b) && is_inside bs

abbrev is_identifier : List ℕ → Bool
is_identifier [] = false
is_identifier (b ∷ bs) = is_letter b && is_inside bs

abbrev are_identifiers : List (List ℕ) → Bool
are_identifiers [] = true
are_identifiers (n ∷ ns) = is_identifier n && are_identifiers ns

left : (a b : Bool) → (a && b) ≡ true → a ≡ true
left true b h = refl
left false b h = h

right : (a b : Bool) → (a && b) ≡ true → b ≡ true
right true b h = h
right false b h = absurd (cc)

all_inside : (bs : List ℕ) → is_inside bs ≡ true → Each IsInside bs
all_inside [] h = tt
all_inside (b ∷ bs) h = (left (is_letter b || is_digit b) (is_inside bs) h, all_inside bs (right (is_letter b || is_digit b) (is_inside bs) h))

one_identifier : (bs : List ℕ) → is_identifier bs ≡ true → IsIdentifier bs
one_identifier [] h = absurd (cc)
one_identifier (b ∷ bs) h = (left (is_letter b) (is_inside bs) h, all_inside bs (right (is_letter b) (is_inside bs) h))

pub all_identifiers : (ns : List (List ℕ)) → are_identifiers ns ≡ true → Each IsIdentifier ns
all_identifiers [] h = tt
all_identifiers (n ∷ ns) h = (one_identifier n (left (is_identifier n) (are_identifiers ns) h), all_identifiers ns (right (is_identifier n) (are_identifiers ns) h))

module _ (c : Parts) (spelled : Each IsName c.names) where
  pub routine_identifier : (n : ℕ) → n < 2 ^ 64 → IsIdentifier (routine_name c n)
  routine_identifier n h = (
    refl,
    (
      refl,
      (
        refl,
        each_append IsInside (decimal n ++ codes "_") (name_of c (routine_of c n).name)
            (each_append IsInside (decimal n) (codes "_") (digits_inside (decimal n) (decimal_digits n h)) (refl, tt))
            (names_inside (slice_index_or c.names (routine_of c n).name.number []) (name_spelled c.names (routine_of c n).name.number spelled)),
      ),
    ),
  )

  pub routines_identifiers : (count first : ℕ) → first + count < 2 ^ 64 → Each IsIdentifier (map (λ (f : Function). f.name) (functions c (routine_name c) first count))
  routines_identifiers zero first l = tt
  routines_identifiers (suc count) first l = (routine_identifier first (omega (arith, l)), routines_identifiers count (first + 1) (omega (arith, l)))

  helpers_identifiers : Each IsIdentifier (map (λ (h : Helper). h.name) prelude)
  helpers_identifiers = all_identifiers (map (λ (h : Helper). h.name) prelude) refl

  pub identifiers : length c.routines < 2 ^ 64 → Each IsIdentifier (function_names (program c (routine_name c)))
  identifiers l =
      each_append IsIdentifier (map (λ (h : Helper). h.name) prelude) (map (λ (f : Function). f.name) (functions c (routine_name c) 0 (length c.routines))) helpers_identifiers
      (routines_identifiers (length c.routines) 0 (omega (arith, l)))

-- A function's place, by its name: a helper's name has no digit behind `td_`; a routine's has its number there.
abbrev place_in : List (List ℕ) → List ℕ → ℕ
place_in [] name = 0
place_in (w ∷ ws) name = cond (bytes_eq w name) 0 (suc (place_in ws name))

-- the digits at the front
abbrev digits_of : List ℕ → List ℕ
digits_of [] = []
digits_of (b ∷ bs) = cond (is_digit b) (b ∷ digits_of bs) []

abbrev pub place : List (List ℕ) → List ℕ → ℕ
place helpers name = cond (is_digit (slice_index name 3)) (9 + digits_value 10 (digits_of (drop 3 name))) (place_in helpers name)

take_digits : (ds name : List ℕ) → Each IsDigit ds → digits_of ((ds ++ codes "_") ++ name) ≡ ds
take_digits [] name h = refl
take_digits (d ∷ ds) name h = ap (λ t. cond t (d ∷ digits_of ((ds ++ codes "_") ++ name)) []) h.0 ∙ ap (λ xs. d ∷ xs) (take_digits ds name h.1)

place_digits : (helpers : List (List ℕ)) (ds name : List ℕ) → Begins ds → Each IsDigit ds
    → place helpers (116 ∷ 100 ∷ 95 ∷ ((ds ++ codes "_") ++ name)) ≡ 9 + digits_value 10 ds
place_digits helpers [] name b h = absurd b
place_digits helpers (d ∷ ds) name b h =
    let whole = d ∷ ((ds ++ codes "_") ++ name) in
    ap (λ t. cond t (9 + digits_value 10 (digits_of whole)) (place_in helpers (116 ∷ 100 ∷ 95 ∷ whole))) b
    ∙ ap (λ xs. 9 + digits_value 10 xs) (take_digits (d ∷ ds) name h)

pub place_routine : (helpers : List (List ℕ)) (c : Parts) (k : ℕ) → k < 2 ^ 64 → place helpers (routine_name c k) ≡ 9 + k
place_routine helpers c k l =
    place_digits helpers (decimal k) (name_of c (routine_of c k).name) (decimal_begins k l) (decimal_digits k l) ∙ ap (λ n. 9 + n) (decimal_is_IsNumeral k l).1

module _ (c : Parts) where
  pub named : (count first k : ℕ) (name : List ℕ) → slice_get (map (λ (f : Function). f.name) (functions c (routine_name c) first count)) k ≡ Some name → (routine_name c (first + k) ≡ name) × (k < count)
  named zero first k name e = absurd (none-some name e)
  named (suc count) first zero name e = (let same : first + 0 ≡ first = omega arith in ap (routine_name c) same ∙ same_Some (routine_name c first) name e, omega arith)
  named (suc count) first (suc k) name e =
      let r = named count (first + 1) k name e in
      let same : first + suc k ≡ first + 1 + k = omega arith in
      let l = r.1 in (ap (routine_name c) same ∙ r.0, omega (arith, l))

  abbrev helper_names : List (List ℕ)
  helper_names = map (λ (h : Helper). h.name) prelude

  module _ (few : length c.routines < 2 ^ 64) where
    placed : (i : ℕ) (name : List ℕ) → slice_get (function_names (program c (routine_name c))) i ≡ Some name → place helper_names name ≡ i
    placed zero name e = ap (place helper_names) (sym (same_Some (codes "td_word") name e))
    placed (suc zero) name e = ap (place helper_names) (sym (same_Some (codes "td_little_1") name e))
    placed (suc (suc zero)) name e = ap (place helper_names) (sym (same_Some (codes "td_little_2") name e))
    placed (suc (suc (suc zero))) name e = ap (place helper_names) (sym (same_Some (codes "td_little_4") name e))
    placed (suc (suc (suc (suc zero)))) name e = ap (place helper_names) (sym (same_Some (codes "td_little_8") name e))
    placed (suc (suc (suc (suc (suc zero))))) name e = ap (place helper_names) (sym (same_Some (codes "td_big_2") name e))
    placed (suc (suc (suc (suc (suc (suc zero)))))) name e = ap (place helper_names) (sym (same_Some (codes "td_big_4") name e))
    placed (suc (suc (suc (suc (suc (suc (suc zero))))))) name e = ap (place helper_names) (sym (same_Some (codes "td_big_8") name e))
    placed (suc (suc (suc (suc (suc (suc (suc (suc zero)))))))) name e = ap (place helper_names) (sym (same_Some (codes "td_copy") name e))
    placed (suc (suc (suc (suc (suc (suc (suc (suc (suc k))))))))) name e =
        let r = named (length c.routines) 0 k name e in
        let l = r.1 in
        let same : 0 + k ≡ k = omega arith in
        let last : 9 + k ≡ suc (suc (suc (suc (suc (suc (suc (suc (suc k)))))))) = omega arith in
        ap (place helper_names) (sym r.0 ∙ ap (routine_name c) same) ∙ place_routine helper_names c k (omega (arith, l, few)) ∙ last

    pub names_apart : AreApart (function_names (program c (routine_name c)))
    names_apart i j name e f = sym (placed i name e) ∙ placed j name f
