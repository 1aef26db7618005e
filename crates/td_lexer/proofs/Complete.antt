-- What the language's words say of a front, its lexeme is. Cited by other crates.
use Rattle.std.proofs.Common.{◌≡◌, ℕ, suc, ◌+◌, ◌≤◌, ◌<◌, ◌^◌, Bool, true, false, cond, eqb, ltb, List, [], ◌∷◌, ◌++◌, length, take, drop, Option, Some, None, refl, sym, ap, subst, ◌∙◌, arith, inl, inr}
use Rattle.std.specs.Prelude.{◌&&◌, ◌⊎◌, not, codes}
use Rattle.std.proofs.lemmas.Bool.{eqb-true, lt-ltb, le-ltb, ltb-true, cond-true, cond-false, cases_lt, or_parts}
use Rattle.std.proofs.lemmas.List.{take-append-drop, length-take-le, length-append, take_at, drop_at}
use Rattle.td_ast.specs.declared.token.Base.{Base}
use Rattle.td_ast.specs.declared.token.Base.TheVariants.{Decimal, Hexadecimal}
use Rattle.td_ast.specs.declared.token.TokenKind.{TokenKind}
use Rattle.td_ast.specs.declared.token.TokenKind.TheVariants.{Name, Number}
use Rattle.td_lexer.specs.Bytes.{is_blank, is_letter, is_digit, is_word_byte, is_marked_byte, is_in_line, opens, every, first_is, run}
use Rattle.td_lexer.specs.Spellings.{kind_in, marked_words, punctuation_of_two, single_kind}
use Rattle.td_lexer.specs.Numerals.{numeral_value}
use Rattle.td_lexer.specs.declared.lexeme.Lexeme.{Lexeme}
use Rattle.td_lexer.specs.declared.lexeme.Lexeme.TheVariants as lexemes
use Rattle.td_lexer.specs.Scanner.{lexeme, word_lexeme, number_lexeme, punctuation_lexeme, name_or, word_kind, number_ends, marked_length, marked_kind, found_or}
use Rattle.td_lexer.specs.Splits.{IsNumeral, Begins, Stands, IsPassed, IsOpenComment, IsBigNumber, GoesOn, IsNothing, is_comment_byte}
use Rattle.td_lexer.specs.Splits.Begins.{keyword_begins, name_begins, number_begins, marked_begins, punctuation_begins}
use Rattle.td_lexer.specs.Splits.IsPassed.{blank_passes, line_passes, block_passes}
use Rattle.td_lexer.proofs.Within.{and_left, and_right, marked_within}
use Rattle.td_lexer.proofs.Runs.{run_least, run_all}
use Rattle.td_lexer.proofs.Sorts.{letter_no_blank, digit_no_blank, digit_no_letter, kind_passes, or_else_cases, is_word_shape, is_marked_shape, is_pair_shape, is_single_shape, is_punctuation_byte, keyword_shape, marked_shape, pair_shape, single_shape, not_true}
use Rattle.td_lexer.proofs.Closing.{close_is, close_none}
use Rattle.td_lexer.proofs.Numeral.{numeral_reach}
use Rattle.td_lexer.proofs.Sound.{Sound, Plain, lexeme_sound, marked_is, number_longest}

-- ---- what a first byte leads to

lexeme_word : (a : ℕ) (bytes : List ℕ) → is_letter a ≡ true → lexeme (a ∷ bytes) ≡ word_lexeme (a ∷ bytes)
unfolding lexeme
lexeme_word a bytes e = cond-false (is_blank a) _ _ (letter_no_blank a e) ∙ cond-true (is_letter a) _ _ e

lexeme_number : (a : ℕ) (bytes : List ℕ) → is_digit a ≡ true → lexeme (a ∷ bytes) ≡ number_lexeme (a ∷ bytes)
unfolding lexeme
lexeme_number a bytes e = cond-false (is_blank a) _ _ (digit_no_blank a e) ∙ cond-false (is_letter a) _ _ (digit_no_letter a e) ∙ cond-true (is_digit a) _ _ e

lexeme_punctuation : (a : ℕ) (bytes : List ℕ) → is_punctuation_byte a ≡ true → (eqb a 47 && first_is (λ b. eqb b 47) bytes) ≡ false → (eqb a 47 && first_is (λ b. eqb b 42) bytes) ≡ false → lexeme (a ∷ bytes) ≡ punctuation_lexeme (a ∷ bytes)
unfolding lexeme
lexeme_punctuation a bytes e line block =
    let no_blank = not_true (is_blank a) (and_left (not (is_blank a)) (not (is_letter a) && not (is_digit a)) e) in
    let others = and_right (not (is_blank a)) (not (is_letter a) && not (is_digit a)) e in
    let no_letter = not_true (is_letter a) (and_left (not (is_letter a)) (not (is_digit a)) others) in
    let no_digit = not_true (is_digit a) (and_right (not (is_letter a)) (not (is_digit a)) others) in
    cond-false (is_blank a) _ _ no_blank ∙ cond-false (is_letter a) _ _ no_letter ∙ cond-false (is_digit a) _ _ no_digit
    ∙ cond-false (eqb a 47 && first_is (λ b. eqb b 47) bytes) _ _ line ∙ cond-false (eqb a 47 && first_is (λ b. eqb b 42) bytes) _ _ block

-- ---- a token that begins, or a longer one, is found

abbrev pub Leads : TokenKind → List ℕ → List ℕ → Type 0
Leads kind bytes rest = (lexeme (bytes ++ rest) ≡ lexemes.Token kind (length bytes)) ⊎ ((other : TokenKind) × (n : ℕ) × (lexeme (bytes ++ rest) ≡ lexemes.Token other n) × (length bytes < n))

word_leads : (bytes rest : List ℕ) (kind : TokenKind) → is_word_shape bytes ≡ true → word_kind bytes ≡ kind → Leads kind bytes rest
unfolding word_lexeme
word_leads [] rest kind shape e = absurd cc
word_leads (a ∷ bytes) rest kind shape e =
    let n = run is_word_byte (a ∷ (bytes ++ rest)) in
    let least : suc (length bytes) ≤ n = run_least is_word_byte (a ∷ bytes) rest (and_right (is_letter a) (every is_word_byte (a ∷ bytes)) shape) in
    let word : lexeme (a ∷ (bytes ++ rest)) ≡ lexemes.Token (word_kind (take n (a ∷ (bytes ++ rest)))) n = lexeme_word a (bytes ++ rest) (and_left (is_letter a) (every is_word_byte (a ∷ bytes)) shape) in
    elim (cases_lt (suc (length bytes)) n) [
      | inl more ↦ inr (word_kind (take n (a ∷ (bytes ++ rest))), n, word, more)
      | inr most ↦ inl (word ∙ all n (omega arith))
    ]
  where
    all : (n : ℕ) → n ≡ suc (length bytes) → lexemes.Token (word_kind (take n (a ∷ (bytes ++ rest)))) n ≡ lexemes.Token kind (suc (length bytes))
    all n same = rw same (ap (λ (w : List ℕ). lexemes.Token (word_kind w) (suc (length bytes))) (take_at (a ∷ bytes) rest (suc (length bytes)) refl) ∙ ap (λ (k : TokenKind). lexemes.Token k (suc (length bytes))) e)

numeral_lexeme : (base : Base) (bytes rest : List ℕ) → IsNumeral base bytes → lexeme (bytes ++ rest) ≡ number_lexeme (bytes ++ rest)
numeral_lexeme Decimal [] rest h = absurd (omega (arith, h.0))
numeral_lexeme Decimal (a ∷ bytes) rest h = lexeme_number a (bytes ++ rest) (and_left (is_digit a) (every is_digit bytes) h.1)
numeral_lexeme Hexadecimal bytes rest (mark, digits, same, is_mark, some, all) = rw same (lexeme_number 48 (mark ∷ (digits ++ rest)) refl)

number_leads : (base : Base) (bytes rest : List ℕ) → IsNumeral base bytes → numeral_value base bytes < 2 ^ 64 → first_is is_word_byte rest ≡ false → lexeme (bytes ++ rest) ≡ lexemes.Token (Number (numeral_value base bytes) base) (length bytes)
number_leads base bytes rest h small ends =
    numeral_lexeme base bytes rest h ∙ numeral_reach base bytes rest h ends
    ∙ rw (drop_at bytes rest (length bytes) refl, ends, take_at bytes rest (length bytes) refl, lt-ltb (numeral_value base bytes) (2 ^ 64) small) refl

marked_leads : (bytes rest : List ℕ) (kind : TokenKind) → kind_in marked_words bytes ≡ Some kind → first_is is_marked_byte rest ≡ false → is_marked_shape bytes ≡ true → lexeme (bytes ++ rest) ≡ lexemes.Token kind (length bytes)
unfolding punctuation_lexeme
marked_leads [] rest kind e ends shape = absurd cc
marked_leads (a ∷ []) rest kind e ends shape = absurd cc
marked_leads (a ∷ b ∷ bytes) rest kind e ends shape =
    let t1 = cond (eqb b 58) (every is_marked_byte bytes) (every is_marked_byte (b ∷ bytes)) in
    let s1 = and_right (opens a) (is_punctuation_byte a && (not (eqb a 47) && t1)) shape in
    let s2 = and_right (is_punctuation_byte a) (not (eqb a 47) && t1) s1 in
    let opened = and_left (opens a) (is_punctuation_byte a && (not (eqb a 47) && t1)) shape in
    let sign = and_left (is_punctuation_byte a) (not (eqb a 47) && t1) s1 in
    let no_slash : eqb a 47 ≡ false = not_true (eqb a 47) (and_left (not (eqb a 47)) t1 s2) in
    let len = long (eqb b 58) (and_right (not (eqb a 47)) t1 s2) in
    let found : marked_kind (a ∷ b ∷ (bytes ++ rest)) ≡ Some kind = rw (opened, len, take_at bytes rest (length bytes) refl) e in
    lexeme_punctuation a (b ∷ (bytes ++ rest)) sign (rw no_slash refl) (rw no_slash refl) ∙ rw (found, len) refl
  where
    long : (c : Bool) → cond c (every is_marked_byte bytes) (every is_marked_byte (b ∷ bytes)) ≡ true → cond c (2 + run is_marked_byte (bytes ++ rest)) (1 + run is_marked_byte (b ∷ (bytes ++ rest))) ≡ suc (suc (length bytes))
    long true all = rw (run_all is_marked_byte bytes rest all ends) (omega arith)
    long false all = let n : run is_marked_byte (b ∷ (bytes ++ rest)) ≡ suc (length bytes) = run_all is_marked_byte (b ∷ bytes) rest all ends in omega arith

pair_leads : (bytes rest : List ℕ) (kind : TokenKind) → kind_in punctuation_of_two bytes ≡ Some kind → is_pair_shape bytes ≡ true → lexeme (bytes ++ rest) ≡ lexemes.Token kind (length bytes)
unfolding punctuation_lexeme
pair_leads [] rest kind e shape = absurd cc
pair_leads (a ∷ []) rest kind e shape = absurd cc
pair_leads (a ∷ b ∷ []) rest kind e shape =
    let closed = not_true (opens a) (and_left (not (opens a)) (is_punctuation_byte a && not (eqb a 47)) shape) in
    let s1 = and_right (not (opens a)) (is_punctuation_byte a && not (eqb a 47)) shape in
    let no_slash : eqb a 47 ≡ false = not_true (eqb a 47) (and_right (is_punctuation_byte a) (not (eqb a 47)) s1) in
    let none : marked_kind (a ∷ b ∷ rest) ≡ None = rw closed refl in
    lexeme_punctuation a (b ∷ rest) (and_left (is_punctuation_byte a) (not (eqb a 47)) s1) (rw no_slash refl) (rw no_slash refl) ∙ rw (none, e) refl
pair_leads (a ∷ b ∷ c ∷ bytes) rest kind e shape = absurd cc

single_leads : (bytes rest : List ℕ) (kind : TokenKind) → single_kind bytes ≡ Some kind → (bytes ≡ codes "/" → first_is is_comment_byte rest ≡ false) → is_single_shape bytes ≡ true → Leads kind bytes rest
unfolding punctuation_lexeme
single_leads [] rest kind e slash shape = absurd cc
single_leads (a ∷ b ∷ bytes) rest kind e slash shape = absurd cc
single_leads (a ∷ []) rest kind e slash shape =
    let starts = no_comment (eqb a 47) refl in
    let signs = lexeme_punctuation a rest shape starts.0 starts.1 in
    by_marked (marked_kind (a ∷ rest)) refl signs
  where
    open_bytes : (bs : List ℕ) → first_is is_comment_byte bs ≡ false → (first_is (λ b. eqb b 47) bs ≡ false) × (first_is (λ b. eqb b 42) bs ≡ false)
    open_bytes [] e = (refl, refl)
    open_bytes (b ∷ bs) e = or_parts (eqb b 47) (eqb b 42) e

    no_comment : (c : Bool) → eqb a 47 ≡ c → ((c && first_is (λ b. eqb b 47) rest) ≡ false) × ((c && first_is (λ b. eqb b 42) rest) ≡ false)
    no_comment true is_slash = open_bytes rest (slash (ap (λ (b : ℕ). b ∷ []) (eqb-true a 47 is_slash)))
    no_comment false is_slash = (refl, refl)

    by_pair : (o : Option TokenKind) → kind_in punctuation_of_two (take 2 (a ∷ rest)) ≡ o → lexeme (a ∷ rest) ≡ found_or o 2 (found_or (single_kind (a ∷ [])) 1 (lexemes.BadByte 0)) → Leads kind (a ∷ []) rest
    by_pair (Some k) is_pair found = inr (k, 2, found, omega arith)
    by_pair None is_pair found = inl (found ∙ rw e refl)

    by_marked : (o : Option TokenKind) → marked_kind (a ∷ rest) ≡ o → lexeme (a ∷ rest) ≡ found_or o (marked_length (a ∷ rest)) (found_or (kind_in punctuation_of_two (take 2 (a ∷ rest))) 2 (found_or (single_kind (a ∷ [])) 1 (lexemes.BadByte 0))) → Leads kind (a ∷ []) rest
    by_marked (Some k) is_marked found =
        let m = marked_length (a ∷ rest) in
        let len = length-take-le m (a ∷ rest) (marked_within a rest).1 in
        let long = kind_passes (λ (bytes : List ℕ). ltb 1 (length bytes)) marked_words (take m (a ∷ rest)) k refl (marked_is (a ∷ rest) k is_marked) in
        inr (k, m, found, omega (arith, ltb-true 1 (length (take m (a ∷ rest))) long, len))
    by_marked None is_marked found = by_pair (kind_in punctuation_of_two (take 2 (a ∷ rest))) refl found

pub lexeme_leads : {kind : TokenKind} {bytes rest : List ℕ} → Begins kind bytes rest → Leads kind bytes rest
lexeme_leads {kind} {bytes} {rest} (keyword_begins e) = word_leads bytes rest kind (keyword_shape bytes kind e) (ap (name_or bytes) e)
lexeme_leads {bytes} {rest} (name_begins (first, all, none)) = word_leads bytes rest (Name bytes) (rw (first, all) refl) (ap (name_or bytes) none)
lexeme_leads {bytes} {rest} (number_begins base h small ends) = inl (number_leads base bytes rest h small ends)
lexeme_leads {kind} {bytes} {rest} (marked_begins e ends) = inl (marked_leads bytes rest kind e ends (marked_shape bytes kind e))
lexeme_leads {kind} {bytes} {rest} (punctuation_begins e slash) =
    elim (or_else_cases (kind_in punctuation_of_two bytes) (single_kind bytes) kind e) [
      | inl pair ↦ inl (pair_leads bytes rest kind pair (pair_shape bytes kind pair))
      | inr single ↦ single_leads bytes rest kind single slash (single_shape bytes kind single)
    ]

-- ---- tokens

-- no token is empty
nonempty : (test : List ℕ → Bool) (bytes : List ℕ) → test [] ≡ false → test bytes ≡ true → 0 < length bytes
nonempty test [] f e = absurd (cc (f, e))
nonempty test (a ∷ bytes) f e = omega arith

pub numeral_some : (base : Base) (bytes : List ℕ) → IsNumeral base bytes → 0 < length bytes
numeral_some Decimal bytes h = h.0
numeral_some Hexadecimal bytes (mark, digits, same, is_mark, some, all) = rw same (omega arith)

pub begins_some : {kind : TokenKind} {bytes rest : List ℕ} → Begins kind bytes rest → 0 < length bytes
begins_some {kind} {bytes} (keyword_begins e) = nonempty is_word_shape bytes refl (keyword_shape bytes kind e)
begins_some {bytes} (name_begins (first, all, none)) = nonempty (first_is is_letter) bytes refl first
begins_some {bytes} (number_begins base h small ends) = numeral_some base bytes h
begins_some {kind} {bytes} (marked_begins e ends) = nonempty is_marked_shape bytes refl (marked_shape bytes kind e)
begins_some {kind} {bytes} (punctuation_begins e slash) =
    elim (or_else_cases (kind_in punctuation_of_two bytes) (single_kind bytes) kind e) [
      | inl pair ↦ nonempty is_pair_shape bytes refl (pair_shape bytes kind pair)
      | inr single ↦ nonempty is_single_shape bytes refl (single_shape bytes kind single)
    ]

pub passed_some : {bytes rest : List ℕ} → IsPassed bytes rest → 0 < length bytes
passed_some (blank_passes e) = omega arith
passed_some (line_passes all ends) = omega arith
passed_some (block_passes body first) = omega arith

-- the token that stands at the beginning is found
pub stands_found : {kind : TokenKind} {bytes rest : List ℕ} → Stands kind bytes rest → lexeme (bytes ++ rest) ≡ lexemes.Token kind (length bytes)
stands_found {kind} {bytes} {rest} (begins, longest) = by_lead (lexeme_leads begins)
  where
    by_lead : Leads kind bytes rest → lexeme (bytes ++ rest) ≡ lexemes.Token kind (length bytes)
    by_lead (inl here) = here
    by_lead (inr (other, n, found, longer)) = absurd (too_long (subst (Sound (bytes ++ rest)) found (lexeme_sound (bytes ++ rest) (let some = begins_some begins in omega (arith, length-append bytes rest)))))
      where
        too_long : Sound (bytes ++ rest) (lexemes.Token other n) → ⊥
        too_long (front, after, same, len, b) = let le = longest other front after (sym same) b in omega arith

-- what is found is the token that stands there
pub found_stands : (bytes front rest : List ℕ) (kind : TokenKind) → lexeme bytes ≡ lexemes.Token kind (length front) → bytes ≡ front ++ rest → Begins kind front rest → Stands kind front rest
found_stands bytes front rest kind found same begins = (begins, longest)
  where
    longest : (other : TokenKind) (others after : List ℕ) → others ++ after ≡ front ++ rest → Begins other others after → length others ≤ length front
    longest other others after e b = by_lead (lexeme_leads b)
      where
        here : lexeme (others ++ after) ≡ lexemes.Token kind (length front)
        here = rw (e, ← same) found

        by_lead : Leads other others after → length others ≤ length front
        by_lead (inl l) = let n : length others ≡ length front = cc in omega arith
        by_lead (inr (k, n, l, longer)) = let m : n ≡ length front = cc in omega arith

-- ---- white space and comments

pub passed_found : {bytes rest : List ℕ} → IsPassed bytes rest → lexeme (bytes ++ rest) ≡ lexemes.Trivia (length bytes)
unfolding lexeme
passed_found {rest} (blank_passes {b} e) = cond-true (is_blank b) _ _ e
passed_found {rest} (line_passes {body} all ends) = let two : 2 + length body ≡ suc (suc (length body)) = omega arith in rw (run_all is_in_line body rest all ends) (ap (λ (n : ℕ). lexemes.Trivia n) two)
passed_found {rest} (block_passes body first) =
    let n : length body + 2 + 2 ≡ suc (suc (length (body ++ codes "*/"))) = simp length-append (omega arith) in
    rw (close_is body rest first) (ap (λ (n : ℕ). lexemes.Trivia n) n)

-- ---- refusals

pub open_found : (rest : List ℕ) → IsOpenComment rest → lexeme rest ≡ lexemes.OpenComment
unfolding lexeme
open_found rest (body, same, none) = rw (same, close_none body none) refl

pub big_found : (rest : List ℕ) → IsBigNumber rest → lexeme rest ≡ lexemes.BigNumber
big_found rest (base, bytes, after, same, numeral, big, ends) =
    rw same (numeral_lexeme base bytes after numeral ∙ numeral_reach base bytes after numeral ends
    ∙ rw (drop_at bytes after (length bytes) refl, ends, take_at bytes after (length bytes) refl, le-ltb (numeral_value base bytes) (2 ^ 64) big) refl)

-- a number begins with a digit
digit_first : (base : Base) (bytes rest : List ℕ) → IsNumeral base bytes → first_is is_digit (bytes ++ rest) ≡ true
digit_first Decimal [] rest h = absurd (omega (arith, h.0))
digit_first Decimal (a ∷ bytes) rest h = and_left (is_digit a) (every is_digit bytes) h.1
digit_first Hexadecimal bytes rest (mark, digits, same, is_mark, some, all) = rw same refl

pub goes_on_found : (rest : List ℕ) (len : ℕ) → GoesOn rest len → lexeme rest ≡ lexemes.BadByte len
goes_on_found rest len (base, bytes, after, same, count, numeral, on, longest) = by_bytes rest same (rw same (digit_first base bytes after numeral))
  where
    by_bytes : (rest : List ℕ) → rest ≡ bytes ++ after → first_is is_digit rest ≡ true → lexeme rest ≡ lexemes.BadByte len
    by_bytes [] same digit = absurd cc
    by_bytes (a ∷ others) same digit = lexeme_number a others digit ∙ by_number (number_longest a others digit)
      where
        by_number : (base : Base) × (n : ℕ) × (number_lexeme (a ∷ others) ≡ number_ends base n (a ∷ others)) × (n ≤ suc (length others)) × IsNumeral base (take n (a ∷ others)) × ((other : Base) (others' behind : List ℕ) → others' ++ behind ≡ a ∷ others → IsNumeral other others' → length others' ≤ n) → number_lexeme (a ∷ others) ≡ lexemes.BadByte len
        by_number (base', n, e, le, numeral', longest') =
            let up : length bytes ≤ n = longest' base bytes after (sym same) numeral in
            let down = longest base' (take n (a ∷ others)) (drop n (a ∷ others)) (take-append-drop n (a ∷ others) ∙ same) numeral' in
            let width : length (take n (a ∷ others)) ≡ n = length-take-le n (a ∷ others) le in
            let n_len : n ≡ length bytes = omega arith in
            let rest_after : drop n (a ∷ others) ≡ after = ap (drop n) same ∙ drop_at bytes after n (sym n_len) in
            e ∙ cond-true (first_is is_word_byte (drop n (a ∷ others))) _ _ (rw rest_after on) ∙ ap (λ (m : ℕ). lexemes.BadByte m) (n_len ∙ count)

-- ---- where nothing begins

pub nothing_found : (rest : List ℕ) → IsNothing rest → lexeme rest ≡ lexemes.BadByte 0
nothing_found rest (some, no_blank, no_digit, no_line, no_block, no_token) = by_lexeme (lexeme rest) (lexeme_sound rest some)
  where
    no_number : (base : Base) (bytes after : List ℕ) → rest ≡ bytes ++ after → IsNumeral base bytes → ⊥
    no_number base bytes after same h = cc (no_digit, ap (first_is is_digit) same ∙ digit_first base bytes after h)

    no_passed : {front after : List ℕ} → IsPassed front after → rest ≡ front ++ after → ⊥
    no_passed (blank_passes e) same = cc (no_blank, ap (first_is is_blank) same ∙ e)
    no_passed {after} (line_passes {body} all ends) same = no_line (body ++ after) same
    no_passed {after} (block_passes body first) same = no_block (body ++ codes "*/" ++ after) same

    by_lexeme : (p : Lexeme) → Sound rest p → p ≡ lexemes.BadByte 0
    by_lexeme (lexemes.Trivia n) (front, after, same, len, passed) = absurd (no_passed passed same)
    by_lexeme (lexemes.Token kind n) (front, after, same, len, begins) = absurd (no_token kind front after (sym same) begins)
    by_lexeme (lexemes.BadByte n) (inl (z, plain)) = ap (λ (m : ℕ). lexemes.BadByte m) z
    by_lexeme (lexemes.BadByte n) (inr (base, bytes, after, same, count, numeral, on, longest)) = absurd (no_number base bytes after same numeral)
    by_lexeme lexemes.OpenComment (body, same, none) = absurd (no_block body same)
    by_lexeme lexemes.BigNumber (base, bytes, after, same, numeral, big, ends) = absurd (no_number base bytes after same numeral)

pub found_nothing : (rest : List ℕ) → lexeme rest ≡ lexemes.BadByte 0 → Plain rest → IsNothing rest
found_nothing rest bad (some, no_blank, no_digit, no_line, no_block) = (some, no_blank, no_digit, no_line, no_block, no_token)
  where
    no_token : (kind : TokenKind) (bytes after : List ℕ) → bytes ++ after ≡ rest → Begins kind bytes after → ⊥
    no_token kind bytes after same b = by_lead (lexeme_leads b)
      where
        here : lexeme (bytes ++ after) ≡ lexemes.BadByte 0
        here = rw same bad

        by_lead : Leads kind bytes after → ⊥
        by_lead (inl l) = cc
        by_lead (inr (k, n, l, longer)) = cc
