-- Names before and after their first dot. Cited by other crates.
use Rattle.std.proofs.Common.{◌≡◌, ℕ, Bool, true, false, cond, eqb, List, [], ◌∷◌, ◌++◌, Option, Some, None, refl, sym, ap}
use Rattle.std.proofs.lemmas.Bool.{eqb-true}
use Rattle.std.proofs.lemmas.List.{append-nil}
use Rattle.td_lexer.specs.Bytes.{is_word_byte, every}
use Rattle.td_lexer.proofs.Within.{and_left, and_right}
use Rattle.td_print_layout.specs.Pieces.{text_of}
use Rattle.td_print_layout.specs.Names.{before_dot, after_dot, qualified_pieces}

-- a name, and what a dot joins to it
abbrev pub joined : List ℕ → Option (List ℕ) → List ℕ
joined first None = first
joined first (Some second) = first ++ 46 ∷ second

joined_more : (b : ℕ) (first : List ℕ) (o : Option (List ℕ)) → joined (b ∷ first) o ≡ b ∷ joined first o
joined_more b first None = refl
joined_more b first (Some second) = refl

pub joined_again : (text : List ℕ) → joined (before_dot text) (after_dot text) ≡ text
joined_again [] = refl
joined_again (b ∷ text) = by_test (eqb b 46) refl (joined_again text)
  where
    by_test : (c : Bool) → eqb b 46 ≡ c → joined (before_dot text) (after_dot text) ≡ text → joined (cond c [] (b ∷ before_dot text)) (cond c (Some text) (after_dot text)) ≡ b ∷ text
    by_test true e ih = let is : b ≡ 46 = eqb-true b 46 e in ap (λ (n : ℕ). n ∷ text) (sym is)
    by_test false e ih = rw (joined_more b (before_dot text) (after_dot text)) (ap (λ (l : List ℕ). b ∷ l) ih)

-- ---- bytes of a word have no dot

word_no_dot : (b : ℕ) → is_word_byte b ≡ true → eqb b 46 ≡ false
word_no_dot b e = by_test (eqb b 46) refl
  where
    clash : b ≡ 46 → ⊥
    clash is = let f : is_word_byte 46 ≡ true = rw is at e in cc (f)

    by_test : (c : Bool) → eqb b 46 ≡ c → c ≡ false
    by_test true g = absurd (clash (eqb-true b 46 g))
    by_test false g = refl

pub no_dot : (text : List ℕ) → every is_word_byte text ≡ true → (before_dot text ≡ text) × (after_dot text ≡ None)
no_dot [] all = (refl, refl)
no_dot (b ∷ text) all =
    let not = word_no_dot b (and_left (is_word_byte b) (every is_word_byte text) all) in
    let ih = no_dot text (and_right (is_word_byte b) (every is_word_byte text) all) in
    (rw (not, ih.0) refl, rw (not, ih.1) refl)

pub one_dot : (first second : List ℕ) → every is_word_byte first ≡ true → (before_dot (first ++ 46 ∷ second) ≡ first) × (after_dot (first ++ 46 ∷ second) ≡ Some second)
one_dot [] second all = (refl, refl)
one_dot (b ∷ first) second all =
    let not = word_no_dot b (and_left (is_word_byte b) (every is_word_byte first) all) in
    let ih = one_dot first second (and_right (is_word_byte b) (every is_word_byte first) all) in
    (rw (not, ih.0) refl, rw (not, ih.1) refl)

-- ---- texts

-- the text of a name's pieces is the name
pub name_text : (text : List ℕ) → text_of (qualified_pieces text) ≡ text
name_text text = by_dot (after_dot text) refl
  where
    by_dot : (o : Option (List ℕ)) → after_dot text ≡ o → text_of (qualified_pieces text) ≡ text
    by_dot None e = let whole : joined (before_dot text) None ≡ text = rw e at (joined_again text) in rw (e, append-nil (before_dot text)) whole
    by_dot (Some second) e = let whole : joined (before_dot text) (Some second) ≡ text = rw e at (joined_again text) in rw (e, append-nil second) whole
