-- Lists of lines that are cut where a line with another fourth byte begins, and lines of two numbers.
use Rattle.std.proofs.Common.{◌≡◌, ◌≢◌, ℕ, ◌<◌, ◌^◌, List, [], ◌∷◌, ◌++◌, refl, sym, ap, ◌∙◌, append_assoc, arith, codes, decimal}
use Rattle.std.proofs.lemmas.Fmt.{decimal_injective}
use Rattle.std.proofs.lemmas.List.Elements.{All-head, All-tail}
use Rattle.std.specs.List.{All}
use Rattle.td_report.proofs.Cutting.{Above, above_append, cut_after}
use Rattle.td_report.proofs.Lines.{decimal_above}

-- the fourth byte of a line tells those of replies and rings from all others, and those of messages from the others of a take
abbrev pub fourth_of : List ℕ → ℕ
fourth_of [] = 0
fourth_of (x ∷ []) = 0
fourth_of (x ∷ y ∷ []) = 0
fourth_of (x ∷ y ∷ z ∷ []) = 0
fourth_of (x ∷ y ∷ z ∷ w ∷ l) = w

abbrev pub Begins : ℕ → List ℕ → Type 0
Begins c l = fourth_of l ≡ c

abbrev pub Others : ℕ → List ℕ → Type 0
Others c l = fourth_of l ≢ c

-- no line is left, or the first of them begins so
abbrev pub IsSeam : ℕ → List (List ℕ) → Type 0
IsSeam c [] = Unit {0}
IsSeam c (l ∷ lines) = Begins c l

pub cut_seam : (c : ℕ) (xs us ys vs : List (List ℕ)) → All (Others c) xs → IsSeam c us → All (Others c) ys → IsSeam c vs → xs ++ us ≡ ys ++ vs → (xs ≡ ys) × (us ≡ vs)
cut_seam c [] us [] vs hx hu hy hv e = (refl, e)
cut_seam c [] [] (y ∷ ys) vs hx hu hy hv e = absurd (cc)
cut_seam c [] (u ∷ us) (y ∷ ys) vs hx hu hy hv e =
    let same : y ≡ u = cc in
    absurd ((All-head (Others c) y ys hy) (ap fourth_of same ∙ hu))
cut_seam c (x ∷ xs) us [] [] hx hu hy hv e = absurd (cc)
cut_seam c (x ∷ xs) us [] (v ∷ vs) hx hu hy hv e =
    let same : x ≡ v = cc in
    absurd ((All-head (Others c) x xs hx) (ap fourth_of same ∙ hv))
cut_seam c (x ∷ xs) us (y ∷ ys) vs hx hu hy hv e =
    let rest = cut_seam c xs us ys vs (All-tail (Others c) x xs hx) hu (All-tail (Others c) y ys hy) hv (cc) in
    let others = rest.0 in
    ((cc), rest.1)

-- ---- a word and two numbers

abbrev pub pair_words : List ℕ → ℕ → ℕ → List ℕ
pair_words word a b = word ++ decimal a ++ codes " " ++ decimal b

pub pair_above : (word : List ℕ) (a b : ℕ) → Above 10 word → a < 2 ^ 64 → b < 2 ^ 64 → Above 10 (pair_words word a b)
pair_above word a b above first second =
    above_append 10 (word ++ decimal a ++ codes " ") (decimal b)
    (above_append 10 (word ++ decimal a) (codes " ") (above_append 10 word (decimal a) above (decimal_above 10 a (omega arith) first)) (search arith))
    (decimal_above 10 b (omega arith) second)

pair_parts : (word first second : List ℕ) → word ++ first ++ codes " " ++ second ≡ word ++ (first ++ 32 ∷ second)
pair_parts word first second = append_assoc (word ++ first) (codes " ") second ∙ append_assoc word first (32 ∷ second)

pub same_pair : (word : List ℕ) (a b c d : ℕ) → a < 2 ^ 64 → b < 2 ^ 64 → c < 2 ^ 64 → d < 2 ^ 64 → pair_words word a b ≡ pair_words word c d → (a ≡ c) × (b ≡ d)
same_pair word a b c d ha hb hc hd e =
    let parts =
    cut_after word 32 (decimal a) (decimal c) (decimal b) (decimal d)
    (decimal_above 32 a (omega arith) ha) (decimal_above 32 c (omega arith) hc)
    (sym (pair_parts word (decimal a) (decimal b)) ∙ e ∙ pair_parts word (decimal c) (decimal d)) in
    (decimal_injective a c ha hc parts.0, decimal_injective b d hb hd parts.1)
