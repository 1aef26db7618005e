-- Texts that a byte parts which stands in neither. Cited by other crates.
use Rattle.std.proofs.Common.{◌≡◌, ℕ, ◌<◌, ◌≤◌, List, [], ◌∷◌, ◌++◌, refl, sym, ◌∙◌, append_assoc, arith, flat_map}
use Rattle.td_report.specs.Report.{line}

-- each byte is above m
abbrev pub Above : ℕ → List ℕ → Type 0
Above m [] = Unit {0}
Above m (x ∷ xs) = (m < x) × Above m xs

pub above_append : (m : ℕ) (a b : List ℕ) → Above m a → Above m b → Above m (a ++ b)
above_append m [] b h k = k
above_append m (x ∷ a) b h k = (h.0, above_append m a b h.1 k)

pub above_less : (l m : ℕ) (a : List ℕ) → l ≤ m → Above m a → Above l a
above_less l m [] small h = tt
above_less l m (x ∷ a) small h = let high = h.0 in (omega arith, above_less l m a small h.1)

-- texts that go on after the same byte, which stands in neither before, are equal part by part
pub cut : (c : ℕ) (a b r s : List ℕ) → Above c a → Above c b → a ++ c ∷ r ≡ b ++ c ∷ s → (a ≡ b) × (r ≡ s)
cut c [] [] r s h k e = (refl, (cc))
cut c [] (y ∷ b) r s h k e =
    let same : c ≡ y = cc in
    let high = k.0 in
    absurd (omega arith)
cut c (x ∷ a) [] r s h k e =
    let same : x ≡ c = cc in
    let high = h.0 in
    absurd (omega arith)
cut c (x ∷ a) (y ∷ b) r s h k e =
    let head : x ≡ y = cc in
    let tail : a ++ c ∷ r ≡ b ++ c ∷ s = cc in
    let rest = cut c a b r s h.1 k.1 tail in
    let prefix = rest.0 in
    ((cc), rest.1)

-- equal after an equal prefix
pub after : (prefix a b : List ℕ) → prefix ++ a ≡ prefix ++ b → a ≡ b
after [] a b e = e
after (x ∷ prefix) a b e = after prefix a b (cc)

-- the same after an equal prefix
pub cut_after : (prefix : List ℕ) (c : ℕ) (a b r s : List ℕ) → Above c a → Above c b → prefix ++ (a ++ c ∷ r) ≡ prefix ++ (b ++ c ∷ s) → (a ≡ b) × (r ≡ s)
cut_after prefix c a b r s h k e = cut c a b r s h k (after prefix (a ++ c ∷ r) (b ++ c ∷ s) e)

-- no text with a byte is empty
filled : (a : List ℕ) (c : ℕ) (r : List ℕ) → [] ≡ a ++ c ∷ r → ⊥
filled [] c r e = cc
filled (x ∷ a) c r e = cc

-- each text has no line feed
abbrev pub AreLines : List (List ℕ) → Type 0
AreLines [] = Unit {0}
AreLines (a ∷ more) = Above 10 a × AreLines more

pub lines_append : (a b : List (List ℕ)) → AreLines a → AreLines b → AreLines (a ++ b)
lines_append [] b h k = k
lines_append (x ∷ a) b h k = (h.0, lines_append a b h.1 k)

-- equal texts of lines are equal line by line
pub same_lines : (a b : List (List ℕ)) → AreLines a → AreLines b → flat_map line a ≡ flat_map line b → a ≡ b
same_lines [] [] h k e = refl
same_lines [] (y ∷ b) h k e = absurd (filled y 10 (flat_map line b) (e ∙ append_assoc y (10 ∷ []) (flat_map line b)))
same_lines (x ∷ a) [] h k e = absurd (filled x 10 (flat_map line a) (sym e ∙ append_assoc x (10 ∷ []) (flat_map line a)))
same_lines (x ∷ a) (y ∷ b) h k e =
    let parts = cut 10 x y (flat_map line a) (flat_map line b) h.0 k.0 (sym (append_assoc x (10 ∷ []) (flat_map line a)) ∙ e ∙ append_assoc y (10 ∷ []) (flat_map line b)) in
    let first = parts.0 in
    let rest = same_lines a b h.1 k.1 parts.1 in
    cc
