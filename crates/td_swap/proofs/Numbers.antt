-- Versions by number.
use Rattle.std.proofs.Common.{◌≡◌, ℕ, zero, suc, ◌+◌, ◌<◌, List, [], ◌∷◌, ◌++◌, length, map, Some, refl, sym, ap, ◌∙◌, subst, arith, append_assoc, length-append}
use Rattle.std.specs.Prelude.{slice_get, slice_index_or}
use Rattle.std.proofs.lemmas.List.{append-nil, map-append, length-map}
use Rattle.td_ir.specs.declared.tables.Parts.{Parts}
use Rattle.td_swap.specs.declared.version.Version.{Version}
use Rattle.td_swap.specs.Versions.{version_code, AreNumbered}

numbered-push : (n : ℕ) (vs : List Version) (v : Version) → AreNumbered n vs → v.number ≡ n + length vs → AreNumbered n (vs ++ v ∷ [])
numbered-push n [] v a e = (e ∙ (let z : n + 0 ≡ n = omega arith in z), tt)
numbered-push n (x ∷ vs) v a e = (a.0, numbered-push (n + 1) vs v a.1 (e ∙ (let z : n + suc (length vs) ≡ n + 1 + length vs = omega arith in z)))

-- ---- codes that are numbered one by one
pub record Numbering (whole rest : List Parts) (versions : List Version) (number : ℕ) : Type 0 where
  pub more : map version_code versions ++ rest ≡ whole
  pub numbers : AreNumbered 0 versions
  pub counted : length versions ≡ number

pub begins : (whole rest : List Parts) → rest ≡ whole → Numbering whole rest [] 0
begins whole rest e = record { more = e; numbers = tt; counted = refl }

pub counts : (whole rest : List Parts) (versions : List Version) (number : ℕ) → Numbering whole rest versions number → number + length rest ≡ length whole
counts whole rest versions number p =
    let a = ap length p.more in
    let b = length-append (map version_code versions) rest in
    let c = length-map versions version_code in
    let d = p.counted in
    omega (arith, a, b, c, d)

pub goes_on : (whole rest rest' : List Parts) (versions versions' : List Version) (number : ℕ) (c : Parts) → Numbering whole rest versions number → rest ≡ c ∷ rest' → versions' ≡ versions ++ record { number = number; code = c } ∷ []
    → Numbering whole rest' versions' (number + 1)
goes_on whole rest rest' versions versions' number c p e f =
    let v : Version = record { number = number; code = c } in
    subst (λ l. Numbering whole rest' l (number + 1)) (sym f) record {
      more = ap (λ l. l ++ rest') (map-append version_code versions (v ∷ [])) ∙ (append_assoc (map version_code versions) (c ∷ []) rest' ∙ (ap (λ l. map version_code versions ++ l) (sym e) ∙ p.more));
      numbers = numbered-push 0 versions v p.numbers (let d = p.counted in omega (arith, d));
      counted = length-append versions (v ∷ []) ∙ ap (λ n. n + 1) p.counted;
    }

pub ends : (whole rest : List Parts) (versions : List Version) (number : ℕ) → Numbering whole rest versions number → length rest ≡ 0 → map version_code versions ≡ whole
ends whole [] versions number p e = sym (append-nil (map version_code versions)) ∙ p.more
ends whole (c ∷ rest) versions number p e = absurd (omega (arith, e))

-- ---- the version of a number
lent_from : (n : ℕ) (vs : List Version) (i : ℕ) (d : Version) → AreNumbered n vs → i < length vs → slice_index_or vs i d ≡ d → (d.number ≡ n + i) × (slice_get (map version_code vs) i ≡ Some d.code)
lent_from n [] i d a lt e = absurd (omega (arith, lt))
lent_from n (v ∷ vs) zero d a lt e = (ap (λ (x : Version). x.number) (sym e) ∙ (a.0 ∙ (let z : n ≡ n + 0 = omega arith in z)), ap (λ (x : Version). Some x.code) e)
lent_from n (v ∷ vs) (suc i) d a lt e =
    let r = lent_from (n + 1) vs i d a.1 (omega (arith, lt)) e in
    (r.0 ∙ (let z : n + 1 + i ≡ n + suc i = omega arith in z), r.1)

-- the version at this place has its number, and the code that stands there
pub lent : (vs : List Version) (codes : List Parts) (i : ℕ) (d : Version) → AreNumbered 0 vs → map version_code vs ≡ codes → i < length codes → slice_index_or vs i d ≡ d
    → (i ≡ d.number) × (slice_get codes d.number ≡ Some d.code)
lent vs codes i d a same less is =
    let n = length-map vs version_code in
    let m = ap length same in
    let x = lent_from 0 vs i d a (omega (arith, less, n, m)) is in
    let number : i ≡ d.number = omega (arith, x.0) in
    (number, subst (λ (y : List Parts × ℕ). slice_get y.0 y.1 ≡ Some d.code) (λ j. (same j, number j)) x.1)
