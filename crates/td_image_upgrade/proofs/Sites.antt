-- Cited by other crates.
-- Where upgraded code has its sites and instructions, and that they are no more than the instructions before.
use Rattle.std.proofs.Common.{◌≡◌, ℕ, zero, suc, ◌+◌, ◌-◌, ◌<◌, ◌≤◌, ◌⊎◌, inl, inr, Bool, true, false, cond, List, [], ◌∷◌, ◌++◌, length, map, take, drop, Option, Some, None, get_or, refl, sym, ap, subst, ◌∙◌, arith}
use Rattle.std.specs.Prelude.{slice_range, nat_eq, nat_lt, ◌||◌, if◌then◌else◌}
use Rattle.std.specs.List.{position_or_len, list_any}
use Rattle.std.proofs.lemmas.Bool.{eqb-true, lt-ltb, le-ltb, cases_lt}
use Rattle.std.proofs.lemmas.List.{length-append, length-take, length-drop, length-map, get_or-append-add, get_or_append_left, get_or_past, drop-append-le, take-append-le, append-nil}
use Rattle.std.proofs.lemmas.List.Folds.{list_any-append}
use Rattle.std.proofs.Math.Seq.{drop-append_seam}
use Rattle.td_num.specs.Lists.{Each}
use Rattle.td_names.specs.Numbers.{is_among}
use Rattle.td_core.specs.declared.module.NameId.{NameId}
use Rattle.td_ir.specs.declared.instructions.Instr.{Instr}
use Rattle.td_ir.specs.declared.tables.Site.{Site}
use Rattle.td_ir.specs.declared.tables.Parts.{Parts}
use Rattle.td_ir.specs.Tables.{routine_of, site_of, lengths_of, begin, first_of, end_of, no_routine}
use Rattle.td_ir.proofs.Begins.{begin_next, begin_up}
use Rattle.td_image_upgrade.specs.declared.upgrade.TheConstants.{NO_SITE}
use Rattle.td_ir.specs.Fields.{named}
use Rattle.td_image_upgrade.specs.Upgrade.{renumbered, with_used, used_in, routine_code, used_by, own_site, own_sites, sites_below, number_in, own_code, code_below, upgraded}
use Rattle.td_image_upgrade.specs.Laws.{IsDivided}
use Rattle.td_num.proofs.Equals.{equal_itself as same_number}

-- what holds of the site that is named, where one is
abbrev pub OfNamed : (ℕ → Type 0) → Option ℕ → Type 0
OfNamed P None = Unit {0}
OfNamed P (Some k) = P k

-- what a frame takes of a site
abbrev pub names_of : Site → NameId × NameId
names_of s = (s.ty, s.field)

-- a new site has the names of the old one
abbrev pub IsSame : Parts → (m k : ℕ) → Type 0
IsSame c m k = names_of (site_of (upgraded c) m) ≡ names_of (site_of c k)

-- ---- the sites that instructions name

keeps_one : (b d : Bool) (used : List ℕ) (k m : ℕ) → is_among used k ≡ true → is_among (cond b (if d then used else used ++ m ∷ []) used) k ≡ true
keeps_one false d used k m h = h
keeps_one true true used k m h = h
keeps_one true false used k m h = list_any-append (nat_eq k) used (m ∷ []) ∙ rw h refl

keeps_with : (old : ℕ) (used : List ℕ) (o : Option ℕ) (k : ℕ) → is_among used k ≡ true → is_among (with_used old used o) k ≡ true
keeps_with old used None k h = h
keeps_with old used (Some m) k h = keeps_one (nat_lt m old) (is_among used m) used k m h

keeps : (old : ℕ) (js : List Instr) (used : List ℕ) (k : ℕ) → is_among used k ≡ true → is_among (used_in old used js) k ≡ true
keeps old [] used k h = h
keeps old (j ∷ js) used k h = keeps old js (with_used old used (named j)) k (keeps_with old used (named j) k h)

added_by : (d : Bool) (used : List ℕ) (k : ℕ) → is_among used k ≡ d → is_among (if d then used else used ++ k ∷ []) k ≡ true
added_by true used k e = e
added_by false used k e = list_any-append (nat_eq k) used (k ∷ []) ∙ rw (e, same_number k) refl

added : (old : ℕ) (used : List ℕ) (k : ℕ) → k < old → is_among (with_used old used (Some k)) k ≡ true
added old used k lt = rw (lt-ltb k old lt) (added_by (is_among used k) used k refl)

has_here : (old : ℕ) (used : List ℕ) (o : Option ℕ) (js : List Instr) → OfNamed (λ k. k < old → is_among (used_in old (with_used old used o) js) k ≡ true) o
has_here old used None js = tt
has_here old used (Some k) js = λ lt. keeps old js (with_used old used (Some k)) k (added old used k lt)

has_all : (old : ℕ) (js : List Instr) (used : List ℕ) → Each (λ j. OfNamed (λ k. k < old → is_among (used_in old used js) k ≡ true) (named j)) js
has_all old [] used = tt
has_all old (j ∷ js) used = (has_here old used (named j) js, has_all old js (with_used old used (named j)))

few_one : (b d : Bool) (used : List ℕ) (m : ℕ) → length (cond b (if d then used else used ++ m ∷ []) used) ≤ length used + 1
few_one false d used m = omega arith
few_one true true used m = omega arith
few_one true false used m = omega (arith, length-append used (m ∷ []))

few_with : (old : ℕ) (used : List ℕ) (o : Option ℕ) → length (with_used old used o) ≤ length used + 1
few_with old used None = omega arith
few_with old used (Some m) = few_one (nat_lt m old) (is_among used m) used m

pub few_used : (old : ℕ) (js : List Instr) (used : List ℕ) → length (used_in old used js) ≤ length used + length js
few_used old [] used = omega arith
few_used old (j ∷ js) used = let a = few_with old used (named j) in let b = few_used old js (with_used old used (named j)) in omega (arith, a, b)

-- ---- a number's place

module _ {X : Type 0} (f : ℕ → X) (d : X) (k : ℕ) where
  abbrev Found : List ℕ → Type 0
  Found u = (position_or_len (nat_eq k) u < length u) × (get_or (map f u) (position_or_len (nat_eq k) u) d ≡ f k)

  found_by : (b : Bool) (x : ℕ) (u : List ℕ) → nat_eq k x ≡ b → (list_any (nat_eq k) u ≡ true → Found u) → list_any (nat_eq k) (x ∷ u) ≡ true → Found (x ∷ u)
  found_by true x u e rest h = rw e (omega arith, ap f (sym (eqb-true k x e)))
  found_by false x u e rest h =
      let inner : list_any (nat_eq k) u ≡ true = sym (ap (λ (v : Bool). v || list_any (nat_eq k) u) e) ∙ h in
      let r = rest inner in
      let p = position_or_len (nat_eq k) u in
      let one : 1 + p ≡ suc p = omega arith in
      rw e (omega (arith, r.0), ap (λ (m : ℕ). get_or (map f (x ∷ u)) m d) one ∙ r.1)

  found : (u : List ℕ) → list_any (nat_eq k) u ≡ true → Found u
  found [] h = absurd cc
  found (x ∷ u) h = found_by (nat_eq k x) x u refl (λ g. found u g) h

-- ---- the new sites

abbrev nowhere : Site
nowhere = record { ty = record { number = 0 }; field = record { number = 0 }; routine = 0 }

split : (n r : ℕ) → n < suc r → (n ≡ r) ⊎ (n < r)
split n r h = elim (cases_lt n r) [
  | inl lt ↦ inr lt
  | inr le ↦ inl (omega (arith, h, le))
]

abbrev SiteThere : Parts → (r n pos : ℕ) → Type 0
SiteThere c r n pos = (length (sites_below c n) + pos < length (sites_below c r)) × (get_or (sites_below c r) (length (sites_below c n) + pos) nowhere ≡ get_or (own_sites c n) pos nowhere)

site_there : (c : Parts) (r n pos : ℕ) → n < r → pos < length (own_sites c n) → SiteThere c r n pos
site_there c zero n pos h p = absurd (omega (arith, h))
site_there c (suc r) n pos h p = elim (split n r h) [
  | inl e ↦ subst (λ (m : ℕ). pos < length (own_sites c m) → SiteThere c (suc r) m pos) (sym e)
      (λ q. (omega (arith, length-append (sites_below c r) (own_sites c r), q), get_or-append-add (sites_below c r) (own_sites c r) pos nowhere)) p
  | inr lt ↦
      let s = site_there c r n pos lt p in
      (omega (arith, length-append (sites_below c r) (own_sites c r), s.0), get_or_append_left (sites_below c r) (own_sites c r) nowhere (length (sites_below c n) + pos) s.0 ∙ s.1)
]

few_code : (c : Parts) (n : ℕ) → length (routine_code c n) ≤ (routine_of c n).length
few_code c n =
    let t = length-take (end_of c n - first_of c n) (drop (first_of c n) c.instructions) in
    let b = begin_next c n in
    omega (arith, t, b)

pub few_sites : (c : Parts) (n : ℕ) → length (sites_below c n) ≤ begin (lengths_of c) n
few_sites c zero = omega arith
few_sites c (suc n) =
    let h = few_sites c n in
    let a = length-append (sites_below c n) (own_sites c n) in
    let m = length-map (used_by c n) (own_site c n) in
    let u = few_used (length c.sites) (routine_code c n) [] in
    let k = few_code c n in
    let b = begin_next c n in
    omega (arith, h, a, m, u, k, b)

-- in a routine, a site that the table has, and one that it hasn't
module _ (c : Parts) (D : IsDivided c) (n : ℕ) (lt : n < length c.routines) where
  own_there : (k : ℕ) → k < length c.sites → is_among (used_by c n) k ≡ true → IsSame c (number_in c n k) k
  own_there k less h =
      let f = found (own_site c n) nowhere k (used_by c n) h in
      let m = length-map (used_by c n) (own_site c n) in
      let s = site_there c (length c.routines) n (position_or_len (nat_eq k) (used_by c n)) lt (omega (arith, m, f.0)) in
      rw (lt-ltb k (length c.sites) less) (ap names_of (s.1 ∙ f.1))

  none_there : (k : ℕ) → length c.sites ≤ k → IsSame c (number_in c n k) k
  none_there k le =
      let few = few_sites c (length c.routines) in
      let past = get_or_past (sites_below c (length c.routines)) NO_SITE nowhere (omega (arith, few, D.whole, D.few)) in
      let gone = get_or_past c.sites k nowhere le in
      rw (le-ltb k (length c.sites) le) (ap names_of (past ∙ sym gone))

  same_there : (o : Option ℕ) → OfNamed (λ k. k < length c.sites → is_among (used_by c n) k ≡ true) o → OfNamed (λ k. IsSame c (number_in c n k) k) o
  same_there None h = tt
  same_there (Some k) h = elim (cases_lt k (length c.sites)) [
    | inl less ↦ own_there k less (h less)
    | inr le ↦ none_there k le
  ]

  all_there : (js : List Instr) → Each (λ j. OfNamed (λ k. k < length c.sites → is_among (used_by c n) k ≡ true) (named j)) js → Each (λ j. OfNamed (λ k. IsSame c (number_in c n k) k) (named j)) js
  all_there [] h = tt
  all_there (j ∷ js) h = (same_there (named j) h.0, all_there js h.1)

  pub agrees : Each (λ j. OfNamed (λ k. IsSame c (number_in c n k) k) (named j)) (routine_code c n)
  agrees = all_there (routine_code c n) (has_all (length c.sites) (routine_code c n) [])

-- ---- the new instructions

no_length : (c : Parts) (n : ℕ) → length c.routines ≤ n → (routine_of c n).length ≡ 0
no_length c n le = ap (λ r. r.length) (get_or_past c.routines n no_routine le)

whole_code : (c : Parts) → IsDivided c → (n : ℕ) → n < length c.routines → length (routine_code c n) ≡ (routine_of c n).length
whole_code c D n lt =
    let t = length-take (end_of c n - first_of c n) (drop (first_of c n) c.instructions) in
    let d = length-drop (first_of c n) c.instructions in
    let b = begin_next c n in
    let u = begin_up (lengths_of c) (suc n) (length c.routines) lt in
    omega (arith, t, d, b, u, D.whole)

pub code_long : (c : Parts) → IsDivided c → (n : ℕ) → n ≤ length c.routines → length (code_below c n) ≡ begin (lengths_of c) n
code_long c D zero le = refl
code_long c D (suc n) le =
    let h = code_long c D n (omega (arith, le)) in
    let a = length-append (code_below c n) (own_code c n) in
    let m = length-map (routine_code c n) (renumbered (number_in c n)) in
    let w = whole_code c D n (omega (arith, le)) in
    let b = begin_next c n in
    omega (arith, h, a, m, w, b)

pub end_within : (c : Parts) → IsDivided c → (n : ℕ) → n < length c.routines → begin (lengths_of c) n + (routine_of c n).length ≤ length c.instructions
end_within c D n lt =
    let b = begin_next c n in
    let u = begin_up (lengths_of c) (suc n) (length c.routines) lt in
    omega (arith, b, u, D.whole)

range_front : {X : Type 0} (xs ys : List X) (a b : ℕ) → a ≤ b → b ≤ length xs → slice_range (xs ++ ys) a b ≡ slice_range xs a b
range_front {X} xs ys a b ab h =
    ap (take (b - a)) (drop-append-le a xs ys (omega (arith, ab, h)))
    ∙ take-append-le (b - a) (drop a xs) ys (omega (arith, length-drop a xs, ab, h))

range_back : {X : Type 0} (xs ys : List X) (a b : ℕ) → length xs ≡ a → length ys ≡ b - a → slice_range (xs ++ ys) a b ≡ ys
range_back {X} xs ys a b ea eb =
    ap (take (b - a)) (subst (λ (m : ℕ). drop m (xs ++ ys) ≡ ys) ea (drop-append_seam xs ys))
    ∙ subst (λ (m : ℕ). take m ys ≡ ys) eb (ap (take (length ys)) (sym (append-nil ys)) ∙ take-append-le (length ys) ys [] (omega arith) ∙ all_taken ys)
  where
    all_taken : (ys : List X) → take (length ys) ys ≡ ys
    all_taken [] = refl
    all_taken (y ∷ ys) = ap (λ l. y ∷ l) (all_taken ys)

code_there : (c : Parts) → IsDivided c → (r n : ℕ) → r ≤ length c.routines → n < r → slice_range (code_below c r) (first_of c n) (end_of c n) ≡ own_code c n
code_there c D zero n le h = absurd (omega (arith, h))
code_there c D (suc r) n le h = elim (split n r h) [
  | inl e ↦ subst (λ (m : ℕ). slice_range (code_below c r ++ own_code c r) (first_of c m) (end_of c m) ≡ own_code c m) (sym e)
      (range_back (code_below c r) (own_code c r) (first_of c r) (end_of c r) (code_long c D r (omega (arith, le)))
      (length-map (routine_code c r) (renumbered (number_in c r)) ∙ whole_code c D r (omega (arith, le)) ∙ (let b = begin_next c r in omega (arith, b))))
  | inr lt ↦
      let u = begin_up (lengths_of c) (suc n) r lt in
      let s = begin_up (lengths_of c) n (suc n) (omega arith) in
      let g = code_long c D r (omega (arith, le)) in
      range_front (code_below c r) (own_code c r) (first_of c n) (end_of c n) s (omega (arith, u, g)) ∙ code_there c D r n (omega (arith, le)) lt
]

no_range : {X : Type 0} (xs : List X) (a b : ℕ) → b ≡ a → slice_range xs a b ≡ []
no_range {X} xs a b e = let z : b - a ≡ 0 = omega (arith, e) in ap (λ m. take m (drop a xs)) z

-- beyond the table there is no code, before upgrading and after it
pub no_code : (c : Parts) (n : ℕ) → length c.routines ≤ n → (xs : List Instr) → slice_range xs (first_of c n) (end_of c n) ≡ []
no_code c n le xs =
    let b = begin_next c n in
    let z = no_length c n le in
    no_range xs (first_of c n) (end_of c n) (omega (arith, b, z))

pub code_is : (c : Parts) → IsDivided c → (n : ℕ) → n < length c.routines → slice_range (upgraded c).instructions (first_of c n) (end_of c n) ≡ own_code c n
code_is c D n lt = code_there c D (length c.routines) n (omega arith) lt
