-- The entries of a map, by the bytes of their keys.
use Rattle.std.proofs.Common.{◌≡◌, ℕ, ◌<◌, false, List, [], ◌∷◌, ◌++◌, map, get_or, slice_get, Bool, true, Option, Some, None, is_some, if◌then◌else◌, refl, sym, ap, zero, suc, ◌+◌, length, take, ◌∙◌, subst, arith}
use Rattle.std.specs.Str.{bytes_eq}
use Rattle.std.specs.Ordering.{is_eq, nat_cmp}
use Rattle.std.specs.Cmp.Lexicographic.{slice_cmp}
use Rattle.std.proofs.lemmas.Slice.Eq.{bytes_eq-Decides}
use Rattle.std.proofs.lemmas.Map.Text.{is_eq-slice_cmp}
use Rattle.std.specs.declared.vec.Vec.{Vec}
use Rattle.td_names.specs.Names.{looked_up, declared}
use Rattle.std.specs.Option.{option_map}
use Rattle.std.proofs.lemmas.Option.{slice_get-map, slice_get-get_or}
use Rattle.td_names.specs.Places.{names_of, entries_of, place_of, is_at, value_at, placed_at, ArePlaced}

same_bytes : (xs ys : List ℕ) → bytes_eq xs ys ≡ true → xs ≡ ys
same_bytes xs ys h = (bytes_eq-Decides xs ys).0 h

-- a name that is there is known at its place
pub place_known : {A B : Type 0} (n : ℕ) (es : List (List ℕ × B)) (places : List (Vec ℕ A × ℕ)) (name : List ℕ) (j : ℕ) → ArePlaced n es places → place_of n es name ≡ Some j → placed_at places name ≡ Some j
place_known n [] places name j h found = cc
place_known n (e ∷ es) places name j h found = by (place_known (n + 1) es places name j h.1) (bytes_eq name e.0) refl found
  where
    by : (place_of (n + 1) es name ≡ Some j → placed_at places name ≡ Some j) → (b : Bool) → bytes_eq name e.0 ≡ b → (if b then Some n else place_of (n + 1) es name) ≡ Some j → placed_at places name ≡ Some j
    by rest true same f = ap (λ x. placed_at places x) (same_bytes name e.0 same) ∙ h.0 ∙ f
    by rest false other f = rest f

-- who stands at a place with a name's bytes is found, or one before it
pub equal_placed : {B : Type 0} (n : ℕ) (es : List (List ℕ × B)) (i : ℕ) (name : List ℕ) → is_at es i name ≡ true → (j : ℕ) × (place_of n es name ≡ Some j)
equal_placed n [] i name at = cc
equal_placed n (x ∷ xs) i name at = by (λ (i : ℕ). equal_placed (n + 1) xs i name) (bytes_eq name x.0) refl i at
  where
    by : ((i : ℕ) → is_at xs i name ≡ true → (j : ℕ) × (place_of (n + 1) xs name ≡ Some j)) → (b : Bool) → bytes_eq name x.0 ≡ b → (i : ℕ) → is_at (x ∷ xs) i name ≡ true → (j : ℕ) × ((if b then Some n else place_of (n + 1) xs name) ≡ Some j)
    by rest true is i at = (n, refl)
    by rest false other zero at = cc
    by rest false other (suc i) at = rest i at

-- whose place is known stands there
pub placed_there : {B : Type 0} (n : ℕ) (es : List (List ℕ × B)) (name : List ℕ) (j : ℕ) → place_of n es name ≡ Some j → (i : ℕ) × (j ≡ n + i) × (is_at es i name ≡ true) × (value_at es i ≡ looked_up es name)
placed_there n [] name j found = cc
placed_there n (e ∷ es) name j found = by (placed_there (n + 1) es name j) (bytes_eq name e.0) refl found
  where
    by : (place_of (n + 1) es name ≡ Some j → (i : ℕ) × (j ≡ n + 1 + i) × (is_at es i name ≡ true) × (value_at es i ≡ looked_up es name))
        → (b : Bool) → bytes_eq name e.0 ≡ b → (if b then Some n else place_of (n + 1) es name) ≡ Some j
        → (i : ℕ) × (j ≡ n + i) × (is_at (e ∷ es) i name ≡ true) × (value_at (e ∷ es) i ≡ (if b then Some e.1 else looked_up es name))
    by rest true same f = (zero, (let is : n ≡ j = cc in omega (arith, is)), same, refl)
    by rest false other f = let r = rest f in (suc r.0, omega (arith, r.1), r.2, r.3)

pub placed_first : {B : Type 0} (es : List (List ℕ × B)) (name : List ℕ) (j : ℕ) → place_of 0 es name ≡ Some j → (is_at es j name ≡ true) × (value_at es j ≡ looked_up es name)
placed_first es name j found =
    let r = placed_there 0 es name j found in
    let same : j ≡ r.0 = omega (arith, r.1) in
    (ap (λ i. is_at es i name) same ∙ r.2, ap (λ i. value_at es i) same ∙ r.3)

pub placed_nowhere : {B : Type 0} (n : ℕ) (es : List (List ℕ × B)) (name : List ℕ) → place_of n es name ≡ None → looked_up es name ≡ None
placed_nowhere n [] name none = refl
placed_nowhere n (e ∷ es) name none = by (placed_nowhere (n + 1) es name) (bytes_eq name e.0) none
  where
    by : (place_of (n + 1) es name ≡ None → looked_up es name ≡ None) → (b : Bool) → (if b then Some n else place_of (n + 1) es name) ≡ None → (if b then Some e.1 else looked_up es name) ≡ None
    by rest true f = cc
    by rest false f = rest f

-- the place of a name by what the order of names has for it
pub place_found : {A B : Type 0} (es : List (List ℕ × B)) (places : List (Vec ℕ A × ℕ)) (name : List ℕ) (p : ℕ) → ArePlaced 0 es places → placed_at places name ≡ Some p → is_at es p name ≡ true → place_of 0 es name ≡ Some p
place_found es places name p h found at =
    let there = equal_placed 0 es p name at in
    let known = place_known 0 es places name there.0 h there.1 in
    there.1 ∙ sym known ∙ found

pub place_other : {A B : Type 0} (es : List (List ℕ × B)) (places : List (Vec ℕ A × ℕ)) (name : List ℕ) (p : ℕ) → ArePlaced 0 es places → placed_at places name ≡ Some p → is_at es p name ≡ false → place_of 0 es name ≡ None
place_other es places name p h found other = by (place_of 0 es name) refl
  where
    by : (o : Option ℕ) → place_of 0 es name ≡ o → o ≡ None
    by None is = refl
    by (Some j) is =
        let known : Some j ≡ Some p = sym (place_known 0 es places name j h is) ∙ found in
        let same : j ≡ p = cc in
        let at : is_at es p name ≡ true = sym (ap (λ i. is_at es i name) same) ∙ (placed_first es name j is).0 in
        absurd cc

pub place_none : {A B : Type 0} (es : List (List ℕ × B)) (places : List (Vec ℕ A × ℕ)) (name : List ℕ) → ArePlaced 0 es places → placed_at places name ≡ None → place_of 0 es name ≡ None
place_none es places name h none = by (place_of 0 es name) refl
  where
    by : (o : Option ℕ) → place_of 0 es name ≡ o → o ≡ None
    by None is = refl
    by (Some j) is = absurd (let known = place_known 0 es places name j h is in cc)

-- ---- one more name

-- an order of names that has one more name, and else what the other has
pub record HasMore (A : Type 0) (old new : List (Vec ℕ A × ℕ)) (name : List ℕ) (p : ℕ) : Type 0 where
  pub here : placed_at new name ≡ Some p
  pub others : (k : Vec ℕ A) → bytes_eq name k.items ≡ false → placed_at new k.items ≡ placed_at old k.items

pub stay_placed : {A B : Type 0} (n : ℕ) (es : List (Vec ℕ A × B)) (old new : List (Vec ℕ A × ℕ)) (name : List ℕ) (p : ℕ) → HasMore A old new name p → is_some (looked_up (entries_of es) name) ≡ false → ArePlaced n (entries_of es) old → ArePlaced n (entries_of es) new
stay_placed n [] old new name p more none h = tt
stay_placed {A} {B} n (e ∷ es) old new name p more none h = by (λ (f : is_some (looked_up (entries_of es) name) ≡ false). stay_placed (n + 1) es old new name p more f h.1) (bytes_eq name e.0.items) refl none
  where
    by : (is_some (looked_up (entries_of es) name) ≡ false → ArePlaced (n + 1) (entries_of es) new) → (b : Bool) → bytes_eq name e.0.items ≡ b → is_some (if b then Some e.1 else looked_up (entries_of es) name) ≡ false → ArePlaced n (entries_of (e ∷ es)) new
    by rest true same f = cc
    by rest false other f = (more.others e.0 other ∙ h.0, rest f)

pub one_more_placed : {A B : Type 0} (n : ℕ) (es : List (List ℕ × B)) (places : List (Vec ℕ A × ℕ)) (name : List ℕ) (b : B) → ArePlaced n es places → placed_at places name ≡ Some (n + length es) → ArePlaced n (es ++ (name, b) ∷ []) places
one_more_placed n [] places name b h is = (is ∙ ap Some (omega arith), tt)
one_more_placed n (e ∷ es) places name b h is = (h.0, one_more_placed (n + 1) es places name b h.1 (is ∙ ap Some (omega arith)))

-- fewer names
pub fewer_placed : {A B : Type 0} (n : ℕ) (es : List (List ℕ × B)) (places : List (Vec ℕ A × ℕ)) (m : ℕ) → ArePlaced n es places → ArePlaced n (take m es) places
fewer_placed n [] places zero h = tt
fewer_placed n [] places (suc m) h = tt
fewer_placed n (e ∷ es) places zero h = tt
fewer_placed n (e ∷ es) places (suc m) h = (h.0, fewer_placed (n + 1) es places m h.1)

-- ---- entries and names

pub entries-push : {A B : Type 0} (es : List (Vec ℕ A × B)) (k : Vec ℕ A) (v : B) → entries_of (es ++ (k, v) ∷ []) ≡ entries_of es ++ (k.items, v) ∷ []
entries-push [] k v = refl
entries-push (e ∷ es) k v = ap (λ r. (e.0.items, e.1) ∷ r) (entries-push es k v)

-- what an insertion makes of an order of names: `get` at the name, and at each other
pub has_more : {A : Type 0} (old new : List (Vec ℕ A × ℕ)) (key : Vec ℕ A) (name : List ℕ) (p : ℕ) → key.items ≡ name
    → placed_at new key.items ≡ Some p → ((q : Vec ℕ A) → is_eq (slice_cmp nat_cmp key.items q.items) ≡ false → placed_at new q.items ≡ placed_at old q.items) → HasMore A old new name p
has_more old new key name p same here others = record {
  here = ap (λ x. placed_at new x) (sym same) ∙ here;
  others = λ k other. others k (is_eq-slice_cmp key.items k.items ∙ ap (λ x. bytes_eq x k.items) same ∙ other);
}

pub as_many : {A B : Type 0} (es : List (Vec ℕ A × B)) → length (entries_of es) ≡ length es
as_many [] = refl
as_many (e ∷ es) = ap suc (as_many es)

-- after one more name
pub grown_placed : {A B : Type 0} (es : List (Vec ℕ A × B)) (key : Vec ℕ A) (v : B) (old new : List (Vec ℕ A × ℕ)) (name : List ℕ) → key.items ≡ name → HasMore A old new name (length es)
    → is_some (looked_up (entries_of es) name) ≡ false → ArePlaced 0 (entries_of es) old → ArePlaced 0 (entries_of (es ++ (key, v) ∷ [])) new
grown_placed es key v old new name same more none h =
    subst (λ x. ArePlaced 0 x new) (sym (entries-push es key v))
    (one_more_placed 0 (entries_of es) new key.items v (stay_placed 0 es old new name (length es) more none h)
    (ap (λ x. placed_at new x) same ∙ more.here ∙ ap Some (sym (as_many es) ∙ omega arith)))

pub declared-new : {V : Type 0} (es : List (List ℕ × V)) (name : List ℕ) (v : V) → is_some (looked_up es name) ≡ false → declared es name v ≡ es ++ (name, v) ∷ []
declared-new es name v e = ap (λ r. if r then es else es ++ (name, v) ∷ []) e

pub place_looked : {B : Type 0} (n : ℕ) (es : List (List ℕ × B)) (name : List ℕ) → is_some (place_of n es name) ≡ is_some (looked_up es name)
place_looked n [] name = refl
place_looked n (e ∷ es) name = by (place_looked (n + 1) es name) (bytes_eq name e.0)
  where
    by : is_some (place_of (n + 1) es name) ≡ is_some (looked_up es name) → (b : Bool) → is_some (if b then Some n else place_of (n + 1) es name) ≡ is_some (if b then Some e.1 else looked_up es name)
    by rest true = refl
    by rest false = rest

-- what stands beside a name whose place is known
pub value_found : {B : Type 0} (es : List (List ℕ × B)) (name : List ℕ) (p : ℕ) → place_of 0 es name ≡ Some p → value_at es p ≡ looked_up es name
value_found es name p h = (placed_first es name p h).1

-- whatever the entries become: as they were, or one more
pub as_before : {A B : Type 0} (es got : List (Vec ℕ A × B)) (places : List (Vec ℕ A × ℕ)) → got ≡ es → ArePlaced 0 (entries_of es) places → ArePlaced 0 (entries_of got) places
as_before es got places same h = subst (λ t. ArePlaced 0 (entries_of t) places) (sym same) h

pub unseen : {B : Type 0} (old new : List (List ℕ × B)) (name : List ℕ) (found : Bool) → old ≡ new → found ≡ is_some (looked_up new name) → found ≡ false → is_some (looked_up old name) ≡ false
unseen old new name found same is none = ap (λ t. is_some (looked_up t name)) same ∙ sym is ∙ none

-- the name of an entry of the list
pub entry_name : {A B : Type 0} (es : List (Vec ℕ A × B)) (k : ℕ) (e : Vec ℕ A × B) → k < length es → e ≡ get_or es k e → slice_get (names_of (entries_of es)) k ≡ Some e.0.items
entry_name {A} {B} es k e lt is =
    let named : List ℕ × B → List ℕ = λ e. e.0 in
    let shown : Vec ℕ A × B → List ℕ × B = λ e. (e.0.items, e.1) in
    slice_get-map named (map shown es) k ∙ ap (option_map named) (slice_get-map shown es k ∙ ap (option_map shown) (slice_get-get_or es k e lt ∙ ap Some (sym is)))
