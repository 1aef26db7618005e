-- Names are the names of a table. Cited by other crates.
use Rattle.std.proofs.Common.{◌≡◌, ℕ, suc, ◌+◌, ◌≤◌, Bool, true, false, cond, not, List, [], ◌∷◌, ◌++◌, ◌||◌, length, Some, None, is_some, if◌then◌else◌, refl, ap, ◌∙◌, arith, ◌<◌}
use Rattle.std.specs.Prelude.{OnOk}
use Rattle.std.specs.Str.{bytes_eq}
use Rattle.std.specs.declared.result.Result.{Result}
use Rattle.std.specs.declared.result.Result.TheVariants.{Ok, Err}
use Rattle.std.proofs.lemmas.List.Sums.{prefix_len-le-length}
use Rattle.td_names.specs.Names.{is_seen, with_name, number_of, looked_up, declared}
use Rattle.td_names.specs.Places.{place_of, names_of}

pub seen_names : {A : Type 0} (es : List (List ℕ × A)) (name : List ℕ) → is_some (looked_up es name) ≡ is_seen (names_of es) name
seen_names [] name = refl
seen_names (e ∷ es) name = by (seen_names es name) (bytes_eq name e.0)
  where
    by : is_some (looked_up es name) ≡ is_seen (names_of es) name → (b : Bool) → is_some (if b then Some e.1 else looked_up es name) ≡ (b || is_seen (names_of es) name)
    by rest true = refl
    by rest false = rest

names-push : {A : Type 0} (es : List (List ℕ × A)) (name : List ℕ) (a : A) → names_of (es ++ (name, a) ∷ []) ≡ names_of es ++ name ∷ []
names-push [] name a = refl
names-push (e ∷ es) name a = ap (λ r. e.0 ∷ r) (names-push es name a)

pub declared_names : {A : Type 0} (es : List (List ℕ × A)) (name : List ℕ) (a : A) → names_of (declared es name a) ≡ with_name (names_of es) name
declared_names es name a = by (is_some (looked_up es name)) ∙ ap (λ b. if b then names_of es else names_of es ++ name ∷ []) (seen_names es name)
  where
    by : (b : Bool) → names_of (if b then es else es ++ (name, a) ∷ []) ≡ (if b then names_of es else names_of es ++ name ∷ [])
    by true = refl
    by false = names-push es name a

pub as_many_names : {A : Type 0} (es : List (List ℕ × A)) → length (names_of es) ≡ length es
as_many_names [] = refl
as_many_names (e ∷ es) = ap suc (as_many_names es)

pub number_placed : {A : Type 0} (n : ℕ) (es : List (List ℕ × A)) (name : List ℕ) (j : ℕ) → place_of n es name ≡ Some j → j ≡ n + number_of (names_of es) name
number_placed n [] name j h = cc
number_placed n (e ∷ es) name j h = by (number_placed (n + 1) es name j) (bytes_eq name e.0) h
  where
    by : (place_of (n + 1) es name ≡ Some j → j ≡ n + 1 + number_of (names_of es) name) → (b : Bool) → (if b then Some n else place_of (n + 1) es name) ≡ Some j → j ≡ n + cond (not b) (1 + number_of (names_of es) name) 0
    by rest true f = let is : j ≡ n = cc in omega (arith, is)
    by rest false f = let is = rest f in omega (arith, is)

pub number_first : {A : Type 0} (es : List (List ℕ × A)) (name : List ℕ) (j : ℕ) → place_of 0 es name ≡ Some j → j ≡ number_of (names_of es) name
number_first es name j h = (let is = number_placed 0 es name j h in omega (arith, is))

pub number_nowhere : {A : Type 0} (n : ℕ) (es : List (List ℕ × A)) (name : List ℕ) → place_of n es name ≡ None → number_of (names_of es) name ≡ length es
number_nowhere n [] name h = refl
number_nowhere n (e ∷ es) name h = by (number_nowhere (n + 1) es name) (bytes_eq name e.0) h
  where
    by : (place_of (n + 1) es name ≡ None → number_of (names_of es) name ≡ length es) → (b : Bool) → (if b then Some n else place_of (n + 1) es name) ≡ None → cond (not b) (1 + number_of (names_of es) name) 0 ≡ suc (length es)
    by rest true f = cc
    by rest false f = let is = rest f in omega (arith, is)

pub number_within : {A : Type 0} (es : List (List ℕ × A)) (name : List ℕ) → number_of (names_of es) name ≤ length es
number_within es name = (let within = prefix_len-le-length (λ k. not (bytes_eq name k)) (names_of es) in let many = as_many_names es in omega (arith, within, many))

-- a name that was seen has a place
pub number_below : (names : List (List ℕ)) (name : List ℕ) → is_seen names name ≡ true → number_of names name < length names
number_below [] name seen = cc
number_below (x ∷ names) name seen = by (number_below names name) (bytes_eq name x) seen
  where
    by : (is_seen names name ≡ true → number_of names name < length names) → (b : Bool) → (b || is_seen names name) ≡ true → cond (not b) (1 + number_of names name) 0 < length (x ∷ names)
    by later true e = omega arith
    by later false e = let below = later e in omega arith

pub on_ok : {T E P Q : Type 0} (r : Result T E) → (P → Q) → OnOk r P → OnOk r Q
on_ok (Ok x) f h = f h
on_ok (Err e) f h = tt
