-- What a field has that isn't a number is never named.
use Rattle.std.proofs.Common.{◌≡◌, ℕ, zero, suc, true, ◌||◌, List, [], ◌∷◌, ◌++◌, length, refl, sym, ap, ◌∙◌, subst, arith, is_some, inl, inr, Option, Some, None, slice_get}
use Rattle.std.proofs.lemmas.List.{length-append}
use Rattle.std.proofs.lemmas.Option.{none-some, same_Some}
use Rattle.std.proofs.lemmas.Bool.{or_cases, eqb-true, false≢true}
use Rattle.td_num.specs.Lists.{Each}
use Rattle.td_core.specs.Term.{Term, number, name, complement, negation, compute, compare, both, either, choice, range_okay, Deed, done, set, keep, fork, answer, give_up}
use Rattle.td_core.specs.declared.expressions.Scalar.TheVariants as scalar
use Rattle.td_lower_means.specs.Imports.{Element, Number, Listed, Named, Unit as UnitElement, Rest, Zeros, Extent, Once, Filling, OnceFilling, UpToZero, Given, Expression, FromCell, Left, Bits, Part, Field, TypeDef}
use Rattle.td_core.specs.Formed.{Bound, IsScoped, IsOptionScoped, IsDeedFormed, IsActionFormed, given, whole, part_bound, parts_scope, ArePartsFormed, AreArgsFormed, params_at, IsElementFormed, IsExtentFormed, AreFieldsFormed}
use Rattle.td_expr.specs.Naming.{names, deed_names}
use Rattle.td_meaning.specs.Naming.{some_name, in_option, part_names, parts_name, element_names, extent_names, field_names, fields_name, is_needed}

-- the value at a level can only be 0
pub record Hidden (scope : List Bound) (j : ℕ) : Type 0 where
  pub bound : Bound
  pub there : slice_get scope j ≡ Some bound
  pub none : bound.most ≡ 0

get_more : (xs ys : List Bound) (j : ℕ) (x : Bound) → slice_get xs j ≡ Some x → slice_get (xs ++ ys) j ≡ Some x
get_more [] ys j x h = absurd (none-some x h)
get_more (b ∷ xs) ys zero x h = h
get_more (b ∷ xs) ys (suc j) x h = get_more xs ys j x h

get_last : (xs : List Bound) (x : Bound) → slice_get (xs ++ x ∷ []) (length xs) ≡ Some x
get_last [] x = refl
get_last (b ∷ xs) x = get_last xs x

pub hidden_more : (scope more : List Bound) (j : ℕ) → Hidden scope j → Hidden (scope ++ more) j
hidden_more scope more j h = record { bound = h.bound; there = get_more scope more j h.bound h.there; none = h.none }

given_hidden : (scope : List Bound) (o : Option Bound) (j : ℕ) → Hidden scope j → Hidden (given scope o) j
given_hidden scope None j h = h
given_hidden scope (Some b) j h = hidden_more scope (b ∷ []) j h

names_hidden : (e : Term) (scope : List Bound) (j : ℕ) → Hidden scope j → IsScoped scope e → names j e ≡ true → ⊥
names_hidden (number n w) scope j h s m = false≢true m
names_hidden (name i w most) scope j h s m =
    let same : h.bound ≡ record { type = w; most = most } = same_Some h.bound (record { type = w; most = most }) (sym h.there ∙ ap (slice_get scope) (eqb-true j i m) ∙ s.0) in
    let zero : most ≡ 0 = sym (ap (λ b. b.most) same) ∙ h.none in
    absurd (omega (arith, zero, s.2))
names_hidden (complement a) scope j h s m = names_hidden a scope j h s m
names_hidden (negation a) scope j h s m = names_hidden a scope j h s m
names_hidden (compute op span a b) scope j h s m = elim (or_cases (names j a) (names j b) m) [ inl x ↦ names_hidden a scope j h s.0 x | inr x ↦ names_hidden b scope j h s.1 x ]
names_hidden (compare r a b) scope j h s m = elim (or_cases (names j a) (names j b) m) [ inl x ↦ names_hidden a scope j h s.0 x | inr x ↦ names_hidden b scope j h s.1 x ]
names_hidden (both a b) scope j h s m = elim (or_cases (names j a) (names j b) m) [ inl x ↦ names_hidden a scope j h s.0 x | inr x ↦ names_hidden b scope j h s.1 x ]
names_hidden (either a b) scope j h s m = elim (or_cases (names j a) (names j b) m) [ inl x ↦ names_hidden a scope j h s.0 x | inr x ↦ names_hidden b scope j h s.1 x ]
names_hidden (choice c a b) scope j h s m = elim (or_cases (names j c) (names j a || names j b) m) [
  | inl x ↦ names_hidden c scope j h s.0 x
  | inr x ↦ elim (or_cases (names j a) (names j b) x) [ inl y ↦ names_hidden a scope j h s.1.0 y | inr y ↦ names_hidden b scope j h s.1.1 y ]
]
names_hidden (range_okay c a b) scope j h s m = elim (or_cases (names j c) (names j a || names j b) m) [
  | inl x ↦ names_hidden c scope j h s.0 x
  | inr x ↦ elim (or_cases (names j a) (names j b) x) [ inl y ↦ names_hidden a scope j h s.1.0 y | inr y ↦ names_hidden b scope j h s.1.1 y ]
]

deed_hidden : (d : Deed) (cells scope : List Bound) (j : ℕ) → Hidden scope j → IsDeedFormed cells scope d → deed_names j d ≡ true → ⊥
deed_hidden done cells scope j h s m = false≢true m
deed_hidden (set cell e then) cells scope j h s m = elim (or_cases (names j e) (deed_names j then) m) [ inl x ↦ names_hidden e scope j h s.0 x | inr x ↦ deed_hidden then cells scope j h s.1.1 x ]
deed_hidden (keep cell then) cells scope j h s m = deed_hidden then cells (given scope (slice_get cells cell)) j (given_hidden scope (slice_get cells cell) j h) s.1 m
deed_hidden (fork e one other then) cells scope j h s m = elim (or_cases (names j e) (deed_names j one || (deed_names j other || deed_names j then)) m) [
  | inl x ↦ names_hidden e scope j h s.0 x
  | inr x ↦ elim (or_cases (deed_names j one) (deed_names j other || deed_names j then) x) [
    | inl y ↦ deed_hidden one cells scope j h s.1.0 y
    | inr y ↦ elim (or_cases (deed_names j other) (deed_names j then) y) [ inl z ↦ deed_hidden other cells scope j h s.1.1.0 z | inr z ↦ deed_hidden then cells scope j h s.1.1.1 z ]
  ]
]
deed_hidden (answer e) cells scope j h s m = names_hidden e scope j h s m
deed_hidden give_up cells scope j h s m = false≢true m

refinement_hidden : (o : Option Term) (scope : List Bound) (j : ℕ) → Hidden scope j → IsOptionScoped scope o → in_option (names j) o ≡ true → ⊥
refinement_hidden None scope j h s m = false≢true m
refinement_hidden (Some e) scope j h s m = names_hidden e scope j h s m

action_hidden : (o : Option Deed) (cells scope : List Bound) (j : ℕ) → Hidden scope j → IsActionFormed cells scope o → in_option (deed_names j) o ≡ true → ⊥
action_hidden None cells scope j h s m = false≢true m
action_hidden (Some d) cells scope j h s m = deed_hidden d cells (scope ++ whole scalar.ThirtyTwo ∷ []) j (hidden_more scope (whole scalar.ThirtyTwo ∷ []) j h) s m

parts_hidden : (element : Element) (extent : Extent) (ps : List Part) (cells scope : List Bound) (j : ℕ) → Hidden scope j → ArePartsFormed cells element extent scope ps → parts_name j ps ≡ true → ⊥
parts_hidden element extent [] cells scope j h s m = false≢true m
parts_hidden element extent (p ∷ ps) cells scope j h s m =
    let more = part_bound element extent p.bits ∷ [] in
    let g = hidden_more scope more j h in
    elim (or_cases (part_names j p) (parts_name j ps) m) [
      | inl x ↦ elim (or_cases (in_option (names j) p.refinement) (in_option (deed_names j) p.action) x) [
        | inl y ↦ refinement_hidden p.refinement (scope ++ more) j g s.0 y
        | inr y ↦ action_hidden p.action cells (scope ++ more) j g s.1.0 y
      ]
      | inr x ↦ parts_hidden element extent ps cells (scope ++ more) j g s.1.1 x
    ]

args_hidden : (params : List Bound) (es : List Term) (scope : List Bound) (j : ℕ) → Hidden scope j → AreArgsFormed scope params es → some_name j es ≡ true → ⊥
args_hidden params [] scope j h s m = false≢true m
args_hidden [] (e ∷ es) scope j h s m = s
args_hidden (b ∷ bs) (e ∷ es) scope j h s m = elim (or_cases (names j e) (some_name j es) m) [ inl x ↦ names_hidden e scope j h s.0 x | inr x ↦ args_hidden bs es scope j h s.1.1 x ]

element_hidden : (ds : List TypeDef) (n : ℕ) (element : Element) (cells scope : List Bound) (j : ℕ) → Hidden scope j → IsElementFormed ds n cells scope element → element_names j element ≡ true → ⊥
element_hidden ds n (Number type) cells scope j h s m = false≢true m
element_hidden ds n (Listed base v) cells scope j h s m = false≢true m
element_hidden ds n (Named d args own) cells scope j h s m = args_hidden (params_at (slice_get ds d)) args scope j h s.1.0 m
element_hidden ds n UnitElement cells scope j h s m = false≢true m
element_hidden ds n Rest cells scope j h s m = false≢true m
element_hidden ds n Zeros cells scope j h s m = false≢true m

extent_hidden : (element : Element) (extent : Extent) (cells scope : List Bound) (j : ℕ) → Hidden scope j → IsExtentFormed cells scope element extent → extent_names j extent ≡ true → ⊥
extent_hidden element Once cells scope j h s m = false≢true m
extent_hidden element (Filling size step) cells scope j h s m = names_hidden size scope j h s m
extent_hidden element (OnceFilling size step) cells scope j h s m = names_hidden size scope j h s m
extent_hidden element (UpToZero size) cells scope j h s m = names_hidden size scope j h s m
extent_hidden element (Given (Expression span e)) cells scope j h s m = names_hidden e scope j h s m
extent_hidden element (Given (FromCell cell)) cells scope j h s m = false≢true m
extent_hidden element (Given Left) cells scope j h s m = false≢true m

pub scope_hidden : (element : Element) (extent : Extent) (ps : List Part) (scope : List Bound) (j : ℕ) → Hidden scope j → Hidden (parts_scope element extent scope ps) j
scope_hidden element extent [] scope j h = h
scope_hidden element extent (p ∷ ps) scope j h =
    let more = part_bound element extent p.bits ∷ [] in scope_hidden element extent ps (scope ++ more) j (hidden_more scope more j h)

fields_hidden : (ds : List TypeDef) (n : ℕ) (fs : List Field) (cells scope : List Bound) (j : ℕ) → Hidden scope j → AreFieldsFormed ds n cells scope fs → fields_name j fs ≡ true → ⊥
fields_hidden ds n [] cells scope j h s m = false≢true m
fields_hidden ds n (f ∷ fs) cells scope j h s m = elim (or_cases (field_names j f) (fields_name j fs) m) [
  | inl x ↦ elim (or_cases (element_names j f.element) (extent_names j f.extent || parts_name j f.parts) x) [
    | inl y ↦ element_hidden ds n f.element cells scope j h s.0 y
    | inr y ↦ elim (or_cases (extent_names j f.extent) (parts_name j f.parts) y) [
      | inl z ↦ extent_hidden f.element f.extent cells scope j h s.1.0 z
      | inr z ↦ parts_hidden f.element f.extent f.parts cells scope j h s.1.1.0 z
    ]
  ]
  | inr x ↦ fields_hidden ds n fs cells (parts_scope f.element f.extent scope f.parts) j (scope_hidden f.element f.extent f.parts scope j h) s.1.1.1 x
]

-- parts that aren't numbers, and aren't refined, need no number
pub unneeded : (ds : List TypeDef) (n : ℕ) (element : Element) (extent : Extent) → ((b : Option Bits) → (part_bound element extent b).most ≡ 0)
    → (ps : List Part) (later : List Field) (cells scope : List Bound) (L : ℕ) → length scope ≡ L → Each (λ p. p.refinement ≡ None) ps → ArePartsFormed cells element extent scope ps
    → AreFieldsFormed ds n cells (parts_scope element extent scope ps) later → is_needed L ps later ≡ true → ⊥
unneeded ds n element extent nought [] later cells scope L le r s l m = false≢true m
unneeded ds n element extent nought (p ∷ ps) later cells scope L le r s l m =
    let more = part_bound element extent p.bits ∷ [] in
    let here : Hidden (scope ++ more) L = record {
      bound = part_bound element extent p.bits;
      there = subst (λ j. slice_get (scope ++ more) j ≡ Some (part_bound element extent p.bits)) le (get_last scope (part_bound element extent p.bits));
      none = nought p.bits;
    } in
    let count : length (scope ++ more) ≡ suc L = length-append scope more ∙ omega (arith, le) in
    let rest = parts_name L ps || (fields_name L later || is_needed (suc L) ps later) in
    elim (or_cases (is_some p.refinement) (in_option (deed_names L) p.action || rest) m) [
      | inl x ↦ false≢true (sym (ap is_some r.0) ∙ x)
      | inr x ↦ elim (or_cases (in_option (deed_names L) p.action) rest x) [
        | inl y ↦ action_hidden p.action cells (scope ++ more) L here s.1.0 y
        | inr y ↦ elim (or_cases (parts_name L ps) (fields_name L later || is_needed (suc L) ps later) y) [
          | inl z ↦ parts_hidden element extent ps cells (scope ++ more) L here s.1.1 z
          | inr z ↦ elim (or_cases (fields_name L later) (is_needed (suc L) ps later) z) [
            | inl w ↦ fields_hidden ds n later cells (parts_scope element extent (scope ++ more) ps) L (scope_hidden element extent ps (scope ++ more) L here) l w
            | inr w ↦ unneeded ds n element extent nought ps later cells (scope ++ more) (suc L) count r.1 s.1.1 l w
          ]
        ]
      ]
    ]
