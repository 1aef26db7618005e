-- The definitions of a checked module have their places in registers.
use Rattle.std.proofs.Common.{◌≡◌, ℕ, suc, ◌+◌, ◌≤◌, Bool, true, false, List, [], ◌∷◌, ◌++◌, length, refl, sym, ap, ◌∙◌, subst, arith, max, slice_index_or, Option, Some, None, slice_get}
use Rattle.std.proofs.Math.Nat.{le-max_left}
use Rattle.std.proofs.lemmas.List.{length-append}
use Rattle.std.proofs.lemmas.Option.{slice_get-get_or}
use Rattle.td_lower_means.specs.Imports.{NumberType, Element, Number, Listed, Named, Unit as UnitElement, Rest, Zeros, Extent, Once, Filling, OnceFilling, UpToZero, Given, Source, Expression, FromCell, Left, Bits, Param, CopyOut, Part, Field, Case, Body, Struct, Casetype, TypeDef}
use Rattle.td_num.specs.Lists.{Each}
use Rattle.td_core.specs.Term.{Term, Deed, done, set, keep, fork, answer, give_up}
use Rattle.td_core.specs.declared.expressions.Scalar.TheVariants as scalar
use Rattle.td_core.specs.declared.kind.Kind.{Kind}
use Rattle.td_core.specs.Formed.{Bound, IsScoped, IsOptionScoped, IsDeedFormed, IsActionFormed, given, whole, param_bounds, own_bounds, part_bound, parts_scope, ArePartsFormed, AreArgsFormed, params_at, IsElementFormed, IsExtentFormed, AreFieldsFormed, AreCasesFormed, IsDefaultFormed, IsBodyFormed}
use Rattle.td_core.specs.WellFormed.{OfSome, EachField, IsSorted, IsDeedSorted, IsElementSorted, IsExtentSorted, IsPartSorted, IsFieldSorted, IsSwitchSorted, IsDefinitionSorted, AreBitsOf, AreParts, AreFieldParts, IsRefinable, IsOfNumbers, IsFieldWhole}
use Rattle.td_expr.specs.Same.{constant_of}
use Rattle.td_meaning.specs.Naming.{is_needed}
use Rattle.td_kinds.specs.KindRules.{field_faults, fields_faults, cases_faults, default_faults, body_faults, kinds_of, is_empty}
use Rattle.td_kinds.specs.declared.error.KindFault.{KindFault}
use Rattle.td_kinds.proofs.Faultless.{faults_at}
use Rattle.td_core.specs.Sizes.{HasSteps, IsFieldStepped}
use Rattle.td_lower_blocks.specs.Lowered.{terms_of, is_read}
use Rattle.td_lower_blocks.specs.Placed.{DeedPlaced, OptionExpr, OptionDeed, PartsPlaced, HasBits, AllBits, AloneFrom, Alone, ArgsPlaced, ElementPlaced, SizePlaced, ElementsPlaced, OnePlaced, IsNumber, SourcePlaced, ShapePlaced, CopyPlaced, FieldsPlaced, DefaultPlaced, CasesPlaced, BodyPlaced, count_of, params_of}
use Rattle.td_lower_blocks.specs.Tops.{deed_levels, action_levels, parts_levels, fields_levels, default_levels, cases_levels, body_levels, term_top, terms_top, test_top, deed_top, action_top, parts_top, shape_top, content_top, fields_top, default_top, cases_top, body_top}
use Rattle.td_lower_means.specs.Ready.{DefinitionsArePlaced}
use Rattle.td_lower_means.proofs.Registers.{under_left, under_right, is_expr}
use Rattle.td_lower_means.proofs.Hiding.{unneeded}
use Rattle.td_num.proofs.Lists.{left_none as no_left, right_none as no_right}
use Rattle.td_meaning.proofs.Named.{each_at}

more_count : (scope : List Bound) (b : Bound) (L : ℕ) → length scope ≡ L → length (scope ++ b ∷ []) ≡ suc L
more_count scope b L le = length-append scope (b ∷ []) ∙ omega (arith, le)

-- Actions

deed_above : (d : Deed) (level : ℕ) → level ≤ deed_levels level d
deed_above done level = omega arith
deed_above (set cell e then) level = deed_above then level
deed_above (keep cell then) level = let h = deed_above then (suc level) in omega (arith, h)
deed_above (fork e one other then) level =
    let h = deed_above one level in
    let l = le-max_left (deed_levels level one) (max (deed_levels level other) (deed_levels level then)) in
    omega (arith, h, l)
deed_above (answer e) level = omega arith
deed_above give_up level = omega arith

deed_placed : (cells scope : List Bound) (d : Deed) (L t D R : ℕ) → length scope ≡ L → IsDeedFormed cells scope d → IsDeedSorted d → deed_levels L d ≤ D → deed_top L t d ≤ R → DeedPlaced R D L t d
deed_placed cells scope done L t D R le s b h k = tt
deed_placed cells scope (set cell e then) L t D R le s b h k =
    (is_expr scope e false L t R le s.0 b.0 (under_left (term_top t e) (deed_top L t then) R k), deed_placed cells scope then L t D R le s.1.1 b.1 h (under_right (term_top t e) (deed_top L t then) R k))
deed_placed cells scope (keep cell then) L t D R le s b h k =
    let none : Bound = whole scalar.Eight in
    let v = slice_index_or cells cell none in
    let there : slice_get cells cell ≡ Some v = slice_get-get_or cells cell none s.0 in
    let above = deed_above then (suc L) in
    let l = under_left (L + 1) (deed_top (suc L) t then) R k in (
      omega (arith, h, above),
      (
        omega (arith, l),
        deed_placed cells (scope ++ v ∷ []) then (suc L) t D R (more_count scope v L le) (subst (λ o. IsDeedFormed cells (given scope o) then) there s.1) b h (under_right (L + 1) (deed_top (suc L) t then) R k),
      ),
    )
deed_placed cells scope (fork e one other then) L t D R le s b h k =
    let a = deed_levels L one in let o = deed_levels L other in let z = deed_levels L then in
    let ta = deed_top L (t + 1) one in let to = deed_top L (t + 1) other in let tz = deed_top L t then in
    let h2 = under_right a (max o z) D h in
    let k2 = under_right (term_top t e) (max ta (max to tz)) R k in
    let k3 = under_right ta (max to tz) R k2 in (
      is_expr scope e true L t R le s.0 b.0 (under_left (term_top t e) (max ta (max to tz)) R k),
      (
        deed_placed cells scope one L (t + 1) D R le s.1.0 b.1.0 (under_left a (max o z) D h) (under_left ta (max to tz) R k2),
        (
          deed_placed cells scope other L (t + 1) D R le s.1.1.0 b.1.1.0 (under_left o z D h2) (under_left to tz R k3),
          deed_placed cells scope then L t D R le s.1.1.1 b.1.1.1 (under_right o z D h2) (under_right to tz R k3),
        ),
      ),
    )
deed_placed cells scope (answer e) L t D R le s b h k = is_expr scope e true L t R le s b k
deed_placed cells scope give_up L t D R le s b h k = tt

test_placed : (scope : List Bound) (o : Option Term) (L t R : ℕ) → length scope ≡ L → IsOptionScoped scope o → OfSome (IsSorted true) o → test_top t o ≤ R → OptionExpr R L t o
test_placed scope None L t R le s b h = tt
test_placed scope (Some e) L t R le s b h = is_expr scope e true L t R le s b h

action_above : (o : Option Deed) (level : ℕ) → level ≤ action_levels level o
action_above None level = omega arith
action_above (Some d) level = let h = deed_above d (suc level) in omega (arith, h)

action_placed : (cells scope : List Bound) (o : Option Deed) (L t D R : ℕ) → length scope ≡ L → IsActionFormed cells scope o → OfSome IsDeedSorted o → action_levels L o ≤ D → action_top L t o ≤ R → OptionDeed R D L t o
action_placed cells scope None L t D R le s b h k = tt
action_placed cells scope (Some d) L t D R le s b h k =
    let above = deed_above d (suc L) in
    let l = under_left (L + 1) (deed_top (suc L) t d) R k in (
      omega (arith, h, above),
      (
        omega (arith, l),
        deed_placed cells (scope ++ whole scalar.ThirtyTwo ∷ []) d (suc L) t D R (more_count scope (whole scalar.ThirtyTwo) L le) s b h (under_right (L + 1) (deed_top (suc L) t d) R k),
      ),
    )

-- Parts

parts_above : (ps : List Part) (level : ℕ) → level ≤ parts_levels level ps
parts_above [] level = omega arith
parts_above (p ∷ ps) level =
    let h = action_above p.action (suc level) in
    let l = le-max_left (action_levels (suc level) p.action) (parts_levels (suc level) ps) in
    omega (arith, h, l)

parts_placed : (cells : List Bound) (element : Element) (extent : Extent) (ps : List Part) (scope : List Bound) (L t D R : ℕ) → length scope ≡ L → ArePartsFormed cells element extent scope ps → Each IsPartSorted ps
    → parts_levels L ps ≤ D → parts_top L t ps ≤ R → PartsPlaced R D L t ps
parts_placed cells element extent [] scope L t D R le s b h k = tt
parts_placed cells element extent (p ∷ ps) scope L t D R le s b h k =
    let bound = part_bound element extent p.bits in
    let scope2 = scope ++ bound ∷ [] in
    let le2 = more_count scope bound L le in
    let a = action_levels (suc L) p.action in
    let tt2 = test_top (suc t) p.refinement in
    let ta = action_top (suc L) (suc t) p.action in
    let tp = parts_top (suc L) t ps in
    let h1 = under_left a (parts_levels (suc L) ps) D h in
    let above = action_above p.action (suc L) in
    let l = under_left (L + 1) (max tt2 (max ta tp)) R k in
    let k1 = under_right (L + 1) (max tt2 (max ta tp)) R k in
    let k2 = under_right tt2 (max ta tp) R k1 in (
      (omega (arith, h1, above), omega (arith, l)),
      (
        test_placed scope2 p.refinement (suc L) (suc t) R le2 s.0 b.0.0 (under_left tt2 (max ta tp) R k1),
        (
          action_placed cells scope2 p.action (suc L) (suc t) D R le2 s.1.0 b.0.1 h1 (under_left ta tp R k2),
          parts_placed cells element extent ps scope2 (suc L) t D R le2 s.1.1 b.1 (under_right a (parts_levels (suc L) ps) D h) (under_right ta tp R k2),
        ),
      ),
    )

scope_count : (element : Element) (extent : Extent) (ps : List Part) (scope : List Bound) (L : ℕ) → length scope ≡ L → length (parts_scope element extent scope ps) ≡ length ps + L
scope_count element extent [] scope L le = le ∙ omega arith
scope_count element extent (p ∷ ps) scope L le =
    let bound = part_bound element extent p.bits in
    scope_count element extent ps (scope ++ bound ∷ []) (suc L) (more_count scope bound L le) ∙ omega arith

-- What stands in a field

args_placed : (params : List Bound) (es : List Term) (scope : List Bound) (L u R : ℕ) → length scope ≡ L → AreArgsFormed scope params es → Each (IsSorted false) es → terms_top u es ≤ R → ArgsPlaced R L u es
args_placed params [] scope L u R le s b h = tt
args_placed [] (e ∷ es) scope L u R le s b h = absurd s
args_placed (p ∷ ps) (e ∷ es) scope L u R le s b h =
    (is_expr scope e false L u R le s.0 b.0 (under_left (term_top u e) (terms_top (u + 1) es) R h), args_placed ps es scope L (u + 1) R le s.1.1 b.1 (under_right (term_top u e) (terms_top (u + 1) es) R h))

args_count : (params : List Bound) (es : List Term) (scope : List Bound) → AreArgsFormed scope params es → length params ≡ length es
args_count [] [] scope s = refl
args_count [] (e ∷ es) scope s = absurd s
args_count (p ∷ ps) [] scope s = absurd s
args_count (p ∷ ps) (e ∷ es) scope s = ap suc (args_count ps es scope s.1.1)

params_length : (params : List Param) → length params ≡ length (param_bounds params)
params_length [] = refl
params_length (p ∷ ps) = ap suc (params_length ps)

params_count : (o : Option TypeDef) → count_of o ≡ length (params_at o)
params_count None = refl
params_count (Some d) = params_length d.params

-- K1

module _ (ds : List TypeDef) (n count : ℕ) (kinds : ℕ → Kind) (cells : List Bound) (D R t : ℕ) where
  element_placed : (element : Element) (scope : List Bound) (L : ℕ) → length scope ≡ L → IsElementFormed ds n cells scope element → IsElementSorted element → t + 2 ≤ R → terms_top (suc t) (terms_of element) ≤ R
      → ElementPlaced n (params_of ds) R L (suc t) element
  element_placed (Number type) scope L le s b r h = tt
  element_placed (Listed base v) scope L le s b r h = omega (arith, r)
  element_placed (Named d args own) scope L le s b r h =
      (s.0, (params_count (slice_get ds d) ∙ args_count (params_at (slice_get ds d)) args scope s.1.0, args_placed (params_at (slice_get ds d)) args scope L (suc t) R le s.1.0 b h))
  element_placed UnitElement scope L le s b r h = tt
  element_placed Rest scope L le s b r h = tt
  element_placed Zeros scope L le s b r h = tt

  elements_placed : (f : Field) (size : Term) (step : Option ℕ) (last : Bool) (element : Element) (scope : List Bound) (L : ℕ) → length scope ≡ L → IsElementFormed ds n cells scope element → IsElementSorted element → terms_top (suc t) (terms_of element) ≤ R
      → field_faults kinds (record { element = element; extent = Filling size step; copy = f.copy; parts = f.parts; place = f.place }) last ≡ [] → ElementsPlaced n (params_of ds) R L t element
  elements_placed f size step last (Number type) scope L le s b h k = tt
  elements_placed f size step last (Listed base v) scope L le s b h k = tt
  elements_placed f size step last (Named d args own) scope L le s b h k =
      (s.0, (params_count (slice_get ds d) ∙ args_count (params_at (slice_get ds d)) args scope s.1.0, args_placed (params_at (slice_get ds d)) args scope L (suc t) R le s.1.0 b h))
  elements_placed f size step last UnitElement scope L le s b h k = absurd (fault k)
    where
      fault : {x : KindFault} {zs : List KindFault} → x ∷ zs ≡ [] → ⊥
      fault h = let e : 1 ≤ 0 = subst (λ n. 1 ≤ n) (ap length h) (omega arith) in omega (arith, e)
  elements_placed f size step last Rest scope L le s b h k = absurd (fault k)
    where
      fault : {x : KindFault} {zs : List KindFault} → x ∷ zs ≡ [] → ⊥
      fault h = let e : 1 ≤ 0 = subst (λ n. 1 ≤ n) (ap length h) (omega arith) in omega (arith, e)
  elements_placed f size step last Zeros scope L le s b h k = absurd (fault k)
    where
      fault : {x : KindFault} {zs : List KindFault} → x ∷ zs ≡ [] → ⊥
      fault h = let e : 1 ≤ 0 = subst (λ n. 1 ≤ n) (ap length h) (omega arith) in omega (arith, e)

  one_placed : (element : Element) (scope : List Bound) (L : ℕ) → length scope ≡ L → IsElementFormed ds n cells scope element → IsElementSorted element → terms_top (suc t) (terms_of element) ≤ R → OnePlaced n (params_of ds) R L t element
  one_placed (Number type) scope L le s b h = tt
  one_placed (Listed base v) scope L le s b h = tt
  one_placed (Named d args own) scope L le s b h =
      (s.0, (params_count (slice_get ds d) ∙ args_count (params_at (slice_get ds d)) args scope s.1.0, args_placed (params_at (slice_get ds d)) args scope L (suc t) R le s.1.0 b h))
  one_placed UnitElement scope L le s b h = tt
  one_placed Rest scope L le s b h = tt
  one_placed Zeros scope L le s b h = tt

  size_placed : (size : Term) (scope : List Bound) (L u : ℕ) (o : Option ℕ) → length scope ≡ L → IsScoped scope size → IsSorted false size → term_top u size ≤ R → SizePlaced R L u size o
  size_placed size scope L u None le s b h = is_expr scope size false L u R le s b h
  size_placed size scope L u (Some m) le s b h = tt

  number_ended : (element : Element) (size : Term) → IsOfNumbers element (UpToZero size) → IsNumber element
  number_ended (Number type) size h = tt
  number_ended (Listed base v) size h = absurd h
  number_ended (Named d args own) size h = absurd h
  number_ended UnitElement size h = absurd h
  number_ended Rest size h = absurd h
  number_ended Zeros size h = absurd h

  source_placed : (element : Element) (source : Source) (scope : List Bound) (L : ℕ) → length scope ≡ L → IsExtentFormed cells scope element (Given source) → IsExtentSorted (Given source)
      → shape_top t element (Given source) ≤ R → SourcePlaced R L (suc t) source
  source_placed element (Expression span e) scope L le x y h = is_expr scope e false L (suc t) R le x y h
  source_placed element (FromCell cell) scope L le x y h = tt
  source_placed element Left scope L le x y h = tt

  shape_placed : (element : Element) (extent : Extent) (f : Field) (last : Bool) (scope : List Bound) (L : ℕ) → length scope ≡ L → IsElementFormed ds n cells scope element → IsExtentFormed cells scope element extent → IsElementSorted element → IsExtentSorted extent
      → HasSteps element extent → IsOfNumbers element extent → field_faults kinds (record { element = element; extent = extent; copy = f.copy; parts = f.parts; place = f.place }) last ≡ [] → shape_top t element extent ≤ R
      → ShapePlaced n (params_of ds) R L t element extent
  shape_placed element Once f last scope L le s x b y w z k h =
      element_placed element scope L le s b (under_left (t + 2) (terms_top (suc t) (terms_of element)) R h) (under_right (t + 2) (terms_top (suc t) (terms_of element)) R h)
  shape_placed element (Filling size step) f last scope L le s x b y w z k h =
      let u = suc t + length (terms_of element) in
      let rest = max (u + 3) (term_top u size) in
      let h1 = under_left (terms_top (suc t) (terms_of element)) rest R h in
      let h2 = under_right (terms_top (suc t) (terms_of element)) rest R h in
      let room = under_left (u + 3) (term_top u size) R h2 in
      (omega (arith, room), (size_placed size scope L u (constant_of size) le x y (under_right (u + 3) (term_top u size) R h2), (elements_placed f size step last element scope L le s b h1 k, w)))
  shape_placed element (OnceFilling size step) f last scope L le s x b y w z k h =
      let u = suc t + length (terms_of element) in
      let rest = max (u + 3) (term_top u size) in
      let h1 = under_left (terms_top (suc t) (terms_of element)) rest R h in
      let h2 = under_right (terms_top (suc t) (terms_of element)) rest R h in
      let room = under_left (u + 3) (term_top u size) R h2 in
      (omega (arith, room), (size_placed size scope L u (constant_of size) le x y (under_right (u + 3) (term_top u size) R h2), (one_placed element scope L le s b h1, w)))
  shape_placed element (UpToZero size) f last scope L le s x b y w z k h = (is_expr scope size false L (suc t) R le x y h, number_ended element size z)
  shape_placed element (Given source) f last scope L le s x b y w z k h = source_placed element source scope L le x y h

  shape_under : (element : Element) (extent : Extent) (copy : Option CopyOut) → content_top t element extent copy ≤ R → shape_top t element extent ≤ R
  shape_under element extent None h = h
  shape_under element Once (Some c) h = h
  shape_under element (Filling size step) (Some c) h = under_left (shape_top t element (Filling size step)) (term_top (suc t) size) R h
  shape_under element (OnceFilling size step) (Some c) h = h
  shape_under element (UpToZero size) (Some c) h = h
  shape_under element (Given source) (Some c) h = h

  copy_placed : (element : Element) (extent : Extent) (copy : Option CopyOut) (scope : List Bound) (L : ℕ) → length scope ≡ L → IsExtentFormed cells scope element extent → IsExtentSorted extent
      → content_top t element extent copy ≤ R → CopyPlaced R L t extent copy
  copy_placed element extent None scope L le x y h = tt
  copy_placed element Once (Some c) scope L le x y h = tt
  copy_placed element (Filling size step) (Some c) scope L le x y h =
      is_expr scope size false L (suc t) R le x y (under_right (shape_top t element (Filling size step)) (term_top (suc t) size) R h)
  copy_placed element (OnceFilling size step) (Some c) scope L le x y h = tt
  copy_placed element (UpToZero size) (Some c) scope L le x y h = tt
  copy_placed element (Given source) (Some c) scope L le x y h = tt

  -- Parts of a field

  all_bits : (type : NumberType) (ps : List Part) → Each (λ p. AreBitsOf type p.bits) ps → AllBits ps
  all_bits type [] h = tt
  all_bits type (p ∷ ps) h = (has_bits p.bits h.0, all_bits type ps h.1)
    where
      has_bits : (b : Option Bits) → AreBitsOf type b → HasBits b
      has_bits None h = absurd h
      has_bits (Some b) h = tt

  single : (ps : List Part) → ps ≡ [] → AloneFrom None ps
  single [] e = tt
  single (p ∷ ps) e = absurd (let c : 1 ≤ 0 = subst (λ n. 1 ≤ n) (ap length e) (omega arith) in omega (arith, c))

  alone_from : (element : Element) (extent : Extent) (b : Option Bits) (ps : List Part) → AreParts element extent b ps → AloneFrom b ps
  alone_from (Number type) Once (Some b) ps h = all_bits type ps h.1
  alone_from (Number type) Once None ps h = single ps h
  alone_from (Number type) (Filling size step) None ps h = single ps h
  alone_from (Number type) (Filling size step) (Some b) ps h = absurd h
  alone_from (Number type) (OnceFilling size step) None ps h = single ps h
  alone_from (Number type) (OnceFilling size step) (Some b) ps h = absurd h
  alone_from (Number type) (UpToZero size) None ps h = single ps h
  alone_from (Number type) (UpToZero size) (Some b) ps h = absurd h
  alone_from (Number type) (Given source) None ps h = single ps h
  alone_from (Number type) (Given source) (Some b) ps h = absurd h
  alone_from (Listed base v) extent None ps h = single ps h
  alone_from (Listed base v) extent (Some b) ps h = absurd h
  alone_from (Named d args own) extent None ps h = single ps h
  alone_from (Named d args own) extent (Some b) ps h = absurd h
  alone_from UnitElement extent None ps h = single ps h
  alone_from UnitElement extent (Some b) ps h = absurd h
  alone_from Rest extent None ps h = single ps h
  alone_from Rest extent (Some b) ps h = absurd h
  alone_from Zeros extent None ps h = single ps h
  alone_from Zeros extent (Some b) ps h = absurd h

  alone : (element : Element) (extent : Extent) (ps : List Part) → AreFieldParts element extent ps → Alone ps
  alone element extent [] h = tt
  alone element extent (p ∷ ps) h = alone_from element extent p.bits ps h

  -- a number that is needed is read
  read_enough : (element : Element) (extent : Extent) (ps : List Part) (later : List Field) (scope : List Bound) (L : ℕ) → length scope ≡ L → Each (IsRefinable element extent) ps → ArePartsFormed cells element extent scope ps
      → AreFieldsFormed ds n cells (parts_scope element extent scope ps) later → is_needed L ps later ≡ true → is_read element extent (is_needed L ps later) ≡ true
  read_enough (Number type) Once ps later scope L le r s l m = m
  read_enough (Number type) (Filling size step) ps later scope L le r s l m = absurd (unneeded ds n (Number type) (Filling size step) (λ b. refl) ps later cells scope L le r s l m)
  read_enough (Number type) (OnceFilling size step) ps later scope L le r s l m = absurd (unneeded ds n (Number type) (OnceFilling size step) (λ b. refl) ps later cells scope L le r s l m)
  read_enough (Number type) (UpToZero size) ps later scope L le r s l m = absurd (unneeded ds n (Number type) (UpToZero size) (λ b. refl) ps later cells scope L le r s l m)
  read_enough (Number type) (Given source) ps later scope L le r s l m = refl
  read_enough (Listed base v) Once ps later scope L le r s l m = refl
  read_enough (Listed base v) (Filling size step) ps later scope L le r s l m = absurd (unneeded ds n (Listed base v) (Filling size step) (λ b. refl) ps later cells scope L le r s l m)
  read_enough (Listed base v) (OnceFilling size step) ps later scope L le r s l m = absurd (unneeded ds n (Listed base v) (OnceFilling size step) (λ b. refl) ps later cells scope L le r s l m)
  read_enough (Listed base v) (UpToZero size) ps later scope L le r s l m = absurd (unneeded ds n (Listed base v) (UpToZero size) (λ b. refl) ps later cells scope L le r s l m)
  read_enough (Listed base v) (Given source) ps later scope L le r s l m = absurd (unneeded ds n (Listed base v) (Given source) (λ b. refl) ps later cells scope L le r s l m)
  read_enough (Named d args own) extent ps later scope L le r s l m = absurd (unneeded ds n (Named d args own) extent (λ b. refl) ps later cells scope L le r s l m)
  read_enough UnitElement extent ps later scope L le r s l m = absurd (unneeded ds n UnitElement extent (λ b. refl) ps later cells scope L le r s l m)
  read_enough Rest extent ps later scope L le r s l m = absurd (unneeded ds n Rest extent (λ b. refl) ps later cells scope L le r s l m)
  read_enough Zeros extent ps later scope L le r s l m = absurd (unneeded ds n Zeros extent (λ b. refl) ps later cells scope L le r s l m)

  -- Fields

  fields_placed : (fs : List Field) (scope : List Bound) (L : ℕ) → length scope ≡ L → AreFieldsFormed ds n cells scope fs → Each IsFieldSorted fs → Each (IsFieldWhole count) fs → Each IsFieldStepped fs
      → fields_faults kinds fs ≡ [] → fields_levels L fs ≤ D → fields_top L t fs ≤ R → FieldsPlaced n (params_of ds) R D L t fs
  fields_placed [] scope L le s b w y k h g = tt
  fields_placed (f ∷ fs) scope L le s b w y k h g =
      let after = length f.parts + L in
      let scope2 = parts_scope f.element f.extent scope f.parts in
      let k1 = no_left (field_faults kinds f (is_empty fs)) (fields_faults kinds fs) k in
      let k2 = no_right (field_faults kinds f (is_empty fs)) (fields_faults kinds fs) k in
      let h1 = under_left (parts_levels L f.parts) (fields_levels after fs) D h in
      let h2 = under_right (parts_levels L f.parts) (fields_levels after fs) D h in
      let rest = max (parts_top L t f.parts) (fields_top after t fs) in
      let g1 = under_left (content_top t f.element f.extent f.copy) rest R g in
      let g2 = under_right (content_top t f.element f.extent f.copy) rest R g in
      let above = parts_above f.parts L in (
        omega (arith, h1, above),
        (
          (
            shape_placed f.element f.extent f (is_empty fs) scope L le s.0 s.1.0 b.0.0 b.0.1.0 y.0 w.0.numbers k1 (shape_under f.element f.extent f.copy g1),
            copy_placed f.element f.extent f.copy scope L le s.1.0 b.0.1.0 g1,
          ),
          (
            parts_placed cells f.element f.extent f.parts scope L t D R le s.1.1.0 b.0.1.1 h1 (under_left (parts_top L t f.parts) (fields_top after t fs) R g2),
            (
              alone f.element f.extent f.parts w.0.parts,
              (
                (λ m. read_enough f.element f.extent f.parts fs scope L le w.0.refined s.1.1.0 s.1.1.1 m),
                fields_placed fs scope2 after (scope_count f.element f.extent f.parts scope L le) s.1.1.1 b.1 w.1 y.1 k2 h2 (under_right (parts_top L t f.parts) (fields_top after t fs) R g2),
              ),
            ),
          ),
        ),
      )

  default_placed : (o : Option (List Field)) (scope : List Bound) (L : ℕ) → length scope ≡ L → IsDefaultFormed ds n cells scope o → OfSome (Each IsFieldSorted) o → OfSome (Each (IsFieldWhole count)) o → OfSome (Each IsFieldStepped) o
      → default_faults kinds o ≡ [] → default_levels L o ≤ D → default_top L t o ≤ R → DefaultPlaced n (params_of ds) R D L t o
  default_placed None scope L le s b w y k h g = tt
  default_placed (Some fs) scope L le s b w y k h g = fields_placed fs scope L le s b w y k h g

  cases_placed : (cs : List Case) (scope : List Bound) (L : ℕ) → length scope ≡ L → AreCasesFormed ds n cells scope cs → Each (λ c. Each IsFieldSorted c.fields) cs → Each (λ c. Each (IsFieldWhole count) c.fields) cs → Each (λ c. Each IsFieldStepped c.fields) cs
      → cases_faults kinds cs ≡ [] → cases_levels L cs ≤ D → cases_top L t cs ≤ R → CasesPlaced n (params_of ds) R D L t cs
  cases_placed [] scope L le s b w y k h g = tt
  cases_placed (c ∷ cs) scope L le s b w y k h g = (
    fields_placed c.fields scope L le s.0 b.0 w.0 y.0 (no_left (fields_faults kinds c.fields) (cases_faults kinds cs) k) (under_left (fields_levels L c.fields) (cases_levels L cs) D h) (under_left (fields_top L t c.fields) (cases_top L t cs) R g),
    cases_placed cs scope L le s.1 b.1 w.1 y.1 (no_right (fields_faults kinds c.fields) (cases_faults kinds cs) k) (under_right (fields_levels L c.fields) (cases_levels L cs) D h) (under_right (fields_top L t c.fields) (cases_top L t cs) R g),
  )

  body_placed : (w : Body) (scope : List Bound) (L : ℕ) → length scope ≡ L → IsBodyFormed ds n cells scope w → IsSwitchSorted w → EachField IsFieldSorted w → EachField (IsFieldWhole count) w → EachField IsFieldStepped w
      → body_faults kinds w ≡ [] → body_levels L w ≤ D → body_top L t w ≤ R → BodyPlaced n (params_of ds) R D L t w
  body_placed (Struct fs) scope L le s x b w y k h g = fields_placed fs scope L le s b w y k h g
  body_placed (Casetype switch cs default) scope L le s x b w y k h g =
      let tc = cases_top L t cs in
      let td = default_top L t default in
      let g1 = under_left (t + 3) (max (term_top (suc t) switch) (max tc td)) R g in
      let g2 = under_right (t + 3) (max (term_top (suc t) switch) (max tc td)) R g in
      let g3 = under_right (term_top (suc t) switch) (max tc td) R g2 in (
        (omega (arith, g1), is_expr scope switch false L (suc t) R le s.0 x (under_left (term_top (suc t) switch) (max tc td) R g2)),
        (
          cases_placed cs scope L le s.1.0 b.0 w.0 y.0 (no_left (cases_faults kinds cs) (default_faults kinds default) k) (under_left (cases_levels L cs) (default_levels L default) D h) (under_left tc td R g3),
          default_placed default scope L le s.1.1 b.1 w.1 y.1 (no_right (cases_faults kinds cs) (default_faults kinds default) k) (under_right (cases_levels L cs) (default_levels L default) D h) (under_right tc td R g3),
        ),
      )

-- Definitions

fields_above : (fs : List Field) (level : ℕ) → level ≤ fields_levels level fs
fields_above [] level = omega arith
fields_above (f ∷ fs) level =
    let h = parts_above f.parts level in
    let l = le-max_left (parts_levels level f.parts) (fields_levels (length f.parts + level) fs) in
    omega (arith, h, l)

cases_above : (cs : List Case) (level : ℕ) → level ≤ cases_levels level cs
cases_above [] level = omega arith
cases_above (c ∷ cs) level =
    let h = fields_above c.fields level in
    let l = le-max_left (fields_levels level c.fields) (cases_levels level cs) in
    omega (arith, h, l)

body_above : (w : Body) (level : ℕ) → level ≤ body_levels level w
body_above (Struct fs) level = fields_above fs level
body_above (Casetype switch cs default) level =
    let h = cases_above cs level in
    let l = le-max_left (cases_levels level cs) (default_levels level default) in
    omega (arith, h, l)

pub definitions_are_placed : DefinitionsArePlaced
definitions_are_placed m n d R t ready there levels tops =
    let ds = m.definitions in
    let form = ready.formed n d there in
    let sorted = each_at IsDefinitionSorted ds n d ready.sorted there in
    let L = length d.params in
    let le : length (param_bounds d.params) ≡ L = sym (params_length d.params) in
    let tg = test_top (suc t) d.guard in
    let tb = body_top L t d.body in
    let g1 = under_left (t + 2) (max tg tb) R tops in
    let g2 = under_right (t + 2) (max tg tb) R tops in
    let above = body_above d.body L in
    record {
      levels = omega (arith, levels, above);
      room = omega (arith, g1);
      guard = test_placed (param_bounds d.params) d.guard L (suc t) R le form.0 sorted.guard (under_left tg tb R g2);
      inside = body_placed ds n (length m.listed) (kinds_of m) (own_bounds d) t R t d.body (param_bounds d.params) L le form.1 sorted.switch sorted.fields
          (each_at (λ d. EachField (IsFieldWhole (length m.listed)) d.body) ds n d ready.fields there)
          (each_at (λ d. EachField IsFieldStepped d.body) ds n d ready.steps there)
          (faults_at (kinds_of m) ds n d ready.kinds there) levels (under_right tg tb R g2);
    }
