-- Writing in 64 bits is writing in whole numbers, definition by definition.
use Rattle.std.proofs.Common.{◌≡◌, ℕ, zero, suc, ◌+◌, ◌-◌, ◌^◌, ◌<◌, ◌≤◌, Bool, true, false, List, [], ◌∷◌, ◌++◌, length, map, refl, sym, ap, ◌∙◌, subst, arith, Option, Some, None, slice_get, slice_index, length-append}
use Rattle.std.specs.Prelude.{nat_eq, slice_set}
use Rattle.std.proofs.lemmas.Bool.{leb-true, eqb-true, eqb-false}
use Rattle.std.proofs.lemmas.List.{length-map}
use Rattle.std.proofs.lemmas.Option.{none-some, same_Some, slice_get_within}
use Rattle.td_num.specs.Numbers.{bytes_in, places_from}
use Rattle.td_num.specs.declared.number.NumberType.{NumberType}
use Rattle.td_num.proofs.Lists.{each_at}
use Rattle.td_core.specs.declared.expressions.Scalar.TheVariants.{ThirtyTwo}
use Rattle.td_core.specs.declared.module.CopyOut.{CopyOut}
use Rattle.td_core.specs.declared.module.NameId.{NameId}
use Rattle.td_core.specs.declared.module.Element.{Element}
use Rattle.td_core.specs.declared.module.Element.TheVariants as element
use Rattle.td_core.specs.declared.module.Extent.{Extent}
use Rattle.td_core.specs.declared.module.Extent.TheVariants.{Once, Filling, OnceFilling, UpToZero, Given}
use Rattle.td_core.specs.declared.module.Bits.{Bits}
use Rattle.td_core.specs.declared.module.Part.{Part}
use Rattle.td_core.specs.declared.module.Field.{Field}
use Rattle.td_core.specs.declared.module.Body.{Body}
use Rattle.td_core.specs.declared.module.Body.TheVariants.{Struct, Casetype}
use Rattle.td_core.specs.declared.module.TypeDef.{TypeDef}
use Rattle.td_core.specs.Outcome.{Behavior}
use Rattle.td_core.specs.Types.{limit}
use Rattle.td_core.specs.WellFormed.{OfSome}
use Rattle.td_core.specs.Copies.{IsDefinitionCopying}
use Rattle.td_core.specs.Formed.{Bound, scalar_of, whole as word, AllFit, IsOptionScoped, IsElementFormed, IsExtentFormed, ArePartsFormed, AreFieldsFormed, IsBodyFormed, IsDefinitionFormed, bits_bound, part_bound, parts_scope, param_bounds, own_bounds, params_at, own_at}
use Rattle.td_expr.specs.Facts.{Fact}
use Rattle.td_expr.specs.Sound.{Sound}
use Rattle.td_expr.specs.Safe.{first_unsafe, first}
use Rattle.td_expr.proofs.Admitting.{neither}
use Rattle.td_meaning.specs.Copies.{opened}
use Rattle.td_meaning.specs.Doing.{natural_of}
use Rattle.td_meaning.specs.Words64 as words64
use Rattle.td_meaning.specs.Meaning.{values, refined, checked, acted, parts_meaning, extended, case_for, pick, entry_place}
use Rattle.td_meaning.specs.Throughout.{OnEnding, OnAction}
use Rattle.td_meaning.proofs.Ending.{on_then, on_map}
use Rattle.td_meaning.proofs.Values64.{natural_is}
use Rattle.td_meaning.proofs.Meaning64.{values_is, refined_is, checked_is, parts_is}
use Rattle.td_arith.specs.declared.values.ValueRange.{ValueRange}
use Rattle.td_arith.specs.SafeModule.{option_unsafe, known_after, action_unsafe, part_facts, part_unsafe, known_after_part, parts_unsafe, known_after_parts, known_after_field, element_unsafe, extent_unsafe, given_range, copy_unsafe, field_unsafe, fields_unsafe, cases_unsafe, default_unsafe, body_unsafe, definition_unsafe}
use Rattle.td_arith.proofs.Fitting.{Stand, fit_length, stand_at, fit_set}
use Rattle.td_arith.proofs.States.{State, pushed, sound, known_too}
use Rattle.td_arith.proofs.Parts.{parts_sound, extended_length, option_sound, refined_stays, action_sound}
use Rattle.td_arith.proofs.Shapes.{args_fit, cells_stand}
use Rattle.td_arith.proofs.Copies.{CopyStands, CopiesStand, BodyStands, definition_stands}
use Rattle.td_arith.proofs.Evaluated.{each_safe, stand_after, opened_fits}
use Rattle.td_arith.proofs.Choosing.{Chosen, choose}
use Rattle.td_write_values.specs.declared.error.WriteRule.TheVariants.{Shape, Range, Long}
use Rattle.td_write_values.specs.declared.limits.TheConstants.{MOST_WRITTEN}
use Rattle.td_write_values.specs.Datum.{Datum, Number, Sequence, Bytes, Empty, list_of}
use Rattle.td_write_values.specs.Bytes.{number_bytes, fits, is_byte, unit_type, unit_number, makes_unit}
use Rattle.td_write_values.specs.Spelling.{fills, fills_once, noted, number_in}
use Rattle.td_write_values.specs.Writing.{Claim, Written, Done, Refused, Writer, after_writing, followed, tested, of_size, settled, has_room, bytes_written, list_written, zero_ended_written, of_enum, is_listed, element_bytes, element_written, contents_written, shape_written, copied, parts_written, field_written, fields_written, is_count, chosen_written, body_written, definition_written, writers_below, in_machine, whole}
use Rattle.td_write_values.proofs.Lengths.{number_length}
use Rattle.td_write_fits.specs.Laws.{WritingIsInRange}
use Rattle.td_write_fits.proofs.Same.{OnDone, Kept, Same, after_kept, followed_same, wanted_same, tested_same, size_same, settled_same, enum_same, copied_same, number_same, bytes_same, zeros_same, unit_same, list_same, zero_ended_same, given_same}
use Rattle.td_write_fits.proofs.Numbers.{number_fits, number_is, unit_range}

-- what is known of a definition
abbrev pub IsSame : List Bound → List Bound → Writer → Writer → Type 0
IsSame params cells w v =
    (all : List Bound) (args places more path : List ℕ) (p : ℕ) (x : Datum) → AllFit params args → Stand all cells places → AllFit all more → p ≤ MOST_WRITTEN
    → Same all p (w args places more path p x) (v args places more path p x)

-- a place and a count within the limit fit a copy's two cells
noted_small : (all bounds : List Bound) (places : List ℕ) (copy : Option CopyOut) (p n : ℕ) (cells : List ℕ) → Stand all bounds places → OfSome (CopyStands bounds) copy → p ≤ MOST_WRITTEN → n ≤ MOST_WRITTEN
    → AllFit all cells → AllFit all (noted copy places p n cells)
noted_small all bounds places None p n cells st h low few f = f
noted_small all bounds places (Some c) p n cells st h low few f =
    let place : p ≤ limit ThirtyTwo - 1 = omega (arith, low) in
    let count : n ≤ limit ThirtyTwo - 1 = omega (arith, few) in
    fit_set all (slice_set cells (slice_index places c.cell) p) (slice_index places (c.cell + 1)) (word ThirtyTwo) n (stand_at all bounds places (c.cell + 1) (word ThirtyTwo) h.count st)
    (fit_set all cells (slice_index places c.cell) (word ThirtyTwo) p (stand_at all bounds places c.cell (word ThirtyTwo) h.place st) f place) count

-- the bytes that are noted were written
copied_done : (copy : Option CopyOut) (places : List ℕ) (p : ℕ) (w : Written) (s more : List ℕ) (claims : List Claim) → copied copy places p w ≡ Done s more claims → (cells : List ℕ) × (w ≡ Done s cells claims)
copied_done copy places p (Done t cells others) s more claims e =
    let same : t ≡ s = cc in
    let rest : others ≡ claims = cc in
    (cells, λ i. Done (same i) cells (rest i))
copied_done copy places p (Refused rule path) s more claims e = absurd (cc)

module _ (sets : List (List ℕ)) (ours means : ℕ → Writer) (ds : List TypeDef) (n : ℕ)
    (good : (j : ℕ) → j < n → IsSame (params_at (slice_get ds j)) (own_at (slice_get ds j)) (ours j) (means j))
    (all bounds : List Bound) (places : List ℕ) (st : Stand all bounds places) where
  bytes_alike : (scope : List Bound) (facts : List Fact) (env : List ℕ) → State scope facts env → (e : Element) (path : List ℕ) (p : ℕ) (cells : List ℕ) (v : Datum) → IsElementFormed ds n bounds scope e → element_unsafe facts e ≡ None → p ≤ MOST_WRITTEN → AllFit all cells
      → Same all p (element_bytes in_machine ours e env places path p cells v) (element_bytes whole means e env places path p cells v)
  bytes_alike scope facts env s (element.Number t) path p cells v form u le f = number_same all t path p cells v f
  bytes_alike scope facts env s (element.Listed base k) path p cells v form u le f = number_same all base path p cells v f
  bytes_alike scope facts env s (element.Named j args own) path p cells v form u le f =
      let a = args_fit scope facts env (params_at (slice_get ds j)) args form.1.0 s u in
      let g = good j form.0 all (values args env) (map (slice_index places) own) cells path p v a.1 (cells_stand all bounds places (own_at (slice_get ds j)) own form.1.1 st) f le in
      ((λ i. ours j (values_is args env a.0 i) (map (slice_index places) own) cells path p v) ∙ g.0, g.1)
  bytes_alike scope facts env s element.Unit path p cells v form u le f = unit_same all path p cells v le f
  bytes_alike scope facts env s element.Rest path p cells v form u le f = bytes_same all path p cells v f
  bytes_alike scope facts env s element.Zeros path p cells v form u le f = zeros_same all path p cells v f

  element_same : (scope : List Bound) (facts : List Fact) (env : List ℕ) → State scope facts env → (e : Element) (path : List ℕ) (p : ℕ) (cells : List ℕ) (v : Datum) → IsElementFormed ds n bounds scope e → element_unsafe facts e ≡ None → p ≤ MOST_WRITTEN → AllFit all cells
      → Same all p (element_written in_machine sets ours e env places path p cells v) (element_written whole sets means e env places path p cells v)
  element_same scope facts env s e path p cells v form u le f =
      enum_same all p (is_listed sets e v) path (element_bytes in_machine ours e env places path p cells v) (element_bytes whole means e env places path p cells v) (bytes_alike scope facts env s e path p cells v form u le f)

  contents_same : (scope : List Bound) (facts : List Fact) (env : List ℕ) → State scope facts env → (e : Element) (path : List ℕ) (p : ℕ) (cells : List ℕ) (v : Datum) → IsElementFormed ds n bounds scope e → element_unsafe facts e ≡ None → p ≤ MOST_WRITTEN → AllFit all cells
      → Same all p (contents_written in_machine sets ours e env places path p cells v) (contents_written whole sets means e env places path p cells v)
  contents_same scope facts env s e path p cells v form u le f = by (is_byte e)
    where
      by : (b : Bool) → Same all p (pick b (bytes_written path p cells v) (list_written (element_written in_machine sets ours e env places) path p cells v)) (pick b (bytes_written path p cells v) (list_written (element_written whole sets means e env places) path p cells v))
      by true = bytes_same all path p cells v f
      by false = list_same all (element_written in_machine sets ours e env places) (element_written whole sets means e env places) (λ path p cells v le f. element_same scope facts env s e path p cells v form u le f) path p cells v le f

  shape_same : (scope : List Bound) (facts : List Fact) (env : List ℕ) → State scope facts env → (e : Element) (x : Extent) (path : List ℕ) (p : ℕ) (cells : List ℕ) (v : Datum) → IsElementFormed ds n bounds scope e → IsExtentFormed bounds scope e x → element_unsafe facts e ≡ None → extent_unsafe facts e x ≡ None → p ≤ MOST_WRITTEN → AllFit all cells
      → Same all p (shape_written in_machine sets ours e x env places path p cells v) (shape_written whole sets means e x env places path p cells v)
  shape_same scope facts env s e Once path p cells v form sized u w le f = element_same scope facts env s e path p cells v form u le f
  shape_same scope facts env s e (Filling size step) path p cells v form sized u w le f =
      let is = natural_is size env (sound scope facts env size s sized w) in
      let ours_bytes = contents_written in_machine sets ours e env places path p cells v in
      let means_bytes = contents_written whole sets means e env places path p cells v in
      let test = fills step (natural_of size env) in
      let h = settled_same all p (of_size test path ours_bytes) (of_size test path means_bytes)
      (size_same all p test path ours_bytes means_bytes (contents_same scope facts env s e path p cells v form u le f)) in
      (ap (λ k. settled p (of_size (fills step k) path ours_bytes)) is ∙ h.0, h.1)
  shape_same scope facts env s e (OnceFilling size step) path p cells v form sized u w le f =
      let is = natural_is size env (sound scope facts env size s sized w) in
      let ours_bytes = element_bytes in_machine ours e env places path p cells v in
      let means_bytes = element_bytes whole means e env places path p cells v in
      let test = fills_once step (natural_of size env) in
      let h = enum_same all p (is_listed sets e v) path (settled p (of_size test path ours_bytes)) (settled p (of_size test path means_bytes))
      (settled_same all p (of_size test path ours_bytes) (of_size test path means_bytes)
      (size_same all p test path ours_bytes means_bytes (bytes_alike scope facts env s e path p cells v form u le f))) in
      (ap (λ k. of_enum (is_listed sets e v) path (settled p (of_size (fills_once step k) path ours_bytes))) is ∙ h.0, h.1)
  shape_same scope facts env s e (UpToZero size) path p cells v form sized u w le f =
      let is = natural_is size env (sound scope facts env size s sized w) in
      let h = zero_ended_same all e (natural_of size env) path p cells v le f in
      (ap (λ k. zero_ended_written e k path p cells v) is, h.1)
  shape_same scope facts env s e (Given source) path p cells v form sized u w le f = given_same all e source path p cells v le f

  -- Units

  parts_same : (t : NumberType) (e : Element) (x : Extent) (range : Option ValueRange) → range ≡ None → ((bits : Option Bits) → part_bound e x bits ≡ bits_bound t.width bits)
      → (parts : List Part) (scope : List Bound) (level : ℕ) (facts : List Fact) (env path : List ℕ) (i start : ℕ) (cells : List ℕ) (vs : List Datum) (go next : List ℕ → List ℕ → ℕ → List ℕ → List Datum → Written)
      → ArePartsFormed bounds e x scope parts → length env ≡ level → State scope facts env → parts_unsafe level facts range parts ≡ None → AllFit all cells → start ≤ MOST_WRITTEN
      → ((ns env : List ℕ) (i : ℕ) (cells : List ℕ) (vs : List Datum) → length env ≡ level + length parts → State (parts_scope e x scope parts) (known_after_parts level facts range parts) env → AllFit all cells → Same all start (go ns env i cells vs) (next ns env i cells vs))
      → Same all start (parts_written in_machine t parts env places path i start cells vs go) (parts_written whole t parts env places path i start cells vs next)
  unfolding parts_written
  parts_same t e x range none bound [] scope level facts env path i start cells vs go next form long s u f le k = k [] env i cells vs (omega (arith, long)) s f
  parts_same t e x range none bound (part ∷ parts) scope level facts env path i start cells [] go next form long s u f le k = (refl, tt)
  parts_same t e x range none bound (part ∷ parts) scope level facts env path i start cells (Sequence ws ∷ vs) go next form long s u f le k = (refl, tt)
  parts_same t e x range none bound (part ∷ parts) scope level facts env path i start cells (Bytes bytes ∷ vs) go next form long s u f le k = (refl, tt)
  parts_same t e x range none bound (part ∷ parts) scope level facts env path i start cells (Empty ∷ vs) go next form long s u f le k = (refl, tt)
  parts_same t e x range none bound (part ∷ parts) scope level facts env path i start cells (Number v ∷ vs) go next form long s u f le k =
      let at = path ++ i ∷ [] in
      let q = start + bytes_in t.width in
      let values = env ++ v ∷ [] in
      let b = part_bound e x part.bits in
      let wider = scope ++ b ∷ [] in
      let given = facts ++ part_facts level range part.bits in
      let then = known_after_part level facts range part in
      let low : start < 2 ^ 32 = omega (arith, le) in
      let longer : length values ≡ level + 1 = length-append env (v ∷ []) ∙ ap (λ k. k + 1) long in
      wanted_same all start (fits t part.bits v) Range at _ _
      (λ fit. wanted_same all start (has_room start (bytes_in t.width)) Long at _ _
      (λ r.
      let small : v ≤ b.most = subst (λ y. v ≤ y.most) (sym (bound part.bits)) (leb-true v (bits_bound t.width part.bits).most fit) in
      let here : State wider given values = subst (λ o. State wider (facts ++ part_facts level o part.bits) values) (sym none) (known_too wider facts [] values (pushed scope facts env b v s small) tt tt) in
      let both = neither (part_unsafe given part) (parts_unsafe (level + 1) then range parts) u in
      let own = neither (option_unsafe given part.refinement) (action_unsafe then part.action) both.0 in
      let After : ℕ → List ℕ → Type 0 = λ r more. (r ≡ q) × (AllFit all more × State wider then values) in
      let met : OnEnding (refined part.refinement values start q cells).ending After = refined_stays all wider given values part.refinement start q cells form.0 here own.0 f in
      let acting : (r : ℕ) (more : List ℕ) → After r more → OnAction Sound part.action values places start more × OnEnding (acted part.action values places start r more).ending After =
      λ r more h.
      let a = action_sound all bounds places wider then values part.action start r more st form.1.0 h.1.1 own.1 low h.1.0 in
      (a.0, on_map (acted part.action values places start r more).ending (λ t rest. (t ≡ r) × AllFit all rest) After a.1 (λ t rest e. (e.0 ∙ h.0, (e.1, h.1.1)))) in
      let done : OnEnding (checked part values places start q cells).ending After =
      on_then (refined part.refinement values start q cells).ending (refined part.refinement values start q cells).reads (acted part.action values places start) After After met (λ r more h. (acting r more h).1) in
      let is = checked_is part values places start q cells (option_sound wider given values part.refinement form.0 here own.0)
      (on_map (refined part.refinement values start q cells).ending After (λ r more. OnAction Sound part.action values places start more) met (λ r more h. (acting r more h).0)) in
      tested_same all start (words64.checked part values places start q cells).ending (checked part values places start q cells).ending at _ _ After (ap (λ (y : Behavior). y.ending) is) done
      (λ r more h. parts_same t e x range none bound parts wider (level + 1) then values path (suc i) start more vs (λ ns. go (v ∷ ns)) (λ ns. next (v ∷ ns)) form.1.1 longer h.1.1 both.1 h.1.0 le
      (λ ns env i cells vs long s f. k (v ∷ ns) env i cells vs (omega (arith, long)) s f))))

  -- Fields

  module _ (ty : NameId) where
    fields_same : (fs : List Field) (scope : List Bound) (level : ℕ) (facts : List Fact) (env path : List ℕ) (i p : ℕ) (cells : List ℕ) (vs : List Datum)
        → AreFieldsFormed ds n bounds scope fs → CopiesStand bounds fs → length env ≡ level → State scope facts env → fields_unsafe level facts fs ≡ None → p ≤ MOST_WRITTEN → AllFit all cells
        → Same all p (fields_written in_machine sets ours ty fs env places path i p cells vs) (fields_written whole sets means ty fs env places path i p cells vs)
    unfolding fields_written
    fields_same [] scope level facts env path i p cells [] form stand long s u le f = (refl, (omega (arith, le), f))
    fields_same [] scope level facts env path i p cells (v ∷ vs) form stand long s u le f = (refl, tt)
    fields_same (x ∷ later) scope level facts env path i p cells vs form stand long s u le f =
        let one = neither (field_unsafe level facts x) (fields_unsafe (level + length x.parts) (known_after_field level facts x) later) u in
        let range = given_range facts x.element x.extent in
        let two = neither (element_unsafe facts x.element) (first (extent_unsafe facts x.element x.extent) (first (copy_unsafe facts x.copy x.extent) (parts_unsafe level facts range x.parts))) one.0 in
        let three = neither (extent_unsafe facts x.element x.extent) (first (copy_unsafe facts x.copy x.extent) (parts_unsafe level facts range x.parts)) two.1 in
        let four = neither (copy_unsafe facts x.copy x.extent) (parts_unsafe level facts range x.parts) three.1 in
        by two.0 three.0 four.1 (unit_type x.element x.extent) refl vs
        (λ env i p cells vs long s le f. fields_same later (parts_scope x.element x.extent scope x.parts) (level + length x.parts) (known_after_field level facts x) env path i p cells vs form.1.1.1 stand.1 long s one.1 le f)
      where
        by : element_unsafe facts x.element ≡ None → extent_unsafe facts x.element x.extent ≡ None → parts_unsafe level facts (given_range facts x.element x.extent) x.parts ≡ None → (o : Option NumberType) → unit_type x.element x.extent ≡ o → (vs : List Datum)
            → ((env : List ℕ) (i p : ℕ) (cells : List ℕ) (vs : List Datum) → length env ≡ level + length x.parts → State (parts_scope x.element x.extent scope x.parts) (known_after_field level facts x) env → p ≤ MOST_WRITTEN → AllFit all cells
            → Same all p (fields_written in_machine sets ours ty later env places path i p cells vs) (fields_written whole sets means ty later env places path i p cells vs))
            → Same all p (field_written in_machine sets ours ty o x env places path i p cells vs (λ env i p cells vs. fields_written in_machine sets ours ty later env places path i p cells vs))
            (field_written whole sets means ty o x env places path i p cells vs (λ env i p cells vs. fields_written whole sets means ty later env places path i p cells vs))
        by a b c (Some t) e vs next =
            parts_same t x.element x.extent (given_range facts x.element x.extent) (unit_range facts x.element x.extent t e) (bound_is x.element x.extent t e) x.parts scope level facts env path i p cells vs _ _ form.1.1.0 long s c f le
            (λ ns env i cells vs long s f.
            let bytes : List ℕ = number_bytes t (unit_number x.parts ns) in
            let at : p + bytes_in t.width ≡ p + length bytes = ap (λ k. p + k) (sym (number_length t (unit_number x.parts ns))) in
            wanted_same all p (makes_unit t x.parts ns) Range path _ _
            (λ m. wanted_same all p (has_room p (bytes_in t.width)) Long path _ _
            (λ r.
            let h = next env i (p + bytes_in t.width) cells vs long s (leb-true (p + bytes_in t.width) MOST_WRITTEN r) f in
            let means_here = fields_written whole sets means ty later env places path i (p + bytes_in t.width) cells vs in
            (ap (after_writing bytes []) h.0, after_kept all p bytes [] means_here (subst (λ q. OnDone means_here (Kept all q)) at h.1)))))
          where
            bound_is : (el : Element) (ex : Extent) (t : NumberType) → unit_type el ex ≡ Some t → (bits : Option Bits) → part_bound el ex bits ≡ bits_bound t.width bits
            bound_is (element.Number y) Once t e bits = ap (λ (z : NumberType). bits_bound z.width bits) (same_Some y t e)
            bound_is (element.Number y) (Filling size step) t e bits = absurd (none-some t e)
            bound_is (element.Number y) (OnceFilling size step) t e bits = absurd (none-some t e)
            bound_is (element.Number y) (UpToZero size) t e bits = absurd (none-some t e)
            bound_is (element.Number y) (Given source) t e bits = absurd (none-some t e)
            bound_is (element.Listed base k) ex t e bits = absurd (none-some t e)
            bound_is (element.Named j args own) ex t e bits = absurd (none-some t e)
            bound_is element.Unit ex t e bits = absurd (none-some t e)
            bound_is element.Rest ex t e bits = absurd (none-some t e)
            bound_is element.Zeros ex t e bits = absurd (none-some t e)
        by a b c None e [] next = (refl, tt)
        by a b c None e (v ∷ vs) next =
            let m = number_in natural_of x.element x.extent env places cells v in
            let at = path ++ i ∷ [] in
            let low : p < 2 ^ 32 = omega (arith, le) in
            let ours_here = shape_written in_machine sets ours x.element x.extent env places at p cells v in
            let means_here = shape_written whole sets means x.element x.extent env places at p cells v in
            let range = given_range facts x.element x.extent in
            let ours_then = λ (k q : ℕ) (more : List ℕ). tested (words64.parts_meaning ty p k x.parts env places q more).ending at (λ last. fields_written in_machine sets ours ty later (extended env k x.parts) places path (suc i) q last vs) in
            let told = followed_same all p (copied x.copy places p ours_here) (copied x.copy places p means_here) (ours_then m) _
            (copied_same all x.copy places p ours_here means_here
            (λ count last few fits. noted_small all bounds places x.copy p count last st stand.0 le few fits)
            (shape_same scope facts env s x.element x.extent at p cells v form.0 form.1.0 a b le f))
            (λ bytes more claims d k.
            let shaped = copied_done x.copy places p means_here bytes more claims d in
            let q = p + length bytes in
            let number = number_fits all bounds scope facts env places st s sets means x.element x.extent at p cells v bytes shaped.0 claims f form.1.0 b e shaped.1 in
            let parts = parts_sound all bounds places x.element x.extent ty p m number.small low st range number.told x.parts scope level facts env q more form.1.1.0 long s c k.1 in
            let longer : length (extended env m x.parts) ≡ level + length x.parts = let some = extended_length env m x.parts in omega (arith, some, long) in
            tested_same all q (words64.parts_meaning ty p m x.parts env places q more).ending (parts_meaning ty p m x.parts env places q more).ending at _ _
            (λ r last. (r ≡ q) × (AllFit all last × State (parts_scope x.element x.extent scope x.parts) (known_after_field level facts x) (extended env m x.parts)))
            (ap (λ (y : Behavior). y.ending) (parts_is ty p m x.parts env places q more parts.sound)) parts.stays
            (λ r last h. next (extended env m x.parts) (suc i) q last vs longer h.1.1 k.0 h.1.0)) in
            (ap (λ k. followed (copied x.copy places p ours_here) p (ours_then k)) (number_is bounds scope facts env places cells x.element x.extent v s form.1.0 b) ∙ told.0, told.1)

    chosen_same : (fs : Option (List Field)) (scope : List Bound) (level : ℕ) (facts : List Fact) (env path : List ℕ) (p : ℕ) (cells : List ℕ) (vs : List Datum) → Chosen ds n bounds scope level facts fs → length env ≡ level → State scope facts env → p ≤ MOST_WRITTEN → AllFit all cells
        → Same all p (chosen_written in_machine sets ours ty fs env places path p cells vs) (chosen_written whole sets means ty fs env places path p cells vs)
    chosen_same None scope level facts env path p cells vs c long s le f = (refl, tt)
    chosen_same (Some fs) scope level facts env path p cells vs c long s le f =
        wanted_same all p (is_count fs vs) Shape path _ _ (λ e. fields_same fs scope level facts env path 0 p cells vs c.formed c.stands long s c.safe le f)

  body_same : (d : TypeDef) (body : Body) (args path : List ℕ) (p : ℕ) (cells : List ℕ) (vs : List Datum) → IsOptionScoped (param_bounds d.params) d.guard → IsBodyFormed ds n bounds (param_bounds d.params) body → BodyStands bounds body
      → option_unsafe [] d.guard ≡ None → body_unsafe (length d.params) (known_after [] d.guard) body ≡ None → AllFit (param_bounds d.params) args → p ≤ MOST_WRITTEN → AllFit all cells
      → Same all p (body_written in_machine sets ours d body args places path p cells vs) (body_written whole sets means d body args places path p cells vs)
  body_same d (Struct fs) args path p cells vs guard form stand a u fits le f =
      let facts = known_after [] d.guard in
      let scope = param_bounds d.params in
      let long : length args ≡ length d.params = sym (fit_length scope args fits) ∙ length-map d.params (λ p. word (scalar_of p.width)) in
      let K : ℕ → List ℕ → Type 0 = λ q more. (q ≡ p) × (AllFit all more × State scope facts args) in
      let start : State scope [] args = record { fits = fits; placed = tt; holds = tt } in
      let met : OnEnding (refined d.guard args p p cells).ending K = refined_stays all scope [] args d.guard p p cells guard start a f in
      let is = refined_is d.guard args p p cells (option_sound scope [] args d.guard guard start a) in
      wanted_same all p (is_count fs vs) Shape path _ _
      (λ e. tested_same all p (in_machine.guarded d.guard args p p cells).ending (refined d.guard args p p cells).ending path _ _ K (ap (λ (y : Behavior). y.ending) is) met
      (λ q more h. fields_same d.name fs scope (length d.params) facts args path 0 p more vs form stand long h.1.1 u le h.1.0))
  body_same d (Casetype switch cases default) args path p cells vs guard form stand a u fits le f =
      let facts = known_after [] d.guard in
      let scope = param_bounds d.params in
      let level = length d.params in
      let long : length args ≡ length d.params = sym (fit_length scope args fits) ∙ length-map d.params (λ p. word (scalar_of p.width)) in
      let K : ℕ → List ℕ → Type 0 = λ q more. (q ≡ p) × (AllFit all more × State scope facts args) in
      let start : State scope [] args = record { fits = fits; placed = tt; holds = tt } in
      let met : OnEnding (refined d.guard args p p cells).ending K = refined_stays all scope [] args d.guard p p cells guard start a f in
      let is = refined_is d.guard args p p cells (option_sound scope [] args d.guard guard start a) in
      let one = neither (first_unsafe facts switch) (first (cases_unsafe level facts cases) (default_unsafe level facts default)) u in
      let two = neither (cases_unsafe level facts cases) (default_unsafe level facts default) one.1 in
      tested_same all p (in_machine.guarded d.guard args p p cells).ending (refined d.guard args p p cells).ending path _ _ K (ap (λ (y : Behavior). y.ending) is) met
      (λ q more h.
      let v = natural_of switch args in
      let same = natural_is switch args (sound scope facts args switch h.1.1 form.0 one.0) in
      let c = chosen_same d.name (case_for v cases default) scope level facts args path p more vs (choose ds n bounds scope level facts v cases default form.1.0 form.1.1 stand.0 stand.1 two.0 two.1) long h.1.1 le h.1.0 in
      (ap (λ k. chosen_written in_machine sets ours d.name (case_for k cases default) args places path p more vs) same ∙ c.0, c.1))

definition_same : (sets : List (List ℕ)) (ours means : ℕ → Writer) (ds : List TypeDef) (n : ℕ)
    → ((j : ℕ) → j < n → IsSame (params_at (slice_get ds j)) (own_at (slice_get ds j)) (ours j) (means j))
    → (o : Option TypeDef) → ((d : TypeDef) → o ≡ Some d → IsDefinitionFormed ds n d × (IsDefinitionCopying ds d × (definition_unsafe d ≡ None)))
    → IsSame (params_at o) (own_at o) (definition_written in_machine sets ours o) (definition_written whole sets means o)
definition_same sets ours means ds n good None h all args places more path p x fits st f le = (refl, tt)
definition_same sets ours means ds n good (Some d) h all args places more path p (Number v) fits st f le = (refl, tt)
definition_same sets ours means ds n good (Some d) h all args places more path p (Sequence vs) fits st f le =
    let form = (h d refl).0 in
    let u = neither (option_unsafe [] d.guard) (body_unsafe (length d.params) (known_after [] d.guard) d.body) (h d refl).1.1 in
    body_same sets ours means ds n good all (own_bounds d) places st d d.body args path p more (list_of vs) form.0 form.1 (definition_stands ds d (h d refl).1.0) u.0 u.1 fits le f
definition_same sets ours means ds n good (Some d) h all args places more path p (Bytes bytes) fits st f le = (refl, tt)
definition_same sets ours means ds n good (Some d) h all args places more path p Empty fits st f le = (refl, tt)

-- the definitions below n, one after the other
all_same : (sets : List (List ℕ)) (ds : List TypeDef)
    → ((n : ℕ) (d : TypeDef) → slice_get ds n ≡ Some d → IsDefinitionFormed ds n d × (IsDefinitionCopying ds d × (definition_unsafe d ≡ None)))
    → (n j : ℕ) → j < n → IsSame (params_at (slice_get ds j)) (own_at (slice_get ds j)) (writers_below in_machine sets ds n j) (writers_below whole sets ds n j)
unfolding writers_below
all_same sets ds h zero j less = absurd (omega (arith, less))
all_same sets ds h (suc n) j less =
    let earlier = all_same sets ds h n in
    let own = definition_same sets (writers_below in_machine sets ds n) (writers_below whole sets ds n) ds n earlier (slice_get ds n) (h n) in
    by (nat_eq j n) refl own (earlier j)
  where
    by : (b : Bool) → nat_eq j n ≡ b
        → IsSame (params_at (slice_get ds n)) (own_at (slice_get ds n)) (definition_written in_machine sets (writers_below in_machine sets ds n) (slice_get ds n)) (definition_written whole sets (writers_below whole sets ds n) (slice_get ds n))
        → (j < n → IsSame (params_at (slice_get ds j)) (own_at (slice_get ds j)) (writers_below in_machine sets ds n j) (writers_below whole sets ds n j))
        → IsSame (params_at (slice_get ds j)) (own_at (slice_get ds j))
        (pick b (definition_written in_machine sets (writers_below in_machine sets ds n) (slice_get ds n)) (writers_below in_machine sets ds n j))
        (pick b (definition_written whole sets (writers_below whole sets ds n) (slice_get ds n)) (writers_below whole sets ds n j))
    by true e own rest = subst (λ k. IsSame (params_at (slice_get ds k)) (own_at (slice_get ds k)) (definition_written in_machine sets (writers_below in_machine sets ds n) (slice_get ds n)) (definition_written whole sets (writers_below whole sets ds n) (slice_get ds n))) (sym (eqb-true j n e)) own
    by false e own rest = let apart = eqb-false j n e in rest (omega (arith, less, apart))

pub writing_is_in_range : WritingIsInRange
writing_is_in_range m entry place d args visible v formed copying safe at is fits fit =
    let cells = opened m entry visible in
    let room = opened_fits m entry place d visible at is fit in
    let within : place < length m.definitions = slice_get_within m.definitions place d is in
    let bounds = own_at (Some d) in
    let stands : Stand bounds bounds (places_from 0 (length cells)) = subst (λ k. Stand bounds bounds (places_from 0 k)) (fit_length bounds cells room) (stand_after [] bounds) in
    let good = all_same m.listed m.definitions (λ n x e. (formed n x e, (each_at (IsDefinitionCopying m.definitions) m.definitions n x copying e, each_safe m.definitions n x safe e))) (length m.definitions) place within in
    let told = good bounds args (places_from 0 (length cells)) cells [] 0 v
    (subst (λ o. AllFit (params_at o) args) (sym is) fits)
    (subst (λ o. Stand bounds (own_at o) (places_from 0 (length cells))) (sym is) stands) room (omega arith) in
    (λ k. settled 0 (writers_below in_machine m.listed m.definitions (length m.definitions) (entry_place (at k) (length m.definitions)) args (places_from 0 (length cells)) cells [] 0 v))
    ∙ ap (settled 0) told.0
    ∙ (λ k. settled 0 (writers_below whole m.listed m.definitions (length m.definitions) (entry_place (sym at k) (length m.definitions)) args (places_from 0 (length cells)) cells [] 0 v))
