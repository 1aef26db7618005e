-- Elements, and what a field holds.
use Rattle.std.proofs.Common.{◌≡◌, ℕ, suc, ◌+◌, ◌-◌, ◌≤◌, Bool, true, false, ◌&&◌, List, [], ◌∷◌, ◌++◌, length, map, drop, refl, sym, ap, ◌∙◌, subst, arith, Option, Some, None}
use Rattle.std.specs.Prelude.{nat_eq, slice_index, not}
use Rattle.std.proofs.lemmas.Bool.{eqb-true, eq-eqb, and_parts, false≢true, or_parts}
use Rattle.std.proofs.lemmas.Option.{none-some, same_Some}
use Rattle.td_num.specs.Numbers.{bytes_in, number_at, places_from}
use Rattle.td_write_spells.specs.Imports.{Width, One, Two, Four, Eight, ByteOrder, NumberType, Kind, Element, Extent, Once, Filling, OnceFilling, UpToZero, Given, Source, Expression, FromCell, Left, CopyOut, Part, Field, Constraint, ListSize, ZeroElement, RestNotLast, Range}
use Rattle.td_num.specs.Lists.{is_among}
use Rattle.td_core.specs.declared.module.Element.TheVariants as element
use Rattle.td_core.specs.Term.{Term}
use Rattle.td_core.specs.Outcome.{Accepted, Behavior, accepted, and_then, after_reading}
use Rattle.td_core.specs.Types.{is_octet}
use Rattle.td_core.specs.WellFormed.{OfSome}
use Rattle.td_core.specs.Copies.{IsCopied}
use Rattle.td_expr.specs.Same.{constant_of}
use Rattle.td_kinds.specs.Kinds.{element_kind, sized_kind, field_kind}
use Rattle.td_kinds.specs.KindRules.{is_filled, fault_if, field_faults}
use Rattle.td_kinds.proofs.Faultless.{no_fault}
use Rattle.td_meaning.specs.Doing.{natural_of}
use Rattle.td_meaning.specs.Meaning.{Sense, values, values_of, taken, demanded, element_meaning, elements, filled, filled_once, divides, equals, shape_meaning, with_copy, copied_meaning, content_meaning, given_value, field_number, pick}
use Rattle.td_write_values.specs.declared.limits.TheConstants.{MOST_WRITTEN}
use Rattle.td_write_values.specs.Datum.{Datum, Number, Sequence, Bytes, Empty}
use Rattle.td_write_values.specs.Bytes.{number_bytes, fits, unit_type}
use Rattle.td_write_values.specs.Spelling.{Spelled, Spelling, bytes_alone, only, sized, spelled_element, spelled_bytes, spelled_list, spelled_contents, fills, fills_once, noted, spelled_copied, spelled_left, spelled_source, spelled_shape, source_number, number_in}
use Rattle.td_write_values.specs.Writing.{Claim, Done, Writer, bytes_written, list_written, of_size, element_bytes, is_listed, element_written, contents_written, unit_written, left_written, source_written, shape_written, copied, whole}
use Rattle.td_write_spells.specs.Laws.{FailsFor}
use Rattle.td_write_spells.proofs.Numbers.{number_is}
use Rattle.td_write_spells.proofs.Told.{UpTo, Told, AllAt, only_some, sized_some, ended_some, fails_then, accepts_then, told_wanted, told_of_size, told_settled, told_listed, copied_told}
use Rattle.td_write_spells.proofs.Arrays.{number_told, number_spelled, listed_told, bytes_told, zeros_told, Turns, list_told, octet_one, bytes_run}
use Rattle.td_write_spells.proofs.Zeros.{up_to_zero_told}
use Rattle.td_meaning.proofs.Filling.{taken_long}
use Rattle.td_meaning.proofs.Copying.{copied_is_filled}

-- Ends

pub before : (r : Bool) (p q end : ℕ) → UpTo r p q end → q ≤ end
before true p q end h = omega (arith, h)
before false p q end h = h

same_fit : (r s : Bool) (p q end : ℕ) → r ≡ s → UpTo r p q end → UpTo s p q end
same_fit r s p q end e h = subst (λ x. UpTo x p q end) e h

sized_rest : (o : Option ℕ) → (sized_kind o).rest ≡ false
sized_rest None = refl
sized_rest (Some n) = refl

-- Faults

pub nil_parts : {A : Type 0} (xs ys : List A) → xs ++ ys ≡ [] → (xs ≡ []) × (ys ≡ [])
nil_parts [] ys e = (refl, e)
nil_parts (x ∷ xs) ys e = absurd (cc)

-- K2 at a field
pub last_only : (kinds : ℕ → Kind) (f : Field) (last : Bool) → field_faults kinds f last ≡ []
    → ((is_filled f.extent && (element_kind kinds f.element).rest) ≡ false) × ((not last && (field_kind kinds f.element f.extent).rest) ≡ false)
last_only kinds f last e =
    let two = nil_parts (fault_if (is_filled f.extent && nat_eq (element_kind kinds f.element).least 0) (ZeroElement f.place)) _ e in
    or_parts (is_filled f.extent && (element_kind kinds f.element).rest) (not last && (field_kind kinds f.element f.extent).rest) (no_fault _ (RestNotLast f.place) two.1)

module _ (sets : List (List ℕ)) (kinds : ℕ → Kind) (senses : ℕ → Sense) (writers : ℕ → Writer) (spells : ℕ → Spelling)
    (good : (j : ℕ) (args places cells path : List ℕ) (p : ℕ) (v : Datum) → p ≤ MOST_WRITTEN
    → Told (UpTo (kinds j).rest) p (writers j args places cells path p v) (spells j args places cells p v) (λ b end. (senses j args places cells b p end).ending)) where
  -- Elements

  element_told : (e : Element) (env places path : List ℕ) (start p : ℕ) (cells : List ℕ) (v : Datum) → p ≤ MOST_WRITTEN
      → Told (UpTo (element_kind kinds e).rest) p (element_written whole sets writers e env places path p cells v) (spelled_element spells e env places p cells v) (λ b end. (element_meaning sets senses e env places b start end p cells).ending)
  element_told (element.Number t) env places path start p cells v le =
      number_told t path p cells v (λ b end. (taken (bytes_in t.width) start end p cells).ending)
      (λ b end fit. ap (λ (x : Behavior). x.ending) (taken_long (bytes_in t.width) start end p cells fit))
  element_told (element.Listed base k) env places path start p cells (Number n) le =
      let w = bytes_in base.width in
      let among = is_among (values_of sets k) in
      let all = λ (b : List ℕ) (end : ℕ). element_meaning sets senses (element.Listed base k) env places b start end p cells in
      let at_number = λ (b post : List ℕ) (end : ℕ) (f : fits base None n ≡ true) (at : drop p b ≡ number_bytes base n ++ post) (fit : p + w ≤ end).
      ap (λ (t : Behavior). (and_then t (λ q cells. after_reading (places_from p w) (demanded Constraint (among (number_at base b p)) start q cells))).ending) (taken_long w start end p cells fit)
      ∙ ap (λ x. (demanded Constraint (among x) start (p + w) cells).ending) (number_is base n p b post f at) in
      listed_told base (among n) path p cells n (λ b end. (all b end).ending)
      (λ b post end f a at fit. at_number b post end f at fit ∙ ap (λ x. (demanded Constraint x start (p + w) cells).ending) a)
      (λ b post end f a at fit. subst (FailsFor Constraint) (sym (at_number b post end f at fit ∙ ap (λ x. (demanded Constraint x start (p + w) cells).ending) a)) refl)
  element_told (element.Listed base k) env places path start p cells (Sequence vs) le = refl
  element_told (element.Listed base k) env places path start p cells (Bytes bytes) le = refl
  element_told (element.Listed base k) env places path start p cells Empty le = refl
  element_told (element.Named j args own) env places path start p cells v le =
      good j (values args env) (map (slice_index places) own) cells path p v le
  element_told element.Unit env places path start p cells (Number n) le = refl
  element_told element.Unit env places path start p cells (Sequence vs) le = refl
  element_told element.Unit env places path start p cells (Bytes bytes) le = refl
  element_told element.Unit env places path start p cells Empty le =
      let same : p ≡ p + 0 = omega arith in
      (refl, (omega (arith, le), λ b post end at fit ends. ap (λ q. Accepted q cells) same))
  element_told element.Rest env places path start p cells v le =
      bytes_told (UpTo true) path p cells v (λ b end. (element_meaning sets senses element.Rest env places b start end p cells).ending) (λ bytes b end fit. ap (λ q. Accepted q cells) (sym fit))
  element_told element.Zeros env places path start p cells v le = zeros_told path p cells v

  -- an element that doesn't take the rest
  plain_element : (e : Element) (env places path : List ℕ) (start p : ℕ) (cells : List ℕ) (v : Datum) → (element_kind kinds e).rest ≡ false → p ≤ MOST_WRITTEN
      → Told (UpTo false) p (element_written whole sets writers e env places path p cells v) (spelled_element spells e env places p cells v) (λ b end. (element_meaning sets senses e env places b start end p cells).ending)
  plain_element e env places path start p cells v r le =
      subst (λ x. Told (UpTo x) p (element_written whole sets writers e env places path p cells v) (spelled_element spells e env places p cells v) (λ b end. (element_meaning sets senses e env places b start end p cells).ending)) r (element_told e env places path start p cells v le)

  -- Arrays

  each_told : (e : Element) (turns : ℕ) (env places path : List ℕ) (p : ℕ) (cells : List ℕ) (v : Datum) → (element_kind kinds e).rest ≡ false → p ≤ MOST_WRITTEN
      → Told (Turns turns) p (list_written (element_written whole sets writers e env places) path p cells v) (spelled_list (spelled_element spells e env places) p cells v) (λ b end. (elements (element_meaning sets senses e env places b p end) turns p end p cells).ending)
  each_told e turns env places path p cells v r le =
      list_told (element_written whole sets writers e env places) (spelled_element spells e env places) (λ b end q cells. element_meaning sets senses e env places b p end q cells)
      (λ path q cells v le. plain_element e env places path p q cells v r le) p turns path p cells v le

  contents_told : (e : Element) (turns : ℕ) (env places path : List ℕ) (p : ℕ) (cells : List ℕ) (v : Datum) → (element_kind kinds e).rest ≡ false → p ≤ MOST_WRITTEN
      → Told (Turns turns) p (contents_written whole sets writers e env places path p cells v) (spelled_contents spells e env places p cells v) (λ b end. (elements (element_meaning sets senses e env places b p end) turns p end p cells).ending)
  contents_told (element.Number t) turns env places path p cells v r le = by (is_octet t.width t.order) refl
    where
      by : (x : Bool) → is_octet t.width t.order ≡ x
          → Told (Turns turns) p (pick x (bytes_written path p cells v) (list_written (element_written whole sets writers (element.Number t) env places) path p cells v)) (pick x (spelled_bytes cells v) (spelled_list (spelled_element spells (element.Number t) env places) p cells v))
          (λ b end. (elements (element_meaning sets senses (element.Number t) env places b p end) turns p end p cells).ending)
      by true e = bytes_told (Turns turns) path p cells v (λ b end. (elements (taken (bytes_in t.width) p end) turns p end p cells).ending)
          (λ bytes b end fit. bytes_run (length bytes) turns (bytes_in t.width) p end p cells (octet_one t.width t.order e) fit.0 fit.1 ∙ ap (λ q. Accepted q cells) (sym fit.0))
      by false e = each_told (element.Number t) turns env places path p cells v r le
  contents_told (element.Listed base k) turns env places path p cells v r le = each_told (element.Listed base k) turns env places path p cells v r le
  contents_told (element.Named j args own) turns env places path p cells v r le = each_told (element.Named j args own) turns env places path p cells v r le
  contents_told element.Unit turns env places path p cells v r le = each_told element.Unit turns env places path p cells v r le
  contents_told element.Rest turns env places path p cells v r le = absurd (false≢true (sym r))
  contents_told element.Zeros turns env places path p cells v r le = absurd (false≢true (sym r))

  filled_is : (each : ℕ → ℕ → List ℕ → Behavior) (step : Option ℕ) (n end p : ℕ) (cells : List ℕ) → p + n ≤ end → divides step n ≡ true
      → (filled each step n end p cells).ending ≡ (elements (each (p + n)) (suc n) p (p + n) p cells).ending
  filled_is each step n end p cells h d =
      ap (λ t. (and_then t (λ q cells. and_then (demanded ListSize (divides step n) p p cells) (elements (each q) (suc n) p q))).ending) (taken_long n p end p cells h)
      ∙ ap (λ v. (and_then (demanded ListSize v p p cells) (elements (each (p + n)) (suc n) p (p + n))).ending) d

  once_is : (each : ℕ → ℕ → List ℕ → Behavior) (step : Option ℕ) (n end p : ℕ) (cells : List ℕ) → p + n ≤ end → equals step n ≡ true
      → (filled_once each step n end p cells).ending ≡ (and_then (each (p + n) p cells) (λ r cells. demanded ListSize (nat_eq r (p + n)) p r cells)).ending
  once_is each step n end p cells h d =
      ap (λ t. (and_then t (λ q cells. and_then (demanded ListSize (equals step n) p p cells) (λ r cells. and_then (each q r cells) (λ t cells. demanded ListSize (nat_eq t q) p t cells)))).ending) (taken_long n p end p cells h)
      ∙ ap (λ v. (and_then (demanded ListSize v p p cells) (λ r cells. and_then (each (p + n) r cells) (λ t cells. demanded ListSize (nat_eq t (p + n)) p t cells))).ending) d

  any_rest : (r : Bool) (p q : ℕ) → UpTo r p q q
  any_rest true p q = refl
  any_rest false p q = omega arith

  -- an enum's number is spelled, also where it isn't among its values
  unlisted_spelled : (e : Element) (env places path : List ℕ) (p : ℕ) (cells : List ℕ) (v : Datum) (s more : List ℕ) (claims : List Claim) → element_bytes whole writers e env places path p cells v ≡ Done s more claims → is_listed sets e v ≡ false
      → (spelled_element spells e env places p cells v ≡ Some (bytes_alone s more)) × (claims ≡ [])
  unlisted_spelled (element.Number t) env places path p cells v s more claims w l = absurd (false≢true (sym l))
  unlisted_spelled (element.Listed base k) env places path p cells (Number n) s more claims w l = number_spelled base n path p cells s more claims w
  unlisted_spelled (element.Listed base k) env places path p cells (Sequence vs) s more claims w l = absurd (false≢true (sym l))
  unlisted_spelled (element.Listed base k) env places path p cells (Bytes bytes) s more claims w l = absurd (false≢true (sym l))
  unlisted_spelled (element.Listed base k) env places path p cells Empty s more claims w l = absurd (false≢true (sym l))
  unlisted_spelled (element.Named j args own) env places path p cells v s more claims w l = absurd (false≢true (sym l))
  unlisted_spelled element.Unit env places path p cells v s more claims w l = absurd (false≢true (sym l))
  unlisted_spelled element.Rest env places path p cells v s more claims w l = absurd (false≢true (sym l))
  unlisted_spelled element.Zeros env places path p cells v s more claims w l = absurd (false≢true (sym l))

  -- Shapes

  -- a value without bytes
  nothing_told : (path : List ℕ) (p : ℕ) (cells : List ℕ) (v : Datum) → p ≤ MOST_WRITTEN → Told (UpTo false) p (unit_written path cells v) (spelled_element spells element.Unit [] [] p cells v) (λ b end. Accepted p cells)
  nothing_told path p cells (Number n) le = refl
  nothing_told path p cells (Sequence vs) le = refl
  nothing_told path p cells (Bytes bytes) le = refl
  nothing_told path p cells Empty le =
      let same : p ≡ p + 0 = omega arith in
      (refl, (omega (arith, le), λ b post end at fit ends. ap (λ q. Accepted q cells) same))

  left_told : (t : NumberType) (path : List ℕ) (p : ℕ) (cells : List ℕ) (v : Datum) → p ≤ MOST_WRITTEN → Told (UpTo false) p (left_written t path p cells v) (spelled_left t p cells v) (λ b end. Accepted p cells)
  left_told t path p cells (Number n) le =
      let same : p ≡ p + 0 = omega arith in
      let x : Spelled = record { bytes = []; cells = cells; ends = (p + n) ∷ [] } in
      told_wanted (UpTo false) p (fits t None n) Range path _ (only (fits t None n) (Some x)) (λ b end. Accepted p cells)
      (λ e. ap (λ v. only v (Some x)) e)
      (λ e. (ap (λ v. only v (Some x)) e, (omega (arith, le), λ b post end at fit ends. ap (λ q. Accepted q cells) same)))
  left_told t path p cells (Sequence vs) le = refl
  left_told t path p cells (Bytes bytes) le = refl
  left_told t path p cells Empty le = refl

  source_told : (t : NumberType) (s : Source) (path : List ℕ) (p : ℕ) (cells : List ℕ) (v : Datum) → p ≤ MOST_WRITTEN → Told (UpTo false) p (source_written t s path p cells v) (spelled_source t s p cells v) (λ b end. Accepted p cells)
  source_told t (Expression span e) path p cells v le = nothing_told path p cells v le
  source_told t (FromCell cell) path p cells v le = nothing_told path p cells v le
  source_told t Left path p cells v le = left_told t path p cells v le

  pub shape_told : (e : Element) (x : Extent) (env places path : List ℕ) (p : ℕ) (cells : List ℕ) (v : Datum) → (is_filled x && (element_kind kinds e).rest) ≡ false → p ≤ MOST_WRITTEN
      → Told (UpTo (field_kind kinds e x).rest) p (shape_written whole sets writers e x env places path p cells v) (spelled_shape spells e x env places p cells v) (λ b end. (shape_meaning sets senses e x env places b end p cells).ending)
  shape_told e Once env places path p cells v k le = element_told e env places path p p cells v le
  shape_told e (Filling size step) env places path p cells v k le =
      let n = natural_of size env in
      let r = (sized_kind (constant_of size)).rest in
      let each = λ (b : List ℕ). element_meaning sets senses e env places b p in
      let contents = spelled_contents spells e env places p cells v in
      let size_is = λ (x : Spelled) (h : sized (fills step n) contents ≡ Some x). and_parts (divides step n) (nat_eq (length x.bytes) n) (sized_some (fills step n) contents x h).1 in
      let is = λ (b : List ℕ) (x : Spelled) (end : ℕ) (h : sized (fills step n) contents ≡ Some x) (fit : UpTo r p (p + length x.bytes) end).
      let len : length x.bytes ≡ n = eqb-true (length x.bytes) n (size_is x h).1 in
      let inside : p + n ≤ end = omega (arith, len, before r p (p + length x.bytes) end fit) in
      filled_is (each b) step n end p cells inside (size_is x h).0 ∙ ap (λ q. (elements (each b q) (suc n) p q p cells).ending) (ap (λ k. p + k) (sym len)) in
      told_settled (UpTo r) (Turns (suc n)) p (of_size (fills step n) path (contents_written whole sets writers e env places path p cells v)) (sized (fills step n) contents)
      (λ b end. (elements (each b end) (suc n) p end p cells).ending) (λ b end. (filled (each b) step n end p cells).ending)
      (λ x h. let len : length x.bytes ≡ n = eqb-true (length x.bytes) n (size_is x h).1 in (refl, omega (arith, len)))
      (λ b x end h fit m. is b x end h fit ∙ m)
      (λ reason b x end h fit m. subst (FailsFor reason) (sym (is b x end h fit)) m)
      (told_of_size (Turns (suc n)) p (fills step n) path (contents_written whole sets writers e env places path p cells v) contents (λ b end. (elements (each b end) (suc n) p end p cells).ending)
      (contents_told e (suc n) env places path p cells v k le))
  shape_told e (OnceFilling size step) env places path p cells v k le =
      let n = natural_of size env in
      let r = (sized_kind (constant_of size)).rest in
      let each = λ (b : List ℕ). element_meaning sets senses e env places b p in
      let one = spelled_element spells e env places p cells v in
      let F = UpTo (element_kind kinds e).rest in
      let size_is = λ (x : Spelled) (h : sized (fills_once step n) one ≡ Some x). and_parts (equals step n) (nat_eq (length x.bytes) n) (sized_some (fills_once step n) one x h).1 in
      let is = λ (b : List ℕ) (x : Spelled) (end : ℕ) (h : sized (fills_once step n) one ≡ Some x) (fit : UpTo r p (p + length x.bytes) end).
      let len : length x.bytes ≡ n = eqb-true (length x.bytes) n (size_is x h).1 in
      let inside : p + n ≤ end = omega (arith, len, before r p (p + length x.bytes) end fit) in
      once_is (each b) step n end p cells inside (size_is x h).0
      ∙ ap (λ q. (and_then (each b q p cells) (λ r cells. demanded ListSize (nat_eq r q) p r cells)).ending) (ap (λ k. p + k) (sym len)) in
      told_listed (UpTo r) p (is_listed sets e v) (fills_once step n) path (element_bytes whole writers e env places path p cells v) one (λ b end. (filled_once (each b) step n end p cells).ending)
      (λ s more claims w l. unlisted_spelled e env places path p cells v s more claims w l)
      (told_settled (UpTo r) F p (of_size (fills_once step n) path (element_written whole sets writers e env places path p cells v)) (sized (fills_once step n) one)
      (λ b end. (each b end p cells).ending) (λ b end. (filled_once (each b) step n end p cells).ending)
      (λ x h. any_rest (element_kind kinds e).rest p (p + length x.bytes))
      (λ b x end h fit m.
      let q = p + length x.bytes in
      is b x end h fit
      ∙ accepts_then (each b q p cells).ending (each b q p cells).reads (λ r cells. demanded ListSize (nat_eq r q) p r cells) q x.cells m
      ∙ ap (λ v. (demanded ListSize v p q x.cells).ending) (eq-eqb q q refl))
      (λ reason b x end h fit m.
      let q = p + length x.bytes in
      subst (FailsFor reason) (sym (is b x end h fit)) (fails_then reason (each b q p cells).ending (each b q p cells).reads (λ r cells. demanded ListSize (nat_eq r q) p r cells) m))
      (told_of_size F p (fills_once step n) path (element_written whole sets writers e env places path p cells v) one (λ b end. (each b end p cells).ending)
      (element_told e env places path p p cells v le)))
  shape_told (element.Number t) (UpToZero size) env places path p cells v k le = up_to_zero_told t (natural_of size env) path p cells le v
  shape_told (element.Listed base j) (UpToZero size) env places path p cells v k le = refl
  shape_told (element.Named j args own) (UpToZero size) env places path p cells v k le = refl
  shape_told element.Unit (UpToZero size) env places path p cells v k le = refl
  shape_told element.Rest (UpToZero size) env places path p cells v k le = refl
  shape_told element.Zeros (UpToZero size) env places path p cells v k le = refl
  shape_told (element.Number t) (Given source) env places path p cells v k le = source_told t source path p cells v le
  shape_told (element.Listed base j) (Given source) env places path p cells v k le = refl
  shape_told (element.Named j args own) (Given source) env places path p cells v k le = refl
  shape_told element.Unit (Given source) env places path p cells v k le = refl
  shape_told element.Rest (Given source) env places path p cells v k le = refl
  shape_told element.Zeros (Given source) env places path p cells v k le = refl

  -- Copies

  octet_is : (w : Width) (o : ByteOrder) → is_octet w o ≡ true → w ≡ One
  octet_is One o e = refl
  octet_is Two o e = absurd (false≢true e)
  octet_is Four o e = absurd (false≢true e)
  octet_is Eight o e = absurd (false≢true e)

  -- of the bytes that a field's shape takes, the meaning notes place and number
  octets_told : (t : NumberType) (size : Term) (step : Option ℕ) (c : CopyOut) → is_octet t.width t.order ≡ true → step ≡ Some 1
      → (env places path : List ℕ) (p : ℕ) (cells : List ℕ) (v : Datum) → p ≤ MOST_WRITTEN
      → Told (UpTo (field_kind kinds (element.Number t) (Filling size step)).rest) p (copied (Some c) places p (shape_written whole sets writers (element.Number t) (Filling size step) env places path p cells v))
      (spelled_copied (Some c) places p (spelled_shape spells (element.Number t) (Filling size step) env places p cells v)) (λ b end. (content_meaning sets senses (element.Number t) (Filling size step) (Some c) env places b end p cells).ending)
  octets_told t size step c octet one env places path p cells v le =
      let n = natural_of size env in
      let e = element.Number t in
      let contents = spelled_contents spells e env places p cells v in
      let shape = λ (b : List ℕ) (end : ℕ). shape_meaning sets senses e (Filling size step) env places b end p cells in
      let note : ℕ → List ℕ → Behavior = λ q cells. after_reading (places_from p n) (accepted q (with_copy c places p n cells)) in
      let is = λ (b : List ℕ) (end : ℕ).
      subst (λ o. copied_meaning c places n end p cells ≡ and_then (shape_meaning sets senses e (Filling size o) env places b end p cells) note) (sym one)
      (copied_is_filled sets senses t size c env places b end p cells (octet_is t.width t.order octet)) in
      let long = λ (x : Spelled) (h : spelled_shape spells e (Filling size step) env places p cells v ≡ Some x).
      let z = ended_some p (sized (fills step n) contents) x h in
      let y : Spelled = z.0 in
      ap (λ (y : Spelled). length y.bytes) (sym z.3) ∙ eqb-true (length y.bytes) n (and_parts (divides step n) (nat_eq (length y.bytes) n) (sized_some (fills step n) contents y z.1).1).1 in
      copied_told (UpTo (field_kind kinds e (Filling size step)).rest) p (Some c) places (shape_written whole sets writers e (Filling size step) env places path p cells v) (spelled_shape spells e (Filling size step) env places p cells v)
      (λ b end. (shape b end).ending) (λ b end. (copied_meaning c places n end p cells).ending)
      (λ b x end h m.
      ap (λ (y : Behavior). y.ending) (is b end) ∙ accepts_then (shape b end).ending (shape b end).reads note (p + length x.bytes) x.cells m
      ∙ ap (λ k. Accepted (p + length x.bytes) (with_copy c places p k x.cells)) (sym (long x h)))
      (λ reason b end h. subst (λ (x : Behavior). FailsFor reason x.ending) (sym (is b end)) (fails_then reason (shape b end).ending (shape b end).reads note h))
      (shape_told e (Filling size step) env places path p cells v refl le)

  -- what stands in a field, and where it goes
  pub content_told : (e : Element) (x : Extent) (parts : List Part) (copy : Option CopyOut) → OfSome (λ c. IsCopied e x parts) copy
      → (env places path : List ℕ) (p : ℕ) (cells : List ℕ) (v : Datum) → (is_filled x && (element_kind kinds e).rest) ≡ false → p ≤ MOST_WRITTEN
      → Told (UpTo (field_kind kinds e x).rest) p (copied copy places p (shape_written whole sets writers e x env places path p cells v)) (spelled_copied copy places p (spelled_shape spells e x env places p cells v))
      (λ b end. (content_meaning sets senses e x copy env places b end p cells).ending)
  content_told e x parts None h env places path p cells v k le =
      copied_told (UpTo (field_kind kinds e x).rest) p None places (shape_written whole sets writers e x env places path p cells v) (spelled_shape spells e x env places p cells v)
      (λ b end. (shape_meaning sets senses e x env places b end p cells).ending) (λ b end. (shape_meaning sets senses e x env places b end p cells).ending)
      (λ b y end h m. m) (λ reason b end h. h) (shape_told e x env places path p cells v k le)
  content_told (element.Number t) (Filling size step) (part ∷ []) (Some c) h env places path p cells v k le = octets_told t size step c h.0 h.1.0 env places path p cells v le
  content_told (element.Number t) (Filling size step) [] (Some c) h env places path p cells v k le = absurd h
  content_told (element.Number t) (Filling size step) (part ∷ another ∷ more) (Some c) h env places path p cells v k le = absurd h
  content_told (element.Number t) Once parts (Some c) h env places path p cells v k le = absurd h
  content_told (element.Number t) (OnceFilling size step) parts (Some c) h env places path p cells v k le = absurd h
  content_told (element.Number t) (UpToZero size) parts (Some c) h env places path p cells v k le = absurd h
  content_told (element.Number t) (Given source) parts (Some c) h env places path p cells v k le = absurd h
  content_told (element.Listed base j) x parts (Some c) h env places path p cells v k le = absurd h
  content_told (element.Named j args own) x parts (Some c) h env places path p cells v k le = absurd h
  content_told element.Unit x parts (Some c) h env places path p cells v k le = absurd h
  content_told element.Rest x parts (Some c) h env places path p cells v k le = absurd h
  content_told element.Zeros x parts (Some c) h env places path p cells v k le = absurd h

  -- a number alone isn't copied
  pub alone_is : (e : Element) (copy : Option CopyOut) (env places b : List ℕ) (end p : ℕ) (cells : List ℕ)
      → content_meaning sets senses e Once copy env places b end p cells ≡ shape_meaning sets senses e Once env places b end p cells
  alone_is e None env places b end p cells = refl
  alone_is e (Some c) env places b end p cells = refl

  -- the number that a field's refinement and action see is the value's
  left_seen : (t : NumberType) (env places cells : List ℕ) (p end : ℕ) (v : Datum) (x : Spelled) → spelled_left t p cells v ≡ Some x → AllAt end x.ends → end - p ≡ source_number natural_of Left env places cells v
  left_seen t env places cells p end (Number n) x h ends =
      let own : Spelled = record { bytes = []; cells = cells; ends = (p + n) ∷ [] } in
      let same : own ≡ x = same_Some own x (only_some (fits t None n) (Some own) x h).1 in
      let there : AllAt end ((p + n) ∷ []) = subst (λ (y : Spelled). AllAt end y.ends) (sym same) ends in
      omega (arith, there.0)
  left_seen t env places cells p end (Sequence vs) x h ends = absurd (none-some x h)
  left_seen t env places cells p end (Bytes bytes) x h ends = absurd (none-some x h)
  left_seen t env places cells p end Empty x h ends = absurd (none-some x h)

  source_seen : (t : NumberType) (s : Source) (env places cells : List ℕ) (p end : ℕ) (v : Datum) (x : Spelled) → spelled_source t s p cells v ≡ Some x → AllAt end x.ends
      → given_value s env places end p cells ≡ source_number natural_of s env places cells v
  source_seen t (Expression span e) env places cells p end v x h ends = refl
  source_seen t (FromCell cell) env places cells p end v x h ends = refl
  source_seen t Left env places cells p end v x h ends = left_seen t env places cells p end v x h ends

  pub number_seen : (e : Element) (z : Extent) (env places b post : List ℕ) (end p : ℕ) (cells : List ℕ) (v : Datum) (x : Spelled) → unit_type e z ≡ None → spelled_shape spells e z env places p cells v ≡ Some x → drop p b ≡ x.bytes ++ post → AllAt end x.ends
      → field_number e z env places b end p cells ≡ number_in natural_of e z env places cells v
  number_seen (element.Number t) Once env places b post end p cells v x u h at ends = absurd (cc)
  number_seen (element.Number t) (Filling size step) env places b post end p cells v x u h at ends = refl
  number_seen (element.Number t) (OnceFilling size step) env places b post end p cells v x u h at ends = refl
  number_seen (element.Number t) (UpToZero size) env places b post end p cells v x u h at ends = refl
  number_seen (element.Number t) (Given source) env places b post end p cells v x u h at ends = source_seen t source env places cells p end v x h ends
  number_seen (element.Listed base k) Once env places b post end p cells (Number n) x u h at ends =
      let own = bytes_alone (number_bytes base n) cells in
      let o = only_some (fits base None n) (Some own) x h in
      number_is base n p b post o.0 (at ∙ ap (λ (y : Spelled). y.bytes ++ post) (sym (same_Some own x o.1)))
  number_seen (element.Listed base k) Once env places b post end p cells (Sequence vs) x u h at ends = absurd (none-some x h)
  number_seen (element.Listed base k) Once env places b post end p cells (Bytes bytes) x u h at ends = absurd (none-some x h)
  number_seen (element.Listed base k) Once env places b post end p cells Empty x u h at ends = absurd (none-some x h)
  number_seen (element.Listed base k) (Filling size step) env places b post end p cells v x u h at ends = refl
  number_seen (element.Listed base k) (OnceFilling size step) env places b post end p cells v x u h at ends = refl
  number_seen (element.Listed base k) (UpToZero size) env places b post end p cells v x u h at ends = refl
  number_seen (element.Listed base k) (Given source) env places b post end p cells v x u h at ends = refl
  number_seen (element.Named j args own) z env places b post end p cells v x u h at ends = refl
  number_seen element.Unit z env places b post end p cells v x u h at ends = refl
  number_seen element.Rest z env places b post end p cells v x u h at ends = refl
  number_seen element.Zeros z env places b post end p cells v x u h at ends = refl
