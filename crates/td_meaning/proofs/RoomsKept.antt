-- What a copy buffer holds never passes its room: by the meaning as arithmetic in 64 bits gives it, which copies no more than the room.
use Rattle.std.proofs.Common.{◌≡◌, ◌⊎◌, inl, inr, ℕ, zero, suc, ◌+◌, ◌*◌, ◌<◌, ◌≤◌, min, Bool, true, false, cond, List, [], ◌∷◌, ◌++◌, length, map, drop, refl, sym, ap, ◌∙◌, subst, arith, Option, Some, None, nat_eq, nat_le}
use Rattle.std.specs.Prelude.{slice_get, slice_index, slice_set}
use Rattle.std.proofs.lemmas.Bool.{cases_order, eqb-true}
use Rattle.std.proofs.lemmas.List.{get_or-set_other, get_or-set_same, get_or-drop, length-set}
use Rattle.std.proofs.Math.ListN.{get_or-eq_default}
use Rattle.td_num.specs.Numbers.{bytes_in, number_at, places_from}
use Rattle.td_num.specs.Lists.{Each, is_among}
use Rattle.td_num.proofs.Lists.{each_taken}
use Rattle.td_core.specs.Term.{Term, Deed, done, set, keep, fork, answer, give_up}
use Rattle.td_meaning.specs.Imports.{NameId, Element, Number, Listed, Named, Unit as UnitElement, Rest, Zeros, Extent, Once, Filling, OnceFilling, UpToZero, Given as GivenExtent, CopyOut, Buffer, Part, Field, Body, Struct, Casetype, TypeDef, Reason, Constraint, Impossible, ListSize, NotEnough}
use Rattle.td_core.specs.Outcome.{Behavior, FramePlace, Ending, Accepted, Rejected, accepted, rejected, and_then, onward, within, after_reading}
use Rattle.td_core.specs.WellFormed.{OfSome, EachField}
use Rattle.td_core.specs.Copies.{IsCopyWhole, AreBuffersGiven, AreOwnGiven, IsElementGiven, NamesCells}
use Rattle.td_meaning.specs.Doing.{Effect, On, Returned, Aborted, after, either_way}
use Rattle.td_meaning.specs.Naming.{is_needed}
use Rattle.td_meaning.specs.Meaning.{Sense, values_of, taken, demanded, zeros_end, zeros_meaning, elements, divides, equals, element_up_to_zero, with_copy, ended, bits_of, number_places, extended, field_place, where_place, switch_place, first_name, pick}
use Rattle.td_meaning.specs.Words64.{value_of, is_truth, is_met, values, doing, acted, checked, with_part, parts_meaning, listed_meaning, element_meaning, shape_meaning, copied_meaning, content_meaning, field_number, fields_meaning, body_fields, chosen_meaning, definition_meaning, below}
use Rattle.td_meaning.specs.Copies.{cells_of}
use Rattle.td_meaning.proofs.CopiesKept.{IsMapWhole, IsFieldKept, count_in, same_cells, demanded_cells, index_map, zero_kept, case_kept}

module _ (first : ℕ) (rooms : List ℕ) where
  -- each buffer, its two cells behind the first ones, holds no more than it has room for
  abbrev pub Roomy : List ℕ → Type 0
  Roomy cells = (k : ℕ) → k < length rooms → count_in first k cells ≤ slice_index rooms k

  pub record Kept (t : Behavior) : Type 0 where
    pub roomy : Roomy (cells_of t.ending)

  -- ---- one after the other

  kept_same : (cells : List ℕ) (t : Behavior) → cells_of t.ending ≡ cells → Roomy cells → Kept t
  kept_same cells t e h = record { roomy = subst Roomy (sym e) h }

  kept_reading : (places : List ℕ) (t : Behavior) → Kept t → Kept (after_reading places t)
  kept_reading places t h = record { roomy = h.roomy }

  kept_then : (t : Behavior) (go : ℕ → List ℕ → Behavior) → Kept t → ((q : ℕ) (cells : List ℕ) → Roomy cells → Kept (go q cells)) → Kept (and_then t go)
  kept_then t go h next = by t.ending h.roomy
    where
      by : (o : Ending) → Roomy (cells_of o) → Kept (onward o t.reads go)
      by (Accepted q cells) c = record { roomy = (next q cells c).roomy }
      by (Rejected reason q trace cells) c = record { roomy = c }

  kept_within : (site : FramePlace) (t : Behavior) → Kept t → Kept (within site t)
  kept_within site t h = record { roomy = subst Roomy (sym (same_cells site t.ending)) h.roomy }

  kept_demanded : (reason : Reason) (v : Bool) (start q : ℕ) (cells : List ℕ) → Roomy cells → Kept (demanded reason v start q cells)
  kept_demanded reason v start q cells h = kept_same cells (demanded reason v start q cells) (demanded_cells reason v start q cells) h

  -- ---- cells

  -- where a definition's cells and buffers stand: its visible cells before the buffers of all, and each buffer on one of these, of its room
  pub record Stands (cells : ℕ) (buffers : List Buffer) (places : List ℕ) : Type 0 where
    pub own : (c : ℕ) → c < cells → slice_index places c < first
    pub pairs : (n : ℕ) (b : Buffer) → slice_get buffers n ≡ Some b
        → (k : ℕ) × ((slice_index places (cells + 2 * n) ≡ first + 2 * k) × ((slice_index places (cells + 2 * n + 1) ≡ first + 2 * k + 1) × (b.room ≡ slice_index rooms k)))

  abbrev pub StandsAt : Option TypeDef → List ℕ → Type 0
  StandsAt None places = Unit {0}
  StandsAt (Some d) places = Stands (length d.cells) d.buffers places

  front_roomy : (i v : ℕ) (cells : List ℕ) → i < first → Roomy cells → Roomy (slice_set cells i v)
  front_roomy i v cells lt h k inside =
      let same = get_or-set_other cells i (first + 2 * k + 1) v 0 (λ e. absurd (omega (arith, e, lt))) in
      let old = h k inside in
      omega (arith, same, old)

  abbrev once : ℕ → ℕ → List ℕ → List ℕ
  once k p cells = slice_set cells (first + 2 * k) p

  abbrev paired : ℕ → ℕ → ℕ → List ℕ → List ℕ
  paired k p n cells = slice_set (once k p cells) (first + 2 * k + 1) n

  pair_set : (k p n : ℕ) (cells : List ℕ) → n ≤ slice_index rooms k → count_in first k (paired k p n cells) ≤ slice_index rooms k
  pair_set k p n cells fits = by (cases_order (first + 2 * k + 1) (length cells))
    where
      long : length (once k p cells) ≡ length cells
      long = length-set cells (first + 2 * k) p

      whole : length (paired k p n cells) ≡ length (once k p cells)
      whole = length-set (once k p cells) (first + 2 * k + 1) n

      outside : length cells ≤ first + 2 * k + 1 → count_in first k (paired k p n cells) ≤ slice_index rooms k
      outside le = let none : count_in first k (paired k p n cells) ≡ 0 = get_or-eq_default (paired k p n cells) 0 (omega (arith, le, long, whole)) in omega (arith, none)

      by : ((first + 2 * k + 1 ≡ length cells) ⊎ ((first + 2 * k + 1 < length cells) ⊎ (length cells < first + 2 * k + 1))) → count_in first k (paired k p n cells) ≤ slice_index rooms k
      by (inl same) = outside (omega (arith, same))
      by (inr (inl inside)) = let is : count_in first k (paired k p n cells) ≡ n = get_or-set_same (once k p cells) (first + 2 * k + 1) n 0 (omega (arith, inside, long)) in omega (arith, is, fits)
      by (inr (inr past)) = outside (omega (arith, past))

  apart : (h k : ℕ) → (h < k) ⊎ (k < h) → h ≡ k → ⊥
  apart h k (inl lt) e = omega (arith, lt, e)
  apart h k (inr lt) e = omega (arith, lt, e)

  pair_roomy : (k p n : ℕ) (cells : List ℕ) → n ≤ slice_index rooms k → Roomy cells → Roomy (paired k p n cells)
  pair_roomy k p n cells fits h j inside = by (cases_order j k)
    where
      elsewhere : (j ≡ k → ⊥) → count_in first j (paired k p n cells) ≡ count_in first j cells
      elsewhere ne =
          get_or-set_other (once k p cells) (first + 2 * k + 1) (first + 2 * j + 1) n 0 (λ e. ne (omega (arith, e)))
          ∙ get_or-set_other cells (first + 2 * k) (first + 2 * j + 1) p 0 (λ e. absurd (omega (arith, e)))

      by : ((j ≡ k) ⊎ ((j < k) ⊎ (k < j))) → count_in first j (paired k p n cells) ≤ slice_index rooms j
      by (inl same) = subst (λ i. count_in first i (paired k p n cells) ≤ slice_index rooms i) (sym same) (pair_set k p n cells fits)
      by (inr other) = let same = elsewhere (apart j k other) in let old = h j inside in omega (arith, same, old)

  -- ---- actions

  abbrev cells_after : Effect → List ℕ
  cells_after (On cells) = cells
  cells_after (Returned value cells) = cells
  cells_after (Aborted cells) = cells

  deed_after : (e : Effect) (go : List ℕ → Effect) → Roomy (cells_after e) → ((cells : List ℕ) → Roomy cells → Roomy (cells_after (go cells))) → Roomy (cells_after (after e go))
  deed_after (On cells) go h next = next cells h
  deed_after (Returned value cells) go h next = h
  deed_after (Aborted cells) go h next = h

  ended_kept : (o : Effect) (start q : ℕ) → Roomy (cells_after o) → Kept (ended o start q)
  ended_kept (On cells) start q h = record { roomy = h }
  ended_kept (Returned true cells) start q h = record { roomy = h }
  ended_kept (Returned false cells) start q h = record { roomy = h }
  ended_kept (Aborted cells) start q h = record { roomy = h }

  module _ (n : ℕ) (places : List ℕ) (own : (c : ℕ) → c < n → slice_index places c < first) where
    deed_roomy : (d : Deed) (env cells : List ℕ) → NamesCells n d → Roomy cells → Roomy (cells_after (doing d env places cells))
    deed_roomy done env cells h r = r
    deed_roomy (set cell e then) env cells h r =
        deed_roomy then env (slice_set cells (slice_index places cell) (value_of e env)) h.1 (front_roomy (slice_index places cell) (value_of e env) cells (own cell h.0) r)
    deed_roomy (keep cell then) env cells h r = deed_roomy then (env ++ slice_index cells (slice_index places cell) ∷ []) cells h.1 r
    deed_roomy (fork e one other then) env cells h r =
        deed_after (either_way (is_truth (value_of e env)) (doing one env places cells) (doing other env places cells)) (doing then env places)
        (by (is_truth (value_of e env)) (deed_roomy one env cells h.0 r) (deed_roomy other env cells h.1.0 r)) (λ next s. deed_roomy then env next h.1.1 s)
      where
        by : (b : Bool) → Roomy (cells_after (doing one env places cells)) → Roomy (cells_after (doing other env places cells))
            → Roomy (cells_after (either_way b (doing one env places cells) (doing other env places cells)))
        by true here there = here
        by false here there = there
    deed_roomy (answer e) env cells h r = r
    deed_roomy give_up env cells h r = r

    acted_kept : (a : Option Deed) (env : List ℕ) (start q : ℕ) (cells : List ℕ) → OfSome (NamesCells n) a → Roomy cells → Kept (acted a env places start q cells)
    acted_kept None env start q cells h r = kept_same cells (accepted q cells) refl r
    acted_kept (Some d) env start q cells h r = ended_kept (doing d (env ++ start ∷ []) places cells) start q (deed_roomy d (env ++ start ∷ []) cells h r)

    parts_kept : (ty : NameId) (start v : ℕ) (ps : List Part) (env : List ℕ) (q : ℕ) (cells : List ℕ) → Each (λ p. OfSome (NamesCells n) p.action) ps → Roomy cells → Kept (parts_meaning ty start v ps env places q cells)
    unfolding parts_meaning
    parts_kept ty start v [] env q cells h r = kept_same cells (accepted q cells) refl r
    parts_kept ty start v (p ∷ ps) env q cells h r =
        let wider = with_part env v p in
        let site = field_place ty p.name start in
        kept_then (within site (checked p wider places start q cells)) (parts_meaning ty start v ps wider places)
        (kept_within site (checked p wider places start q cells)
        (kept_then (demanded Constraint (is_met p.refinement wider) start q cells) (acted p.action wider places start)
        (kept_demanded Constraint (is_met p.refinement wider) start q cells r) (λ t more s. acted_kept p.action wider start t more h.0 s)))
        (λ t more s. parts_kept ty start v ps wider t more h.1 s)

  -- ---- arguments

  -- a buffer of the type that is named is given one of the caller's, of the same room
  record Given (cells : ℕ) (bs : List Buffer) (ks : List ℕ) (n : ℕ) (e : Buffer) : Type 0 where
    number : ℕ
    buffer : Buffer
    there : slice_get bs number ≡ Some buffer
    room : buffer.room ≡ e.room
    place : slice_index ks (2 * n) ≡ cells + 2 * number
    count : slice_index ks (2 * n + 1) ≡ cells + 2 * number + 1

  pair_given : (cells : ℕ) (bs es : List Buffer) (ks : List ℕ) (n : ℕ) (e : Buffer) → AreBuffersGiven cells bs es ks → slice_get es n ≡ Some e → Given cells bs ks n e
  pair_given cells bs [] ks n e h at = absurd (cc)
  pair_given cells bs (x ∷ es) [] n e h at = absurd h
  pair_given cells bs (x ∷ es) (k ∷ []) n e h at = absurd h
  pair_given cells bs (x ∷ es) (k ∷ l ∷ ks) zero e h at =
      let own : x ≡ e = cc in
      record {
        number = h.0.number;
        buffer = h.0.buffer;
        there = h.0.there;
        room = h.0.room_is ∙ ap (λ (b : Buffer). b.room) own;
        place = h.0.cell_is;
        count = h.1.0 ∙ ap (λ y. y + 1) h.0.cell_is;
      }
  pair_given cells bs (x ∷ es) (k ∷ l ∷ ks) (suc n) e h at =
      let g = pair_given cells bs es ks n e h.1.1 at in
      let even : 2 * suc n ≡ suc (suc (2 * n)) = omega arith in
      let next : 2 * suc n + 1 ≡ suc (suc (2 * n + 1)) = omega arith in
      record {
        number = g.number;
        buffer = g.buffer;
        there = g.there;
        room = g.room;
        place = ap (slice_index (k ∷ l ∷ ks)) even ∙ g.place;
        count = ap (slice_index (k ∷ l ∷ ks)) next ∙ g.count;
      }

  there_within : (bs : List Buffer) (n : ℕ) (b : Buffer) → slice_get bs n ≡ Some b → n < length bs
  there_within [] n b e = absurd (cc)
  there_within (x ∷ bs) zero b e = omega arith
  there_within (x ∷ bs) (suc n) b e = let rest = there_within bs n b e in omega (arith, rest)

  -- where the cells of a type that is named stand
  given_stand : (d e : TypeDef) (places own : List ℕ) → Stands (length d.cells) d.buffers places → AreOwnGiven d (Some e) own → length own ≡ length e.cells + 2 * length e.buffers
      → Stands (length e.cells) e.buffers (map (slice_index places) own)
  given_stand d e places own s h long = record {
    own = λ c lt.
        subst (λ x. x < first) (sym (index_map (slice_index places) own c (omega (arith, lt, long))))
        (s.own (slice_index own c) (each_taken (λ k. k < length d.cells) (length e.cells) own c h.0 lt (omega (arith, lt, long))));
    pairs = λ n b there.
        let lt = there_within e.buffers n b there in
        let g = pair_given (length d.cells) d.buffers e.buffers (drop (length e.cells) own) n b h.1 there in
        let t = s.pairs g.number g.buffer g.there in
        let at : slice_index own (length e.cells + 2 * n) ≡ length d.cells + 2 * g.number = sym (get_or-drop (length e.cells) own (2 * n) 0) ∙ g.place in
        let then : slice_index own (length e.cells + 2 * n + 1) ≡ length d.cells + 2 * g.number + 1 =
        ap (slice_index own) (let e : length e.cells + 2 * n + 1 ≡ length e.cells + (2 * n + 1) = omega arith in e) ∙ sym (get_or-drop (length e.cells) own (2 * n + 1) 0) ∙ g.count in (
          t.0,
          (
            index_map (slice_index places) own (length e.cells + 2 * n) (omega (arith, lt, long)) ∙ ap (slice_index places) at ∙ t.1.0,
            (
              index_map (slice_index places) own (length e.cells + 2 * n + 1) (omega (arith, lt, long)) ∙ ap (slice_index places) then ∙ t.1.1.0,
              sym g.room ∙ t.1.1.1,
            ),
          ),
        );
  }

  -- ---- elements

  zeros_kept : (o : Option ℕ) (end p : ℕ) (cells : List ℕ) → cells_of (zeros_end o end p cells).ending ≡ cells
  zeros_kept None end p cells = refl
  zeros_kept (Some k) end p cells = refl

  up_to_zero_kept : (element : Element) (size : ℕ) (message : List ℕ) (end p : ℕ) (cells : List ℕ) → Roomy cells → Kept (element_up_to_zero element size message end p cells)
  up_to_zero_kept (Number type) size message end p cells r = kept_same cells _ (zero_kept _ _ _ _ p cells) r
  up_to_zero_kept (Listed base k) size message end p cells r = kept_same cells (rejected ListSize p cells) refl r
  up_to_zero_kept (Named j args own) size message end p cells r = kept_same cells (rejected ListSize p cells) refl r
  up_to_zero_kept UnitElement size message end p cells r = kept_same cells (rejected ListSize p cells) refl r
  up_to_zero_kept Rest size message end p cells r = kept_same cells (rejected ListSize p cells) refl r
  up_to_zero_kept Zeros size message end p cells r = kept_same cells (rejected ListSize p cells) refl r

  elements_kept : (each : ℕ → List ℕ → Behavior) (start end : ℕ) → ((q : ℕ) (cells : List ℕ) → Roomy cells → Kept (each q cells)) → (turns p : ℕ) (cells : List ℕ) → Roomy cells → Kept (elements each turns start end p cells)
  unfolding elements
  elements_kept each start end h zero p cells r = kept_demanded ListSize (nat_eq p end) start p cells r
  elements_kept each start end h (suc turns) p cells r = by (nat_eq p end) (λ q more s. elements_kept each start end h turns q more s)
    where
      by : (v : Bool) → ((q : ℕ) (more : List ℕ) → Roomy more → Kept (elements each turns start end q more)) → Kept (cond v (accepted p cells) (and_then (each p cells) (elements each turns start end)))
      by true later = kept_same cells (accepted p cells) refl r
      by false later = kept_then (each p cells) (elements each turns start end) (h p cells r) later

  -- ---- fields

  module _ (message : List ℕ) (sets : List (List ℕ)) (ds : List TypeDef) where
    pub record AllKept (senses : ℕ → Sense) : Type 0 where
      pub by : (j : ℕ) (args places cells : List ℕ) (p end : ℕ) → StandsAt (slice_get ds j) places → Roomy cells → Kept (senses j args places cells message p end)

    module _ (senses : ℕ → Sense) (good : AllKept senses) (d : TypeDef) (places : List ℕ) (stands : Stands (length d.cells) d.buffers places) where
      element_kept : (element : Element) (env : List ℕ) (start end p : ℕ) (cells : List ℕ) → IsElementGiven ds d element → IsMapWhole ds element → Roomy cells → Kept (element_meaning sets senses element env places message start end p cells)
      element_kept (Number type) env start end p cells g w r = kept_demanded NotEnough (nat_le (p + bytes_in type.width) end) start (p + bytes_in type.width) cells r
      element_kept (Listed base k) env start end p cells g w r =
          let n = bytes_in base.width in
          kept_then (taken n start end p cells) (λ q cells. after_reading (places_from p n) (demanded Constraint (is_among (values_of sets k) (number_at base message p)) start q cells))
          (kept_demanded NotEnough (nat_le (p + n) end) start (p + n) cells r)
          (λ q more s. kept_reading (places_from p n) (demanded Constraint (is_among (values_of sets k) (number_at base message p)) start q more)
          (kept_demanded Constraint (is_among (values_of sets k) (number_at base message p)) start q more s))
      element_kept (Named j args own) env start end p cells g w r = good.by j (values args env) (map (slice_index places) own) cells p end (by (slice_get ds j) g w) r
        where
          by : (o : Option TypeDef) → AreOwnGiven d o own → OfSome (λ e. length own ≡ length e.cells + 2 * length e.buffers) o → StandsAt o (map (slice_index places) own)
          by None g w = tt
          by (Some e) g w = given_stand d e places own stands g w
      element_kept UnitElement env start end p cells g w r = kept_same cells (accepted p cells) refl r
      element_kept Rest env start end p cells g w r = kept_same cells (accepted end cells) refl r
      element_kept Zeros env start end p cells g w r = kept_same cells (zeros_meaning message end p cells) (zeros_kept _ end p cells) r

      shape_kept : (element : Element) (extent : Extent) (env : List ℕ) (end p : ℕ) (cells : List ℕ) → IsElementGiven ds d element → IsMapWhole ds element → Roomy cells → Kept (shape_meaning sets senses element extent env places message end p cells)
      shape_kept element Once env end p cells g w r = element_kept element env p end p cells g w r
      shape_kept element (Filling size step) env end p cells g w r =
          let n = value_of size env in
          let each = element_meaning sets senses element env places message p in
          let fits = demanded ListSize (divides step n) p p in
          kept_then (taken n p end p cells) (λ q cells. and_then (fits cells) (elements (each q) (suc n) p q)) (kept_demanded NotEnough (nat_le (p + n) end) p (p + n) cells r)
          (λ q more s. kept_then (fits more) (elements (each q) (suc n) p q) (kept_demanded ListSize (divides step n) p p more s)
          (λ t last u. elements_kept (each q) p q (λ x final v. element_kept element env p q x final g w v) (suc n) t last u))
      shape_kept element (OnceFilling size step) env end p cells g w r =
          let n = value_of size env in
          let each = element_meaning sets senses element env places message p in
          let fits = demanded ListSize (equals step n) p p in
          kept_then (taken n p end p cells) (λ q cells. and_then (fits cells) (λ begin cells. and_then (each q begin cells) (λ t cells. demanded ListSize (nat_eq t q) p t cells))) (kept_demanded NotEnough (nat_le (p + n) end) p (p + n) cells r)
          (λ q more s. kept_then (fits more) (λ begin cells. and_then (each q begin cells) (λ t cells. demanded ListSize (nat_eq t q) p t cells)) (kept_demanded ListSize (equals step n) p p more s)
          (λ x last u. kept_then (each q x last) (λ t cells. demanded ListSize (nat_eq t q) p t cells) (element_kept element env p q x last g w u)
          (λ t final v. kept_demanded ListSize (nat_eq t q) p t final v)))
      shape_kept element (UpToZero size) env end p cells g w r = up_to_zero_kept element (value_of size env) message end p cells r
      shape_kept element (GivenExtent source) env end p cells g w r = kept_same cells (accepted p cells) refl r

      copied_kept : (f : Field) (c : CopyOut) (n end p : ℕ) (cells : List ℕ) → IsCopyWhole d f c → Roomy cells → Kept (copied_meaning c places n end p cells)
      copied_kept f c n end p cells whole r =
          let b = whole.buffer in
          let m = min n c.room in
          let t = stands.pairs b.number b.buffer b.there in
          let place : slice_index places c.cell ≡ first + 2 * t.0 = ap (slice_index places) b.cell_is ∙ t.1.0 in
          let count : slice_index places (c.cell + 1) ≡ first + 2 * t.0 + 1 = ap (λ k. slice_index places (k + 1)) b.cell_is ∙ t.1.1.0 in
          let room : c.room ≡ slice_index rooms t.0 = sym b.room_is ∙ t.1.1.1 in
          let fits : m ≤ slice_index rooms t.0 = omega (arith, room) in
          kept_then (taken n p end p cells) (λ q cells. after_reading (places_from p m) (accepted q (with_copy c places p m cells))) (kept_demanded NotEnough (nat_le (p + n) end) p (p + n) cells r)
          (λ q more s. record { roomy = subst (λ (x : ℕ × ℕ). Roomy (slice_set (slice_set more x.0 p) x.1 m)) (λ i. (sym place i, sym count i)) (pair_roomy t.0 p m more fits s) })

      content_kept : (f : Field) (extent : Extent) (copy : Option CopyOut) (env : List ℕ) (end p : ℕ) (cells : List ℕ) → IsFieldKept ds d f → OfSome (IsCopyWhole d f) copy → Roomy cells → Kept (content_meaning sets senses f.element extent copy env places message end p cells)
      content_kept f extent None env end p cells h whole r = shape_kept f.element extent env end p cells h.copying.element h.map_whole r
      content_kept f (Filling size step) (Some c) env end p cells h whole r = copied_kept f c (value_of size env) end p cells whole r
      content_kept f Once (Some c) env end p cells h whole r = shape_kept f.element Once env end p cells h.copying.element h.map_whole r
      content_kept f (OnceFilling size step) (Some c) env end p cells h whole r = shape_kept f.element (OnceFilling size step) env end p cells h.copying.element h.map_whole r
      content_kept f (UpToZero size) (Some c) env end p cells h whole r = shape_kept f.element (UpToZero size) env end p cells h.copying.element h.map_whole r
      content_kept f (GivenExtent source) (Some c) env end p cells h whole r = shape_kept f.element (GivenExtent source) env end p cells h.copying.element h.map_whole r

      fields_kept : (ty : NameId) (fs : List Field) (env : List ℕ) (end p : ℕ) (cells : List ℕ) → Each (IsFieldKept ds d) fs → Roomy cells → Kept (fields_meaning sets senses ty fs env places message end p cells)
      unfolding fields_meaning
      fields_kept ty [] env end p cells h r = kept_same cells (accepted p cells) refl r
      fields_kept ty (f ∷ later) env end p cells h r =
          let v = field_number f.element f.extent env places message end p cells in
          let content = content_meaning sets senses f.element f.extent f.copy env places message end p cells in
          let reads = number_places (is_needed (length env) f.parts later) f.element f.extent p in
          let rest = λ (q : ℕ) (cells : List ℕ). and_then (parts_meaning ty p v f.parts env places q cells) (fields_meaning sets senses ty later (extended env v f.parts) places message end) in
          kept_then (within (field_place ty (first_name f.parts) p) content) (λ q cells. after_reading reads (rest q cells))
          (kept_within (field_place ty (first_name f.parts) p) content (content_kept f f.extent f.copy env end p cells h.0 h.0.copying.copy r))
          (λ q more s. kept_reading reads (rest q more)
          (kept_then (parts_meaning ty p v f.parts env places q more) (fields_meaning sets senses ty later (extended env v f.parts) places message end)
          (parts_kept (length d.cells) places stands.own ty p v f.parts env q more h.0.copying.actions s)
          (λ t last u. fields_kept ty later (extended env v f.parts) end t last h.1 u)))

      chosen_kept : (ty : NameId) (o : Option (List Field)) (env : List ℕ) (end p : ℕ) (cells : List ℕ) → OfSome (Each (IsFieldKept ds d)) o → Roomy cells → Kept (chosen_meaning sets senses ty o env places message end p cells)
      chosen_kept ty None env end p cells h r = kept_within (switch_place ty p) (rejected Impossible p cells) (kept_same cells (rejected Impossible p cells) refl r)
      chosen_kept ty (Some fs) env end p cells h r = fields_kept ty fs env end p cells h r

      body_whole : (body : Body) (env : List ℕ) → EachField (IsFieldKept ds d) body → OfSome (Each (IsFieldKept ds d)) (body_fields body env)
      body_whole (Struct fs) env h = h
      body_whole (Casetype switch cases default) env h = case_kept ds d (value_of switch env) cases default h.0 h.1

      whole_kept : (env : List ℕ) (end p : ℕ) (cells : List ℕ) → EachField (IsFieldKept ds d) d.body → Roomy cells → Kept (definition_meaning sets senses (Some d) env places cells message p end)
      whole_kept env end p cells h r =
          let guard = demanded Constraint (is_met d.guard env) p p cells in
          kept_then (within (where_place d.name p) guard) (chosen_meaning sets senses d.name (body_fields d.body env) env places message end)
          (kept_within (where_place d.name p) guard (kept_demanded Constraint (is_met d.guard env) p p cells r))
          (λ q more s. chosen_kept d.name (body_fields d.body env) env end q more (body_whole d.body env h) s)

    definition_kept : (senses : ℕ → Sense) → AllKept senses → (o : Option TypeDef) → OfSome (λ d. EachField (IsFieldKept ds d) d.body) o → (args places cells : List ℕ) (p end : ℕ) → StandsAt o places → Roomy cells
        → Kept (definition_meaning sets senses o args places cells message p end)
    definition_kept senses good None h args places cells p end s r = kept_same cells (rejected Impossible p cells) refl r
    definition_kept senses good (Some d) h args places cells p end s r = whole_kept senses good d places s args end p cells h r

    pub below_kept : ((n : ℕ) → OfSome (λ d. EachField (IsFieldKept ds d) d.body) (slice_get ds n)) → (n : ℕ) → AllKept (below sets ds n)
    unfolding below
    below_kept h zero = record { by = λ j args places cells p end s r. kept_same cells (rejected Impossible p cells) refl r }
    below_kept h (suc n) = record { by = λ j args places cells p end s r. by_number (nat_eq j n) (below_kept h n) j refl args places cells p end s r }
      where
        by_number : (v : Bool) → AllKept (below sets ds n) → (j : ℕ) → nat_eq j n ≡ v → (args places cells : List ℕ) (p end : ℕ) → StandsAt (slice_get ds j) places → Roomy cells
            → Kept (pick v (definition_meaning sets (below sets ds n) (slice_get ds n)) (below sets ds n j) args places cells message p end)
        by_number true good j e args places cells p end s r =
            definition_kept (below sets ds n) good (slice_get ds n) (h n) args places cells p end (subst (λ k. StandsAt (slice_get ds k) places) (eqb-true j n e) s) r
        by_number false good j e args places cells p end s r = good.by j args places cells p end s r
