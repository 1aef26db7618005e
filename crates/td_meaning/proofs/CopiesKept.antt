-- What a copy buffer holds after a definition was read by it, or the buffer is as it was.
use Rattle.std.proofs.Common.{◌≡◌, ◌⊎◌, inl, inr, ℕ, zero, suc, ◌+◌, ◌*◌, ◌<◌, ◌≤◌, Bool, true, false, cond, List, [], ◌∷◌, ◌++◌, length, map, drop, refl, sym, ap, ◌∙◌, subst, arith, Option, Some, None, nat_eq, nat_le}
use Rattle.std.specs.Prelude.{slice_get, slice_index, slice_set}
use Rattle.std.proofs.lemmas.Bool.{cases_order, eqb-true}
use Rattle.std.proofs.lemmas.List.{get_or-set_other, get_or-set_same, get_or-drop, get_or-map, length-set}
use Rattle.std.proofs.lemmas.Option.{slice_get_within}
use Rattle.std.proofs.Math.ListN.{get_or-eq_default}
use Rattle.td_num.specs.Numbers.{bytes_in, number_at, places_from}
use Rattle.td_num.specs.Lists.{Each, is_among}
use Rattle.td_num.proofs.Lists.{each_map, each_taken}
use Rattle.td_core.specs.Term.{Term, Deed, done, set, keep, fork, answer, give_up}
use Rattle.td_meaning.specs.Imports.{NameId, Element, Number, Listed, Named, Unit as UnitElement, Rest, Zeros, Extent, Once, Filling, OnceFilling, UpToZero, Given, CopyOut, Buffer, Part, Field, Case, Body, Struct, Casetype, TypeDef, Reason, Constraint, Impossible, ListSize, NotEnough}
use Rattle.td_core.specs.Outcome.{Behavior, FramePlace, Ending, Accepted, Rejected, accepted, rejected, and_then, onward, ending_within, within, after_reading}
use Rattle.td_core.specs.WellFormed.{OfSome, EachField}
use Rattle.td_core.specs.Copies.{IsCopyWhole, AreBuffersGiven, AreOwnGiven, IsElementGiven, NamesCells, IsFieldCopying}
use Rattle.td_meaning.specs.Doing.{Effect, On, Returned, Aborted, after, either_way, doing, natural_of, is_true}
use Rattle.td_meaning.specs.Naming.{is_needed}
use Rattle.td_meaning.specs.Meaning.{Sense, values, values_of, taken, demanded, zeros_end, zeros_meaning, element_meaning, elements, divides, equals, zero_end, element_up_to_zero, shape_meaning, with_copy, content_meaning, refined, ended, acted, checked, parts_meaning, bits_of, field_number, number_places, extended, field_place, where_place, switch_place, first_name, fields_meaning, case_for, chosen_meaning, body_meaning, definition_meaning, below, pick}
use Rattle.td_meaning.specs.Copies.{cells_of}
use Rattle.td_meaning.specs.Forward.{IsAt}
use Rattle.td_meaning.proofs.Places.{at_left, at_right}

-- the two cells of buffer k, behind the first cells
abbrev pub place_in : ℕ → ℕ → List ℕ → ℕ
place_in first k cells = slice_index cells (first + 2 * k)

abbrev pub count_in : ℕ → ℕ → List ℕ → ℕ
count_in first k cells = slice_index cells (first + 2 * k + 1)

-- each buffer holds what it held, or bytes that were read
abbrev pub IsCovered : ℕ → List ℕ → List ℕ → List ℕ → ℕ → Type 0
IsCovered first reads old new k =
    ((place_in first k new ≡ place_in first k old) × (count_in first k new ≡ count_in first k old))
    ⊎ Each (λ q. IsAt q reads) (places_from (place_in first k new) (count_in first k new))

abbrev pub Covered : ℕ → List ℕ → List ℕ → List ℕ → Type 0
Covered first reads old new = (k : ℕ) → IsCovered first reads old new k

pub record Kept (first : ℕ) (old : List ℕ) (t : Behavior) : Type 0 where
  pub covered : Covered first t.reads old (cells_of t.ending)

same_covered : (first : ℕ) (reads cells : List ℕ) → Covered first reads cells cells
same_covered first reads cells k = inl (refl, refl)

covered_left : (first : ℕ) (xs ys old new : List ℕ) → Covered first xs old new → Covered first (xs ++ ys) old new
covered_left first xs ys old new h k = elim (h k) [ inl same ↦ inl same | inr read ↦ inr (each_map (λ q. IsAt q xs) (λ q. IsAt q (xs ++ ys)) _ (λ q g. at_left q xs ys g) read) ]

covered_right : (first : ℕ) (xs ys old new : List ℕ) → Covered first ys old new → Covered first (xs ++ ys) old new
covered_right first xs ys old new h k = elim (h k) [ inl same ↦ inl same | inr read ↦ inr (each_map (λ q. IsAt q ys) (λ q. IsAt q (xs ++ ys)) _ (λ q g. at_right q xs ys g) read) ]

covered_then : (first : ℕ) (xs ys old mid new : List ℕ) → Covered first xs old mid → Covered first ys mid new → Covered first (xs ++ ys) old new
covered_then first xs ys old mid new h g k = elim (g k) [
  | inr read ↦ inr (each_map (λ q. IsAt q ys) (λ q. IsAt q (xs ++ ys)) _ (λ q f. at_right q xs ys f) read)
  | inl same ↦ elim (covered_left first xs ys old mid h k) [
    | inl earlier ↦ inl (same.0 ∙ earlier.0, same.1 ∙ earlier.1)
    | inr read ↦ inr (subst (λ (x : ℕ × ℕ). Each (λ q. IsAt q (xs ++ ys)) (places_from x.0 x.1)) (λ i. (sym same.0 i, sym same.1 i)) read)
  ]
]

-- One after the other

kept_same : (first : ℕ) (cells : List ℕ) (t : Behavior) → cells_of t.ending ≡ cells → Kept first cells t
kept_same first cells t e = record { covered = subst (λ xs. Covered first t.reads cells xs) (sym e) (same_covered first t.reads cells) }

kept_reading : (first : ℕ) (places old : List ℕ) (t : Behavior) → Kept first old t → Kept first old (after_reading places t)
kept_reading first places old t h = record { covered = covered_right first places t.reads old (cells_of t.ending) h.covered }

kept_then : (first : ℕ) (old : List ℕ) (t : Behavior) (go : ℕ → List ℕ → Behavior) → Kept first old t → ((q : ℕ) (cells : List ℕ) → Kept first cells (go q cells)) → Kept first old (and_then t go)
kept_then first old t go h next = by t.ending h.covered
  where
    by : (o : Ending) → Covered first t.reads old (cells_of o) → Kept first old (onward o t.reads go)
    by (Accepted q cells) c = record { covered = covered_then first t.reads (go q cells).reads old cells (cells_of (go q cells).ending) c (next q cells).covered }
    by (Rejected reason q trace cells) c = record { covered = c }

pub same_cells : (site : FramePlace) (o : Ending) → cells_of (ending_within site o) ≡ cells_of o
same_cells site (Accepted q cells) = refl
same_cells site (Rejected reason q trace cells) = refl

kept_within : (first : ℕ) (old : List ℕ) (site : FramePlace) (t : Behavior) → Kept first old t → Kept first old (within site t)
kept_within first old site t h = record { covered = subst (λ xs. Covered first t.reads old xs) (sym (same_cells site t.ending)) h.covered }

pub demanded_cells : (reason : Reason) (v : Bool) (start q : ℕ) (cells : List ℕ) → cells_of (demanded reason v start q cells).ending ≡ cells
demanded_cells reason true start q cells = refl
demanded_cells reason false start q cells = refl

kept_demanded : (first : ℕ) (reason : Reason) (v : Bool) (start q : ℕ) (cells : List ℕ) → Kept first cells (demanded reason v start q cells)
kept_demanded first reason v start q cells = kept_same first cells (demanded reason v start q cells) (demanded_cells reason v start q cells)

-- Cells

-- where a definition's cells and buffers stand: its visible cells before the buffers of all, and each buffer on one of these
pub record Stands (first cells buffers : ℕ) (places : List ℕ) : Type 0 where
  pub own : (c : ℕ) → c < cells → slice_index places c < first
  pub pairs : (n : ℕ) → n < buffers → (k : ℕ) × ((slice_index places (cells + 2 * n) ≡ first + 2 * k) × (slice_index places (cells + 2 * n + 1) ≡ first + 2 * k + 1))

abbrev pub StandsAt : ℕ → Option TypeDef → List ℕ → Type 0
StandsAt first None places = Unit {0}
StandsAt first (Some d) places = Stands first (length d.cells) (length d.buffers) places

front_covered : (first i v : ℕ) (cells : List ℕ) → i < first → Covered first [] cells (slice_set cells i v)
front_covered first i v cells lt k = inl (
  get_or-set_other cells i (first + 2 * k) v 0 (λ e. absurd (omega (arith, e, lt))),
  get_or-set_other cells i (first + 2 * k + 1) v 0 (λ e. absurd (omega (arith, e, lt))),
)

each_self : (xs : List ℕ) → Each (λ q. IsAt q xs) xs
each_self [] = tt
each_self (x ∷ xs) = (inl refl, each_map (λ q. IsAt q xs) (λ q. IsAt q (x ∷ xs)) xs (λ q h. inr h) (each_self xs))

-- a buffer that holds other bytes
abbrev once : ℕ → ℕ → ℕ → List ℕ → List ℕ
once first k p cells = slice_set cells (first + 2 * k) p

abbrev paired : ℕ → ℕ → ℕ → ℕ → List ℕ → List ℕ
paired first k p n cells = slice_set (once first k p cells) (first + 2 * k + 1) n

apart : (h k : ℕ) → (h < k) ⊎ (k < h) → h ≡ k → ⊥
apart h k (inl lt) e = omega (arith, lt, e)
apart h k (inr lt) e = omega (arith, lt, e)

pair_elsewhere : (first k p n h : ℕ) (cells : List ℕ) → (h ≡ k → ⊥) → (place_in first h (paired first k p n cells) ≡ place_in first h cells) × (count_in first h (paired first k p n cells) ≡ count_in first h cells)
pair_elsewhere first k p n h cells ne = (
  get_or-set_other (once first k p cells) (first + 2 * k + 1) (first + 2 * h) n 0 (λ e. absurd (omega (arith, e)))
      ∙ get_or-set_other cells (first + 2 * k) (first + 2 * h) p 0 (λ e. ne (omega (arith, e))),
  get_or-set_other (once first k p cells) (first + 2 * k + 1) (first + 2 * h + 1) n 0 (λ e. ne (omega (arith, e)))
      ∙ get_or-set_other cells (first + 2 * k) (first + 2 * h + 1) p 0 (λ e. absurd (omega (arith, e))),
)

pair_set : (first k p n : ℕ) (cells : List ℕ) → first + 2 * k + 1 < length cells → IsCovered first (places_from p n) cells (paired first k p n cells) k
pair_set first k p n cells inside =
    let long : length (once first k p cells) ≡ length cells = length-set cells (first + 2 * k) p in
    let place : place_in first k (paired first k p n cells) ≡ p =
    get_or-set_other (once first k p cells) (first + 2 * k + 1) (first + 2 * k) n 0 (λ e. absurd (omega (arith, e)))
    ∙ get_or-set_same cells (first + 2 * k) p 0 (omega (arith, inside)) in
    let count : count_in first k (paired first k p n cells) ≡ n = get_or-set_same (once first k p cells) (first + 2 * k + 1) n 0 (omega (arith, inside, long)) in
    inr (subst (λ (x : ℕ × ℕ). Each (λ q. IsAt q (places_from p n)) (places_from x.0 x.1)) (λ j. (sym place j, sym count j)) (each_self (places_from p n)))

pair_past : (first k p n : ℕ) (cells : List ℕ) → length cells ≤ first + 2 * k + 1 → IsCovered first (places_from p n) cells (paired first k p n cells) k
pair_past first k p n cells le =
    let long : length (once first k p cells) ≡ length cells = length-set cells (first + 2 * k) p in
    let two : length (paired first k p n cells) ≡ length (once first k p cells) = length-set (once first k p cells) (first + 2 * k + 1) n in
    let count : count_in first k (paired first k p n cells) ≡ 0 = get_or-eq_default (paired first k p n cells) 0 (omega (arith, le, long, two)) in
    inr (subst (λ (c : ℕ). Each (λ q. IsAt q (places_from p n)) (places_from (place_in first k (paired first k p n cells)) c)) (sym count) tt)

pair_here : (first k p n : ℕ) (cells : List ℕ) → IsCovered first (places_from p n) cells (paired first k p n cells) k
pair_here first k p n cells = by (cases_order (first + 2 * k + 1) (length cells))
  where
    by : ((first + 2 * k + 1 ≡ length cells) ⊎ ((first + 2 * k + 1 < length cells) ⊎ (length cells < first + 2 * k + 1))) → IsCovered first (places_from p n) cells (paired first k p n cells) k
    by (inl same) = pair_past first k p n cells (omega (arith, same))
    by (inr (inl inside)) = pair_set first k p n cells inside
    by (inr (inr outside)) = pair_past first k p n cells (omega (arith, outside))

pair_covered : (first k p n : ℕ) (cells : List ℕ) → Covered first (places_from p n) cells (paired first k p n cells)
pair_covered first k p n cells h = by (cases_order h k)
  where
    by : ((h ≡ k) ⊎ ((h < k) ⊎ (k < h))) → IsCovered first (places_from p n) cells (paired first k p n cells) h
    by (inl same) = subst (IsCovered first (places_from p n) cells (paired first k p n cells)) (sym same) (pair_here first k p n cells)
    by (inr other) = inl (pair_elsewhere first k p n h cells (apart h k other))

-- Actions

abbrev pub cells_after : Effect → List ℕ
cells_after (On cells) = cells
cells_after (Returned value cells) = cells
cells_after (Aborted cells) = cells

deed_after : (first : ℕ) (old : List ℕ) (e : Effect) (go : List ℕ → Effect) → Covered first [] old (cells_after e) → ((cells : List ℕ) → Covered first [] cells (cells_after (go cells))) → Covered first [] old (cells_after (after e go))
deed_after first old (On cells) go h next = covered_then first [] [] old cells (cells_after (go cells)) h (next cells)
deed_after first old (Returned value cells) go h next = h
deed_after first old (Aborted cells) go h next = h

module _ (first n : ℕ) (places : List ℕ) (own : (c : ℕ) → c < n → slice_index places c < first) where
  deed_covered : (d : Deed) (env cells : List ℕ) → NamesCells n d → Covered first [] cells (cells_after (doing d env places cells))
  deed_covered done env cells h = same_covered first [] cells
  deed_covered (set cell e then) env cells h =
      let next = slice_set cells (slice_index places cell) (natural_of e env) in
      covered_then first [] [] cells next (cells_after (doing then env places next)) (front_covered first (slice_index places cell) (natural_of e env) cells (own cell h.0)) (deed_covered then env next h.1)
  deed_covered (keep cell then) env cells h = deed_covered then (env ++ slice_index cells (slice_index places cell) ∷ []) cells h.1
  deed_covered (fork e one other then) env cells h =
      deed_after first cells (either_way (is_true e env) (doing one env places cells) (doing other env places cells)) (doing then env places)
      (by (is_true e env) (deed_covered one env cells h.0) (deed_covered other env cells h.1.0)) (λ next. deed_covered then env next h.1.1)
    where
      by : (b : Bool) → Covered first [] cells (cells_after (doing one env places cells)) → Covered first [] cells (cells_after (doing other env places cells))
          → Covered first [] cells (cells_after (either_way b (doing one env places cells) (doing other env places cells)))
      by true here there = here
      by false here there = there
  deed_covered (answer e) env cells h = same_covered first [] cells
  deed_covered give_up env cells h = same_covered first [] cells

  ended_kept : (o : Effect) (old : List ℕ) (start q : ℕ) → Covered first [] old (cells_after o) → Kept first old (ended o start q)
  ended_kept (On cells) old start q h = record { covered = h }
  ended_kept (Returned true cells) old start q h = record { covered = h }
  ended_kept (Returned false cells) old start q h = record { covered = h }
  ended_kept (Aborted cells) old start q h = record { covered = h }

  refined_kept : (r : Option Term) (env : List ℕ) (start q : ℕ) (cells : List ℕ) → Kept first cells (refined r env start q cells)
  refined_kept None env start q cells = kept_same first cells (accepted q cells) refl
  refined_kept (Some e) env start q cells = kept_demanded first Constraint (is_true e env) start q cells

  acted_kept : (a : Option Deed) (env : List ℕ) (start q : ℕ) (cells : List ℕ) → OfSome (NamesCells n) a → Kept first cells (acted a env places start q cells)
  acted_kept None env start q cells h = kept_same first cells (accepted q cells) refl
  acted_kept (Some d) env start q cells h = ended_kept (doing d (env ++ start ∷ []) places cells) cells start q (deed_covered d (env ++ start ∷ []) cells h)

  parts_kept : (ty : NameId) (start v : ℕ) (ps : List Part) (env : List ℕ) (q : ℕ) (cells : List ℕ) → Each (λ p. OfSome (NamesCells n) p.action) ps → Kept first cells (parts_meaning ty start v ps env places q cells)
  unfolding parts_meaning
  parts_kept ty start v [] env q cells h = kept_same first cells (accepted q cells) refl
  parts_kept ty start v (p ∷ ps) env q cells h =
      let wider = env ++ bits_of p.bits v ∷ [] in
      let site = field_place ty p.name start in
      kept_then first cells (within site (checked p wider places start q cells)) (parts_meaning ty start v ps wider places)
      (kept_within first cells site (checked p wider places start q cells)
      (kept_then first cells (refined p.refinement wider start q cells) (acted p.action wider places start) (refined_kept p.refinement wider start q cells) (λ r more. acted_kept p.action wider start r more h.0)))
      (λ r more. parts_kept ty start v ps wider r more h.1)

-- Arguments

-- a cell map is as long as the cells of the type and its buffers
abbrev pub IsMapWhole : List TypeDef → Element → Type 0
IsMapWhole ds (Named j args own) = OfSome (λ d. length own ≡ length d.cells + 2 * length d.buffers) (slice_get ds j)
IsMapWhole ds element = Unit {0}

pair_given : (cells : ℕ) (bs es : List Buffer) (ks : List ℕ) (n : ℕ) → AreBuffersGiven cells bs es ks → n < length es
    → (m : ℕ) × ((m < length bs) × ((slice_index ks (2 * n) ≡ cells + 2 * m) × (slice_index ks (2 * n + 1) ≡ cells + 2 * m + 1)))
pair_given cells bs [] ks n h lt = absurd (omega (arith, lt))
pair_given cells bs (e ∷ es) [] n h lt = absurd h
pair_given cells bs (e ∷ es) (k ∷ []) n h lt = absurd h
pair_given cells bs (e ∷ es) (k ∷ l ∷ ks) zero h lt = (h.0.number, (slice_get_within bs h.0.number h.0.buffer h.0.there, (h.0.cell_is, h.1.0 ∙ ap (λ x. x + 1) h.0.cell_is)))
pair_given cells bs (e ∷ es) (k ∷ l ∷ ks) (suc n) h lt =
    let g = pair_given cells bs es ks n h.1.1 (omega (arith, lt)) in
    let even : 2 * suc n ≡ suc (suc (2 * n)) = omega arith in
    let next : 2 * suc n + 1 ≡ suc (suc (2 * n + 1)) = omega arith in
    (g.0, (g.1.0, (ap (slice_index (k ∷ l ∷ ks)) even ∙ g.1.1.0, ap (slice_index (k ∷ l ∷ ks)) next ∙ g.1.1.1)))

pub index_map : (f : ℕ → ℕ) (xs : List ℕ) (c : ℕ) → c < length xs → slice_index (map f xs) c ≡ f (slice_index xs c)
index_map f xs c lt = get_or-map f xs c 0 0 lt

-- where the cells of a type that is named stand
given_stand : (first : ℕ) (d e : TypeDef) (places own : List ℕ) → Stands first (length d.cells) (length d.buffers) places → AreOwnGiven d (Some e) own → length own ≡ length e.cells + 2 * length e.buffers
    → Stands first (length e.cells) (length e.buffers) (map (slice_index places) own)
given_stand first d e places own s h long = record {
  own = λ c lt.
      subst (λ x. x < first) (sym (index_map (slice_index places) own c (omega (arith, lt, long))))
      (s.own (slice_index own c) (each_taken (λ k. k < length d.cells) (length e.cells) own c h.0 lt (omega (arith, lt, long))));
  pairs = λ n lt.
      let g = pair_given (length d.cells) d.buffers e.buffers (drop (length e.cells) own) n h.1 lt in
      let t = s.pairs g.0 g.1.0 in
      let at : slice_index own (length e.cells + 2 * n) ≡ length d.cells + 2 * g.0 = sym (get_or-drop (length e.cells) own (2 * n) 0) ∙ g.1.1.0 in
      let then : slice_index own (length e.cells + 2 * n + 1) ≡ length d.cells + 2 * g.0 + 1 =
      ap (slice_index own) (let e : length e.cells + 2 * n + 1 ≡ length e.cells + (2 * n + 1) = omega arith in e) ∙ sym (get_or-drop (length e.cells) own (2 * n + 1) 0) ∙ g.1.1.1 in (
        t.0,
        (
          index_map (slice_index places) own (length e.cells + 2 * n) (omega (arith, lt, long)) ∙ ap (slice_index places) at ∙ t.1.0,
          index_map (slice_index places) own (length e.cells + 2 * n + 1) (omega (arith, lt, long)) ∙ ap (slice_index places) then ∙ t.1.1,
        ),
      );
}

zeros_kept : (first : ℕ) (o : Option ℕ) (end p : ℕ) (cells : List ℕ) → cells_of (zeros_end o end p cells).ending ≡ cells
zeros_kept first None end p cells = refl
zeros_kept first (Some k) end p cells = refl

pub zero_kept : (o : Option ℕ) (w bound room p : ℕ) (cells : List ℕ) → cells_of (zero_end o w bound room p cells).ending ≡ cells
zero_kept None w bound room p cells = refl
zero_kept (Some k) w bound room p cells = refl

up_to_zero_kept : (first : ℕ) (element : Element) (size : ℕ) (message : List ℕ) (end p : ℕ) (cells : List ℕ) → Kept first cells (element_up_to_zero element size message end p cells)
up_to_zero_kept first (Number type) size message end p cells = kept_same first cells _ (zero_kept _ _ _ _ p cells)
up_to_zero_kept first (Listed base k) size message end p cells = kept_same first cells (rejected ListSize p cells) refl
up_to_zero_kept first (Named j args own) size message end p cells = kept_same first cells (rejected ListSize p cells) refl
up_to_zero_kept first UnitElement size message end p cells = kept_same first cells (rejected ListSize p cells) refl
up_to_zero_kept first Rest size message end p cells = kept_same first cells (rejected ListSize p cells) refl
up_to_zero_kept first Zeros size message end p cells = kept_same first cells (rejected ListSize p cells) refl

elements_kept : (first : ℕ) (each : ℕ → List ℕ → Behavior) (start end : ℕ) → ((q : ℕ) (cells : List ℕ) → Kept first cells (each q cells)) → (turns p : ℕ) (cells : List ℕ) → Kept first cells (elements each turns start end p cells)
unfolding elements
elements_kept first each start end h zero p cells = kept_demanded first ListSize (nat_eq p end) start p cells
elements_kept first each start end h (suc turns) p cells = by (nat_eq p end) (λ q more. elements_kept first each start end h turns q more)
  where
    by : (v : Bool) → ((q : ℕ) (more : List ℕ) → Kept first more (elements each turns start end q more)) → Kept first cells (cond v (accepted p cells) (and_then (each p cells) (elements each turns start end)))
    by true later = kept_same first cells (accepted p cells) refl
    by false later = kept_then first cells (each p cells) (elements each turns start end) (h p cells) later

-- Fields

-- what is asked of a field
pub record IsFieldKept (ds : List TypeDef) (d : TypeDef) (f : Field) : Type 0 where
  pub copying : IsFieldCopying ds d f
  pub map_whole : IsMapWhole ds f.element

pub case_kept : (ds : List TypeDef) (d : TypeDef) (n : ℕ) (cs : List Case) (default : Option (List Field)) → Each (λ c. Each (IsFieldKept ds d) c.fields) cs → OfSome (Each (IsFieldKept ds d)) default → OfSome (Each (IsFieldKept ds d)) (case_for n cs default)
case_kept ds d n [] default h g = g
case_kept ds d n (c ∷ cs) default h g = by (nat_eq c.value n) (case_kept ds d n cs default h.1 g)
  where
    by : (b : Bool) → OfSome (Each (IsFieldKept ds d)) (case_for n cs default) → OfSome (Each (IsFieldKept ds d)) (cond b (Some c.fields) (case_for n cs default))
    by true later = h.0
    by false later = later

module _ (first : ℕ) (message : List ℕ) (sets : List (List ℕ)) (ds : List TypeDef) where
  pub record AllKept (senses : ℕ → Sense) : Type 0 where
    pub by : (j : ℕ) (args places cells : List ℕ) (p end : ℕ) → StandsAt first (slice_get ds j) places → Kept first cells (senses j args places cells message p end)

  module _ (senses : ℕ → Sense) (good : AllKept senses) (d : TypeDef) (places : List ℕ) (stands : Stands first (length d.cells) (length d.buffers) places) where
    element_kept : (element : Element) (env : List ℕ) (start end p : ℕ) (cells : List ℕ) → IsElementGiven ds d element → IsMapWhole ds element → Kept first cells (element_meaning sets senses element env places message start end p cells)
    element_kept (Number type) env start end p cells g w = kept_demanded first NotEnough (nat_le (p + bytes_in type.width) end) start (p + bytes_in type.width) cells
    element_kept (Listed base k) env start end p cells g w =
        let n = bytes_in base.width in
        kept_then first cells (taken n start end p cells) (λ q cells. after_reading (places_from p n) (demanded Constraint (is_among (values_of sets k) (number_at base message p)) start q cells))
        (kept_demanded first NotEnough (nat_le (p + n) end) start (p + n) cells)
        (λ q more. kept_reading first (places_from p n) more (demanded Constraint (is_among (values_of sets k) (number_at base message p)) start q more)
        (kept_demanded first Constraint (is_among (values_of sets k) (number_at base message p)) start q more))
    element_kept (Named j args own) env start end p cells g w = good.by j (values args env) (map (slice_index places) own) cells p end (by (slice_get ds j) g w)
      where
        by : (o : Option TypeDef) → AreOwnGiven d o own → OfSome (λ e. length own ≡ length e.cells + 2 * length e.buffers) o → StandsAt first o (map (slice_index places) own)
        by None g w = tt
        by (Some e) g w = given_stand first d e places own stands g w
    element_kept UnitElement env start end p cells g w = kept_same first cells (accepted p cells) refl
    element_kept Rest env start end p cells g w = kept_same first cells (accepted end cells) refl
    element_kept Zeros env start end p cells g w = kept_same first cells (zeros_meaning message end p cells) (zeros_kept first _ end p cells)

    shape_kept : (element : Element) (extent : Extent) (env : List ℕ) (end p : ℕ) (cells : List ℕ) → IsElementGiven ds d element → IsMapWhole ds element → Kept first cells (shape_meaning sets senses element extent env places message end p cells)
    shape_kept element Once env end p cells g w = element_kept element env p end p cells g w
    shape_kept element (Filling size step) env end p cells g w =
        let n = natural_of size env in
        let each = element_meaning sets senses element env places message p in
        let fits = demanded ListSize (divides step n) p p in
        kept_then first cells (taken n p end p cells) (λ q cells. and_then (fits cells) (elements (each q) (suc n) p q)) (kept_demanded first NotEnough (nat_le (p + n) end) p (p + n) cells)
        (λ q more. kept_then first more (fits more) (elements (each q) (suc n) p q) (kept_demanded first ListSize (divides step n) p p more)
        (λ r last. elements_kept first (each q) p q (λ t final. element_kept element env p q t final g w) (suc n) r last))
    shape_kept element (OnceFilling size step) env end p cells g w =
        let n = natural_of size env in
        let each = element_meaning sets senses element env places message p in
        let fits = demanded ListSize (equals step n) p p in
        kept_then first cells (taken n p end p cells) (λ q cells. and_then (fits cells) (λ r cells. and_then (each q r cells) (λ t cells. demanded ListSize (nat_eq t q) p t cells))) (kept_demanded first NotEnough (nat_le (p + n) end) p (p + n) cells)
        (λ q more. kept_then first more (fits more) (λ r cells. and_then (each q r cells) (λ t cells. demanded ListSize (nat_eq t q) p t cells)) (kept_demanded first ListSize (equals step n) p p more)
        (λ r last. kept_then first last (each q r last) (λ t cells. demanded ListSize (nat_eq t q) p t cells) (element_kept element env p q r last g w)
        (λ t final. kept_demanded first ListSize (nat_eq t q) p t final)))
    shape_kept element (UpToZero size) env end p cells g w = up_to_zero_kept first element (natural_of size env) message end p cells
    shape_kept element (Given source) env end p cells g w = kept_same first cells (accepted p cells) refl

    copied_kept : (f : Field) (c : CopyOut) (n end p : ℕ) (cells : List ℕ) → IsCopyWhole d f c
        → Kept first cells (and_then (taken n p end p cells) (λ q cells. after_reading (places_from p n) (accepted q (with_copy c places p n cells))))
    copied_kept f c n end p cells whole =
        let b = whole.buffer in
        let t = stands.pairs b.number (slice_get_within d.buffers b.number b.buffer b.there) in
        let place : slice_index places c.cell ≡ first + 2 * t.0 = ap (slice_index places) b.cell_is ∙ t.1.0 in
        let count : slice_index places (c.cell + 1) ≡ first + 2 * t.0 + 1 = ap (λ k. slice_index places (k + 1)) b.cell_is ∙ t.1.1 in
        kept_then first cells (taken n p end p cells) (λ q cells. after_reading (places_from p n) (accepted q (with_copy c places p n cells))) (kept_demanded first NotEnough (nat_le (p + n) end) p (p + n) cells)
        (λ q more. record {
          covered = covered_left first (places_from p n) [] more (with_copy c places p n more)
              (subst (λ (x : ℕ × ℕ). Covered first (places_from p n) more (slice_set (slice_set more x.0 p) x.1 n)) (λ i. (sym place i, sym count i)) (pair_covered first t.0 p n more));
        })

    content_kept : (f : Field) (extent : Extent) (copy : Option CopyOut) (env : List ℕ) (end p : ℕ) (cells : List ℕ) → IsFieldKept ds d f → OfSome (IsCopyWhole d f) copy → Kept first cells (content_meaning sets senses f.element extent copy env places message end p cells)
    content_kept f extent None env end p cells h whole = shape_kept f.element extent env end p cells h.copying.element h.map_whole
    content_kept f (Filling size step) (Some c) env end p cells h whole = copied_kept f c (natural_of size env) end p cells whole
    content_kept f Once (Some c) env end p cells h whole = shape_kept f.element Once env end p cells h.copying.element h.map_whole
    content_kept f (OnceFilling size step) (Some c) env end p cells h whole = shape_kept f.element (OnceFilling size step) env end p cells h.copying.element h.map_whole
    content_kept f (UpToZero size) (Some c) env end p cells h whole = shape_kept f.element (UpToZero size) env end p cells h.copying.element h.map_whole
    content_kept f (Given source) (Some c) env end p cells h whole = shape_kept f.element (Given source) env end p cells h.copying.element h.map_whole

    fields_kept : (ty : NameId) (fs : List Field) (env : List ℕ) (end p : ℕ) (cells : List ℕ) → Each (IsFieldKept ds d) fs → Kept first cells (fields_meaning sets senses ty fs env places message end p cells)
    unfolding fields_meaning
    fields_kept ty [] env end p cells h = kept_same first cells (accepted p cells) refl
    fields_kept ty (f ∷ later) env end p cells h =
        let v = field_number f.element f.extent env places message end p cells in
        let content = content_meaning sets senses f.element f.extent f.copy env places message end p cells in
        let reads = number_places (is_needed (length env) f.parts later) f.element f.extent p in
        let rest = λ (q : ℕ) (cells : List ℕ). and_then (parts_meaning ty p v f.parts env places q cells) (fields_meaning sets senses ty later (extended env v f.parts) places message end) in
        kept_then first cells (within (field_place ty (first_name f.parts) p) content) (λ q cells. after_reading reads (rest q cells))
        (kept_within first cells (field_place ty (first_name f.parts) p) content (content_kept f f.extent f.copy env end p cells h.0 h.0.copying.copy))
        (λ q more. kept_reading first reads more (rest q more)
        (kept_then first more (parts_meaning ty p v f.parts env places q more) (fields_meaning sets senses ty later (extended env v f.parts) places message end)
        (parts_kept first (length d.cells) places stands.own ty p v f.parts env q more h.0.copying.actions)
        (λ r last. fields_kept ty later (extended env v f.parts) end r last h.1)))

    chosen_kept : (ty : NameId) (o : Option (List Field)) (env : List ℕ) (end p : ℕ) (cells : List ℕ) → OfSome (Each (IsFieldKept ds d)) o → Kept first cells (chosen_meaning sets senses ty o env places message end p cells)
    chosen_kept ty None env end p cells h = kept_within first cells (switch_place ty p) (rejected Impossible p cells) (kept_same first cells (rejected Impossible p cells) refl)
    chosen_kept ty (Some fs) env end p cells h = fields_kept ty fs env end p cells h

    body_kept : (ty : NameId) (body : Body) (env : List ℕ) (end p : ℕ) (cells : List ℕ) → EachField (IsFieldKept ds d) body → Kept first cells (body_meaning sets senses ty body env places message end p cells)
    body_kept ty (Struct fs) env end p cells h = fields_kept ty fs env end p cells h
    body_kept ty (Casetype switch cases default) env end p cells h = chosen_kept ty (case_for (natural_of switch env) cases default) env end p cells (case_kept ds d (natural_of switch env) cases default h.0 h.1)

    whole_kept : (env : List ℕ) (end p : ℕ) (cells : List ℕ) → EachField (IsFieldKept ds d) d.body → Kept first cells (definition_meaning sets senses (Some d) env places cells message p end)
    whole_kept env end p cells h =
        kept_then first cells (within (where_place d.name p) (refined d.guard env p p cells)) (body_meaning sets senses d.name d.body env places message end)
        (kept_within first cells (where_place d.name p) (refined d.guard env p p cells) (refined_kept first (length d.cells) places stands.own d.guard env p p cells))
        (λ q more. body_kept d.name d.body env end q more h)

  definition_kept : (senses : ℕ → Sense) → AllKept senses → (o : Option TypeDef) → OfSome (λ d. EachField (IsFieldKept ds d) d.body) o → (args places cells : List ℕ) (p end : ℕ) → StandsAt first o places
      → Kept first cells (definition_meaning sets senses o args places cells message p end)
  definition_kept senses good None h args places cells p end s = kept_same first cells (rejected Impossible p cells) refl
  definition_kept senses good (Some d) h args places cells p end s = whole_kept senses good d places s args end p cells h

  pub below_kept : ((n : ℕ) → OfSome (λ d. EachField (IsFieldKept ds d) d.body) (slice_get ds n)) → (n : ℕ) → AllKept (below sets ds n)
  unfolding below
  below_kept h zero = record { by = λ j args places cells p end s. kept_same first cells (rejected Impossible p cells) refl }
  below_kept h (suc n) = record { by = λ j args places cells p end s. by_number (nat_eq j n) (below_kept h n) j refl args places cells p end s }
    where
      by_number : (v : Bool) → AllKept (below sets ds n) → (j : ℕ) → nat_eq j n ≡ v → (args places cells : List ℕ) (p end : ℕ) → StandsAt first (slice_get ds j) places
          → Kept first cells (pick v (definition_meaning sets (below sets ds n) (slice_get ds n)) (below sets ds n j) args places cells message p end)
      by_number true good j e args places cells p end s =
          definition_kept (below sets ds n) good (slice_get ds n) (h n) args places cells p end (subst (λ k. StandsAt first (slice_get ds k) places) (eqb-true j n e) s)
      by_number false good j e args places cells p end s = good.by j args places cells p end s
