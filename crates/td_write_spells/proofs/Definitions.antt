-- Definitions and modules.
use Rattle.std.proofs.Common.{◌≡◌, ℕ, zero, suc, ◌+◌, ◌≤◌, Bool, true, false, cond, ◌||◌, ◌&&◌, List, [], ◌∷◌, length, refl, sym, ap, ◌∙◌, subst, arith, Option, Some, None, slice_get}
use Rattle.std.specs.Prelude.{nat_eq}
use Rattle.std.proofs.lemmas.Bool.{eqb-true, eqb-false, or_parts}
use Rattle.std.proofs.lemmas.Option.{none-some, same_Some}
use Rattle.std.proofs.lemmas.List.{append-nil}
use Rattle.td_num.specs.Numbers.{places_from}
use Rattle.td_write_spells.specs.Imports.{NumberType, Kind, NameId, Part, Field, Case, Body, Struct, Casetype, TypeDef, Reason, Shape, Range, Broken, Size, Long}
use Rattle.td_num.specs.Lists.{Each}
use Rattle.td_num.proofs.Lists.{each_at}
use Rattle.td_core.specs.Outcome.{Ending, Accepted, and_then, within, ending_within}
use Rattle.td_core.specs.WellFormed.{OfSome, EachField}
use Rattle.td_core.specs.Copies.{IsFieldCopying, IsDefinitionCopying}
use Rattle.td_kinds.specs.Kinds.{fields_kind, default_kind, spanned, spanned_with, cases_kind, body_kind, definition_kind, kinds_below, pick_kind}
use Rattle.td_kinds.specs.KindRules.{fields_faults, cases_faults, default_faults, body_faults}
use Rattle.td_meaning.specs.Doing.{natural_of}
use Rattle.td_meaning.specs.Meaning.{Sense, refined, extended, fields_meaning, case_for, where_place, chosen_meaning, body_meaning, definition_meaning, below, pick, entry_place}
use Rattle.td_write_values.specs.declared.limits.TheConstants.{MOST_WRITTEN}
use Rattle.td_write_values.specs.Datum.{Datum, Number, Sequence, Bytes, Empty, list_of}
use Rattle.td_write_values.specs.Bytes.{number_bytes, fits, unit_type, unit_number, makes_unit}
use Rattle.td_write_values.specs.Spelling.{Spelled, Spelling, Next, bytes_alone, only, behind, all_at, ended, bytes_of, number_in, spelled_copied, spelled_shape, after_parts, part_numbers, with_number, spelled_parts, spelled_field, spelled_fields, body_fields, spelled_chosen, spelled_definition, spells_below, spelling}
use Rattle.td_write_values.specs.Writing.{Claim, Written, Done, Refused, Writer, wanted, agreed, settled, tested, fields_written, value_count, values_count, is_count, chosen_written, body_written, definition_written, writers_below, writing, whole}
use Rattle.td_write_spells.specs.Laws.{FailsFor, IsExact, WritingIsExact}
use Rattle.td_write_spells.proofs.Told.{Fit, UpTo, Told, AllAt, ends_of, behind_some, joined_some, ended_some, only_some, fails_then, fails_within, accepts_then, accepts_within, told_map, told_wanted, told_tested}
use Rattle.td_write_spells.proofs.Parts.{refined_at, refined_left, with_some}
use Rattle.td_write_spells.proofs.Contents.{before, nil_parts}
use Rattle.td_write_spells.proofs.Fields.{fields_told}

-- How many values are spelled

parts_count : (t : NumberType) (parts : List Part) (vs : List Datum) (ns : List ℕ) (rest : List Datum) → part_numbers t parts vs ≡ Some (ns, rest) → length vs ≡ length parts + length rest
parts_count t [] vs ns rest e =
    let g : ([], vs) ≡ (ns, rest) = same_Some ([], vs) (ns, rest) e in
    let last : vs ≡ rest = ap (λ x. x.1) g in
    omega (arith, ap length last)
parts_count t (part ∷ parts) [] ns rest e = absurd (none-some (ns, rest) e)
parts_count t (part ∷ parts) (Number n ∷ vs) ns rest e =
    let m = with_some n (part_numbers t parts vs) ns rest (only_some (fits t part.bits n) (with_number n (part_numbers t parts vs)) (ns, rest) e).1 in
    omega (arith, parts_count t parts vs m.0 rest m.1)
parts_count t (part ∷ parts) (Sequence ws ∷ vs) ns rest e = absurd (none-some (ns, rest) e)
parts_count t (part ∷ parts) (Bytes bytes ∷ vs) ns rest e = absurd (none-some (ns, rest) e)
parts_count t (part ∷ parts) (Empty ∷ vs) ns rest e = absurd (none-some (ns, rest) e)

parts_some : (t : NumberType) (parts : List Part) (env places : List ℕ) (p : ℕ) (cells : List ℕ) (x : Option (List ℕ × List Datum)) (go : Next) (a : Spelled) → spelled_parts t parts env places p cells x go ≡ Some a
    → (ns : List ℕ) × (rest : List Datum) × (q : ℕ) × (left : List ℕ) × (u : Spelled) × (x ≡ Some (ns, rest)) × (go (unit_number parts ns) q left rest ≡ Some u)
parts_some t parts env places p cells None go a e = absurd (none-some a e)
parts_some t parts env places p cells (Some x) go a e =
    let n = unit_number parts x.0 in
    let own = bytes_alone (number_bytes t n) (after_parts p n parts env places cells) in
    let later = go n (p + length own.bytes) own.cells x.1 in
    let o = only_some (makes_unit t parts x.0) (behind own later) a e in
    let j = behind_some own later a o.1 in
    (x.0, x.1, p + length own.bytes, own.cells, j.0, refl, j.1)

counted : (spells : ℕ → Spelling) (fs : List Field) (env places : List ℕ) (p : ℕ) (cells : List ℕ) (vs : List Datum) (a : Spelled) → spelled_fields spells fs env places p cells vs ≡ Some a → length vs ≡ values_count fs
unfolding spelled_fields
counted spells [] env places p cells [] a e = refl
counted spells [] env places p cells (v ∷ vs) a e = absurd (none-some a e)
counted spells (f ∷ later) env places p cells vs a e = by (unit_type f.element f.extent) vs e (λ env q cells vs a e. counted spells later env places q cells vs a e)
  where
    by : (o : Option NumberType) (vs : List Datum) → spelled_field spells o f env places p cells vs (λ n q cells vs. spelled_fields spells later (extended env n f.parts) places q cells vs) ≡ Some a
        → ((env : List ℕ) (q : ℕ) (cells : List ℕ) (vs : List Datum) (a : Spelled) → spelled_fields spells later env places q cells vs ≡ Some a → length vs ≡ values_count later)
        → length vs ≡ value_count o f.parts + values_count later
    by None [] e next = absurd (none-some a e)
    by None (v ∷ vs) e next =
        let n = number_in natural_of f.element f.extent env places cells v in
        let j = joined_some (spelled_copied f.copy places p (spelled_shape spells f.element f.extent env places p cells v)) p (λ q cells. spelled_fields spells later (extended env n f.parts) places q (after_parts p n f.parts env places cells) vs) a e in
        omega (arith, next (extended env n f.parts) (p + length j.0.bytes) (after_parts p n f.parts env places j.0.cells) vs j.1 j.3)
    by (Some t) vs e next =
        let m = parts_some t f.parts env places p cells (part_numbers t f.parts vs) (λ n q cells vs. spelled_fields spells later (extended env n f.parts) places q cells vs) a e in
        omega (arith, parts_count t f.parts vs m.0 m.1 m.5, next (extended env (unit_number f.parts m.0) f.parts) m.2 m.3 m.1 m.4 m.6)

uncounted : (spells : ℕ → Spelling) (fs : List Field) (env places : List ℕ) (p : ℕ) (cells : List ℕ) (vs : List Datum) → is_count fs vs ≡ false → spelled_fields spells fs env places p cells vs ≡ None
uncounted spells fs env places p cells vs e = by (spelled_fields spells fs env places p cells vs) refl
  where
    by : (o : Option Spelled) → spelled_fields spells fs env places p cells vs ≡ o → o ≡ None
    by None h = refl
    by (Some a) h = absurd (eqb-false (length vs) (values_count fs) e (counted spells fs env places p cells vs a h))

-- Cases

kept_rest : (kinds : ℕ → Kind) (k : Kind) (cs : List Case) → (cases_kind kinds (Some k) cs).rest ≡ false → k.rest ≡ false
kept_rest kinds k [] e = e
kept_rest kinds k (c ∷ cs) e = (or_parts k.rest (fields_kind kinds c.fields).rest (kept_rest kinds (spanned k (fields_kind kinds c.fields)) cs e)).0

new_rest : (other : Option Kind) (k : Kind) → (spanned_with other k).rest ≡ false → k.rest ≡ false
new_rest None k e = e
new_rest (Some j) k e = (or_parts j.rest k.rest e).1

chosen_rest : (kinds : ℕ → Kind) (n : ℕ) (cs : List Case) (default : Option (List Field)) (other : Option Kind) (fs : List Field)
    → ((gs : List Field) → default ≡ Some gs → (k : Kind) × (other ≡ Some k) × (k.rest ≡ false → (fields_kind kinds gs).rest ≡ false))
    → case_for n cs default ≡ Some fs → (cases_kind kinds other cs).rest ≡ false → (fields_kind kinds fs).rest ≡ false
chosen_rest kinds n [] default other fs h e r =
    let k = h fs e in
    let same : (cases_kind kinds (Some k.0) []).rest ≡ false = ap (λ o. (cases_kind kinds o []).rest) (sym k.1) ∙ r in
    k.2 same
chosen_rest kinds n (c ∷ cs) default other fs h e r =
    by (nat_eq c.value n) e
    (λ e. chosen_rest kinds n cs default (Some (spanned_with other (fields_kind kinds c.fields))) fs
    (λ gs g. let k = h gs g in (
      spanned_with other (fields_kind kinds c.fields),
      refl,
      λ z.
          let joint : (k.0.rest || (fields_kind kinds c.fields).rest) ≡ false = ap (λ o. (spanned_with o (fields_kind kinds c.fields)).rest) (sym k.1) ∙ z in
          k.2 (or_parts k.0.rest (fields_kind kinds c.fields).rest joint).0,
    )) e r)
  where
    by : (b : Bool) → cond b (Some c.fields) (case_for n cs default) ≡ Some fs → (case_for n cs default ≡ Some fs → (fields_kind kinds fs).rest ≡ false) → (fields_kind kinds fs).rest ≡ false
    by true e later =
        let same : c.fields ≡ fs = same_Some c.fields fs e in
        ap (λ x. (fields_kind kinds x).rest) (sym same) ∙ new_rest other (fields_kind kinds c.fields) (kept_rest kinds (spanned_with other (fields_kind kinds c.fields)) cs r)
    by false e later = later e

default_rest : (kinds : ℕ → Kind) (default : Option (List Field)) (gs : List Field) → default ≡ Some gs → (k : Kind) × (default_kind kinds default ≡ Some k) × (k.rest ≡ false → (fields_kind kinds gs).rest ≡ false)
default_rest kinds None gs e = absurd (none-some gs e)
default_rest kinds (Some fs) gs e = (fields_kind kinds fs, refl, λ r. ap (λ x. (fields_kind kinds x).rest) (sym (same_Some fs gs e)) ∙ r)

chosen_faults : (kinds : ℕ → Kind) (n : ℕ) (cs : List Case) (default : Option (List Field)) (fs : List Field) → case_for n cs default ≡ Some fs
    → cases_faults kinds cs ≡ [] → default_faults kinds default ≡ [] → fields_faults kinds fs ≡ []
chosen_faults kinds n [] None fs e c d = absurd (none-some fs e)
chosen_faults kinds n [] (Some gs) fs e c d = ap (fields_faults kinds) (sym (same_Some gs fs e)) ∙ d
chosen_faults kinds n (k ∷ cs) default fs e c d =
    by (nat_eq k.value n) e (λ e. chosen_faults kinds n cs default fs e (nil_parts (fields_faults kinds k.fields) (cases_faults kinds cs) c).1 d)
  where
    by : (b : Bool) → cond b (Some k.fields) (case_for n cs default) ≡ Some fs → (case_for n cs default ≡ Some fs → fields_faults kinds fs ≡ []) → fields_faults kinds fs ≡ []
    by true e later = ap (fields_faults kinds) (sym (same_Some k.fields fs e)) ∙ (nil_parts (fields_faults kinds k.fields) (cases_faults kinds cs) c).0
    by false e later = later e

chosen_each : (P : Field → Type 0) (n : ℕ) (cs : List Case) (default : Option (List Field)) (fs : List Field) → case_for n cs default ≡ Some fs
    → Each (λ c. Each P c.fields) cs → OfSome (Each P) default → Each P fs
chosen_each P n [] None fs e c d = absurd (none-some fs e)
chosen_each P n [] (Some gs) fs e c d = subst (Each P) (same_Some gs fs e) d
chosen_each P n (k ∷ cs) default fs e c d = by (nat_eq k.value n) e (λ e. chosen_each P n cs default fs e c.1 d)
  where
    by : (b : Bool) → cond b (Some k.fields) (case_for n cs default) ≡ Some fs → (case_for n cs default ≡ Some fs → Each P fs) → Each P fs
    by true e later = subst (Each P) (same_Some k.fields fs e) c.0
    by false e later = later e

narrowed : (r s : Bool) (p q end : ℕ) → (r ≡ false → s ≡ false) → UpTo r p q end → UpTo s p q end
narrowed true true p q end h f = f
narrowed true false p q end h f = before true p q end f
narrowed false s p q end h f = subst (λ x. UpTo x p q end) (sym (h refl)) f

-- Definitions

module _ (sets : List (List ℕ)) (ds : List TypeDef) (kinds : ℕ → Kind) (senses : ℕ → Sense) (writers : ℕ → Writer) (spells : ℕ → Spelling)
    (good : (j : ℕ) (args places cells path : List ℕ) (p : ℕ) (v : Datum) → p ≤ MOST_WRITTEN
    → Told (UpTo (kinds j).rest) p (writers j args places cells path p v) (spells j args places cells p v) (λ b end. (senses j args places cells b p end).ending)) where
  counted_told : (Q : Fit) (d : TypeDef) (ty : NameId) (fs : List Field) → Each (IsFieldCopying ds d) fs → fields_faults kinds fs ≡ [] → (env places path : List ℕ) (p : ℕ) (cells : List ℕ) (vs : List Datum) (all : List ℕ → ℕ → Ending)
      → ((b s : List ℕ) (end : ℕ) → Q p (p + length s) end → (all b end ≡ (fields_meaning sets senses ty fs env places b end p cells).ending) × UpTo (fields_kind kinds fs).rest p (p + length s) end)
      → p ≤ MOST_WRITTEN → Told Q p (fields_written whole sets writers ty fs env places path 0 p cells vs) (spelled_fields spells fs env places p cells vs) all
  counted_told Q d ty fs alone k env places path p cells vs all on le =
      told_map Q (UpTo (fields_kind kinds fs).rest) p (fields_written whole sets writers ty fs env places path 0 p cells vs) (spelled_fields spells fs env places p cells vs) (λ b end. (fields_meaning sets senses ty fs env places b end p cells).ending) all
      (λ b post x end e at fit. on b x.bytes end fit)
      (fields_told sets kinds senses writers spells good ty ds d fs alone k env places path 0 p cells vs le)

  abbrev meant : TypeDef → Body → List ℕ → List ℕ → List ℕ → ℕ → List ℕ → ℕ → Ending
  meant d body args places cells p b end = (and_then (within (where_place d.name p) (refined d.guard args p p cells)) (body_meaning sets senses d.name body args places b end)).ending

  -- a definition whose `where` is met
  guarded : (d : TypeDef) (body : Body) (args places cells : List ℕ) (p : ℕ) (more b : List ℕ) (end : ℕ) → (refined d.guard args p p cells).ending ≡ Accepted p more → meant d body args places cells p b end ≡ (body_meaning sets senses d.name body args places b end p more).ending
  guarded d body args places cells p more b end e =
      let guard = refined d.guard args p p cells in
      let place = where_place d.name p in
      accepts_then (ending_within place guard.ending) guard.reads (body_meaning sets senses d.name body args places b end) p more (accepts_within place guard.ending p more e)

  unguarded : (reason : Reason) (d : TypeDef) (body : Body) (args places cells : List ℕ) (p : ℕ) (b : List ℕ) (end : ℕ) → FailsFor reason (refined d.guard args p p cells).ending → FailsFor reason (meant d body args places cells p b end)
  unguarded reason d body args places cells p b end h =
      let guard = refined d.guard args p p cells in
      let place = where_place d.name p in
      fails_then reason (ending_within place guard.ending) guard.reads (body_meaning sets senses d.name body args places b end) (fails_within reason place guard.ending h)

  body_told : (d : TypeDef) (body : Body) → EachField (IsFieldCopying ds d) body → body_faults kinds body ≡ [] → (args places cells path : List ℕ) (p : ℕ) (vs : List Datum) → p ≤ MOST_WRITTEN
      → Told (UpTo (body_kind kinds body).rest) p (body_written whole sets writers d body args places path p cells vs) (spelled_chosen spells (body_fields body args) args places p cells vs) (meant d body args places cells p)
  body_told d (Struct fs) alone k args places cells path p vs le =
      let Q = UpTo (fields_kind kinds fs).rest in
      let guard = refined d.guard args p p cells in
      let go = λ (cells : List ℕ). fields_written whole sets writers d.name fs args places path 0 p cells vs in
      told_wanted Q p (is_count fs vs) Shape path (tested guard.ending path go) (spelled_fields spells fs args places p cells vs) (meant d (Struct fs) args places cells p)
      (λ e. uncounted spells fs args places p cells vs e)
      (λ e. told_tested Q p p guard.ending path go (spelled_fields spells fs args places p cells vs) (meant d (Struct fs) args places cells p)
      (λ more h. subst (λ cs. Told Q p (go more) (spelled_fields spells fs args places p cs vs) (meant d (Struct fs) args places cells p)) (sym (refined_left d.guard args p p p cells more h))
      (counted_told Q d d.name fs alone k args places path p more vs (meant d (Struct fs) args places cells p) (λ b s end fit. (guarded d (Struct fs) args places cells p more b end h, fit)) le))
      (λ r more h. refined_at d.guard args p p r cells more h)
      (λ reason b end h. unguarded reason d (Struct fs) args places cells p b end h))
  body_told d (Casetype switch cases default) alone k args places cells path p vs le =
      let body = Casetype switch cases default in
      let Q = UpTo (body_kind kinds body).rest in
      let guard = refined d.guard args p p cells in
      let n = natural_of switch args in
      told_tested Q p p guard.ending path (λ cells. chosen_written whole sets writers d.name (case_for n cases default) args places path p cells vs) (spelled_chosen spells (case_for n cases default) args places p cells vs) (meant d body args places cells p)
      (λ more h. by more h (case_for n cases default) refl)
      (λ r more h. refined_at d.guard args p p r cells more h)
      (λ reason b end h. unguarded reason d body args places cells p b end h)
    where
      by : (more : List ℕ) → (refined d.guard args p p cells).ending ≡ Accepted p more → (o : Option (List Field)) → case_for (natural_of switch args) cases default ≡ o
          → Told (UpTo (body_kind kinds (Casetype switch cases default)).rest) p (chosen_written whole sets writers d.name o args places path p more vs) (spelled_chosen spells o args places p cells vs) (meant d (Casetype switch cases default) args places cells p)
      by more h None e = λ b post x end f at fit ends. absurd (none-some x f)
      by more h (Some fs) e =
          let body = Casetype switch cases default in
          let Q = UpTo (body_kind kinds body).rest in
          let two = nil_parts (cases_faults kinds cases) (default_faults kinds default) k in
          told_wanted Q p (is_count fs vs) Shape path (fields_written whole sets writers d.name fs args places path 0 p more vs) (spelled_fields spells fs args places p cells vs) (meant d body args places cells p)
          (λ c. uncounted spells fs args places p cells vs c)
          (λ c. subst (λ cs. Told Q p (fields_written whole sets writers d.name fs args places path 0 p more vs) (spelled_fields spells fs args places p cs vs) (meant d body args places cells p)) (sym (refined_left d.guard args p p p cells more h))
          (counted_told Q d d.name fs (chosen_each (IsFieldCopying ds d) (natural_of switch args) cases default fs e alone.0 alone.1) (chosen_faults kinds (natural_of switch args) cases default fs e two.0 two.1) args places path p more vs (meant d body args places cells p)
          (λ b s end fit. (
            guarded d body args places cells p more b end h ∙ ap (λ o. (chosen_meaning sets senses d.name o args places b end p more).ending) e,
            narrowed (body_kind kinds body).rest (fields_kind kinds fs).rest p (p + length s) end (chosen_rest kinds (natural_of switch args) cases default (default_kind kinds default) fs (default_rest kinds default) e) fit,
          )) le))

  pub definition_told : (o : Option TypeDef) → ((d : TypeDef) → o ≡ Some d → IsDefinitionCopying ds d) → ((d : TypeDef) → o ≡ Some d → body_faults kinds d.body ≡ []) → (args places cells path : List ℕ) (p : ℕ) (v : Datum) → p ≤ MOST_WRITTEN
      → Told (UpTo (definition_kind kinds o).rest) p (definition_written whole sets writers o args places cells path p v) (spelled_definition spells o args places cells p v) (λ b end. (definition_meaning sets senses o args places cells b p end).ending)
  definition_told None alone k args places cells path p v le = λ b post x end e at fit ends. absurd (none-some x e)
  definition_told (Some d) alone k args places cells path p (Number n) le = refl
  definition_told (Some d) alone k args places cells path p (Sequence vs) le = body_told d d.body (alone d refl).fields (k d refl) args places cells path p (list_of vs) le
  definition_told (Some d) alone k args places cells path p (Bytes bytes) le = refl
  definition_told (Some d) alone k args places cells path p Empty le = refl

all_told : (sets : List (List ℕ)) (ds : List TypeDef) → Each (IsDefinitionCopying ds) ds → ((n : ℕ) (d : TypeDef) → slice_get ds n ≡ Some d → body_faults (kinds_below ds n) d.body ≡ [])
    → (n j : ℕ) (args places cells path : List ℕ) (p : ℕ) (v : Datum) → p ≤ MOST_WRITTEN
    → Told (UpTo (kinds_below ds n j).rest) p (writers_below whole sets ds n j args places cells path p v) (spells_below ds n j args places cells p v) (λ b end. (below sets ds n j args places cells b p end).ending)
unfolding below kinds_below writers_below spells_below
all_told sets ds copying k zero j args places cells path p v le = λ b post x end e at fit ends. absurd (none-some x e)
all_told sets ds copying k (suc n) j args places cells path p v le =
    by (nat_eq j n)
    (definition_told sets ds (kinds_below ds n) (below sets ds n) (writers_below whole sets ds n) (spells_below ds n) (λ i. all_told sets ds copying k n i) (slice_get ds n) (λ d e. each_at (IsDefinitionCopying ds) ds n d copying e) (λ d e. k n d e) args places cells path p v le)
    (all_told sets ds copying k n j args places cells path p v le)
  where
    by : (x : Bool)
        → Told (UpTo (definition_kind (kinds_below ds n) (slice_get ds n)).rest) p (definition_written whole sets (writers_below whole sets ds n) (slice_get ds n) args places cells path p v) (spelled_definition (spells_below ds n) (slice_get ds n) args places cells p v) (λ b end. (definition_meaning sets (below sets ds n) (slice_get ds n) args places cells b p end).ending)
        → Told (UpTo (kinds_below ds n j).rest) p (writers_below whole sets ds n j args places cells path p v) (spells_below ds n j args places cells p v) (λ b end. (below sets ds n j args places cells b p end).ending)
        → Told (UpTo (pick_kind x (definition_kind (kinds_below ds n) (slice_get ds n)) (kinds_below ds n j)).rest) p (pick x (definition_written whole sets (writers_below whole sets ds n) (slice_get ds n)) (writers_below whole sets ds n j) args places cells path p v)
        (pick x (spelled_definition (spells_below ds n) (slice_get ds n)) (spells_below ds n j) args places cells p v) (λ b end. (pick x (definition_meaning sets (below sets ds n) (slice_get ds n)) (below sets ds n j) args places cells b p end).ending)
    by true own rest = own
    by false own rest = rest

-- Modules

whole_fit : (r : Bool) (n : ℕ) → UpTo r 0 (0 + n) n
whole_fit true n = omega arith
whole_fit false n = omega arith

-- a whole message ends where its bytes end
exact_agreed : (s cells : List ℕ) (means : List ℕ → Ending) (claims : List Claim) → (AllAt (0 + length s) (ends_of claims) → IsExact (Done s cells []) (Some s) means)
    → IsExact (agreed (0 + length s) claims (Done s cells [])) (bytes_of (only (all_at (0 + length s) (ends_of claims)) (Some (bytes_alone s cells)))) means
exact_agreed s cells means [] h = h tt
exact_agreed s cells means (c ∷ cs) h = by (nat_eq c.end (0 + length s)) refl (λ k. exact_agreed s cells means cs k)
  where
    by : (v : Bool) → nat_eq c.end (0 + length s) ≡ v
        → ((AllAt (0 + length s) (ends_of cs) → IsExact (Done s cells []) (Some s) means) → IsExact (agreed (0 + length s) cs (Done s cells [])) (bytes_of (only (all_at (0 + length s) (ends_of cs)) (Some (bytes_alone s cells)))) means)
        → IsExact (wanted v Size c.path (agreed (0 + length s) cs (Done s cells []))) (bytes_of (only (v && all_at (0 + length s) (ends_of cs)) (Some (bytes_alone s cells)))) means
    by true e rest = rest (λ later. h (eqb-true c.end (0 + length s) e, later))
    by false e rest = refl

bytes_some : (sp : Option Spelled) (bytes : List ℕ) → bytes_of (ended 0 sp) ≡ Some bytes → (x : Spelled) × (sp ≡ Some x) × (AllAt (0 + length x.bytes) x.ends) × (x.bytes ≡ bytes)
bytes_some sp bytes e = by (ended 0 sp) refl e
  where
    by : (o : Option Spelled) → ended 0 sp ≡ o → bytes_of o ≡ Some bytes → (x : Spelled) × (sp ≡ Some x) × (AllAt (0 + length x.bytes) x.ends) × (x.bytes ≡ bytes)
    by None h e = absurd (none-some bytes e)
    by (Some a) h e =
        let z = ended_some 0 sp a h in
        (z.0, z.1, z.2, ap (λ (y : Spelled). y.bytes) z.3 ∙ same_Some a.bytes bytes e)

exact_of : (r : Bool) (w : Written) (sp : Option Spelled) (means : List ℕ → ℕ → Ending) → Told (UpTo r) 0 w sp means → IsExact (settled 0 w) (bytes_of (ended 0 sp)) (λ bytes. means bytes (length bytes))
exact_of r (Done s cells claims) sp means h =
    let same : 0 + length s ≡ length s = omega arith in
    subst (λ o. IsExact (agreed (0 + length s) claims (Done s cells [])) (bytes_of (ended 0 o)) (λ bytes. means bytes (length bytes))) (sym h.0)
    (exact_agreed s cells (λ bytes. means bytes (length bytes)) claims (λ there.
    (refl, (omega (arith, h.1.0), h.1.1 s [] (length s) (sym (append-nil s)) (whole_fit r (length s)) (subst (λ n. AllAt n (ends_of claims)) same there) ∙ ap (λ q. Accepted q cells) same))))
exact_of r (Refused Shape path) sp means h = ap (λ o. bytes_of (ended 0 o)) h
exact_of r (Refused Range path) sp means h = ap (λ o. bytes_of (ended 0 o)) h
exact_of r (Refused (Broken reason) path) sp means h = λ bytes e.
    let z = bytes_some sp bytes e in
    let x : Spelled = z.0 in
    let same : 0 + length x.bytes ≡ length x.bytes = omega arith in
    subst (λ y. FailsFor reason (means y (length y))) z.3
    (h x.bytes [] x (length x.bytes) z.1 (sym (append-nil x.bytes)) (whole_fit r (length x.bytes)) (subst (λ n. AllAt n x.ends) same z.2))
exact_of r (Refused Size path) sp means h = ap (λ o. bytes_of (ended 0 o)) h
exact_of r (Refused Long path) sp means h = λ bytes e.
    let z = bytes_some sp bytes e in
    let long = h z.0 z.1 in
    omega (arith, long, ap length z.3)

pub writing_is_exact : WritingIsExact
writing_is_exact m entry args cells v copying k =
    let n = length m.definitions in
    let j = entry_place (slice_get m.entries entry.number) n in
    let places = places_from 0 (length cells) in
    exact_of (kinds_below m.definitions n j).rest (writers_below whole m.listed m.definitions n j args places cells [] 0 v) (spells_below m.definitions n j args places cells 0 v)
    (λ b end. (below m.listed m.definitions n j args places cells b 0 end).ending)
    (all_told m.listed m.definitions copying k n j args places cells [] 0 v (omega arith))
