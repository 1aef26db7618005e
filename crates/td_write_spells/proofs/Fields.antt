-- Fields.
use Rattle.std.proofs.Common.{◌≡◌, ℕ, suc, ◌+◌, ◌-◌, ◌<◌, ◌≤◌, Bool, true, false, List, [], ◌∷◌, ◌++◌, length, drop, refl, sym, ap, ◌∙◌, subst, arith, append_assoc, length-append, Option, Some, None}
use Rattle.std.proofs.lemmas.Bool.{leb-true, leb-false, and_parts}
use Rattle.std.proofs.lemmas.Option.{none-some, same_Some}
use Rattle.td_num.specs.Numbers.{bytes_in}
use Rattle.td_write_spells.specs.Imports.{NumberType, Kind, NameId, Element, Extent, Once, Filling, OnceFilling, UpToZero, Given, CopyOut, Part, Field, TypeDef, Reason, WriteRule, Shape, Range, Broken, Size, Long}
use Rattle.td_num.specs.Lists.{Each}
use Rattle.td_core.specs.declared.module.Element.TheVariants as element
use Rattle.td_core.specs.Outcome.{Ending, Accepted, Behavior, and_then, ending_within}
use Rattle.td_core.specs.WellFormed.{OfSome}
use Rattle.td_core.specs.Copies.{IsCopied, IsCopyWhole, IsFieldCopying}
use Rattle.td_kinds.specs.Kinds.{field_kind, fields_kind}
use Rattle.td_kinds.specs.KindRules.{is_empty, field_faults, fields_faults}
use Rattle.td_meaning.specs.Meaning.{Sense, content_meaning, parts_meaning, extended, field_place, first_name, field_number, fields_meaning}
use Rattle.td_write_values.specs.declared.limits.TheConstants.{MOST_WRITTEN}
use Rattle.td_write_values.specs.Datum.{Datum, Number}
use Rattle.td_write_values.specs.Bytes.{number_bytes, fits, unit_type, unit_number, makes_unit, are_bits_of}
use Rattle.td_meaning.specs.Doing.{natural_of}
use Rattle.td_write_values.specs.Spelling.{Spelled, Spelling, Next, bytes_alone, only, behind, joined, spelled_copied, spelled_shape, after_parts, number_in, part_numbers, spelled_parts, spelled_whole, spelled_field, spelled_fields}
use Rattle.td_write_values.specs.Writing.{Claim, Written, Refused, Writer, after_writing, wanted, tested, has_room, shape_written, copied, parts_written, unit_then, whole_written, field_written, fields_written, whole}
use Rattle.td_write_spells.specs.Laws.{FailsFor}
use Rattle.td_write_spells.proofs.Numbers.{number_is}
use Rattle.td_write_values.proofs.Lengths.{number_length}
use Rattle.td_write_spells.proofs.Told.{Fit, UpTo, Told, AllAt, Parts, behind_some, copied_some, only_some, fails_then, fails_within, accepts_then, accepts_within, told_after, told_join, told_map, told_wanted, told_tested}
use Rattle.td_write_spells.proofs.Parts.{IsWrong, PartsTold, passed, failed, long, wrong, parts_told, parts_at, parts_left}
use Rattle.td_meaning.proofs.Filling.{taken_long}
use Rattle.td_write_spells.proofs.Contents.{before, nil_parts, last_only, content_told, alone_is, number_seen}

module _ (sets : List (List ℕ)) (kinds : ℕ → Kind) (senses : ℕ → Sense) (writers : ℕ → Writer) (spells : ℕ → Spelling)
    (good : (j : ℕ) (args places cells path : List ℕ) (p : ℕ) (v : Datum) → p ≤ MOST_WRITTEN
    → Told (UpTo (kinds j).rest) p (writers j args places cells path p v) (spells j args places cells p v) (λ b end. (senses j args places cells b p end).ending)) where
  module _ (ty : NameId) where
    field_accepts : (f : Field) (later : List Field) → (env places b : List ℕ) (end p : ℕ) (cells : List ℕ) (n q r : ℕ) (more last : List ℕ) → field_number f.element f.extent env places b end p cells ≡ n
        → (content_meaning sets senses f.element f.extent f.copy env places b end p cells).ending ≡ Accepted q more → (parts_meaning ty p n f.parts env places q more).ending ≡ Accepted r last
        → (fields_meaning sets senses ty (f ∷ later) env places b end p cells).ending ≡ (fields_meaning sets senses ty later (extended env n f.parts) places b end r last).ending
    unfolding fields_meaning
    field_accepts f later env places b end p cells n q r more last e h g =
        let shape = content_meaning sets senses f.element f.extent f.copy env places b end p cells in
        let place = field_place ty (first_name f.parts) p in
        accepts_then (ending_within place shape.ending) shape.reads _ q more (accepts_within place shape.ending q more h)
        ∙ ap (λ k. (and_then (parts_meaning ty p k f.parts env places q more) (fields_meaning sets senses ty later (extended env k f.parts) places b end)).ending) e
        ∙ accepts_then (parts_meaning ty p n f.parts env places q more).ending (parts_meaning ty p n f.parts env places q more).reads (fields_meaning sets senses ty later (extended env n f.parts) places b end) r last g

    field_then : (f : Field) (later : List Field) → (env places b : List ℕ) (end p : ℕ) (cells : List ℕ) (n q : ℕ) (more : List ℕ) → field_number f.element f.extent env places b end p cells ≡ n
        → (content_meaning sets senses f.element f.extent f.copy env places b end p cells).ending ≡ Accepted q more
        → (fields_meaning sets senses ty (f ∷ later) env places b end p cells).ending ≡ (and_then (parts_meaning ty p n f.parts env places q more) (fields_meaning sets senses ty later (extended env n f.parts) places b end)).ending
    unfolding fields_meaning
    field_then f later env places b end p cells n q more e h =
        let shape = content_meaning sets senses f.element f.extent f.copy env places b end p cells in
        let place = field_place ty (first_name f.parts) p in
        accepts_then (ending_within place shape.ending) shape.reads _ q more (accepts_within place shape.ending q more h)
        ∙ ap (λ k. (and_then (parts_meaning ty p k f.parts env places q more) (fields_meaning sets senses ty later (extended env k f.parts) places b end)).ending) e

    shape_fails : (reason : Reason) (f : Field) (later : List Field) → (env places b : List ℕ) (end p : ℕ) (cells : List ℕ) → FailsFor reason (content_meaning sets senses f.element f.extent f.copy env places b end p cells).ending
        → FailsFor reason (fields_meaning sets senses ty (f ∷ later) env places b end p cells).ending
    unfolding fields_meaning
    shape_fails reason f later env places b end p cells h =
        let shape = content_meaning sets senses f.element f.extent f.copy env places b end p cells in
        let place = field_place ty (first_name f.parts) p in
        fails_then reason (ending_within place shape.ending) shape.reads _ (fails_within reason place shape.ending h)

    parts_fail : (reason : Reason) (f : Field) (later : List Field) → (env places b : List ℕ) (end p : ℕ) (cells : List ℕ) (n q : ℕ) (more : List ℕ) → field_number f.element f.extent env places b end p cells ≡ n
        → (content_meaning sets senses f.element f.extent f.copy env places b end p cells).ending ≡ Accepted q more → FailsFor reason (parts_meaning ty p n f.parts env places q more).ending
        → FailsFor reason (fields_meaning sets senses ty (f ∷ later) env places b end p cells).ending
    parts_fail reason f later env places b end p cells n q more e h g =
        subst (FailsFor reason) (sym (field_then f later env places b end p cells n q more e h))
        (fails_then reason (parts_meaning ty p n f.parts env places q more).ending (parts_meaning ty p n f.parts env places q more).reads (fields_meaning sets senses ty later (extended env n f.parts) places b end) g)

    -- where a field may end
    not_last : (f g : Field) (later : List Field) → fields_faults kinds (f ∷ g ∷ later) ≡ [] → (field_kind kinds f.element f.extent).rest ≡ false
    not_last f g later k = (last_only kinds f false (nil_parts (field_faults kinds f false) _ k).0).1

    field_fit : (f : Field) (later : List Field) (p q m end : ℕ) → fields_faults kinds (f ∷ later) ≡ [] → (later ≡ [] → m ≡ 0) → UpTo (fields_kind kinds (f ∷ later)).rest p (q + m) end → UpTo (field_kind kinds f.element f.extent).rest p q end
    field_fit f [] p q m end k none fit =
        let z : q + m ≡ q = omega (arith, none refl) in subst (λ x. UpTo (field_kind kinds f.element f.extent).rest p x end) z fit
    field_fit f (g ∷ later) p q m end k none fit =
        let le : q ≤ end = omega (arith, before (fields_kind kinds (f ∷ g ∷ later)).rest p (q + m) end fit) in
        subst (λ r. UpTo r p q end) (sym (not_last f g later k)) le

    later_fit : (f : Field) (later : List Field) (p o q end : ℕ) → UpTo (fields_kind kinds (f ∷ later)).rest p q end → UpTo (fields_kind kinds later).rest o q end
    later_fit f [] p o q end fit = before (field_kind kinds f.element f.extent).rest p q end fit
    later_fit f (g ∷ later) p o q end fit = moved (fields_kind kinds (g ∷ later)).rest fit
      where
        moved : (r : Bool) → UpTo r p q end → UpTo r o q end
        moved true h = h
        moved false h = h

    nothing_left : (later : List Field) (env places : List ℕ) (p : ℕ) (cells : List ℕ) (vs : List Datum) (x : Spelled) → spelled_fields spells later env places p cells vs ≡ Some x → later ≡ [] → length x.bytes ≡ 0
    unfolding spelled_fields
    nothing_left [] env places p cells [] x e z = ap (λ (y : Spelled). length y.bytes) (sym (same_Some (bytes_alone [] cells) x e))
    nothing_left [] env places p cells (v ∷ vs) x e z = absurd (none-some x e)
    nothing_left (f ∷ later) env places p cells vs x e z = absurd (cc)

    told_wrong : (Q : Fit) (p : ℕ) (rule : WriteRule) (at : List ℕ) (sp : Option Spelled) (all : List ℕ → ℕ → Ending) → IsWrong rule → sp ≡ None → Told Q p (Refused rule at) sp all
    told_wrong Q p Shape at sp all w e = e
    told_wrong Q p Range at sp all w e = e
    told_wrong Q p (Broken reason) at sp all w e = absurd w
    told_wrong Q p Size at sp all w e = e
    told_wrong Q p Long at sp all w e = absurd w

    -- what follows a field
    abbrev Follows : List Field → Type 0
    Follows later = (env places path : List ℕ) (i p : ℕ) (cells : List ℕ) (vs : List Datum) → p ≤ MOST_WRITTEN
        → Told (UpTo (fields_kind kinds later).rest) p (fields_written whole sets writers ty later env places path i p cells vs) (spelled_fields spells later env places p cells vs) (λ b end. (fields_meaning sets senses ty later env places b end p cells).ending)

    -- a field that isn't a unit
    whole_told : (f : Field) (later : List Field) → OfSome (λ c. IsCopied f.element f.extent f.parts) f.copy → unit_type f.element f.extent ≡ None → fields_faults kinds (f ∷ later) ≡ [] → Follows later
        → (env places path : List ℕ) (i p : ℕ) (cells : List ℕ) (vs : List Datum) → p ≤ MOST_WRITTEN
        → Told (UpTo (fields_kind kinds (f ∷ later)).rest) p
        (whole_written whole sets writers ty f env places path i p cells vs (λ env i p cells vs. fields_written whole sets writers ty later env places path i p cells vs))
        (spelled_whole spells f env places p cells vs (λ n q cells vs. spelled_fields spells later (extended env n f.parts) places q cells vs))
        (λ b end. (fields_meaning sets senses ty (f ∷ later) env places b end p cells).ending)
    whole_told f later alone u k next env places path i p cells [] le = refl
    whole_told f later alone u k next env places path i p cells (v ∷ vs) le =
        let n = number_in natural_of f.element f.extent env places cells v in
        let at = path ++ i ∷ [] in
        let Q = UpTo (fields_kind kinds (f ∷ later)).rest in
        let rest = (field_kind kinds f.element f.extent).rest in
        let after = λ (q : ℕ) (cells : List ℕ). parts_meaning ty p n f.parts env places q cells in
        let on = λ (b : List ℕ) (end : ℕ). fields_meaning sets senses ty later (extended env n f.parts) places b end in
        let shape = spelled_shape spells f.element f.extent env places p cells v in
        let left = λ (q : ℕ) (cells : List ℕ). spelled_fields spells later (extended env n f.parts) places q (after_parts p n f.parts env places cells) vs in
        told_join Q (UpTo rest) Q p (copied f.copy places p (shape_written whole sets writers f.element f.extent env places at p cells v))
        (λ q cells. tested (after q cells).ending at (λ cells. fields_written whole sets writers ty later (extended env n f.parts) places path (suc i) q cells vs))
        (spelled_copied f.copy places p shape) left
        (λ b end. (content_meaning sets senses f.element f.extent f.copy env places b end p cells).ending)
        (λ s more b end. (and_then (after (p + length s) more) (on b end)).ending)
        (λ b end. (fields_meaning sets senses ty (f ∷ later) env places b end p cells).ending)
        (λ x y end e g fit. field_fit f later p (p + length x.bytes) (length y.bytes) end k (nothing_left later (extended env n f.parts) places (p + length x.bytes) (after_parts p n f.parts env places x.cells) vs y g) fit)
        (λ b post x y end e g at fit ends m.
        let z = copied_some f.copy places p shape x e in
        let here : drop p b ≡ z.0.bytes ++ (y.bytes ++ post) = at ∙ ap (λ s. s ++ (y.bytes ++ post)) (sym z.2) in (
          field_then f later env places b end p cells n (p + length x.bytes) x.cells
              (number_seen sets kinds senses writers spells good f.element f.extent env places b (y.bytes ++ post) end p cells v z.0 u z.1 here (subst (AllAt end) (sym z.3) ends)) m,
          moved (fields_kind kinds (f ∷ later)).rest p (p + length x.bytes) (p + length x.bytes + length y.bytes) end fit,
        ))
        (λ reason b post x y end e fit m. shape_fails reason f later env places b end p cells m)
        (content_told sets kinds senses writers spells good f.element f.extent f.parts f.copy alone env places at p cells v (last_only kinds f (is_empty later) (nil_parts (field_faults kinds f (is_empty later)) _ k).0).0 le)
        (λ s more claims e in_limit.
        let q = p + length s in
        told_tested Q q q (after q more).ending at
        (λ cells. fields_written whole sets writers ty later (extended env n f.parts) places path (suc i) q cells vs)
        (left q more) (λ b end. (and_then (after q more) (on b end)).ending)
        (λ last h.
        let written = fields_written whole sets writers ty later (extended env n f.parts) places path (suc i) q last vs in
        let all = λ (b : List ℕ) (end : ℕ). (and_then (after q more) (on b end)).ending in
        subst (λ cs. Told Q q written (spelled_fields spells later (extended env n f.parts) places q cs vs) all) (sym (parts_left ty p n f.parts env places q q more last h))
        (told_map Q (UpTo (fields_kind kinds later).rest) q written (spelled_fields spells later (extended env n f.parts) places q last vs) (λ b end. (on b end q last).ending) all
        (λ b post y end g at fit. (accepts_then (after q more).ending (after q more).reads (on b end) q last h, later_fit f later q q (q + length y.bytes) end fit))
        (next (extended env n f.parts) places path (suc i) q last vs in_limit)))
        (λ r last h. parts_at ty p n f.parts env places q r more last h)
        (λ reason b end h. fails_then reason (after q more).ending (after q more).reads (on b end) h))
      where
        moved : (r : Bool) (p o q end : ℕ) → UpTo r p q end → UpTo r o q end
        moved true p o q end h = h
        moved false p o q end h = h

    -- what a unit's number and the values after it spell
    unit_some : (t : NumberType) (parts : List Part) (env places : List ℕ) (p : ℕ) (cells : List ℕ) (x : Option (List ℕ × List Datum)) (go : Next) (a : Spelled) → spelled_parts t parts env places p cells x go ≡ Some a
        → (ns : List ℕ) × (rest : List Datum) × (u : Spelled) × (x ≡ Some (ns, rest)) × (makes_unit t parts ns ≡ true) × (a.bytes ≡ number_bytes t (unit_number parts ns) ++ u.bytes)
    unit_some t parts env places p cells None go a e = absurd (none-some a e)
    unit_some t parts env places p cells (Some x) go a e =
        let n = unit_number parts x.0 in
        let own = bytes_alone (number_bytes t n) (after_parts p n parts env places cells) in
        let later = go n (p + length own.bytes) own.cells x.1 in
        let o = only_some (makes_unit t parts x.0) (behind own later) a e in
        let j = behind_some own later a o.1 in
        (x.0, x.1, j.0, refl, o.0, j.2.bytes)

    -- the bytes of a unit's number
    unit_seen : (t : NumberType) (f : Field) (env places b post : List ℕ) (end p : ℕ) (cells : List ℕ) (n : ℕ) → f.element ≡ element.Number t → f.extent ≡ Once → fits t None n ≡ true → drop p b ≡ number_bytes t n ++ post → p + bytes_in t.width ≤ end
        → (field_number f.element f.extent env places b end p cells ≡ n) × ((content_meaning sets senses f.element f.extent f.copy env places b end p cells).ending ≡ Accepted (p + bytes_in t.width) cells)
    unit_seen t f env places b post end p cells n is once small at fit = (
      (λ k. field_number (is k) (once k) env places b end p cells) ∙ number_is t n p b post small at,
      (λ k. (content_meaning sets senses (is k) (once k) f.copy env places b end p cells).ending)
          ∙ ap (λ (x : Behavior). x.ending) (alone_is sets kinds senses writers spells good (element.Number t) f.copy env places b end p cells)
          ∙ ap (λ (x : Behavior). x.ending) (taken_long (bytes_in t.width) p end p cells fit),
    )

    abbrev after_unit : NumberType → Field → List Field → List ℕ → List ℕ → ℕ → List ℕ → List ℕ → ℕ → List ℕ → List Datum → Written
    after_unit t f later places path p = unit_then t f.parts path p (λ env i p cells vs. fields_written whole sets writers ty later env places path i p cells vs)

    abbrev then_spelled : Field → List Field → List ℕ → List ℕ → Next
    then_spelled f later env places n q cells vs = spelled_fields spells later (extended env n f.parts) places q cells vs

    abbrev meant : Field → List Field → List ℕ → List ℕ → ℕ → List ℕ → List ℕ → ℕ → Ending
    meant f later env places p cells b end = (fields_meaning sets senses ty (f ∷ later) env places b end p cells).ending

    -- a unit of these numbers, and what follows
    abbrev unit_spelled : NumberType → Field → List Field → List ℕ → List ℕ → ℕ → List ℕ → List ℕ → List Datum → Option Spelled
    unit_spelled t f later env places p cells ns rest = spelled_parts t f.parts env places p cells (Some (ns, rest)) (then_spelled f later env places)

    -- where all of a unit's parts passed
    unit_passed : (t : NumberType) (f : Field) (later : List Field) → f.element ≡ element.Number t → f.extent ≡ Once → Follows later
        → (env places path : List ℕ) (i p : ℕ) (cells ns : List ℕ) (rest : List Datum) (more : List ℕ) → p ≤ MOST_WRITTEN
        → ((n : ℕ) → are_bits_of n f.parts ns ≡ true → ((parts_meaning ty p n f.parts env places (p + bytes_in t.width) cells).ending ≡ Accepted (p + bytes_in t.width) more) × (extended env n f.parts ≡ env ++ ns))
        → Told (UpTo (fields_kind kinds (f ∷ later)).rest) p (after_unit t f later places path p ns (env ++ ns) (i + length ns) more rest) (unit_spelled t f later env places p cells ns rest) (meant f later env places p cells)
    unit_passed t f later is once next env places path i p cells ns rest more le told =
        let w = bytes_in t.width in
        let n = unit_number f.parts ns in
        let bytes : List ℕ = number_bytes t n in
        let len : length bytes ≡ w = number_length t n in
        let Q = UpTo (fields_kind kinds (f ∷ later)).rest in
        let R = UpTo (fields_kind kinds later).rest in
        let own = bytes_alone bytes (after_parts p n f.parts env places cells) in
        let both = behind own (then_spelled f later env places n (p + length bytes) own.cells rest) in
        let written = after_writing bytes [] (fields_written whole sets writers ty later (env ++ ns) places path (i + length ns) (p + w) more rest) in
        told_wanted Q p (makes_unit t f.parts ns) Range path (wanted (has_room p w) Long path written) (only (makes_unit t f.parts ns) both) (meant f later env places p cells)
        (λ m. ap (λ x. only x both) m)
        (λ m. subst (λ x. Told Q p (wanted (has_room p w) Long path written) (only x both) (meant f later env places p cells)) (sym m)
        (told_wanted Q p (has_room p w) Long path written both (meant f later env places p cells)
        (λ r a e.
        let j = behind_some own (then_spelled f later env places n (p + length bytes) own.cells rest) a e in
        let past : MOST_WRITTEN < p + w = leb-false (p + w) MOST_WRITTEN r in
        omega (arith, past, len, ap length j.2.bytes, length-append bytes j.0.bytes))
        (λ r.
        let two = and_parts (fits t None n) (are_bits_of n f.parts ns) m in
        let known = told n two.1 in
        let left : after_parts p n f.parts env places cells ≡ more = parts_left ty p n f.parts env places (p + w) (p + w) cells more known.0 in
        let means = λ (b : List ℕ) (end : ℕ). (fields_meaning sets senses ty later (env ++ ns) places b end (p + w) more).ending in
        let rest_written = fields_written whole sets writers ty later (env ++ ns) places path (i + length ns) (p + w) more rest in
        let base = next (env ++ ns) places path (i + length ns) (p + w) more rest (leb-true (p + w) MOST_WRITTEN r) in
        let scoped = subst (λ x. Told R (p + w) rest_written (spelled_fields spells later x places (p + w) more rest) means) (sym known.1) base in
        let stored = subst (λ cs. Told R (p + w) rest_written (spelled_fields spells later (extended env n f.parts) places (p + w) cs rest) means) (sym left) scoped in
        let at_end : p + w ≡ p + length bytes = ap (λ x. p + x) (sym len) in
        told_after Q R p bytes own.cells [] rest_written (then_spelled f later env places n (p + length bytes) own.cells rest) means (meant f later env places p cells)
        (λ b post u end g at fit none.
        let in_end : p + w ≤ end = omega (arith, len, before (fields_kind kinds (f ∷ later)).rest p (p + length bytes + length u.bytes) end fit) in
        let seen = unit_seen t f env places b (u.bytes ++ post) end p cells n is once two.0 at in_end in (
          field_accepts f later env places b end p cells n (p + w) (p + w) cells more seen.0 seen.1 known.0
              ∙ ap (λ x. (fields_meaning sets senses ty later x places b end (p + w) more).ending) known.1,
          later_fit f later p (p + length bytes) (p + length bytes + length u.bytes) end fit,
        ))
        (subst (λ q. Told R q rest_written (then_spelled f later env places n q own.cells rest) means) at_end stored))))

    unit_by : (t : NumberType) (f : Field) (later : List Field) → f.element ≡ element.Number t → f.extent ≡ Once → Follows later
        → (env places path : List ℕ) (i p : ℕ) (cells : List ℕ) (vs : List Datum) → p ≤ MOST_WRITTEN
        → (w : Written) → PartsTold t f.parts env vs w (after_unit t f later places path p) i ty places p cells
        → Told (UpTo (fields_kind kinds (f ∷ later)).rest) p w (spelled_parts t f.parts env places p cells (part_numbers t f.parts vs) (then_spelled f later env places)) (meant f later env places p cells)
    unit_by t f later is once next env places path i p cells vs le w (passed ns rest more e we told) =
        let Q = UpTo (fields_kind kinds (f ∷ later)).rest in
        subst (λ x. Told Q p x (spelled_parts t f.parts env places p cells (part_numbers t f.parts vs) (then_spelled f later env places)) (meant f later env places p cells)) (sym we)
        (subst (λ x. Told Q p (after_unit t f later places path p ns (env ++ ns) (i + length ns) more rest) (spelled_parts t f.parts env places p cells x (then_spelled f later env places)) (meant f later env places p cells)) (sym e)
        (unit_passed t f later is once next env places path i p cells ns rest more le told))
    unit_by t f later is once next env places path i p cells vs le w (failed reason at we told) =
        let Q = UpTo (fields_kind kinds (f ∷ later)).rest in
        let sp = spelled_parts t f.parts env places p cells (part_numbers t f.parts vs) (then_spelled f later env places) in
        let own : Told Q p (Refused (Broken reason) at) sp (meant f later env places p cells) = λ b post a end e here fit ends.
        let u = unit_some t f.parts env places p cells (part_numbers t f.parts vs) (then_spelled f later env places) a e in
        let n = unit_number f.parts u.0 in
        let two = and_parts (fits t None n) (are_bits_of n f.parts u.0) u.4 in
        let here' : drop p b ≡ number_bytes t n ++ (u.2.bytes ++ post) = here ∙ ap (λ x. x ++ post) u.5 ∙ append_assoc (number_bytes t n) u.2.bytes post in
        let in_end : p + bytes_in t.width ≤ end = omega (arith, number_length t n, ap length u.5, length-append (number_bytes t n) u.2.bytes, before (fields_kind kinds (f ∷ later)).rest p (p + length a.bytes) end fit) in
        let seen = unit_seen t f env places b (u.2.bytes ++ post) end p cells n is once two.0 here' in_end in
        parts_fail reason f later env places b end p cells n (p + bytes_in t.width) cells seen.0 seen.1 (told u.0 u.1 n u.3 two.1) in
        subst (λ x. Told Q p x sp (meant f later env places p cells)) (sym we) own
    unit_by t f later is once next env places path i p cells vs le w (long at we past) =
        let Q = UpTo (fields_kind kinds (f ∷ later)).rest in
        let sp = spelled_parts t f.parts env places p cells (part_numbers t f.parts vs) (then_spelled f later env places) in
        let own : Told Q p (Refused Long at) sp (meant f later env places p cells) = λ a e.
        let u = unit_some t f.parts env places p cells (part_numbers t f.parts vs) (then_spelled f later env places) a e in
        let n = unit_number f.parts u.0 in
        omega (arith, past, number_length t n, ap length u.5, length-append (number_bytes t n) u.2.bytes) in
        subst (λ x. Told Q p x sp (meant f later env places p cells)) (sym we) own
    unit_by t f later is once next env places path i p cells vs le w (wrong rule at we kind e) =
        let Q = UpTo (fields_kind kinds (f ∷ later)).rest in
        let sp = spelled_parts t f.parts env places p cells (part_numbers t f.parts vs) (then_spelled f later env places) in
        subst (λ x. Told Q p x sp (meant f later env places p cells)) (sym we)
        (told_wrong Q p rule at sp (meant f later env places p cells) kind (ap (λ x. spelled_parts t f.parts env places p cells x (then_spelled f later env places)) e))

    none_meant : (env places b : List ℕ) (end p : ℕ) (cells : List ℕ) → (fields_meaning sets senses ty [] env places b end p cells).ending ≡ Accepted p cells
    unfolding fields_meaning
    none_meant env places b end p cells = refl

    unit_is : (e : Element) (x : Extent) (t : NumberType) → unit_type e x ≡ Some t → (e ≡ element.Number t) × (x ≡ Once)
    unit_is (element.Number s) Once t h = (ap element.Number (same_Some s t h), refl)
    unit_is (element.Number s) (Filling size step) t h = absurd (none-some t h)
    unit_is (element.Number s) (OnceFilling size step) t h = absurd (none-some t h)
    unit_is (element.Number s) (UpToZero size) t h = absurd (none-some t h)
    unit_is (element.Number s) (Given source) t h = absurd (none-some t h)
    unit_is (element.Listed base k) x t h = absurd (none-some t h)
    unit_is (element.Named j args own) x t h = absurd (none-some t h)
    unit_is element.Unit x t h = absurd (none-some t h)
    unit_is element.Rest x t h = absurd (none-some t h)
    unit_is element.Zeros x t h = absurd (none-some t h)

    pub fields_told : (ds : List TypeDef) (d : TypeDef) (fs : List Field) → Each (IsFieldCopying ds d) fs → fields_faults kinds fs ≡ []
        → (env places path : List ℕ) (i p : ℕ) (cells : List ℕ) (vs : List Datum) → p ≤ MOST_WRITTEN
        → Told (UpTo (fields_kind kinds fs).rest) p (fields_written whole sets writers ty fs env places path i p cells vs) (spelled_fields spells fs env places p cells vs) (λ b end. (fields_meaning sets senses ty fs env places b end p cells).ending)
    unfolding fields_written spelled_fields
    fields_told ds d [] alone k env places path i p cells [] le =
        let same : p ≡ p + 0 = omega arith in
        (refl, (omega (arith, le), λ b post end at fit ends. none_meant env places b end p cells ∙ ap (λ q. Accepted q cells) same))
    fields_told ds d [] alone k env places path i p cells (v ∷ vs) le = refl
    fields_told ds d (f ∷ later) alone k env places path i p cells vs le =
        by (unit_type f.element f.extent) refl (fields_told ds d later alone.1 (nil_parts (field_faults kinds f (is_empty later)) (fields_faults kinds later) k).1)
      where
        copied_at : (f : Field) (copy : Option CopyOut) → OfSome (IsCopyWhole d f) copy → OfSome (λ c. IsCopied f.element f.extent f.parts) copy
        copied_at f None h = tt
        copied_at f (Some c) h = h.field

        by : (o : Option NumberType) → unit_type f.element f.extent ≡ o → Follows later
            → Told (UpTo (fields_kind kinds (f ∷ later)).rest) p
            (field_written whole sets writers ty o f env places path i p cells vs (λ env i p cells vs. fields_written whole sets writers ty later env places path i p cells vs))
            (spelled_field spells o f env places p cells vs (λ n q cells vs. spelled_fields spells later (extended env n f.parts) places q cells vs)) (meant f later env places p cells)
        by None e next = whole_told f later (copied_at f f.copy alone.0.copy) e k next env places path i p cells vs le
        by (Some t) e next =
            let two = unit_is f.element f.extent t e in
            unit_by t f later two.0 two.1 next env places path i p cells vs le (parts_written whole t f.parts env places path i p cells vs (after_unit t f later places path p)) (parts_told t ty places path p f.parts env i cells vs (after_unit t f later places path p))
