-- The code of fields does what the fields mean.
use Rattle.std.proofs.Common.{◌≡◌, ℕ, ◌+◌, ◌^◌, ◌<◌, ◌≤◌, Bool, true, false, ◌||◌, List, [], ◌∷◌, ◌++◌, length, map, refl, sym, ap, ◌∙◌, subst, arith, slice_index, Option, Some, None}
use Rattle.std.proofs.lemmas.Bool.{false≢true}
use Rattle.td_num.specs.Lists.{is_among}
use Rattle.td_core.specs.Outcome.{Behavior, and_then, within, after_reading}
use Rattle.td_lower_means.specs.Imports.{NameId, Bits, Part, Field, Element, Number, Listed, Named, Unit as UnitElement, Rest, Zeros, Extent, Once, Filling, OnceFilling, UpToZero, Given, Parts}
use Rattle.td_expr.specs.Sound.{Sound}
use Rattle.td_meaning.specs.Naming.{element_names, extent_names, parts_name, field_names, fields_name, is_needed}
use Rattle.td_meaning.specs.Meaning.{Sense, values_of, content_meaning, field_number, number_places, field_place, first_name, parts_meaning, bits_of, extended, fields_meaning}
use Rattle.td_meaning.specs.Throughout.{Through, OnEnding, OnParts, OnFields}
use Rattle.td_lower_blocks.specs.Block.{Block}
use Rattle.td_lower_blocks.specs.Constructs.{steps}
use Rattle.td_lower_blocks.specs.Placed.{PartsPlaced, FieldsPlaced}
use Rattle.td_ir.specs.State.{State, registers_from}
use Rattle.td_lower_means.proofs.BlockRun.{Passage, touching, Calling, ran, passage_of, onto}
use Rattle.td_lower_blocks.specs.Lowered.{part_slot, number_slot, is_read, parts_steps, fields_steps}
use Rattle.td_lower_blocks.specs.Tabled.{FieldsSited}
use Rattle.td_lower_means.proofs.Ontos.{passage_then, onto_all}
use Rattle.td_lower_means.proofs.Acts.{Follows, follows_kept, follows_some, pushed_length}
use Rattle.td_lower_means.proofs.Parts.{Source, parts_run}
use Rattle.td_lower_means.proofs.Shapes.{at}
use Rattle.td_lower_means.proofs.Arrays.{InShape, content_runs}
use Rattle.td_ir.specs.Tables.{set_of, cells_by}
use Rattle.td_num.proofs.Truths.{or_right, or_left}
use Rattle.td_meaning.proofs.Filling.{on_accepted as at_ending}

extended_length : (n : ℕ) (ps : List Part) (env : List ℕ) → length (extended env n ps) ≡ length ps + length env
extended_length n [] env = omega arith
extended_length n (p ∷ ps) env = extended_length n ps (env ++ bits_of p.bits n ∷ []) ∙ omega (arith, pushed_length env (bits_of p.bits n))

slot_from : (L D t : ℕ) (ps : List Part) → L ≤ D → D ≤ t → L ≤ number_slot L t ps
slot_from L D t [] h k = omega (arith, h, k)
slot_from L D t (p ∷ ps) h k = by p.bits
  where
    by : (b : Option Bits) → L ≤ part_slot L t b
    by None = omega arith
    by (Some b) = omega (arith, h, k)

slot_to : (L D t : ℕ) (ps : List Part) → L ≤ D → D ≤ t → number_slot L t ps ≤ t
slot_to L D t [] h k = omega arith
slot_to L D t (p ∷ ps) h k = by p.bits
  where
    by : (b : Option Bits) → part_slot L t b ≤ t
    by None = omega (arith, h, k)
    by (Some b) = omega arith

module _ (T : Parts) (self : ℕ) (message places : List ℕ) (calls : Calling) (D t : ℕ) (dt : D ≤ t) where
  abbrev goes : Block → (State → Passage) → (State → Passage) → State → Passage
  goes = ran T self message places calls

  module _ (sets : List (List ℕ)) (senses : ℕ → Sense) (throughs : ℕ → Through) (ty : NameId) (n : ℕ) (params : ℕ → ℕ)
      (setted : (v x : ℕ) → is_among (set_of T v) x ≡ is_among (values_of sets v) x)
      (called : (d first m : ℕ) (s : State) (args : List ℕ) → s.end < 2 ^ 32 → d < n → params d ≡ length args → registers_from s.regs first (length args) ≡ args
      → throughs d args (map (slice_index places) (cells_by T self d m)) s.cells message s.pos s.end
      → calls first d m s ≡ passage_of (senses d args (map (slice_index places) (cells_by T self d m)) s.cells message s.pos s.end)) where
    source_of : (env : List ℕ) (end : ℕ) (c : List ℕ) (element : Element) (extent : Extent) (needed : Bool) (L p : ℕ) (ps : List Part) (z : List ℕ)
        → InShape T self message places calls D t dt sets senses throughs ty n params setted called env end c element extent needed (number_slot L t ps) p z
        → Source (is_read element extent needed) L t (field_number element extent env places message end p c) ps z
    source_of env end c element extent needed L p [] z h = tt
    source_of env end c (Number type) Once true L p (x ∷ xs) z h = λ e. h
    source_of env end c (Number type) Once false L p (x ∷ xs) z h = λ e. absurd (false≢true e)
    source_of env end c (Number type) (Filling s step) needed L p (x ∷ xs) z h = λ e. absurd (false≢true e)
    source_of env end c (Number type) (OnceFilling s step) needed L p (x ∷ xs) z h = λ e. absurd (false≢true e)
    source_of env end c (Number type) (UpToZero s) needed L p (x ∷ xs) z h = λ e. absurd (false≢true e)
    source_of env end c (Number type) (Given s) needed L p (x ∷ xs) z h = λ e. h
    source_of env end c (Listed base v) Once needed L p (x ∷ xs) z h = λ e. h
    source_of env end c (Listed base v) (Filling s step) needed L p (x ∷ xs) z h = λ e. absurd (false≢true e)
    source_of env end c (Listed base v) (OnceFilling s step) needed L p (x ∷ xs) z h = λ e. absurd (false≢true e)
    source_of env end c (Listed base v) (UpToZero s) needed L p (x ∷ xs) z h = λ e. absurd (false≢true e)
    source_of env end c (Listed base v) (Given s) needed L p (x ∷ xs) z h = λ e. absurd (false≢true e)
    source_of env end c (Named d args own) extent needed L p (x ∷ xs) z h = λ e. absurd (false≢true e)
    source_of env end c UnitElement extent needed L p (x ∷ xs) z h = λ e. absurd (false≢true e)
    source_of env end c Rest extent needed L p (x ∷ xs) z h = λ e. absurd (false≢true e)
    source_of env end c Zeros extent needed L p (x ∷ xs) z h = λ e. absurd (false≢true e)

    pub fields_run : (end : ℕ) → (fs : List Field) (site L : ℕ) (env r c : List ℕ) (p start o : ℕ) (leave go : State → Passage)
        → end < 2 ^ 32 → FieldsSited T self ty site fs → length env ≡ L → t < length r → FieldsPlaced n params (length r) D L t fs → Follows (λ j. fields_name j fs) env r → OnFields Sound sets senses throughs ty fs env places message end p c
        → goes (steps (fields_steps t site L fs)) leave go (at r c p start end o) ≡ passage_of (fields_meaning sets senses ty fs env places message end p c)
    unfolding fields_meaning
    fields_run end [] site L env r c p start o leave go small ss le room x f on = refl
    fields_run end (w ∷ later) site L env r c p start o leave go small ss le room x f on =
        let needed = is_needed L w.parts later in
        let slot = number_slot L t w.parts in
        let read = is_read w.element w.extent needed in
        let v = field_number w.element w.extent env places message end p c in
        let rest = fields_steps t (length w.parts + site) (length w.parts + L) later in
        let K = parts_steps t read site L w.parts rest in
        let shape = content_meaning sets senses w.element w.extent w.copy env places message end p c in
        let fs = field_place ty (first_name w.parts) p in
        let M : ℕ → List ℕ → Behavior = parts_meaning ty p v w.parts env places in
        let F : ℕ → List ℕ → Behavior = fields_meaning sets senses ty later (extended env v w.parts) places message end in
        let X : ℕ → List ℕ → Passage = λ q d. onto (M q d) (λ q d. passage_of (F q d)) in
        let in_shape : (j : ℕ) → element_names j w.element ≡ true → fields_name j (w ∷ later) ≡ true =
        λ j m. or_left (field_names j w) (fields_name j later) (or_left (element_names j w.element) (extent_names j w.extent || parts_name j w.parts) m) in
        let in_extent : (j : ℕ) → extent_names j w.extent ≡ true → fields_name j (w ∷ later) ≡ true =
        λ j m. or_left (field_names j w) (fields_name j later) (or_right (element_names j w.element) (extent_names j w.extent || parts_name j w.parts) (or_left (extent_names j w.extent) (parts_name j w.parts) m)) in
        let in_parts : (j : ℕ) → (parts_name j w.parts || fields_name j later) ≡ true → fields_name j (w ∷ later) ≡ true =
        λ j m. parts_or (element_names j w.element) (extent_names j w.extent) (parts_name j w.parts) (fields_name j later) m in
        let one = content_runs T self message places calls D t dt sets senses throughs ty n params setted called w.element w.extent w.copy needed slot site L env r c p end o K leave go X
        small ss.1.0.0 ss.1.0.1 le x.0 (slot_from L D t w.parts x.0 dt) (slot_to L D t w.parts x.0 dt) room x.1.0.0 x.1.0.1
        (follows_some (λ j. element_names j w.element) (λ j. fields_name j (w ∷ later)) env r in_shape f)
        (follows_some (λ j. extent_names j w.extent) (λ j. fields_name j (w ∷ later)) env r in_extent f)
        on.0
        (λ q z d u count low inside e.
        let told = at_ending shape.ending q d (λ q d. OnParts Sound p v w.parts env places q d × OnEnding (M q d).ending (OnFields Sound sets senses throughs ty later (extended env v w.parts) places message end)) on.1 e in
        parts_run T self message places calls D t dt ty later read v w.parts site L env (at z d q p end u) rest leave go (λ q d. passage_of (F q d))
        ss.1.1.0 le (subst (λ m. PartsPlaced m D L t w.parts) (sym count) x.1.1.0) x.1.1.1.0 (source_of env end c w.element w.extent needed L p w.parts z inside) x.1.1.1.1.0
        (follows_kept (λ j. parts_name j w.parts || fields_name j later) env r z (λ j l. low j (omega (arith, l, le)))
        (follows_some (λ j. parts_name j w.parts || fields_name j later) (λ j. fields_name j (w ∷ later)) env r in_parts f))
        told.0
        (λ z2 d2 len fol acc.
        fields_run end later (length w.parts + site) (length w.parts + L) (extended env v w.parts) z2 d2 q p u leave go small ss.1.1.1 (extended_length v w.parts env ∙ ap (λ m. length w.parts + m) le)
        (omega (arith, room, len, count)) (subst (λ m. FieldsPlaced n params m D (length w.parts + L) t later) (sym (len ∙ count)) x.1.1.1.1.1) fol
        (at_ending (M q d).ending q d2 (OnFields Sound sets senses throughs ty later (extended env v w.parts) places message end) told.1 acc))) in
        one
        ∙ ap (λ b. onto (within b shape) (λ q d. touching (number_places needed w.element w.extent p) (X q d))) (ss.0 p)
        ∙ ap (λ m. onto (within fs shape) (λ q d. touching (number_places (is_needed m w.parts later) w.element w.extent p) (X q d))) (sym le)
        ∙ onto_all (within fs shape) (λ q d. touching (number_places (is_needed (length env) w.parts later) w.element w.extent p) (X q d))
        (λ q d. passage_of (after_reading (number_places (is_needed (length env) w.parts later) w.element w.extent p) (and_then (M q d) F)))
        (λ q d. ap (touching (number_places (is_needed (length env) w.parts later) w.element w.extent p)) (sym (passage_then (M q d) F)))
        ∙ sym (passage_then (within fs shape) (λ q d. after_reading (number_places (is_needed (length env) w.parts later) w.element w.extent p) (and_then (M q d) F)))
      where
        parts_or : (a b c d : Bool) → (c || d) ≡ true → ((a || (b || c)) || d) ≡ true
        parts_or true b c d h = refl
        parts_or false true c d h = refl
        parts_or false false c d h = h
