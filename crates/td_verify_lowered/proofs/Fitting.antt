-- What the tables have for a checked module's fields.
use Rattle.std.proofs.Common.{◌≡◌, ℕ, zero, suc, ◌+◌, ◌*◌, ◌<◌, ◌≤◌, max, List, [], ◌∷◌, ◌++◌, true, false, ◌&&◌, nat_eq, nat_lt, length, slice_get, Option, Some, None, refl, sym, ap, subst, ◌∙◌, arith}
use Rattle.std.proofs.lemmas.List.{length-map}
use Rattle.std.proofs.lemmas.Option.{slice_get_within}
use Rattle.std.proofs.lemmas.Bool.Decides.{nat_tests}
use Rattle.td_num.specs.Numbers.{bytes_in}
use Rattle.td_verify_lowered.specs.Imports.{Width, One, Two, Four, Eight, Kind, Element, Number as NumberElement, Listed as ListedElement, Named as NamedElement, Unit as UnitElement, Rest, Zeros, Extent, Once, Filling, OnceFilling, UpToZero, Given, Source, Expression, FromCell, Left, Bits, CopyOut, Part, Field, Case, Body, Struct, Casetype, TypeDef, Parts}
use Rattle.td_num.specs.Lists.{Each}
use Rattle.td_core.specs.declared.module.NameId.{NameId}
use Rattle.td_core.specs.Term.{Deed, done, set, keep, fork, answer, give_up}
use Rattle.td_core.specs.Formed.{Bound, parts_scope, AreCellsFormed, own_bounds, own_at, IsElementFormed, AreFieldsFormed, AreCasesFormed, IsDefaultFormed, IsBodyFormed}
use Rattle.td_core.specs.Copies.{IsCopyWhole, AreOwnGiven, IsElementGiven, NamesCells, IsSourceOwn, IsExtentOwn, IsFieldCopying}
use Rattle.td_core.specs.WellFormed.{OfSome, EachField, HasParts, AreBitsOf, AreParts, AreFieldParts, IsEnumThere, IsFieldWhole}
use Rattle.td_core.specs.Weights.{of_named, fields_depth, default_depth, cases_depth, body_depth}
use Rattle.td_kinds.specs.declared.error.KindFault.{KindFault}
use Rattle.td_kinds.specs.declared.error.KindFault.TheVariants.{ZeroElement}
use Rattle.td_kinds.specs.Kinds.{element_kind}
use Rattle.td_kinds.specs.KindRules.{is_filled, fault_if, is_empty, field_faults, fields_faults, cases_faults, default_faults, body_faults}
use Rattle.td_kinds.proofs.Faultless.{no_fault}
use Rattle.td_ir.specs.Tables.{routine_of}
use Rattle.td_lower_blocks.specs.Lowered.{parts_in}
use Rattle.td_lower_blocks.specs.Tabled.{Mapped, FieldsSited, DefaultSited, CasesSited, BodySited}
use Rattle.td_lower_blocks.specs.Tops.{deed_cells, option_cells, source_cells, extent_cells, parts_cells}
use Rattle.td_verify_lowered.proofs.Fit.{BitsFit, ElementFits, ArrayFits, CopyFits, FieldsFit, DefaultFits, CasesFit, BodyFits}
use Rattle.td_lower_blocks.specs.Laid.{rooms}
use Rattle.td_verify_lowered.proofs.Maps.{is_map}
use Rattle.td_core.proofs.Found.{cells_mapped, own_count}

-- cells that actions name
deed_low : (n : ℕ) (d : Deed) → NamesCells n d → deed_cells d ≤ n
deed_low n done h = omega arith
deed_low n (set cell e then) h = let x = h.0 in let y = deed_low n then h.1 in omega (arith, x, y)
deed_low n (keep cell then) h = let x = h.0 in let y = deed_low n then h.1 in omega (arith, x, y)
deed_low n (fork e one other then) h = let x = deed_low n one h.0 in let y = deed_low n other h.1.0 in let z = deed_low n then h.1.1 in omega (arith, x, y, z)
deed_low n (answer e) h = omega arith
deed_low n give_up h = omega arith

action_low : (n : ℕ) (o : Option Deed) → OfSome (NamesCells n) o → option_cells o ≤ n
action_low n None h = omega arith
action_low n (Some d) h = deed_low n d h

source_low : (n : ℕ) (source : Source) → IsSourceOwn n source → source_cells source ≤ n
source_low n (Expression span e) h = omega arith
source_low n (FromCell cell) h = omega (arith, h)
source_low n Left h = omega arith

pub extent_low : (n : ℕ) (extent : Extent) → IsExtentOwn n extent → extent_cells extent ≤ n
extent_low n Once h = omega arith
extent_low n (Filling size step) h = omega arith
extent_low n (OnceFilling size step) h = omega arith
extent_low n (UpToZero size) h = omega arith
extent_low n (Given source) h = source_low n source h

pub parts_low : (n : ℕ) (ps : List Part) → Each (λ p. OfSome (NamesCells n) p.action) ps → parts_cells ps ≤ n
parts_low n [] h = omega arith
parts_low n (p ∷ ps) h = let x = action_low n p.action h.0 in let y = parts_low n ps h.1 in omega (arith, x, y)

-- the buffer that a field is copied to
pub buffer_low : (d : TypeDef) (f : Field) (w : CopyOut) → IsCopyWhole d f w → w.buffer < length d.buffers
buffer_low d f w h =
    let b = h.buffer in
    let few = slice_get_within d.buffers b.number b.buffer b.there in
    let x = b.cell_is in
    let y = h.number in
    omega (arith, few, x, y)

-- bits of a number
small : (w : Width) → 8 * bytes_in w ≤ 64
small One = omega arith
small Two = omega arith
small Four = omega arith
small Eight = omega arith

bits_fit : (w : Width) (o : Option Bits) (order : _) → AreBitsOf (record { width = w; order = order }) o → BitsFit o
bits_fit w None order h = absurd h
bits_fit w (Some b) order h = let x = small w in let y = h.1 in let z = h.0 in (omega (arith, x, y), omega (arith, z))

all_fit : (type : _) (ps : List Part) → Each (λ p. AreBitsOf type p.bits) ps → Each (λ p. BitsFit p.bits) ps
all_fit type [] h = tt
all_fit type (p ∷ ps) h = (bits_fit type.width p.bits type.order h.0, all_fit type ps h.1)

alone : (element : Element) (extent : Extent) (b : Option Bits) (ps : List Part) → AreParts element extent b ps → BitsFit b × Each (λ p. BitsFit p.bits) ps
alone (NumberElement type) Once (Some b) ps h = (bits_fit type.width (Some b) type.order h.0, all_fit type ps h.1)
alone (NumberElement type) (Filling size step) (Some b) ps h = absurd h
alone (NumberElement type) (OnceFilling size step) (Some b) ps h = absurd h
alone (NumberElement type) (UpToZero size) (Some b) ps h = absurd h
alone (NumberElement type) (Given source) (Some b) ps h = absurd h
alone (ListedElement base v) extent (Some b) ps h = absurd h
alone (NamedElement d args own) extent (Some b) ps h = absurd h
alone UnitElement extent (Some b) ps h = absurd h
alone Rest extent (Some b) ps h = absurd h
alone Zeros extent (Some b) ps h = absurd h
alone (NumberElement type) Once None ps h = (tt, subst (Each (λ p. BitsFit p.bits)) (sym h) tt)
alone (NumberElement type) (Filling size step) None ps h = (tt, subst (Each (λ p. BitsFit p.bits)) (sym h) tt)
alone (NumberElement type) (OnceFilling size step) None ps h = (tt, subst (Each (λ p. BitsFit p.bits)) (sym h) tt)
alone (NumberElement type) (UpToZero size) None ps h = (tt, subst (Each (λ p. BitsFit p.bits)) (sym h) tt)
alone (NumberElement type) (Given source) None ps h = (tt, subst (Each (λ p. BitsFit p.bits)) (sym h) tt)
alone (ListedElement base v) extent None ps h = (tt, subst (Each (λ p. BitsFit p.bits)) (sym h) tt)
alone (NamedElement d args own) extent None ps h = (tt, subst (Each (λ p. BitsFit p.bits)) (sym h) tt)
alone UnitElement extent None ps h = (tt, subst (Each (λ p. BitsFit p.bits)) (sym h) tt)
alone Rest extent None ps h = (tt, subst (Each (λ p. BitsFit p.bits)) (sym h) tt)
alone Zeros extent None ps h = (tt, subst (Each (λ p. BitsFit p.bits)) (sym h) tt)

pub parts_fit : (element : Element) (extent : Extent) (ps : List Part) → AreFieldParts element extent ps → Each (λ p. BitsFit p.bits) ps
parts_fit element extent [] h = tt
parts_fit element extent (p ∷ ps) h = alone element extent p.bits ps h

pub has_parts : (element : Element) (extent : Extent) (ps : List Part) → AreFieldParts element extent ps → HasParts ps
has_parts element extent [] h = h
has_parts element extent (p ∷ ps) h = tt

-- no faults of one list and of another
pub none_first : (a b : List KindFault) → a ++ b ≡ [] → a ≡ []
none_first [] b h = refl
none_first (x ∷ a) b h = absurd (cc)

pub none_then : (a b : List KindFault) → a ++ b ≡ [] → b ≡ []
none_then [] b h = h
none_then (x ∷ a) b h = absurd (cc)

more_than_none : (k : ℕ) → (true && nat_eq k 0) ≡ false → nat_lt 0 k ≡ true
more_than_none zero h = absurd (cc)
more_than_none (suc k) h = grind (arith, nat_tests)

module _ (c : Parts) (depth : ℕ → ℕ) (n : ℕ) (ds : List TypeDef) (d : TypeDef) (count : ℕ) (E : ℕ → ℕ) (kinds : ℕ → Kind)
    (cells : (routine_of c n).cells ≡ length d.cells) (buffers : (routine_of c n).buffers ≡ rooms d.buffers)
    (theirs : (j : ℕ) → j < n → (e : TypeDef) × ((slice_get ds j ≡ Some e) × (((routine_of c j).cells ≡ length e.cells) × ((routine_of c j).buffers ≡ rooms e.buffers))))
    (sets : count ≤ length c.sets) (deeper : (j : ℕ) → j < n → depth j ≤ E j) where
  element_fits : (site : ℕ) (scope : List Bound) (element : Element) → IsElementFormed ds n (own_bounds d) scope element → IsElementGiven ds d element → IsEnumThere count element → Mapped c n site element → of_named E element + 1 ≤ depth n
      → ElementFits c depth (λ j. nat_lt 0 (kinds j).least) n site element
  element_fits site scope (NumberElement type) h g l s k = tt
  element_fits site scope (ListedElement base v) h g l s k = omega (arith, l, sets)
  element_fits site scope (NamedElement j args own) h g l s k =
      let x = theirs j h.0 in
      let e = x.0 in
      let formed : AreCellsFormed (own_bounds d) (own_bounds e) own = subst (λ o. AreCellsFormed (own_bounds d) (own_at o) own) x.1.0 h.1.1 in
      let given : AreOwnGiven d (Some e) own = subst (λ o. AreOwnGiven d o own) x.1.0 g in (
        (let y = deeper j h.0 in omega (arith, y, k)),
        λ there. is_map c n j site d e own cells buffers x.1.1.0 x.1.1.1 s (cells_mapped (own_bounds d) (own_bounds e) own formed ∙ own_count e) given there,
      )
  element_fits site scope UnitElement h g l s k = tt
  element_fits site scope Rest h g l s k = tt
  element_fits site scope Zeros h g l s k = tt

  copy_fits : (f : Field) (o : Option CopyOut) → OfSome (IsCopyWhole d f) o → CopyFits c depth (λ j. nat_lt 0 (kinds j).least) n o
  copy_fits f None h = tt
  copy_fits f (Some w) h = let x = buffer_low d f w h in let y = ap length buffers ∙ length-map d.buffers (λ b. b.room) in omega (arith, x, y)

  array_fits : (element : Element) (extent : Extent) (f : KindFault) → fault_if (is_filled extent && nat_eq (element_kind kinds element).least 0) f ≡ [] → ArrayFits c depth (λ j. nat_lt 0 (kinds j).least) n element extent
  array_fits (NamedElement j args own) (Filling size step) f h = more_than_none (kinds j).least (no_fault (true && nat_eq (kinds j).least 0) f h)
  array_fits (NamedElement j args own) Once f h = tt
  array_fits (NamedElement j args own) (OnceFilling size step) f h = tt
  array_fits (NamedElement j args own) (UpToZero size) f h = tt
  array_fits (NamedElement j args own) (Given source) f h = tt
  array_fits (NumberElement type) extent f h = tt
  array_fits (ListedElement base v) extent f h = tt
  array_fits UnitElement extent f h = tt
  array_fits Rest extent f h = tt
  array_fits Zeros extent f h = tt

  fields_fit : (ty : NameId) (site : ℕ) (scope : List Bound) (fs : List Field) → AreFieldsFormed ds n (own_bounds d) scope fs → Each (IsFieldWhole count) fs → Each (IsFieldCopying ds d) fs → FieldsSited c n ty site fs → fields_faults kinds fs ≡ [] → fields_depth E fs + 1 ≤ depth n
      → FieldsFit c depth (λ j. nat_lt 0 (kinds j).least) n site fs
  fields_fit ty site scope [] h w g s k m = tt
  fields_fit ty site scope (f ∷ fs) h w g s k m =
      let last = is_empty fs in
      let own = none_first (field_faults kinds f last) (fields_faults kinds fs) k in (
        record {
          element = element_fits site scope f.element h.0 g.0.element w.0.listed s.1.0.0 (omega (arith, m));
          array = array_fits f.element f.extent (ZeroElement f.place) (none_first _ _ own);
          copy = copy_fits f f.copy g.0.copy;
          cells = subst (λ x. parts_cells f.parts ≤ x) (sym cells) (parts_low (length d.cells) f.parts g.0.actions);
          source = subst (λ x. extent_cells f.extent ≤ x) (sym cells) (extent_low (length d.cells) f.extent g.0.source);
          bits = parts_fit f.element f.extent f.parts w.0.parts;
        },
        fields_fit ty (length f.parts + site) (parts_scope f.element f.extent scope f.parts) fs h.1.1.1 w.1 g.1 s.1.1.1 (none_then (field_faults kinds f last) (fields_faults kinds fs) k) (omega (arith, m)),
      )

  default_fits : (ty : NameId) (switch site : ℕ) (scope : List Bound) (o : Option (List Field)) → IsDefaultFormed ds n (own_bounds d) scope o → OfSome (Each (IsFieldWhole count)) o → OfSome (Each (IsFieldCopying ds d)) o → DefaultSited c n ty switch site o
      → default_faults kinds o ≡ [] → default_depth E o + 1 ≤ depth n → DefaultFits c depth (λ j. nat_lt 0 (kinds j).least) n site o
  default_fits ty switch site scope None h w g s k m = tt
  default_fits ty switch site scope (Some fs) h w g s k m = fields_fit ty site scope fs h w g s k m

  cases_fit : (ty : NameId) (switch site : ℕ) (scope : List Bound) (cs : List Case) (o : Option (List Field)) → AreCasesFormed ds n (own_bounds d) scope cs → IsDefaultFormed ds n (own_bounds d) scope o
      → Each (λ x. Each (IsFieldWhole count) x.fields) cs → OfSome (Each (IsFieldWhole count)) o → Each (λ x. Each (IsFieldCopying ds d) x.fields) cs → OfSome (Each (IsFieldCopying ds d)) o
      → CasesSited c n ty switch site cs o → cases_faults kinds cs ≡ [] → default_faults kinds o ≡ [] → max (cases_depth E cs) (default_depth E o) + 1 ≤ depth n → CasesFit c depth (λ j. nat_lt 0 (kinds j).least) n site cs o
  cases_fit ty switch site scope [] o h f w v g y s k l m = default_fits ty switch site scope o f v y s l (omega (arith, m))
  cases_fit ty switch site scope (x ∷ cs) o h f w v g y s k l m = (
    fields_fit ty site scope x.fields h.0 w.0 g.0 s.0 (none_first (fields_faults kinds x.fields) (cases_faults kinds cs) k) (omega (arith, m)),
    cases_fit ty switch (parts_in x.fields + site) scope cs o h.1 f w.1 v g.1 y s.1 (none_then (fields_faults kinds x.fields) (cases_faults kinds cs) k) l (omega (arith, m)),
  )

  pub body_fits : (ty : NameId) (switch site : ℕ) (scope : List Bound) (b : Body) → IsBodyFormed ds n (own_bounds d) scope b → EachField (IsFieldWhole count) b → EachField (IsFieldCopying ds d) b → BodySited c n ty switch site b
      → body_faults kinds b ≡ [] → body_depth E b + 1 ≤ depth n → BodyFits c depth (λ j. nat_lt 0 (kinds j).least) n site b
  body_fits ty switch site scope (Struct fs) h w g s k m = fields_fit ty site scope fs h w g s k m
  body_fits ty switch site scope (Casetype e cases o) h w g s k m =
      cases_fit ty switch site scope cases o h.1.0 h.1.1 w.0 w.1 g.0 g.1 s (none_first (cases_faults kinds cases) (default_faults kinds o) k) (none_then (cases_faults kinds cases) (default_faults kinds o) k) m
