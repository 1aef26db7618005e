-- Core fields copy as a module's may: byte-sized arrays of UINT8 alone, to buffers of the definition, which are given on with
-- their rooms.
use Rattle.std.proofs.Common.{◌≡◌, ℕ, zero, suc, ◌+◌, ◌*◌, ◌<◌, ◌≤◌, Bool, true, false, cond, ◌&&◌, List, [], ◌∷◌, ◌++◌, length, take, drop, map, refl, sym, ap, ◌∙◌, subst, arith, Option, Some, None, slice_get}
use Rattle.std.proofs.Math.Seq.{take-append_seam, drop-append_seam}
use Rattle.std.proofs.lemmas.Bool.{and_parts, false≢true}
use Rattle.std.proofs.lemmas.List.{length-map}
use Rattle.std.proofs.lemmas.Option.{none-some, same_Some, slice_get_within}
use Rattle.td_num.specs.Lists.{Each}
use Rattle.td_num.proofs.Lists.{each_append}
use Rattle.td_elab_rules.specs.Imports.{NumberType, Width, ByteOrder, LittleEndian, BigEndian, Span, ActionTree, Done, Copied, TypeKind, TypeTree, ExtentTree, FieldTree, NameId, Element, Extent, CopyOut, Part, CellKind, Cell, Buffer, TypeDef}
use Rattle.td_num.specs.declared.number.Width.TheVariants.{One, Two, Four, Eight}
use Rattle.td_ast.specs.Extents.{is_array}
use Rattle.td_ast.specs.Trees.{Tree}
use Rattle.td_ast.specs.declared.fields.TypeKind.TheVariants as type
use Rattle.td_ast.specs.declared.fields.ExtentTree.TheVariants as after
use Rattle.td_core.specs.Term.{Term, Deed}
use Rattle.td_core.specs.declared.module.Element.TheVariants as element
use Rattle.td_core.specs.Formed.{Bound, cell_bound, IsActionFormed}
use Rattle.td_core.specs.WellFormed.{OfSome}
use Rattle.td_core.specs.Copies.{IsCopied, IsBufferCell, IsCopyWhole, AreBuffersGiven, AreOwnGiven, IsElementGiven, IsSourceOwn, IsExtentOwn, NamesCells, IsFieldCopying}
use Rattle.td_elab_rules.specs.declared.fields.Readable.{Readable}
use Rattle.td_elab_rules.specs.declared.fields.FlatField.{FlatField}
use Rattle.td_elab_rules.specs.declared.fields.OpenUnit.{OpenUnit}
use Rattle.td_elab_rules.specs.declared.known.Meaning.TheVariants as meaning
use Rattle.td_elab_rules.specs.declared.known.Local.TheVariants as local
use Rattle.td_elab_rules.specs.declared.known.Found.{Found}
use Rattle.td_elab_rules.specs.declared.known.Found.TheVariants as found
use Rattle.td_elab_rules.specs.declared.known.Known.{Known}
use Rattle.td_elab_rules.specs.declared.known.Scope.{Scope}
use Rattle.td_elab_rules.specs.Known.{found_in, signature_at}
use Rattle.td_elab_rules.specs.Sorts.{core_of, option_core}
use Rattle.td_elab_rules.specs.Actions.{stored_cell, action_core}
use Rattle.td_elab_rules.specs.Given.{tree_source, held_source}
use Rattle.td_elab_rules.specs.Types.{same_number, number_found, number_of_kind, number_type, is_byte, args_core, args_cells, args_buffers, is_kind, fits_params, fits_cells, has_room, fits_buffers, buffer_cells, fits, applied, found_element, kind_element, element_of}
use Rattle.td_elab_rules.specs.Extents.{zero_ended, extent_core, bit_width}
use Rattle.td_elab_rules.specs.Copies.{are_bytes, copy_to, found_copy, copied_core}
use Rattle.td_elab_rules.specs.BitFields.{part_of, whole_field, new_unit, more_bits, unit_field}
use Rattle.td_elab_rules.specs.Fields.{base_of, readable_base, readable_of, with_field, refinement_core, flat_of, flats_of, fields_core}
use Rattle.td_elab_rules.proofs.Scopes.{bounds_of, IsScope, found_there}
use Rattle.td_elab_rules.proofs.DeedsFormed.{cell_there, action_formed, action_named}
use Rattle.td_elab_rules.proofs.Given.{given_case, tree_own, held_own}
use Rattle.td_elab_rules.proofs.OwnFormed.{room_there}
use Rattle.td_elab_rules.proofs.FieldsFormed.{field_scope, field_bound, readable_cells, readable_buffers}
use Rattle.td_elab_rules.proofs.Whole.{gathered_each}

-- the rooms of copy buffers
abbrev pub rooms_of : List Buffer → List ℕ
rooms_of bs = map (λ b. b.room) bs

pub record HasRoom (bs : List Buffer) (n room : ℕ) : Type 0 where
  pub buffer : Buffer
  pub there : slice_get bs n ≡ Some buffer
  pub is : buffer.room ≡ room

room_at : (bs : List Buffer) (n room : ℕ) → slice_get (rooms_of bs) n ≡ Some room → HasRoom bs n room
room_at [] n room e = absurd (none-some room e)
room_at (b ∷ bs) zero room e = record { buffer = b; there = refl; is = same_Some b.room room e }
room_at (b ∷ bs) (suc n) room e = let h = room_at bs n room e in record { buffer = h.buffer; there = h.there; is = h.is }

-- Arguments

cells_below : (own : List CellKind) (bs : List Cell) (cs : List ℕ) → fits_cells own bs cs ≡ true → Each (λ c. c < length own) cs
cells_below own [] [] t = tt
cells_below own [] (c ∷ cs) t = absurd (false≢true t)
cells_below own (b ∷ bs) [] t = absurd (false≢true t)
cells_below own (b ∷ bs) (c ∷ cs) t =
    let u = and_parts (is_kind (slice_get own c) b.kind) (fits_cells own bs cs) t in
    (by (slice_get own c) refl u.0, cells_below own bs cs u.1)
  where
    by : (o : Option CellKind) → slice_get own c ≡ o → is_kind o b.kind ≡ true → c < length own
    by None e t = absurd (false≢true t)
    by (Some kind) e t = slice_get_within own c kind e

cells_count : (own : List CellKind) (bs : List Cell) (cs : List ℕ) → fits_cells own bs cs ≡ true → length cs ≡ length bs
cells_count own [] [] t = refl
cells_count own [] (c ∷ cs) t = absurd (false≢true t)
cells_count own (b ∷ bs) [] t = absurd (false≢true t)
cells_count own (b ∷ bs) (c ∷ cs) t = ap suc (cells_count own bs cs (and_parts (is_kind (slice_get own c) b.kind) (fits_cells own bs cs) t).1)

buffers_given : (count : ℕ) (own bs : List Buffer) (ns : List ℕ) → fits_buffers (rooms_of own) bs ns ≡ true → AreBuffersGiven count own bs (buffer_cells count ns)
buffers_given count own [] [] t = tt
buffers_given count own [] (n ∷ ns) t = absurd (false≢true t)
buffers_given count own (b ∷ bs) [] t = absurd (false≢true t)
buffers_given count own (b ∷ bs) (n ∷ ns) t =
    let u = and_parts (has_room (slice_get (rooms_of own) n) b.room) (fits_buffers (rooms_of own) bs ns) t in
    let h = room_at own n b.room (room_there (slice_get (rooms_of own) n) b.room u.0) in
    (record { number = n; buffer = h.buffer; there = h.there; room_is = h.is; cell_is = refl }, (refl, buffers_given count own bs ns u.1))

-- a scope of a definition with so many cells and these buffers
pub record IsScopeOf (d : TypeDef) (s : Scope) : Type 0 where
  pub cells : length s.cells ≡ length d.cells
  pub buffers : s.buffers ≡ rooms_of d.buffers

own_given : (d e : TypeDef) (s : Scope) (own ns : List ℕ) → IsScopeOf d s → fits_cells s.cells e.cells own ≡ true → fits_buffers s.buffers e.buffers ns ≡ true
    → AreOwnGiven d (Some e) (own ++ buffer_cells (length s.cells) ns)
own_given d e s own ns h t u =
    let all = own ++ buffer_cells (length s.cells) ns in
    let count = cells_count s.cells e.cells own t in
    let front : take (length e.cells) all ≡ own = subst (λ n. take n all ≡ own) count (take-append_seam own (buffer_cells (length s.cells) ns)) in
    let back : drop (length e.cells) all ≡ buffer_cells (length s.cells) ns = subst (λ n. drop n all ≡ buffer_cells (length s.cells) ns) count (drop-append_seam own (buffer_cells (length s.cells) ns)) in (
      subst (Each (λ k. k < length d.cells)) (sym front) (subst (λ n. Each (λ k. k < n) own) h.cells (cells_below s.cells e.cells own t)),
      subst (AreBuffersGiven (length d.cells) d.buffers e.buffers) (sym back)
          (subst (λ n. AreBuffersGiven n d.buffers e.buffers (buffer_cells (length s.cells) ns)) h.cells
          (buffers_given (length s.cells) d.buffers e.buffers ns (subst (λ own. fits_buffers own e.buffers ns ≡ true) h.buffers u))),
    )

-- What is copied

-- `UINT8`
abbrev octet : NumberType
octet = record { width = One; order = LittleEndian }

octet_is : (w : Width) (o : ByteOrder) → is_byte (Some (record { width = w; order = o })) ≡ true → record { width = w; order = o } ≡ octet
octet_is One LittleEndian t = refl
octet_is One BigEndian t = absurd (false≢true t)
octet_is Two o t = absurd (false≢true t)
octet_is Four o t = absurd (false≢true t)
octet_is Eight o t = absurd (false≢true t)

found_octet : (k : Known) (s : Scope) (f : Found) (args : List Tree) → is_byte (number_found f) ≡ true → found_element k s f args ≡ element.Number octet
found_octet k s found.Nothing args t = absurd (false≢true t)
found_octet k s (found.Local l) args t = absurd (false≢true t)
found_octet k s (found.Global (meaning.Constant n)) args t = absurd (false≢true t)
found_octet k s (found.Global (meaning.Member n)) args t = absurd (false≢true t)
found_octet k s (found.Global (meaning.Number n)) args t = ap element.Number (octet_is n.width n.order t)
found_octet k s (found.Global (meaning.Enum n v)) args t = absurd (false≢true t)
found_octet k s (found.Global (meaning.Type j)) args t = absurd (false≢true t)
found_octet k s (found.Global (meaning.Record r)) args t = absurd (false≢true t)

kind_octet : (k : Known) (s : Scope) (t : TypeKind) → is_byte (number_of_kind k s t) ≡ true → kind_element k s t ≡ element.Number octet
kind_octet k s (type.Number n) t = ap element.Number (octet_is n.width n.order t)
kind_octet k s type.Unit t = absurd (false≢true t)
kind_octet k s type.AllBytes t = absurd (false≢true t)
kind_octet k s type.AllZeros t = absurd (false≢true t)
kind_octet k s (type.Named n args) t = found_octet k s (found_in k s n) args t

-- the one part of a field that is copied
abbrev copied_part : NameId → Option ExtentTree → Option Readable → Option Term → Part
copied_part name x base e = record { name = name; bits = None; refinement = refinement_core (cond (is_array x) None base) e; action = None }

bytes_copied : (k : Known) (s : Scope) (t : TypeTree) (x : Option ExtentTree) (name : NameId) (base : Option Readable) (e : Option Term) → are_bytes k s t x ≡ true
    → IsCopied (element_of k s t) (extent_core k s (element_of k s t) x) (copied_part name x base e ∷ [])
bytes_copied k s t None name base e h = absurd (false≢true h)
bytes_copied k s t (Some (after.Bytes z)) name base e h =
    subst (λ y. IsCopied y (extent_core k s y (Some (after.Bytes z))) (copied_part name (Some (after.Bytes z)) base e ∷ [])) (sym (kind_octet k s t.kind h)) (refl, (refl, (refl, refl)))
bytes_copied k s t (Some (after.ByteSize z)) name base e h =
    subst (λ y. IsCopied y (extent_core k s y (Some (after.ByteSize z))) (copied_part name (Some (after.ByteSize z)) base e ∷ [])) (sym (kind_octet k s t.kind h)) (refl, (refl, (refl, refl)))
bytes_copied k s t (Some (after.SingleElement z)) name base e h = absurd (false≢true h)
bytes_copied k s t (Some (after.Zeroterm z)) name base e h = absurd (false≢true h)
bytes_copied k s t (Some (after.Bits n)) name base e h = absurd (false≢true h)
bytes_copied k s t (Some (after.Given z)) name base e h = absurd (false≢true h)
bytes_copied k s t (Some (after.OfCell star p)) name base e h = absurd (false≢true h)

-- Fields

module _ (all : List TypeDef) (k : Known) (same : (j : ℕ) (d : TypeDef) → slice_get k.definitions j ≡ Some d → slice_get all j ≡ Some d) (d : TypeDef) where
  applied_given : (s : Scope) (j : ℕ) (es : List Term) (own ns : List ℕ) → IsScopeOf d s → IsElementGiven all d (applied s j (slice_get k.definitions j) es own ns)
  applied_given s j es own ns h = by (slice_get k.definitions j) refl
    where
      by : (o : Option TypeDef) → slice_get k.definitions j ≡ o → IsElementGiven all d (applied s j o es own ns)
      by None e = tt
      by (Some c) e = check (fits s c es own ns) refl
        where
          check : (b : Bool) → fits s c es own ns ≡ b → IsElementGiven all d (cond b (element.Named j es (own ++ buffer_cells (length s.cells) ns)) element.Unit)
          check false t = tt
          check true t =
              let u = and_parts (fits_params c.params es) (fits_cells s.cells c.cells own && fits_buffers s.buffers c.buffers ns) t in
              let v = and_parts (fits_cells s.cells c.cells own) (fits_buffers s.buffers c.buffers ns) u.1 in
              subst (λ o. AreOwnGiven d o (own ++ buffer_cells (length s.cells) ns)) (sym (same j c e)) (own_given d c s own ns h v.0 v.1)

  found_given : (s : Scope) (f : Found) (args : List Tree) → IsScopeOf d s → IsElementGiven all d (found_element k s f args)
  found_given s found.Nothing args h = tt
  found_given s (found.Local l) args h = tt
  found_given s (found.Global (meaning.Constant n)) args h = tt
  found_given s (found.Global (meaning.Member n)) args h = tt
  found_given s (found.Global (meaning.Number n)) args h = tt
  found_given s (found.Global (meaning.Enum n v)) args h = tt
  found_given s (found.Global (meaning.Type j)) args h = applied_given s j (args_core k s (signature_at k j) args) (args_cells k s (signature_at k j) args) (args_buffers k s (signature_at k j) args) h
  found_given s (found.Global (meaning.Record r)) args h = tt

  kind_given : (s : Scope) (t : TypeKind) → IsScopeOf d s → IsElementGiven all d (kind_element k s t)
  kind_given s (type.Number n) h = tt
  kind_given s type.Unit h = tt
  kind_given s type.AllBytes h = tt
  kind_given s type.AllZeros h = tt
  kind_given s (type.Named n args) h = found_given s (found_in k s n) args h

  field_scope_of : (s : Scope) (f : FieldTree) → IsScopeOf d s → IsScopeOf d (with_field k s f)
  field_scope_of s f h = record {
    cells = ap length (readable_cells s f.name.text (readable_of k s f)) ∙ h.cells;
    buffers = readable_buffers s f.name.text (readable_of k s f) ∙ h.buffers;
  }

  -- the copy of a field with this one part
  copy_whole : (u : Scope) (at : Span) (f : Found) (x : FlatField) → IsScopeOf d u → IsCopied x.element x.extent (part_of None x ∷ []) → OfSome (IsCopyWhole d (whole_field x)) (found_copy u at f)
  copy_whole u at found.Nothing x h c = tt
  copy_whole u at (found.Local (local.Buffer n)) x h c = by (slice_get u.buffers n) refl
    where
      by : (o : Option ℕ) → slice_get u.buffers n ≡ o
          → OfSome (IsCopyWhole d (whole_field x)) (elim o [ None ↦ None | Some room ↦ Some (record { buffer = n; cell = length u.cells + 2 * n; room = room; span = at }) ])
      by None e = tt
      by (Some room) e =
          let g = room_at d.buffers n room (subst (λ rs. slice_get rs n ≡ Some room) h.buffers e) in
          let cell : length u.cells + 2 * n ≡ length d.cells + 2 * n = ap (λ m. m + 2 * n) h.cells in
          record { field = c; buffer = record { number = n; buffer = g.buffer; there = g.there; room_is = g.is; cell_is = cell }; number = cell }
  copy_whole u at (found.Local (local.Value i w most)) x h c = tt
  copy_whole u at (found.Local local.Unreadable) x h c = tt
  copy_whole u at (found.Local (local.Cell i t)) x h c = tt
  copy_whole u at (found.Local (local.Row i r)) x h c = tt
  copy_whole u at (found.Global m) x h c = tt

  -- what gives a value is no cell of a copy buffer
  zero_own : (x : Element) (e : Term) → IsExtentOwn (length d.cells) (zero_ended x e)
  zero_own (element.Number t) e = tt
  zero_own (element.Listed t v) e = tt
  zero_own (element.Named j es cells) e = tt
  zero_own element.Unit e = tt
  zero_own element.Rest e = tt
  zero_own element.Zeros e = tt

  extent_own : (bounds : List Bound) (s : Scope) (e : Element) (x : Option ExtentTree) → IsScope k bounds s → IsScopeOf d s → IsExtentOwn (length d.cells) (extent_core k s e x)
  extent_own bounds s e None g h = tt
  extent_own bounds s e (Some (after.Bytes z)) g h = tt
  extent_own bounds s e (Some (after.ByteSize z)) g h = tt
  extent_own bounds s e (Some (after.SingleElement z)) g h = tt
  extent_own bounds s e (Some (after.Zeroterm z)) g h = zero_own e (core_of k s z)
  extent_own bounds s e (Some (after.Bits n)) g h = tt
  extent_own bounds s e (Some (after.Given z)) g h =
      given_case (λ y x. IsExtentOwn (length d.cells) x) (λ o. tree_source k s o z) refl (λ t x q u. tree_own (length d.cells) k s z t x q) e tt
  extent_own bounds s e (Some (after.OfCell star p)) g h =
      given_case (λ y x. IsExtentOwn (length d.cells) x) (λ o. held_source o (stored_cell k s p)) refl
      (λ t x q u. subst (λ n. IsSourceOwn n x) (length-map s.cells cell_bound ∙ h.cells)
      (held_own (bounds_of s.cells) (stored_cell k s p) (cell_there k bounds (bounds_of s.cells) (found_in k s p.text) (found_there k bounds s p.text g)) t x q)) e tt

  record IsFlatCopying (x : FlatField) : Type 0 where
    copy : OfSome (IsCopyWhole d (whole_field x)) x.copy
    element : IsElementGiven all d x.element
    source : IsExtentOwn (length d.cells) x.extent
    action : OfSome (NamesCells (length d.cells)) x.action

  abbrev AreNaming : List Part → Type 0
  AreNaming ps = Each (λ p. OfSome (NamesCells (length d.cells)) p.action) ps

  -- a field with this action, before it is gathered
  abbrev flat_with : List (List ℕ) → Scope → FieldTree → Option ActionTree → FlatField
  flat_with names s f a = record (flat_of names k s f) { copy = copied_core k (with_field k s f) (are_bytes k s f.type_tree f.extent) a; action = action_core k (with_field k s f) a }

  copies_whole : (names : List (List ℕ)) (s : Scope) (f : FieldTree) (a : Option ActionTree) → IsScopeOf d s → OfSome (IsCopyWhole d (whole_field (flat_with names s f a))) (copied_core k (with_field k s f) (are_bytes k s f.type_tree f.extent) a)
  copies_whole names s f None h = tt
  copies_whole names s f (Some (Done kind at b)) h = tt
  copies_whole names s f (Some (Copied at n)) h = by (are_bytes k s f.type_tree f.extent) refl
    where
      by : (b : Bool) → are_bytes k s f.type_tree f.extent ≡ b → OfSome (IsCopyWhole d (whole_field (flat_with names s f (Some (Copied at n))))) (cond b (found_copy (with_field k s f) at (found_in k (with_field k s f) n.text)) None)
      by false e = tt
      by true e =
          copy_whole (with_field k s f) at (found_in k (with_field k s f) n.text) (flat_with names s f (Some (Copied at n))) (field_scope_of s f h)
          (bytes_copied k s f.type_tree f.extent (flat_of names k s f).name (readable_base (base_of k s f.type_tree.kind) (bit_width k s f.type_tree f.extent)) (option_core k (with_field k s f) f.refinement) e)

  flat_copying : (names : List (List ℕ)) (bounds : List Bound) (s : Scope) (f : FieldTree) → IsScope k bounds s → IsScopeOf d s → IsFlatCopying (flat_of names k s f)
  flat_copying names bounds s f g h =
      let u = with_field k s f in
      let o = field_scope_of s f h in
      let more = bounds ++ field_bound k s f ∷ [] in
      record {
        copy = copies_whole names s f f.action h;
        element = kind_given s f.type_tree.kind h;
        source = extent_own bounds s (element_of k s f.type_tree) f.extent g h;
        action =
            subst (λ n. OfSome (NamesCells n) (action_core k u f.action)) (length-map u.cells cell_bound ∙ o.cells)
            (action_named (bounds_of u.cells) more (action_core k u f.action) (action_formed k more u f.action (field_scope k bounds s f g)));
      }

  flats_copying : (names : List (List ℕ)) (bounds : List Bound) (s : Scope) (fs : List FieldTree) → IsScope k bounds s → IsScopeOf d s → Each IsFlatCopying (flats_of names k s fs)
  flats_copying names bounds s [] g h = tt
  flats_copying names bounds s (f ∷ fs) g h = (
    flat_copying names bounds s f g h,
    flats_copying names (bounds ++ field_bound k s f ∷ []) (with_field k s f) fs (field_scope k bounds s f g) (field_scope_of s f h),
  )

  pub fields_copying : (names : List (List ℕ)) (bounds : List Bound) (s : Scope) (fs : List FieldTree) → IsScope k bounds s → IsScopeOf d s → Each (IsFieldCopying all d) (fields_core names k s fs)
  fields_copying names bounds s fs g h =
      gathered_each (IsFieldCopying all d) IsFlatCopying (λ u. AreNaming u.parts)
      (λ x q. record { copy = q.copy; element = q.element; source = q.source; actions = (q.action, tt) }) (λ x t w q e. (q.action, tt))
      (λ u x t w p q e f. each_append (λ p. OfSome (NamesCells (length d.cells)) p.action) u.parts _ p (q.action, tt))
      (λ u p. record { copy = tt; element = tt; source = tt; actions = p })
      (flats_of names k s fs) None tt (flats_copying names bounds s fs g h)
