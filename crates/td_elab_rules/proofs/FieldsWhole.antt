-- The fields of a tree's module are whole: bit fields lie in their numbers, refinements stand on numbers, arrays up to a
-- zero have numbers, and enums have their values.
use Rattle.std.proofs.Common.{◌≡◌, inl, inr, ℕ, ◌+◌, ◌-◌, ◌*◌, ◌<◌, ◌≤◌, Bool, true, false, if◌then◌else◌, List, [], ◌∷◌, ◌++◌, length, refl, sym, ap, ◌∙◌, subst, arith, Option, Some, None, is_some, nat_le, nat_eq, length-append}
use Rattle.std.proofs.lemmas.Bool.{leb-true, and_parts}
use Rattle.td_num.specs.Numbers.{bytes_in}
use Rattle.td_elab_rules.specs.Imports.{NumberType, ByteOrder, LittleEndian, BigEndian, FieldTree, ItemTree, EnumTree, CaseTree, Def, Define, Enum, Alias, Struct, Casetype, Output, ModuleTree, Element, Extent, Once, Filling, OnceFilling, UpToZero, Given, Bits, Part, PlainTree}
use Rattle.td_num.specs.Lists.{Each}
use Rattle.td_core.specs.declared.module.Element.TheVariants as element
use Rattle.td_core.specs.WellFormed.{OfSome, EachField, HasParts, AreBitsOf, AreParts, AreFieldParts, IsRefinable, IsOfNumbers, IsEnumThere, IsFieldWhole}
use Rattle.td_names.specs.Names.{looked_up, declared}
use Rattle.td_elab_rules.specs.declared.fields.Readable.{Readable}
use Rattle.td_elab_rules.specs.declared.fields.FlatField.{FlatField}
use Rattle.td_elab_rules.specs.declared.fields.OpenUnit.{OpenUnit}
use Rattle.td_elab_rules.specs.declared.known.Meaning.{Meaning}
use Rattle.td_elab_rules.specs.declared.known.Meaning.TheVariants as meaning
use Rattle.td_elab_rules.specs.declared.known.Local.{Local}
use Rattle.td_elab_rules.specs.declared.known.Found.{Found}
use Rattle.td_elab_rules.specs.declared.known.Found.TheVariants as found
use Rattle.td_elab_rules.specs.declared.known.Known.{Known}
use Rattle.td_elab_rules.specs.declared.known.Scope.{Scope}
use Rattle.td_elab_rules.specs.Known.{nothing_known, found_in, signature_at}
use Rattle.td_elab_rules.specs.Sorts.{option_core}
use Rattle.td_elab_rules.specs.Types.{same_number, fits, element_of}
use Rattle.td_elab_rules.specs.BitFields.{fits_room, low_bit, unit_bits, part_of, whole_field, unit_field, new_unit, more_bits, bit_field}
use Rattle.td_elab_rules.specs.Fields.{readable_of, with_field, refinement_core, flat_of, flats_of, fields_core}
use Rattle.td_elab_rules.specs.Constants.{number_or_zero}
use Rattle.td_elab_rules.specs.Enums.{next_value, item_value, with_item, items_after, with_enum_name, after_enum}
use Rattle.td_elab_rules.specs.Aliases.{plain_type, alias_found, alias_meaning, meaning_or_none}
use Rattle.td_ast.specs.declared.names.PlainTree.TheVariants as plain
use Rattle.td_elab_rules.specs.Known.{no_scope}
use Rattle.td_elab_rules.specs.Casetypes.{cases_core, default_core}
use Rattle.td_elab_rules.specs.Definitions.{struct_head, struct_scope, struct_core, casetype_head, casetype_core, after, known_after}
use Rattle.td_elab_rules.specs.Modules.{names_of, module_of}
use Rattle.td_elab_rules.specs.Laws.{FieldsAreWhole}
use Rattle.td_elab_rules.proofs.Whole.{gathered_each, has_more}
use Rattle.td_elab_rules.proofs.OwnFormed.{width_same}
use Rattle.td_num.proofs.Lists.{each_append}
use Rattle.td_elab_rules.proofs.FieldsFound.{IsNarrow, IsMeaningThere, IsFoundListed, AreListed, IsRead, found_listed, kind_there, extent_read, number_refinable, none_refinable, extent_numbers, extent_narrow}

-- Units

bits_there : (t : NumberType) (filled w : ℕ) → 0 < w → filled + w ≤ 8 * bytes_in t.width → AreBitsOf t (Some (unit_bits t filled w))
bits_there t filled w pos le = by t.order
  where
    by : (o : ByteOrder) → (0 < w) × (low_bit o (8 * bytes_in t.width) filled w + w ≤ 8 * bytes_in t.width)
    by LittleEndian = (pos, le)
    by BigEndian = (pos, omega (arith, le))

-- the parts of a unit, of which there is one
parts_there : (t : NumberType) (ps : List Part) → Each (λ p. AreBitsOf t p.bits) ps → HasParts ps → AreFieldParts (element.Number t) Once ps
parts_there t [] h g = g
parts_there t (p ∷ ps) h g = by p.bits h.0
  where
    by : (b : Option Bits) → AreBitsOf t b → AreParts (element.Number t) Once b ps
    by None e = absurd e
    by (Some b) e = (e, h.1)

any_part : (t : NumberType) (ps : List Part) → Each (IsRefinable (element.Number t) Once) ps
any_part t [] = tt
any_part t (p ∷ ps) = (tt, any_part t ps)

record IsUnitWhole (u : OpenUnit) : Type 0 where
  bits : Each (λ p. AreBitsOf u.room.base p.bits) u.parts
  some : HasParts u.parts
  room : u.room.filled ≤ 8 * bytes_in u.room.base.width

-- Single fields

record IsFlatWhole (count : ℕ) (x : FlatField) : Type 0 where
  refined : IsRefinable x.element x.extent (part_of None x)
  numbers : IsOfNumbers x.element x.extent
  listed : IsEnumThere count x.element
  narrow : IsNarrow (bit_field x.element x.width)

-- a whole field has one part, which is all of it
alone_parts : (e : Element) (x : Extent) → AreParts e x None []
alone_parts (element.Number t) Once = refl
alone_parts (element.Number t) (Filling z step) = refl
alone_parts (element.Number t) (OnceFilling z step) = refl
alone_parts (element.Number t) (UpToZero z) = refl
alone_parts (element.Number t) (Given source) = refl
alone_parts (element.Listed t v) x = refl
alone_parts (element.Named j es own) x = refl
alone_parts element.Unit x = refl
alone_parts element.Rest x = refl
alone_parts element.Zeros x = refl

alone_whole : (count : ℕ) (x : FlatField) → IsFlatWhole count x → IsFieldWhole count (whole_field x)
alone_whole count x q = record { parts = alone_parts x.element x.extent; refined = (q.refined, tt); numbers = q.numbers; listed = q.listed }

narrow_at : (o : Option (NumberType × ℕ)) (t : NumberType) (w : ℕ) → IsNarrow o → o ≡ Some (t, w) → (0 < w) × (w ≤ 8 * bytes_in t.width)
narrow_at o t w h e = subst IsNarrow e h

begins_whole : (count : ℕ) (x : FlatField) (t : NumberType) (w : ℕ) → IsFlatWhole count x → bit_field x.element x.width ≡ Some (t, w) → IsUnitWhole (new_unit t w x)
begins_whole count x t w q e =
    let n = narrow_at (bit_field x.element x.width) t w q.narrow e in
    record { bits = (bits_there t 0 w n.0 (omega (arith, n.1)), tt); some = tt; room = n.1 }

goes_on_whole : (count : ℕ) (u : OpenUnit) (x : FlatField) (t : NumberType) (w : ℕ) → IsUnitWhole u → IsFlatWhole count x → bit_field x.element x.width ≡ Some (t, w) → fits_room (Some u.room) t w ≡ true
    → IsUnitWhole (more_bits u w x)
goes_on_whole count u x t w h q e f =
    let n = narrow_at (bit_field x.element x.width) t w q.narrow e in
    let one = and_parts (same_number u.room.base t) (nat_le (u.room.filled + w) (8 * bytes_in t.width)) f in
    let same : u.room.base.width ≡ t.width = width_same u.room.base.width t.width (and_parts (nat_eq (bytes_in u.room.base.width) (bytes_in t.width)) _ one.0).0 in
    let fits : u.room.filled + w ≤ 8 * bytes_in u.room.base.width = subst (λ v. u.room.filled + w ≤ 8 * bytes_in v) (sym same) (leb-true (u.room.filled + w) (8 * bytes_in t.width) one.1) in
    record {
      bits = each_append (λ p. AreBitsOf u.room.base p.bits) u.parts _ h.bits (bits_there u.room.base u.room.filled w n.0 fits, tt);
      some = has_more u.parts _;
      room = fits;
    }

ends_whole : (count : ℕ) (u : OpenUnit) → IsUnitWhole u → IsFieldWhole count (unit_field u)
ends_whole count u h = record { parts = parts_there u.room.base u.parts h.bits h.some; refined = any_part u.room.base u.parts; numbers = tt; listed = tt }

flat_whole : (count : ℕ) (names : List (List ℕ)) (k : Known) (s : Scope) (f : FieldTree) → AreListed count k.globals → IsFlatWhole count (flat_of names k s f)
flat_whole count names k s f h = record {
  refined = by (readable_of k s f) refl (extent_read k s f.type_tree f.extent);
  numbers = extent_numbers k s (element_of k s f.type_tree) f.extent;
  listed = kind_there count k s f.type_tree.kind h;
  narrow = extent_narrow k s f.type_tree f.extent;
}
  where
    x : FlatField
    x = flat_of names k s f

    by : (v : Option Readable) → readable_of k s f ≡ v → IsRead x.element x.extent v → IsRefinable x.element x.extent (part_of None x)
    by v e (inr n) = number_refinable x.element x.extent (part_of None x) n
    by v e (inl n) = none_refinable x.element x.extent (part_of None x) (ap (λ r. refinement_core r (option_core k (with_field k s f) f.refinement)) (e ∙ n))

flats_whole : (count : ℕ) (names : List (List ℕ)) (k : Known) (s : Scope) (fs : List FieldTree) → AreListed count k.globals → Each (IsFlatWhole count) (flats_of names k s fs)
flats_whole count names k s [] h = tt
flats_whole count names k s (f ∷ fs) h = (flat_whole count names k s f h, flats_whole count names k (with_field k s f) fs h)

fields_whole : (count : ℕ) (names : List (List ℕ)) (k : Known) (s : Scope) (fs : List FieldTree) → AreListed count k.globals → Each (IsFieldWhole count) (fields_core names k s fs)
fields_whole count names k s fs h =
    gathered_each (IsFieldWhole count) (IsFlatWhole count) IsUnitWhole (alone_whole count) (begins_whole count) (goes_on_whole count) (ends_whole count)
    (flats_of names k s fs) None tt (flats_whole count names k s fs h)

cases_whole : (count : ℕ) (names : List (List ℕ)) (k : Known) (s : Scope) (cs : List CaseTree) → AreListed count k.globals → Each (λ c. Each (IsFieldWhole count) c.fields) (cases_core names k s cs)
cases_whole count names k s [] h = tt
cases_whole count names k s (c ∷ cs) h = (fields_whole count names k s c.fields h, cases_whole count names k s cs h)

default_whole : (count : ℕ) (names : List (List ℕ)) (k : Known) (s : Scope) (d : Option (List FieldTree)) → AreListed count k.globals → OfSome (Each (IsFieldWhole count)) (default_core names k s d)
default_whole count names k s None h = tt
default_whole count names k s (Some fs) h = fields_whole count names k s fs h

-- Definitions

declared_listed : (count : ℕ) (gs : List (List ℕ × Meaning)) (name : List ℕ) (m : Meaning) → AreListed count gs → IsMeaningThere count m → AreListed count (declared gs name m)
declared_listed count gs name m h g = by (is_some (looked_up gs name))
  where
    by : (b : Bool) → AreListed count (if b then gs else gs ++ (name, m) ∷ [])
    by true = h
    by false = each_append (λ x. IsMeaningThere count x.1) gs ((name, m) ∷ []) h (g, tt)

items_listed : (count : ℕ) (k : Known) (next : Option ℕ) (is : List ItemTree) → AreListed count k.globals → AreListed count (items_after k next is).globals
items_listed count k next [] h = h
items_listed count k next (i ∷ is) h =
    items_listed count (with_item k next i) (next_value (item_value k next i)) is (declared_listed count k.globals i.name.text (meaning.Member (number_or_zero (item_value k next i))) h tt)

items_same : (k : Known) (next : Option ℕ) (is : List ItemTree) → ((items_after k next is).listed ≡ k.listed) × ((items_after k next is).definitions ≡ k.definitions)
items_same k next [] = (refl, refl)
items_same k next (i ∷ is) = items_same (with_item k next i) (next_value (item_value k next i)) is

plain_there : (count j : ℕ) (ps : List Rattle.td_elab_rules.specs.declared.known.Parameter.Parameter) → IsMeaningThere count (meaning_or_none (plain_type j ps))
plain_there count j [] = tt
plain_there count j (p ∷ ps) = tt

alias_there : (count : ℕ) (k : Known) (f : Found) → IsFoundListed count f → IsMeaningThere count (meaning_or_none (alias_found k f))
alias_there count k found.Nothing h = tt
alias_there count k (found.Local l) h = tt
alias_there count k (found.Global (meaning.Constant n)) h = tt
alias_there count k (found.Global (meaning.Member n)) h = tt
alias_there count k (found.Global (meaning.Number t)) h = tt
alias_there count k (found.Global (meaning.Enum t v)) h = h
alias_there count k (found.Global (meaning.Type j)) h = plain_there count j (signature_at k j)
alias_there count k (found.Global (meaning.Record r)) h = tt

target_there : (count : ℕ) (k : Known) (t : PlainTree) → AreListed count k.globals → IsMeaningThere count (meaning_or_none (alias_meaning k t))
target_there count k (plain.Number t) h = tt
target_there count k (plain.Named n) h = alias_there count k (found_in k no_scope n.text) (found_listed count k no_scope n.text h)

record IsKnownListed (count : ℕ) (k : Known) : Type 0 where
  globals : AreListed count k.globals
  definitions : Each (λ d. EachField (IsFieldWhole count) d.body) k.definitions

-- lists of values only grow
listed_more : (names : List (List ℕ)) (k : Known) (d : Def) → length k.listed ≤ length (after names k d).listed
listed_more names k (Define d) = omega arith
listed_more names k (Enum d) =
    let same = ap length (items_same (with_enum_name k d) (Some 0) d.items).0 in
    let more = length-append k.listed (Rattle.td_elab_rules.specs.Enums.item_values (with_enum_name k d) (Some 0) d.items ∷ []) in
    omega (arith, more)
listed_more names k (Alias d) = omega arith
listed_more names k (Struct d) = omega arith
listed_more names k (Casetype d) = omega arith
listed_more names k (Output d) = omega arith

all_more : (names : List (List ℕ)) (k : Known) (ds : List Def) → length k.listed ≤ length (known_after names k ds).listed
all_more names k [] = omega arith
all_more names k (d ∷ ds) = let one = listed_more names k d in let rest = all_more names (after names k d) ds in omega (arith, one, rest)

enum_listed : (count : ℕ) (k : Known) (d : EnumTree) → length (after_enum k d).listed ≤ count → IsKnownListed count k → IsKnownListed count (after_enum k d)
enum_listed count k d le h =
    let more = length-append k.listed (Rattle.td_elab_rules.specs.Enums.item_values (with_enum_name k d) (Some 0) d.items ∷ []) in
    let own : length k.listed < count = omega (arith, more, le) in
    let named : AreListed count (with_enum_name k d).globals = declared_listed count k.globals d.name.text (meaning.Enum d.base.number (length k.listed)) h.globals own in
    record {
      globals = items_listed count (with_enum_name k d) (Some 0) d.items named;
      definitions = subst (λ ds. Each (λ d. EachField (IsFieldWhole count) d.body) ds) (sym (items_same (with_enum_name k d) (Some 0) d.items).1) h.definitions;
    }

after_listed : (count : ℕ) (names : List (List ℕ)) (k : Known) (d : Def) → length (after names k d).listed ≤ count → IsKnownListed count k → IsKnownListed count (after names k d)
after_listed count names k (Define d) le h = record { globals = declared_listed count k.globals d.name.text (meaning.Constant d.value.value) h.globals tt; definitions = h.definitions }
after_listed count names k (Enum d) le h = enum_listed count k d le h
after_listed count names k (Alias d) le h = record { globals = declared_listed count k.globals d.name.text (meaning_or_none (alias_meaning k d.target)) h.globals (target_there count k d.target h.globals); definitions = h.definitions }
after_listed count names k (Output d) le h = record { globals = declared_listed count k.globals d.name.text (meaning.Record (length k.records)) h.globals tt; definitions = h.definitions }
after_listed count names k (Struct d) le h = record {
  globals = declared_listed count k.globals d.name.text (meaning.Type (length k.definitions)) h.globals tt;
  definitions = each_append (λ x. EachField (IsFieldWhole count) x.body) k.definitions (struct_core names k d ∷ []) h.definitions (fields_whole count names k (struct_scope k (struct_head names k d).scope d.fields) d.fields h.globals, tt);
}
after_listed count names k (Casetype d) le h = record {
  globals = declared_listed count k.globals d.name.text (meaning.Type (length k.definitions)) h.globals tt;
  definitions =
      each_append (λ x. EachField (IsFieldWhole count) x.body) k.definitions (casetype_core names k d ∷ []) h.definitions
      ((cases_whole count names k (casetype_head names k d).scope d.cases h.globals, default_whole count names k (casetype_head names k d).scope d.default h.globals), tt);
}

all_listed : (count : ℕ) (names : List (List ℕ)) (k : Known) (ds : List Def) → length (known_after names k ds).listed ≤ count → IsKnownListed count k → IsKnownListed count (known_after names k ds)
all_listed count names k [] le h = h
all_listed count names k (d ∷ ds) le h =
    let rest = all_more names (after names k d) ds in
    all_listed count names (after names k d) ds le (after_listed count names k d (omega (arith, rest, le)) h)

pub module_fields : (t : ModuleTree) → Each (λ d. EachField (IsFieldWhole (length (module_of t).listed)) d.body) (module_of t).definitions
module_fields t = (all_listed (length (module_of t).listed) (names_of t) nothing_known t.definitions (omega arith) (record { globals = tt; definitions = tt })).definitions

pub fields_are_whole : FieldsAreWhole
fields_are_whole t m s = subst (λ x. Each (λ d. EachField (IsFieldWhole (length x.listed)) d.body) x.definitions) (sym s.1) (module_fields t)
