-- Each field of a tree's module has a part, and each entry point a definition. Cited by other crates.
use Rattle.std.proofs.Common.{◌≡◌, ℕ, ◌+◌, ◌<◌, ◌≤◌, Bool, true, false, cond, List, [], ◌∷◌, ◌++◌, length, refl, sym, subst, arith, Option, Some, None, length-append}
use Rattle.td_elab_rules.specs.Imports.{NumberType, FieldTree, ItemTree, CaseTree, Def, Define, Enum, Alias, Struct, Casetype, Output, ModuleTree, Field, Part, TypeDef}
use Rattle.td_num.specs.Lists.{Each}
use Rattle.td_core.specs.WellFormed.{OfSome, EachField, HasParts, IsWhole}
use Rattle.td_elab_rules.specs.declared.fields.FlatField.{FlatField}
use Rattle.td_elab_rules.specs.declared.fields.OpenUnit.{OpenUnit}
use Rattle.td_elab_rules.specs.declared.known.Known.{Known}
use Rattle.td_elab_rules.specs.declared.known.Scope.{Scope}
use Rattle.td_elab_rules.specs.Known.{nothing_known}
use Rattle.td_elab_rules.specs.BitFields.{whole_field, new_unit, more_bits, grown, closed, bit_field, room_of, fits_room, gathered}
use Rattle.td_elab_rules.specs.Fields.{flats_of, fields_core}
use Rattle.td_elab_rules.specs.Enums.{next_value, item_value, with_item, items_after, with_enum_name}
use Rattle.td_elab_rules.specs.Casetypes.{cases_core, default_core}
use Rattle.td_elab_rules.specs.Definitions.{entry_more, struct_head, struct_scope, struct_core, casetype_head, casetype_core, after, known_after}
use Rattle.td_elab_rules.specs.Modules.{names_of, module_of}
use Rattle.td_elab_rules.specs.Laws.{ModulesAreWhole}
use Rattle.td_num.proofs.Lists.{each_append}

-- what holds of the fields that are gathered: of a field with one part, of a unit that begins, and of one that goes on
module _ (P : Field → Type 0) (Q : FlatField → Type 0) (U : OpenUnit → Type 0)
    (alone : (x : FlatField) → Q x → P (whole_field x))
    (begins : (x : FlatField) (t : NumberType) (w : ℕ) → Q x → bit_field x.element x.width ≡ Some (t, w) → U (new_unit t w x))
    (goes_on : (u : OpenUnit) (x : FlatField) (t : NumberType) (w : ℕ) → U u → Q x → bit_field x.element x.width ≡ Some (t, w) → fits_room (Some u.room) t w ≡ true → U (more_bits u w x))
    (ends : (u : OpenUnit) → U u → P (Rattle.td_elab_rules.specs.BitFields.unit_field u)) where
  closed_each : (o : Option OpenUnit) → OfSome U o → Each P (closed o)
  closed_each None h = tt
  closed_each (Some u) h = (ends u h, tt)

  pub gathered_each : (xs : List FlatField) (o : Option OpenUnit) → OfSome U o → Each Q xs → Each P (gathered o xs)
  gathered_each [] o h q = closed_each o h
  gathered_each (x ∷ xs) o h q = by (bit_field x.element x.width) refl (λ p g. gathered_each xs p g q.1)
    where
      by : (b : Option (NumberType × ℕ)) → bit_field x.element x.width ≡ b → ((p : Option OpenUnit) → OfSome U p → Each P (gathered p xs))
          → Each P (elim b [ None ↦ closed o ++ whole_field x ∷ gathered None xs | Some (t, w) ↦ cond (fits_room (room_of o) t w) (gathered (Some (grown o t w x)) xs) (closed o ++ gathered (Some (new_unit t w x)) xs) ])
      by None e later = each_append P (closed o) (whole_field x ∷ gathered None xs) (closed_each o h) (alone x q.0, later None tt)
      by (Some (t, w)) e later = check o h (fits_room (room_of o) t w) refl
        where
          check : (o : Option OpenUnit) → OfSome U o → (b : Bool) → fits_room (room_of o) t w ≡ b → Each P (cond b (gathered (Some (grown o t w x)) xs) (closed o ++ gathered (Some (new_unit t w x)) xs))
          check None h true f = later (Some (new_unit t w x)) (begins x t w q.0 e)
          check (Some u) h true f = later (Some (more_bits u w x)) (goes_on u x t w h q.0 e f)
          check o h false f = each_append P (closed o) (gathered (Some (new_unit t w x)) xs) (closed_each o h) (later (Some (new_unit t w x)) (begins x t w q.0 e))

-- Parts

pub any_flat : (xs : List FlatField) → Each (λ x. Unit {0}) xs
any_flat [] = tt
any_flat (x ∷ xs) = (tt, any_flat xs)

pub has_more : (ps : List Part) (p : Part) → HasParts (ps ++ p ∷ [])
has_more [] p = tt
has_more (q ∷ ps) p = tt

fields_have : (names : List (List ℕ)) (k : Known) (s : Scope) (fs : List FieldTree) → Each (λ f. HasParts f.parts) (fields_core names k s fs)
fields_have names k s fs =
    gathered_each (λ f. HasParts f.parts) (λ x. Unit {0}) (λ u. HasParts u.parts)
    (λ x q. tt) (λ x t w q e. tt) (λ u x t w h q e f. has_more u.parts _) (λ u h. h)
    (flats_of names k s fs) None tt (any_flat (flats_of names k s fs))

cases_have : (names : List (List ℕ)) (k : Known) (s : Scope) (cs : List CaseTree) → Each (λ c. Each (λ f. HasParts f.parts) c.fields) (cases_core names k s cs)
cases_have names k s [] = tt
cases_have names k s (c ∷ cs) = (fields_have names k s c.fields, cases_have names k s cs)

default_has : (names : List (List ℕ)) (k : Known) (s : Scope) (d : Option (List FieldTree)) → OfSome (Each (λ f. HasParts f.parts)) (default_core names k s d)
default_has names k s None = tt
default_has names k s (Some fs) = fields_have names k s fs

-- Definitions and entry points

record IsKnownWhole (ds : List TypeDef) (es : List ℕ) : Type 0 where
  parts : Each (λ d. EachField (λ f. HasParts f.parts) d.body) ds
  entries : Each (λ place. place < length ds) es

entries_more : (n m : ℕ) (es : List ℕ) → n ≤ m → Each (λ place. place < n) es → Each (λ place. place < m) es
entries_more n m [] le h = tt
entries_more n m (e ∷ es) le h = (omega (arith, le, h.0), entries_more n m es le h.1)

entry_there : (b : Bool) (n m : ℕ) (es : List ℕ) → n < m → Each (λ place. place < m) es → Each (λ place. place < m) (entry_more b n es)
entry_there true n m es lt h = each_append (λ place. place < m) es (n ∷ []) h (lt, tt)
entry_there false n m es lt h = h

type_whole : (ds : List TypeDef) (es : List ℕ) (is_entry : Bool) (d : TypeDef) → EachField (λ f. HasParts f.parts) d.body → IsKnownWhole ds es → IsKnownWhole (ds ++ d ∷ []) (entry_more is_entry (length ds) es)
type_whole ds es is_entry d own h =
    let count : length (ds ++ d ∷ []) ≡ length ds + 1 = length-append ds (d ∷ []) in
    record {
      parts = each_append (λ x. EachField (λ f. HasParts f.parts) x.body) ds (d ∷ []) h.parts (own, tt);
      entries = entry_there is_entry (length ds) (length (ds ++ d ∷ [])) es (omega (arith, count)) (entries_more (length ds) (length (ds ++ d ∷ [])) es (omega (arith, count)) h.entries);
    }

items_whole : (k : Known) (next : Option ℕ) (is : List ItemTree) → IsKnownWhole k.definitions k.entries → IsKnownWhole (items_after k next is).definitions (items_after k next is).entries
items_whole k next [] h = h
items_whole k next (i ∷ is) h = items_whole (with_item k next i) (next_value (item_value k next i)) is h

after_whole : (names : List (List ℕ)) (k : Known) (d : Def) → IsKnownWhole k.definitions k.entries → IsKnownWhole (after names k d).definitions (after names k d).entries
after_whole names k (Define d) h = h
after_whole names k (Enum d) h = items_whole (with_enum_name k d) (Some 0) d.items h
after_whole names k (Alias d) h = h
after_whole names k (Output d) h = h
after_whole names k (Struct d) h = type_whole k.definitions k.entries d.entry (struct_core names k d) (fields_have names k (struct_scope k (struct_head names k d).scope d.fields) d.fields) h
after_whole names k (Casetype d) h =
    type_whole k.definitions k.entries d.entry (casetype_core names k d)
    (cases_have names k (casetype_head names k d).scope d.cases, default_has names k (casetype_head names k d).scope d.default) h

all_whole : (names : List (List ℕ)) (k : Known) (ds : List Def) → IsKnownWhole k.definitions k.entries → IsKnownWhole (known_after names k ds).definitions (known_after names k ds).entries
all_whole names k [] h = h
all_whole names k (d ∷ ds) h = all_whole names (after names k d) ds (after_whole names k d h)

pub module_whole : (t : ModuleTree) → IsWhole (module_of t)
module_whole t = let h = all_whole (names_of t) nothing_known t.definitions (record { parts = tt; entries = tt }) in record { parts = h.parts; entries = h.entries }

pub modules_are_whole : ModulesAreWhole
modules_are_whole t m s = subst IsWhole (sym s.1) (module_whole t)
