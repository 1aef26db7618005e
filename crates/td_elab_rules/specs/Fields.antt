-- The rules of fields, and the core fields (3D manual, "Structs", "Constraints").
use Rattle.std.specs.Prelude.{ℕ, ◌+◌, ◌-◌, ◌^◌, cond, ◌||◌, ◌&&◌, List, [], ◌∷◌, ◌++◌, Option, Some, None, is_some, is_none}
use Rattle.td_elab_rules.specs.Imports.{NumberType, Width, TypeKind, FieldTree, Field}
use Rattle.td_ast.specs.Extents.{is_array}
use Rattle.td_ast.specs.declared.fields.TypeKind.TheVariants as type
use Rattle.td_core.specs.Term.{Term}
use Rattle.td_core.specs.Types.{limit}
use Rattle.td_core.specs.Formed.{scalar_of}
use Rattle.td_names.specs.Names.{is_seen, number_of}
use Rattle.td_elab_rules.specs.declared.breach.Rule.TheVariants.{Twice, NotReadable}
use Rattle.td_elab_rules.specs.declared.breach.Breach.{Breach}
use Rattle.td_elab_rules.specs.declared.fields.Readable.{Readable}
use Rattle.td_elab_rules.specs.declared.fields.FlatField.{FlatField}
use Rattle.td_elab_rules.specs.declared.known.Meaning.TheVariants as meaning
use Rattle.td_elab_rules.specs.declared.known.Local.TheVariants as local
use Rattle.td_elab_rules.specs.declared.known.Found.{Found}
use Rattle.td_elab_rules.specs.declared.known.Found.TheVariants as found
use Rattle.td_elab_rules.specs.declared.known.Known.{Known}
use Rattle.td_elab_rules.specs.declared.known.Scope.{Scope}
use Rattle.td_elab_rules.specs.declared.known.Taken.{Taken}
use Rattle.td_elab_rules.specs.Breach.{when}
use Rattle.td_elab_rules.specs.Known.{found_in, is_literal_name, with_local, with_level, with_value, with_field_name}
use Rattle.td_elab_rules.specs.Sorts.{option_core}
use Rattle.td_elab_rules.specs.ExprRules.{test_breaches}
use Rattle.td_elab_rules.specs.Actions.{action_breaches, action_vars, action_core}
use Rattle.td_elab_rules.specs.Types.{type_breaches, element_of}
use Rattle.td_elab_rules.specs.Extents.{extent_breaches, extent_core, bit_width}
use Rattle.td_elab_rules.specs.Copies.{copy_breaches, copy_core}
use Rattle.td_elab_rules.specs.BitFields.{gathered}

-- Values

-- the number type of a number, or of the numbers of an enum
abbrev pub found_base : Found → Option NumberType
found_base found.Nothing = None
found_base (found.Local l) = None
found_base (found.Global (meaning.Constant n)) = None
found_base (found.Global (meaning.Member n)) = None
found_base (found.Global (meaning.Number t)) = Some t
found_base (found.Global (meaning.Enum t v)) = Some t
found_base (found.Global (meaning.Type j)) = None
found_base (found.Global (meaning.Record r)) = None

abbrev pub base_of : Known → Scope → TypeKind → Option NumberType
base_of k s (type.Number t) = Some t
base_of k s type.Unit = None
base_of k s type.AllBytes = None
base_of k s type.AllZeros = None
base_of k s (type.Named n args) = found_base (found_in k s n)

-- any number of this width, or of so many bits of it
abbrev pub readable_bits : Width → Option ℕ → Readable
readable_bits width None = record { scalar = scalar_of width; most = limit (scalar_of width) - 1 }
readable_bits width (Some w) = record { scalar = scalar_of width; most = 2 ^ w - 1 }

abbrev pub readable_base : Option NumberType → Option ℕ → Option Readable
readable_base None w = None
readable_base (Some t) w = Some (readable_bits t.width w)

-- the number that a field gives: a number, an enum or bits, but no array
abbrev pub readable_of : Known → Scope → FieldTree → Option Readable
readable_of k s f = cond (is_array f.extent) None (readable_base (base_of k s f.type_tree.kind) (bit_width k s f.type_tree f.extent))

-- the scope of a field's refinement and action, and of later fields; a field that is no number has a level too, which
-- nothing names
abbrev pub with_readable : Scope → List ℕ → Option Readable → Scope
with_readable s x None = with_level (with_local s x local.Unreadable)
with_readable s x (Some v) = with_value s x v.scalar v.most

abbrev pub with_field : Known → Scope → FieldTree → Scope
with_field k s f = with_readable s f.name.text (readable_of k s f)

-- Rules

-- N2: a field has another name than the parameters, the `var`s before it and the fields of its struct or case before it,
-- than a constant and than a member
abbrev pub field_name_breaches : Known → Taken → FieldTree → List Breach
field_name_breaches k t f =
    when (is_seen t.outer f.name.text || (is_seen t.fields f.name.text || is_literal_name k f.name.text)) Twice f.name.span

-- N3: a refinement stands on a number, an enum or bits
abbrev pub refined_breaches : Known → Scope → FieldTree → List Breach
refined_breaches k s f = when (is_some f.refinement && is_none (readable_of k s f)) NotReadable f.name.span

abbrev pub field_breaches : Known → Taken → Scope → FieldTree → List Breach
field_breaches k t s f =
    type_breaches k s f.type_tree
    ++ (field_name_breaches k t f
    ++ (extent_breaches k s f.type_tree f.extent
    ++ (refined_breaches k s f
    ++ (test_breaches k (with_field k s f) f.refinement
    ++ (action_breaches k (with_field_name t f.name.text) (with_field k s f) f.action
    ++ copy_breaches k s (with_field k s f) f)))))

-- the names that are given after a field
abbrev pub field_taken : Taken → FieldTree → Taken
field_taken t f = action_vars (with_field_name t f.name.text) f.action

abbrev pub fields_breaches : Known → Taken → Scope → List FieldTree → List Breach
fields_breaches k t s [] = []
fields_breaches k t s (f ∷ fs) = field_breaches k t s f ++ fields_breaches k (field_taken t f) (with_field k s f) fs

abbrev pub fields_taken : Taken → List FieldTree → Taken
fields_taken t [] = t
fields_taken t (f ∷ fs) = fields_taken (field_taken t f) fs

-- Core fields

-- where the rule is broken, a refinement is left out
abbrev pub refinement_core : Option Readable → Option Term → Option Term
refinement_core None e = None
refinement_core (Some v) e = e

abbrev pub flat_of : List (List ℕ) → Known → Scope → FieldTree → FlatField
flat_of names k s f = record {
  element = element_of k s f.type_tree;
  extent = extent_core k s (element_of k s f.type_tree) f.extent;
  copy = copy_core k s (with_field k s f) f;
  width = bit_width k s f.type_tree f.extent;
  name = record { number = number_of names f.name.text };
  refinement = refinement_core (readable_of k s f) (option_core k (with_field k s f) f.refinement);
  action = action_core k (with_field k s f) f.action;
  place = f.name.span;
}

abbrev pub flats_of : List (List ℕ) → Known → Scope → List FieldTree → List FlatField
flats_of names k s [] = []
flats_of names k s (f ∷ fs) = flat_of names k s f ∷ flats_of names k (with_field k s f) fs

abbrev pub fields_core : List (List ℕ) → Known → Scope → List FieldTree → List Field
fields_core names k s fs = gathered None (flats_of names k s fs)
