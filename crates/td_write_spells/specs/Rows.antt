-- Worked rows of writing (own rule), on the modules of the meaning's rows. For each value the answer of writing, and its
-- spelling.
use Rattle.std.specs.Prelude.{◌≡◌, ℕ, List, [], ◌∷◌, Option, Some, None}
use Rattle.td_write_spells.specs.Imports.{Two, Four, LittleEndian, Once, Filling, OnceFilling, Given, Left, Struct, TypeDef, Module, Constraint, Impossible, Action, Shape, Range, Broken, Size, Long}
use Rattle.td_core.specs.declared.expressions.Scalar.TheVariants.{Eight, ThirtyTwo}
use Rattle.td_core.specs.Term.{number, name}
use Rattle.td_core.specs.declared.module.Element.TheVariants.{Number as NumberElement, Listed, Named, Rest, Unit as UnitElement, Zeros}
use Rattle.td_meaning.specs.Rows.{byte, part_of, field_of, definition_of, module_of, module_P, module_J, module_L, module_C, module_D, module_Z, module_N, module_U, module_Q, module_R, module_V, module_X, module_E, module_O}
use Rattle.td_write_values.specs.Datum.{Datum, Number, Sequence, Bytes, Empty, data_of}
use Rattle.td_write_values.specs.Spelling.{spelling}
use Rattle.td_write_values.specs.Writing.{Written, Done, Refused, writing, whole}

abbrev pub list : List Datum → Datum
list vs = Sequence (data_of vs)

abbrev pub written : Module → List ℕ → Datum → Written
written m cells v = writing whole m (record { number = 0 }) [] cells v

abbrev pub spelled : Module → Datum → Option (List ℕ)
spelled m v = spelling m (record { number = 0 }) [] [] v

-- struct S (0) { UINT8 n (1); UINT8 body[n] (2); unit u (3); all_bytes r (4); }
abbrev pub module_S : Module
module_S = module_of [] (definition_of 0 [] (Struct (
    field_of byte Once (part_of 1 None None None ∷ [])
    ∷ field_of byte (Filling (name 0 Eight 255) (Some 1)) (part_of 2 None None None ∷ [])
    ∷ field_of UnitElement Once (part_of 3 None None None ∷ [])
    ∷ field_of Rest Once (part_of 4 None None None ∷ []) ∷ [])) ∷ []) 0

-- UINT16 enum E { A = 1 }; struct F (0) { E d (1)[:byte-size-single-element-array n]; }
abbrev pub module_F : ℕ → Module
module_F n = module_of ((1 ∷ []) ∷ []) (definition_of 0 [] (Struct (
    field_of (Listed (record { width = Two; order = LittleEndian }) 0) (OnceFilling (number n Eight) (Some 2)) (part_of 1 None None None ∷ []) ∷ [])) ∷ []) 0

-- struct Z (0) { all_zeros z (1); } struct B (2) { UINT8 n (3); Z d (4)[:byte-size-single-element-array n]; UINT8 a (5); }
abbrev pub module_B : ℕ → Module
module_B n = module_of [] (
    definition_of 0 [] (Struct (field_of Zeros Once (part_of 1 None None None ∷ []) ∷ []))
    ∷ definition_of 2 [] (Struct (
    field_of byte Once (part_of 3 None None None ∷ [])
    ∷ field_of (Named 0 [] []) (OnceFilling (number n ThirtyTwo) None) (part_of 4 None None None ∷ [])
    ∷ field_of byte Once (part_of 5 None None None ∷ []) ∷ [])) ∷ []) 1

-- struct G (0) { UINT32 left (1) = bytes_left; UINT8 a (2); }
abbrev pub definition_G : TypeDef
definition_G = definition_of 0 [] (Struct (
    field_of (NumberElement (record { width = Four; order = LittleEndian })) (Given Left) (part_of 1 None None None ∷ [])
    ∷ field_of byte Once (part_of 2 None None None ∷ []) ∷ []))

abbrev pub module_G : Module
module_G = module_of [] (definition_G ∷ []) 0

-- struct H (3) { G g (4)[:byte-size-single-element-array 1]; UINT8 b (5); }
abbrev pub module_H : Module
module_H = module_of [] (
    definition_G
    ∷ definition_of 3 [] (Struct (
    field_of (Named 0 [] []) (OnceFilling (number 1 Eight) (Some 1)) (part_of 4 None None None ∷ [])
    ∷ field_of byte Once (part_of 5 None None None ∷ []) ∷ [])) ∷ []) 1

pub record RowsHold : Type 0 where
  pub written_P : written module_P [] (list (Number 1 ∷ Number 3 ∷ [])) ≡ Done (1 ∷ 0 ∷ 0 ∷ 3 ∷ []) [] []
  pub spelled_P : spelled module_P (list (Number 1 ∷ Number 3 ∷ [])) ≡ Some (1 ∷ 0 ∷ 0 ∷ 3 ∷ [])
  pub broken : written module_P [] (list (Number 1 ∷ Number 2 ∷ [])) ≡ Refused (Broken Constraint) (1 ∷ [])
  pub short : written module_P [] (list (Number 1 ∷ [])) ≡ Refused Shape []
  pub wide : written module_P [] (list (Number 65536 ∷ Number 3 ∷ [])) ≡ Refused Range (0 ∷ [])
  pub wide_first : written module_P [] (list (Number 65536 ∷ Number 2 ∷ [])) ≡ Refused Range (0 ∷ [])
  -- a broken value is spelled, and one of another shape isn't
  pub spelled_broken : spelled module_P (list (Number 1 ∷ Number 2 ∷ [])) ≡ Some (1 ∷ 0 ∷ 0 ∷ 2 ∷ [])
  pub spelled_short : spelled module_P (list (Number 1 ∷ [])) ≡ None
  -- an enum
  pub listed : written module_L [] (list (list (Number 2 ∷ Number 1 ∷ []) ∷ [])) ≡ Done (2 ∷ 1 ∷ []) [] []
  pub unlisted : written module_L [] (list (list (Number 2 ∷ Number 7 ∷ []) ∷ [])) ≡ Refused (Broken Constraint) (0 ∷ 1 ∷ [])
  -- as many bytes as the size
  pub few : written module_L [] (list (list (Number 2 ∷ []) ∷ [])) ≡ Refused Size (0 ∷ [])
  pub many : written module_L [] (list (list (Number 2 ∷ Number 1 ∷ Number 1 ∷ []) ∷ [])) ≡ Refused Size (0 ∷ [])
  pub nested : written module_J [] (list (list (list (Number 1 ∷ Number 2 ∷ []) ∷ list (Number 3 ∷ Number 2 ∷ []) ∷ []) ∷ [])) ≡ Refused (Broken Constraint) (0 ∷ 1 ∷ 1 ∷ [])
  pub bytes : written module_S [] (list (Number 2 ∷ Bytes (7 ∷ 8 ∷ []) ∷ Empty ∷ Bytes (9 ∷ []) ∷ [])) ≡ Done (2 ∷ 7 ∷ 8 ∷ 9 ∷ []) [] []
  pub bytes_size : written module_S [] (list (Number 1 ∷ Bytes (7 ∷ 8 ∷ []) ∷ Empty ∷ Bytes (9 ∷ []) ∷ [])) ≡ Refused Size (1 ∷ [])
  pub no_unit : written module_S [] (list (Number 0 ∷ Bytes [] ∷ Number 0 ∷ Bytes [] ∷ [])) ≡ Refused Shape (2 ∷ [])
  -- a missing case comes before the number of values
  pub no_case : written module_C [] (list []) ≡ Refused (Broken Impossible) []
  pub no_list : written module_C [] (Number 1) ≡ Refused Shape []
  -- a cell that an action read
  pub cells : written module_D (9 ∷ []) (list (list (Number 5 ∷ Number 5 ∷ []) ∷ [])) ≡ Done (5 ∷ 5 ∷ []) (5 ∷ []) []
  pub action : written module_D (9 ∷ []) (list (list (Number 5 ∷ Number 6 ∷ []) ∷ [])) ≡ Refused (Broken Action) (0 ∷ 1 ∷ [])
  -- the only zero is the last value, and the bound is passed after it
  pub terminated : written module_Z [] (list (list (Number 1 ∷ Number 0 ∷ []) ∷ [])) ≡ Done (1 ∷ 0 ∷ 0 ∷ 0 ∷ []) [] []
  pub unterminated : written module_Z [] (list (list (Number 1 ∷ []) ∷ [])) ≡ Refused Shape (0 ∷ [])
  pub two_zeros : written module_Z [] (list (list (Number 0 ∷ Number 0 ∷ []) ∷ [])) ≡ Refused Shape (0 ∷ [])
  pub past_bound : written module_Z [] (list (list (Number 1 ∷ Number 2 ∷ Number 0 ∷ []) ∷ [])) ≡ Refused (Broken Constraint) (0 ∷ [])
  -- it is looked for before its values are, and these are looked at before the bound
  pub no_zero : written module_Z [] (list (list (Number 70000 ∷ Number 1 ∷ []) ∷ [])) ≡ Refused Shape (0 ∷ [])
  pub wide_element : written module_Z [] (list (list (Number 70000 ∷ Number 0 ∷ []) ∷ [])) ≡ Refused Range (0 ∷ 0 ∷ [])
  pub wide_past_bound : written module_Z [] (list (list (Number 1 ∷ Number 2 ∷ Number 70000 ∷ Number 0 ∷ []) ∷ [])) ≡ Refused Range (0 ∷ 2 ∷ [])
  -- a single element's size comes before its enum
  pub single : written (module_F 2) [] (list (Number 1 ∷ [])) ≡ Done (1 ∷ 0 ∷ []) [] []
  pub single_unlisted : written (module_F 2) [] (list (Number 3 ∷ [])) ≡ Refused (Broken Constraint) (0 ∷ [])
  pub single_small : written (module_F 4) [] (list (Number 3 ∷ [])) ≡ Refused Size (0 ∷ [])
  -- elements behind a full array are looked at before its size
  pub full_unlisted : written module_L [] (list (list (Number 1 ∷ Number 2 ∷ Number 7 ∷ []) ∷ [])) ≡ Refused (Broken Constraint) (0 ∷ 2 ∷ [])
  pub zeros : written module_N [] (list (Number 1 ∷ Number 2 ∷ [])) ≡ Done (1 ∷ 0 ∷ 0 ∷ []) [] []
  pub too_long : written module_N [] (list (Number 1 ∷ Number 1048576 ∷ [])) ≡ Refused Long (1 ∷ [])
  -- the limit is passed before an array's size, and before what follows, is looked at
  pub long_first : written (module_B 1048576) [] (list (Number 1 ∷ list (Number 1048576 ∷ []) ∷ Empty ∷ [])) ≡ Refused Long (1 ∷ 0 ∷ [])
  pub long_unsized : written (module_B 4) [] (list (Number 1 ∷ list (Number 1048576 ∷ []) ∷ Empty ∷ [])) ≡ Refused Long (1 ∷ 0 ∷ [])
  pub unsized : written (module_B 4) [] (list (Number 1 ∷ list (Number 5 ∷ []) ∷ Empty ∷ [])) ≡ Refused Size (1 ∷ [])
  -- a unit from its bit fields, a value each
  pub unit : written module_U [] (list (Number 3 ∷ Number 5 ∷ [])) ≡ Done (0x35 ∷ []) [] []
  pub unit_broken : written module_U [] (list (Number 5 ∷ Number 3 ∷ [])) ≡ Refused (Broken Constraint) (1 ∷ [])
  pub unit_wide : written module_U [] (list (Number 16 ∷ Number 3 ∷ [])) ≡ Refused Range (0 ∷ [])
  -- the place and the number of a copied field's bytes, in the two cells of its buffer
  pub copied : written module_Q (0 ∷ 0 ∷ []) (list (Number 3 ∷ Bytes (0xaa ∷ 0xbb ∷ 0xcc ∷ []) ∷ [])) ≡ Done (3 ∷ 0xaa ∷ 0xbb ∷ 0xcc ∷ []) (1 ∷ 3 ∷ []) []
  pub copied_size : written module_Q (0 ∷ 0 ∷ []) (list (Number 3 ∷ Bytes (0xaa ∷ []) ∷ [])) ≡ Refused Size (1 ∷ [])
  -- the last copy stays
  pub copied_again : written module_R (0 ∷ 0 ∷ []) (list (list (list (Number 2 ∷ Bytes (7 ∷ 8 ∷ []) ∷ []) ∷ list (Number 1 ∷ Bytes (9 ∷ []) ∷ []) ∷ []) ∷ Number 1 ∷ [])) ≡ Done (2 ∷ 7 ∷ 8 ∷ 1 ∷ 9 ∷ 1 ∷ []) (4 ∷ 1 ∷ []) []
  pub one_buffer : written module_V (0 ∷ 0 ∷ []) (list (list (Bytes (7 ∷ []) ∷ Bytes (8 ∷ 9 ∷ []) ∷ []) ∷ [])) ≡ Done (7 ∷ 8 ∷ 9 ∷ []) (1 ∷ 2 ∷ []) []
  -- how many bytes are left, up to the end of the message, or of the array around it
  pub left : written module_G [] (list (Number 1 ∷ Number 7 ∷ [])) ≡ Done (7 ∷ []) [] []
  pub left_wrong : written module_G [] (list (Number 2 ∷ Number 7 ∷ [])) ≡ Refused Size (0 ∷ [])
  pub left_unspelled : spelled module_G (list (Number 2 ∷ Number 7 ∷ [])) ≡ None
  pub left_wide : written module_G [] (list (Number 4294967296 ∷ Number 7 ∷ [])) ≡ Refused Range (0 ∷ [])
  pub left_inside : written module_H [] (list (list (Number 1 ∷ Number 7 ∷ []) ∷ Number 9 ∷ [])) ≡ Done (7 ∷ 9 ∷ []) [] []
  pub left_outside : written module_H [] (list (list (Number 2 ∷ Number 7 ∷ []) ∷ Number 9 ∷ [])) ≡ Refused Size (0 ∷ 0 ∷ [])
  -- that is looked at behind all else, but behind an array's size where one is around it
  pub left_last : written module_G [] (list (Number 2 ∷ Number 256 ∷ [])) ≡ Refused Range (1 ∷ [])
  pub left_before : written module_H [] (list (list (Number 2 ∷ Number 7 ∷ []) ∷ Number 256 ∷ [])) ≡ Refused Size (0 ∷ 0 ∷ [])
  -- the value's number is tested where it stands
  pub left_tested : written module_X [] (list (Number 9 ∷ Number 3 ∷ Number 256 ∷ [])) ≡ Refused (Broken Constraint) (1 ∷ [])
  -- an expression's value, and a cell's, aren't in the value
  pub narrowed : written module_E [] (list (Number 0x0307 ∷ Empty ∷ [])) ≡ Done (7 ∷ 3 ∷ []) [] []
  pub narrow_told : written module_E [] (list (Number 0x0307 ∷ Number 3 ∷ [])) ≡ Refused Shape (1 ∷ [])
  pub narrow_broken : written module_E [] (list (Number 0x0207 ∷ Empty ∷ [])) ≡ Refused (Broken Constraint) (1 ∷ [])
  pub cell_before : written module_O (0 ∷ []) (list (Number 5 ∷ Empty ∷ Number 6 ∷ Number 5 ∷ [])) ≡ Done (5 ∷ 6 ∷ 5 ∷ []) (6 ∷ []) []
