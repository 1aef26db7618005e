-- Texts and their first breaches: where a rule might be read in two ways.
use Rattle.std.specs.Prelude.{true, false, List, [], ◌∷◌, Some, None, codes}
use Rattle.td_test_rows.specs.Imports.{One, Two, LittleEndian, Decimal, Not, Complement, Value, Act, Check, Twice, NotReadable, WrongArgs, Mismatch, Narrowing, NotConstant, BadAction}
use Rattle.td_ast.specs.declared.expressions.BinaryOperator.TheVariants as operator
use Rattle.td_ast.specs.declared.expressions.SizeofOperand.TheVariants as operand
use Rattle.td_ast.specs.Trees as tree
use Rattle.td_ast.specs.Statements.{Store, If, Return, Abort, block_of}
use Rattle.td_ast.specs.declared.names.ConstTree.TheVariants as constant
use Rattle.td_ast.specs.declared.names.PlainTree.TheVariants as plain
use Rattle.td_ast.specs.declared.parameters.TargetTree.TheVariants as target
use Rattle.td_ast.specs.declared.parameters.ParamTree.TheVariants as param
use Rattle.td_ast.specs.declared.fields.TypeKind.TheVariants as type
use Rattle.td_ast.specs.declared.fields.ExtentTree.TheVariants as extent
use Rattle.td_ast.specs.declared.definitions.SlotKind.TheVariants as slot
use Rattle.td_test_rows.specs.Rows.{Row, sp, nm}
use Rattle.td_test_rows.specs.Makers.{literal, number_at, written, named, binary, choice, in_parens, type_at, little, big, action, whole_field, field, tested, sized, define, item, enum_of, alias, struct, case_of, casetype, slot_of, output}

abbrev pub readings : List Row
readings =
    -- not_of_a_number
    -- typedef struct _A { UINT8 a { !a }; } A;
    -- Y1 at byte 30
    ((struct (nm "_A" 15 17) [] (tested (little One 20 25) (nm "a" 26 27) (tree.Unary (sp 30 32) Not (sp 30 31) (named "a" 31 32)) ∷ []) (nm "A" 38 39) ∷ []), Some (Mismatch, 30)) ∷
    -- complement_of_a_truth_value
    -- typedef struct _A { UINT8 a { ~(a == 1) == 1 }; } A;
    -- Y1 at byte 30
    ((struct (nm "_A" 15 17) [] (tested (little One 20 25) (nm "a" 26 27) (binary operator.Equal 40 42 (tree.Unary (sp 30 39) Complement (sp 30 31) (in_parens 31 39 (binary operator.Equal 34 36 (named "a" 32 33) (written 1 37 38)))) (written 1 43 44)) ∷ []) (nm "A" 50 51) ∷ []), Some (Mismatch, 30)) ∷
    -- number_as_condition
    -- typedef struct _A { UINT8 a { a ? true : false }; } A;
    -- Y1 at byte 32
    ((struct (nm "_A" 15 17) [] (tested (little One 20 25) (nm "a" 26 27) (choice 32 33 (named "a" 30 31) (tree.Truth (sp 34 38) true) (tree.Truth (sp 41 46) false)) ∷ []) (nm "A" 52 53) ∷ []), Some (Mismatch, 32)) ∷
    -- part_of_is_range_okay
    -- typedef struct _A { UINT8 a { is_range_okay(true, a, a) }; } A;
    -- Y1 at byte 44
    ((struct (nm "_A" 15 17) [] (tested (little One 20 25) (nm "a" 26 27) (tree.RangeOkay (sp 30 55) (tree.Truth (sp 44 48) true) (named "a" 50 51) (named "a" 53 54)) ∷ []) (nm "A" 61 62) ∷ []), Some (Mismatch, 44)) ∷
    -- comparison_beside_equality
    -- typedef struct _A { UINT8 a; UINT8 b { a == b < a }; } A;
    -- Y1 at byte 41
    ((struct (nm "_A" 15 17) [] (field (little One 20 25) (nm "a" 26 27) ∷ tested (little One 29 34) (nm "b" 35 36) (binary operator.Equal 41 43 (named "a" 39 40) (binary operator.Less 46 47 (named "b" 44 45) (named "a" 48 49))) ∷ []) (nm "A" 55 56) ∷ []), Some (Mismatch, 41)) ∷
    -- truth_value_as_argument
    -- typedef struct _P(UINT8 n) { UINT8 q; } P; typedef struct _A { P(true) p; } A;
    -- Y1 at byte 65
    ((struct (nm "_P" 15 17) (param.Value (plain.Number (number_at One LittleEndian 18 23)) (nm "n" 24 25) ∷ []) (field (little One 29 34) (nm "q" 35 36) ∷ []) (nm "P" 40 41) ∷ struct (nm "_A" 58 60) [] (field (type_at (type.Named (codes "P") ((tree.Truth (sp 65 69) true) ∷ [])) 63 64) (nm "p" 71 72) ∷ []) (nm "A" 76 77) ∷ []), Some (Mismatch, 65)) ∷
    -- truth_value_in_switch
    -- casetype _C(UINT8 t) { switch (true) { case 1: UINT8 a; } } C;
    -- Y1 at byte 31
    ((casetype (nm "_C" 9 11) (param.Value (plain.Number (number_at One LittleEndian 12 17)) (nm "t" 18 19) ∷ []) (tree.Truth (sp 31 35) true) (case_of (constant.Number (literal 1 Decimal 44 45)) (field (little One 47 52) (nm "a" 53 54) ∷ []) ∷ []) None (nm "C" 60 61) ∷ []), Some (Mismatch, 31)) ∷
    -- number_after_return
    -- typedef struct _A { UINT8 a {:check return a;}; } A;
    -- Y1 at byte 43
    ((struct (nm "_A" 15 17) [] (whole_field (little One 20 25) (nm "a" 26 27) None None (Some (action Check 28 35 (Return (sp 36 45) (named "a" 43 44) ∷ []))) ∷ []) (nm "A" 50 51) ∷ []), Some (Mismatch, 43)) ∷
    -- number_after_if
    -- typedef struct _A { UINT8 a {:act if (a) { abort; }}; } A;
    -- Y1 at byte 38
    ((struct (nm "_A" 15 17) [] (whole_field (little One 20 25) (nm "a" 26 27) None None (Some (action Act 28 33 (If (sp 34 51) (named "a" 38 39) (block_of (Abort (sp 43 49) ∷ [])) ∷ []))) ∷ []) (nm "A" 56 57) ∷ []), Some (Mismatch, 38)) ∷
    -- truth_value_stored
    -- typedef struct _A(mutable UINT8 *p) { UINT8 a {:act *p = true;}; } A;
    -- Y1 at byte 57
    ((struct (nm "_A" 15 17) (param.Mutable (target.Number (number_at One LittleEndian 26 31)) (nm "p" 33 34) ∷ []) (whole_field (little One 38 43) (nm "a" 44 45) None None (Some (action Act 46 51 (Store (sp 52 62) (nm "p" 53 54) (Value (tree.Truth (sp 57 61) true)) ∷ []))) ∷ []) (nm "A" 67 68) ∷ []), Some (Mismatch, 57)) ∷
    -- place_before_cause_in_an_action
    -- typedef struct _A { UINT8 a {:act return zz;}; } A;
    -- Y4 at byte 28
    ((struct (nm "_A" 15 17) [] (whole_field (little One 20 25) (nm "a" 26 27) None None (Some (action Act 28 33 (Return (sp 34 44) (named "zz" 41 43) ∷ []))) ∷ []) (nm "A" 49 50) ∷ []), Some (BadAction, 28)) ∷
    -- place_before_cause_at_a_name
    -- typedef struct _A { UINT8 a[:byte-size 3] { zz == 1 }; } A;
    -- N3 at byte 26
    ((struct (nm "_A" 15 17) [] (whole_field (little One 20 25) (nm "a" 26 27) (Some (extent.ByteSize (written 3 39 40))) (Some (binary operator.Equal 47 49 (named "zz" 44 46) (written 1 50 51))) None ∷ []) (nm "A" 57 58) ∷ []), Some (NotReadable, 26)) ∷
    -- place_before_cause_at_a_type
    -- typedef struct _A { UINT8BE a[zz]; } A;
    -- Y1 at byte 20
    ((struct (nm "_A" 15 17) [] (sized (big One 20 27) (nm "a" 28 29) (extent.Bytes (named "zz" 30 32)) ∷ []) (nm "A" 37 38) ∷ []), Some (Mismatch, 20)) ∷
    -- item_named_by_a_later_item
    -- UINT8 enum E { A = 1, B = A }
    -- N2 at byte 26
    ((enum_of (number_at One LittleEndian 0 5) (nm "E" 11 12) (item (nm "A" 15 16) (Some (constant.Number (literal 1 Decimal 19 20))) ∷ item (nm "B" 22 23) (Some (constant.Named (nm "A" 26 27))) ∷ []) ∷ []), Some (Twice, 26)) ∷
    -- arguments_after_a_constant
    -- #define K 1 typedef struct _A { K(1) a; } A;
    -- Y1 at byte 32
    ((define (nm "K" 8 9) (literal 1 Decimal 10 11) ∷ struct (nm "_A" 27 29) [] (field (type_at (type.Named (codes "K") ((written 1 34 35) ∷ [])) 32 33) (nm "a" 37 38) ∷ []) (nm "A" 42 43) ∷ []), Some (Mismatch, 32)) ∷
    -- arguments_after_a_member
    -- UINT8 enum E { M } typedef struct _A { M(1) a; } A;
    -- Y1 at byte 39
    ((enum_of (number_at One LittleEndian 0 5) (nm "E" 11 12) (item (nm "M" 15 16) None ∷ []) ∷ struct (nm "_A" 34 36) [] (field (type_at (type.Named (codes "M") ((written 1 41 42) ∷ [])) 39 40) (nm "a" 44 45) ∷ []) (nm "A" 49 50) ∷ []), Some (Mismatch, 39)) ∷
    -- arguments_after_a_record
    -- output typedef struct _O { UINT8 x; } O; typedef struct _A { O(1) a; } A;
    -- Y1 at byte 61
    ((output (nm "_O" 22 24) (slot_of (slot.Number (number_at One LittleEndian 27 32)) (nm "x" 33 34) ∷ []) (nm "O" 38 39) ∷ struct (nm "_A" 56 58) [] (field (type_at (type.Named (codes "O") ((written 1 63 64) ∷ [])) 61 62) (nm "a" 66 67) ∷ []) (nm "A" 71 72) ∷ []), Some (Mismatch, 61)) ∷
    -- record_without_a_slot
    -- output typedef struct _O { UINT8 x; } O; typedef struct _A(mutable O *r) { UINT8 a {:act *r = a;}; } A;
    -- N4 at byte 90
    ((output (nm "_O" 22 24) (slot_of (slot.Number (number_at One LittleEndian 27 32)) (nm "x" 33 34) ∷ []) (nm "O" 38 39) ∷ struct (nm "_A" 56 58) (param.Mutable (target.Named (nm "O" 67 68)) (nm "r" 70 71) ∷ []) (whole_field (little One 75 80) (nm "a" 81 82) None None (Some (action Act 83 88 (Store (sp 89 96) (nm "r" 90 91) (Value (named "a" 94 95)) ∷ []))) ∷ []) (nm "A" 101 102) ∷ []), Some (WrongArgs, 90)) ∷
    -- field_stored_to
    -- typedef struct _A { UINT8 a; UINT8 b {:act *a = b;}; } A;
    -- N4 at byte 44
    ((struct (nm "_A" 15 17) [] (field (little One 20 25) (nm "a" 26 27) ∷ whole_field (little One 29 34) (nm "b" 35 36) None None (Some (action Act 37 42 (Store (sp 43 50) (nm "a" 44 45) (Value (named "b" 48 49)) ∷ []))) ∷ []) (nm "A" 55 56) ∷ []), Some (WrongArgs, 44)) ∷
    -- literal_that_fits
    -- typedef struct _A(mutable UINT8 *p) { UINT8 a {:act *p = 255;}; } A;
    -- no breach
    ((struct (nm "_A" 15 17) (param.Mutable (target.Number (number_at One LittleEndian 26 31)) (nm "p" 33 34) ∷ []) (whole_field (little One 38 43) (nm "a" 44 45) None None (Some (action Act 46 51 (Store (sp 52 61) (nm "p" 53 54) (Value (written 255 57 60)) ∷ []))) ∷ []) (nm "A" 66 67) ∷ []), None) ∷
    -- literal_too_wide
    -- typedef struct _A(mutable UINT8 *p) { UINT8 a {:act *p = 256;}; } A;
    -- Y2 at byte 57
    ((struct (nm "_A" 15 17) (param.Mutable (target.Number (number_at One LittleEndian 26 31)) (nm "p" 33 34) ∷ []) (whole_field (little One 38 43) (nm "a" 44 45) None None (Some (action Act 46 51 (Store (sp 52 61) (nm "p" 53 54) (Value (written 256 57 60)) ∷ []))) ∷ []) (nm "A" 66 67) ∷ []), Some (Narrowing, 57)) ∷
    -- hidden_in_sizeof
    -- typedef UINT8 U; typedef struct _A { U U; UINT8 b { sizeof(U) == 1 }; } A;
    -- Y1 at byte 59
    ((alias (plain.Number (number_at One LittleEndian 8 13)) (nm "U" 14 15) ∷ struct (nm "_A" 32 34) [] (field (type_at (type.Named (codes "U") []) 37 38) (nm "U" 39 40) ∷ tested (little One 42 47) (nm "b" 48 49) (binary operator.Equal 62 64 (tree.Sizeof (sp 52 61) (sp 52 58) (operand.Name (codes "U")) (sp 59 60)) (written 1 65 66)) ∷ []) (nm "A" 72 73) ∷ []), Some (Mismatch, 59)) ∷
    -- type_as_case
    -- typedef UINT8 U; casetype _C(UINT8 t) { switch (t) { case U: UINT8 a; } } C;
    -- Y3 at byte 58
    ((alias (plain.Number (number_at One LittleEndian 8 13)) (nm "U" 14 15) ∷ casetype (nm "_C" 26 28) (param.Value (plain.Number (number_at One LittleEndian 29 34)) (nm "t" 35 36) ∷ []) (named "t" 48 49) (case_of (constant.Named (nm "U" 58 59)) (field (little One 61 66) (nm "a" 67 68) ∷ []) ∷ []) None (nm "C" 74 75) ∷ []), Some (NotConstant, 58)) ∷
    -- constant_of_a_choice
    -- typedef struct _I { UINT8 a[true ? 4 : 5]; } I; typedef struct _J { UINT8 b { b == sizeof(I) }; } J;
    -- no breach
    ((struct (nm "_I" 15 17) [] (sized (little One 20 25) (nm "a" 26 27) (extent.Bytes (choice 33 34 (tree.Truth (sp 28 32) true) (written 4 35 36) (written 5 39 40))) ∷ []) (nm "I" 45 46) ∷ struct (nm "_J" 63 65) [] (tested (little One 68 73) (nm "b" 74 75) (binary operator.Equal 80 82 (named "b" 78 79) (tree.Sizeof (sp 83 92) (sp 83 89) (operand.Name (codes "I")) (sp 90 91))) ∷ []) (nm "J" 98 99) ∷ []), None) ∷
    -- constant_of_a_range
    -- typedef struct _I { UINT8 a[is_range_okay(8, 2, 2) ? 4 : 5]; } I; typedef struct _J { UINT8 b { b == sizeof(I) }; } J;
    -- no breach
    ((struct (nm "_I" 15 17) [] (sized (little One 20 25) (nm "a" 26 27) (extent.Bytes (choice 51 52 (tree.RangeOkay (sp 28 50) (written 8 42 43) (written 2 45 46) (written 2 48 49)) (written 4 53 54) (written 5 57 58))) ∷ []) (nm "I" 63 64) ∷ struct (nm "_J" 81 83) [] (tested (little One 86 91) (nm "b" 92 93) (binary operator.Equal 98 100 (named "b" 96 97) (tree.Sizeof (sp 101 110) (sp 101 107) (operand.Name (codes "I")) (sp 108 109))) ∷ []) (nm "J" 116 117) ∷ []), None) ∷
    -- branch_not_taken_too_wide
    -- typedef struct _I { UINT8 a[true ? 4 : 200 + 100]; } I; typedef struct _J { UINT8 b { b == sizeof(I) }; } J;
    -- Y3 at byte 91
    ((struct (nm "_I" 15 17) [] (sized (little One 20 25) (nm "a" 26 27) (extent.Bytes (choice 33 34 (tree.Truth (sp 28 32) true) (written 4 35 36) (binary operator.Add 43 44 (written 200 39 42) (written 100 45 48)))) ∷ []) (nm "I" 53 54) ∷ struct (nm "_J" 71 73) [] (tested (little One 76 81) (nm "b" 82 83) (binary operator.Equal 88 90 (named "b" 86 87) (tree.Sizeof (sp 91 100) (sp 91 97) (operand.Name (codes "I")) (sp 98 99))) ∷ []) (nm "J" 106 107) ∷ []), Some (NotConstant, 91)) ∷
    -- quotient_by_zero_is_constant
    -- typedef struct _I { UINT8 a[1 / 0]; } I; typedef struct _J { UINT8 b { b == sizeof(I) }; } J;
    -- no breach
    ((struct (nm "_I" 15 17) [] (sized (little One 20 25) (nm "a" 26 27) (extent.Bytes (binary operator.Divide 30 31 (written 1 28 29) (written 0 32 33))) ∷ []) (nm "I" 38 39) ∷ struct (nm "_J" 56 58) [] (tested (little One 61 66) (nm "b" 67 68) (binary operator.Equal 73 75 (named "b" 71 72) (tree.Sizeof (sp 76 85) (sp 76 82) (operand.Name (codes "I")) (sp 83 84))) ∷ []) (nm "J" 91 92) ∷ []), None) ∷
    -- sum_too_wide_is_no_constant
    -- typedef struct _I { UINT8 a[200 + 100]; } I; typedef struct _J { UINT8 b { b == sizeof(I) }; } J;
    -- Y3 at byte 80
    ((struct (nm "_I" 15 17) [] (sized (little One 20 25) (nm "a" 26 27) (extent.Bytes (binary operator.Add 32 33 (written 200 28 31) (written 100 34 37))) ∷ []) (nm "I" 42 43) ∷ struct (nm "_J" 60 62) [] (tested (little One 65 70) (nm "b" 71 72) (binary operator.Equal 77 79 (named "b" 75 76) (tree.Sizeof (sp 80 89) (sp 80 86) (operand.Name (codes "I")) (sp 87 88))) ∷ []) (nm "J" 95 96) ∷ []), Some (NotConstant, 80)) ∷
    -- shift_past_its_type_is_constant
    -- typedef struct _I { UINT8 a[(1 + 1) << 256]; } I; typedef struct _J { UINT8 b { b == sizeof(I) }; } J;
    -- no breach
    ((struct (nm "_I" 15 17) [] (sized (little One 20 25) (nm "a" 26 27) (extent.Bytes (binary operator.ShiftLeft 36 38 (in_parens 28 35 (binary operator.Add 31 32 (written 1 29 30) (written 1 33 34))) (written 256 39 42))) ∷ []) (nm "I" 47 48) ∷ struct (nm "_J" 65 67) [] (tested (little One 70 75) (nm "b" 76 77) (binary operator.Equal 82 84 (named "b" 80 81) (tree.Sizeof (sp 85 94) (sp 85 91) (operand.Name (codes "I")) (sp 92 93))) ∷ []) (nm "J" 100 101) ∷ []), None) ∷
    -- leading_fields_end_past_the_cap
    -- typedef struct _A(mutable UINT8 *p) { UINT8 x {:act *p = sizeof(this);}; UINT8 z[4294967297]; } A;
    -- no breach
    ((struct (nm "_A" 15 17) (param.Mutable (target.Number (number_at One LittleEndian 26 31)) (nm "p" 33 34) ∷ []) (whole_field (little One 38 43) (nm "x" 44 45) None None (Some (action Act 46 51 (Store (sp 52 70) (nm "p" 53 54) (Value (tree.Sizeof (sp 57 69) (sp 57 63) operand.This (sp 64 68))) ∷ []))) ∷ sized (little One 73 78) (nm "z" 79 80) (extent.Bytes (written 4294967297 81 91)) ∷ []) (nm "A" 96 97) ∷ []), None) ∷
    -- leading_fields_at_the_cap
    -- typedef struct _A(mutable UINT8 *p) { UINT8 x {:act *p = sizeof(this);}; UINT8 z[4294967296]; } A;
    -- Y2 at byte 57
    ((struct (nm "_A" 15 17) (param.Mutable (target.Number (number_at One LittleEndian 26 31)) (nm "p" 33 34) ∷ []) (whole_field (little One 38 43) (nm "x" 44 45) None None (Some (action Act 46 51 (Store (sp 52 70) (nm "p" 53 54) (Value (tree.Sizeof (sp 57 69) (sp 57 63) operand.This (sp 64 68))) ∷ []))) ∷ sized (little One 73 78) (nm "z" 79 80) (extent.Bytes (written 4294967296 81 91)) ∷ []) (nm "A" 96 97) ∷ []), Some (Narrowing, 57)) ∷
    -- mutable_argument_in_two_parentheses
    -- typedef struct _P(mutable UINT16 *p) { UINT8 a; } P; typedef struct _A(mutable UINT16 *q) { P(((q))) d; } A;
    -- no breach
    ((struct (nm "_P" 15 17) (param.Mutable (target.Number (number_at Two LittleEndian 26 32)) (nm "p" 34 35) ∷ []) (field (little One 39 44) (nm "a" 45 46) ∷ []) (nm "P" 50 51) ∷ struct (nm "_A" 68 70) (param.Mutable (target.Number (number_at Two LittleEndian 79 85)) (nm "q" 87 88) ∷ []) (field (type_at (type.Named (codes "P") ((in_parens 94 99 (in_parens 95 98 (named "q" 96 97))) ∷ [])) 92 93) (nm "d" 101 102) ∷ []) (nm "A" 106 107) ∷ []), None) ∷
    []
