-- Texts and messages: what the one says of the other.
use Rattle.std.specs.Prelude.{true, List, [], ◌∷◌, Some, None, codes}
use Rattle.td_test_rows.specs.Imports.{One, Two, LittleEndian, Decimal, Check, NotEnough, Constraint, ListSize, Padding}
use Rattle.td_ast.specs.declared.expressions.BinaryOperator.TheVariants as operator
use Rattle.td_ast.specs.declared.expressions.SizeofOperand.TheVariants as operand
use Rattle.td_ast.specs.Trees as tree
use Rattle.td_ast.specs.Statements.{IfElse, Return, Abort, block_of}
use Rattle.td_ast.specs.declared.names.ConstTree.TheVariants as constant
use Rattle.td_ast.specs.declared.names.PlainTree.TheVariants as plain
use Rattle.td_ast.specs.declared.parameters.ParamTree.TheVariants as param
use Rattle.td_ast.specs.declared.fields.TypeKind.TheVariants as type
use Rattle.td_ast.specs.declared.fields.ExtentTree.TheVariants as extent
use Rattle.td_test_rows.specs.Rows.{sp, nm}
use Rattle.td_test_rows.specs.Makers.{literal, number_at, written, named, binary, in_parens, type_at, little, action, whole_field, field, tested, sized, item, enum_of, alias, struct, entry_struct, struct_with}
use Rattle.td_test_rows.specs.Messages.{MessageRow, accepts, rejects, frame}

abbrev pub told_rows : List MessageRow
told_rows =
    -- element_past_the_cap_single_element
    -- typedef struct _I { UINT8 a[4294967297]; } I; entrypoint typedef struct _J { I i[:byte-size-single-element-array 4]; } J;  bytes 00000000
    -- reject notenough 0; frame I.a 0; frame J.i 0
    record { definitions = (struct (nm "_I" 15 17) [] (sized (little One 20 25) (nm "a" 26 27) (extent.Bytes (written 4294967297 28 38)) ∷ []) (nm "I" 43 44) ∷ entry_struct (nm "_J" 72 74) [] (sized (type_at (type.Named (codes "I") []) 77 78) (nm "i" 79 80) (extent.SingleElement (written 4 113 114)) ∷ []) (nm "J" 119 120) ∷ []); args = []; cells = []; message = (0 ∷ 0 ∷ 0 ∷ 0 ∷ []); wanted = rejects NotEnough 0 (frame "I" "a" 0 ∷ frame "J" "i" 0 ∷ []) [] [] } ∷
    -- element_at_the_cap_single_element
    -- typedef struct _I { UINT8 a[4294967296]; } I; entrypoint typedef struct _J { I i[:byte-size-single-element-array 4]; } J;  bytes 00000000
    -- reject listsize 0; frame J.i 0
    record { definitions = (struct (nm "_I" 15 17) [] (sized (little One 20 25) (nm "a" 26 27) (extent.Bytes (written 4294967296 28 38)) ∷ []) (nm "I" 43 44) ∷ entry_struct (nm "_J" 72 74) [] (sized (type_at (type.Named (codes "I") []) 77 78) (nm "i" 79 80) (extent.SingleElement (written 4 113 114)) ∷ []) (nm "J" 119 120) ∷ []); args = []; cells = []; message = (0 ∷ 0 ∷ 0 ∷ 0 ∷ []); wanted = rejects ListSize 0 (frame "J" "i" 0 ∷ []) [] [] } ∷
    -- element_past_the_cap_elements
    -- typedef struct _I { UINT8 a[4294967297]; } I; entrypoint typedef struct _J { I i[:byte-size 4]; } J;  bytes 00000000
    -- reject notenough 0; frame I.a 0; frame J.i 0
    record { definitions = (struct (nm "_I" 15 17) [] (sized (little One 20 25) (nm "a" 26 27) (extent.Bytes (written 4294967297 28 38)) ∷ []) (nm "I" 43 44) ∷ entry_struct (nm "_J" 72 74) [] (sized (type_at (type.Named (codes "I") []) 77 78) (nm "i" 79 80) (extent.ByteSize (written 4 92 93)) ∷ []) (nm "J" 98 99) ∷ []); args = []; cells = []; message = (0 ∷ 0 ∷ 0 ∷ 0 ∷ []); wanted = rejects NotEnough 0 (frame "I" "a" 0 ∷ frame "J" "i" 0 ∷ []) [] [] } ∷
    -- element_at_the_cap_elements
    -- typedef struct _I { UINT8 a[4294967296]; } I; entrypoint typedef struct _J { I i[:byte-size 4]; } J;  bytes 00000000
    -- reject listsize 0; frame J.i 0
    record { definitions = (struct (nm "_I" 15 17) [] (sized (little One 20 25) (nm "a" 26 27) (extent.Bytes (written 4294967296 28 38)) ∷ []) (nm "I" 43 44) ∷ entry_struct (nm "_J" 72 74) [] (sized (type_at (type.Named (codes "I") []) 77 78) (nm "i" 79 80) (extent.ByteSize (written 4 92 93)) ∷ []) (nm "J" 98 99) ∷ []); args = []; cells = []; message = (0 ∷ 0 ∷ 0 ∷ 0 ∷ []); wanted = rejects ListSize 0 (frame "J" "i" 0 ∷ []) [] [] } ∷
    -- element_of_a_constant_sum
    -- typedef struct _I { UINT8 a[2 + 2]; UINT8 c; } I; entrypoint typedef struct _J { I i[:byte-size-single-element-array 4]; } J;  bytes 00000000
    -- reject listsize 0; frame J.i 0
    record { definitions = (struct (nm "_I" 15 17) [] (sized (little One 20 25) (nm "a" 26 27) (extent.Bytes (binary operator.Add 30 31 (written 2 28 29) (written 2 32 33))) ∷ field (little One 36 41) (nm "c" 42 43) ∷ []) (nm "I" 47 48) ∷ entry_struct (nm "_J" 76 78) [] (sized (type_at (type.Named (codes "I") []) 81 82) (nm "i" 83 84) (extent.SingleElement (written 4 117 118)) ∷ []) (nm "J" 123 124) ∷ []); args = []; cells = []; message = (0 ∷ 0 ∷ 0 ∷ 0 ∷ []); wanted = rejects ListSize 0 (frame "J" "i" 0 ∷ []) [] [] } ∷
    -- entry_by_its_number
    -- typedef struct _A { UINT16 a; } A; entrypoint typedef struct _B { UINT8 b; } B;  bytes 00
    -- accept 1
    record { definitions = (struct (nm "_A" 15 17) [] (field (little Two 20 26) (nm "a" 27 28) ∷ []) (nm "A" 32 33) ∷ entry_struct (nm "_B" 61 63) [] (field (little One 66 71) (nm "b" 72 73) ∷ []) (nm "B" 77 78) ∷ []); args = []; cells = []; message = (0 ∷ []); wanted = accepts 1 [] [] } ∷
    -- aliases_share_a_unit
    -- typedef UINT16 U; entrypoint typedef struct _A { UINT16 a : 4 { a == 1 }; U b : 4 { b == 2 }; unit u; UINT16 c : 4 { c == 3 }; } A;  bytes 21000300
    -- accept 4
    record { definitions = (alias (plain.Number (number_at Two LittleEndian 8 14)) (nm "U" 15 16) ∷ entry_struct (nm "_A" 44 46) [] (whole_field (little Two 49 55) (nm "a" 56 57) (Some (extent.Bits (literal 4 Decimal 60 61))) (Some (binary operator.Equal 66 68 (named "a" 64 65) (written 1 69 70))) None ∷ whole_field (type_at (type.Named (codes "U") []) 74 75) (nm "b" 76 77) (Some (extent.Bits (literal 4 Decimal 80 81))) (Some (binary operator.Equal 86 88 (named "b" 84 85) (written 2 89 90))) None ∷ field (type_at type.Unit 94 98) (nm "u" 99 100) ∷ whole_field (little Two 102 108) (nm "c" 109 110) (Some (extent.Bits (literal 4 Decimal 113 114))) (Some (binary operator.Equal 119 121 (named "c" 117 118) (written 3 122 123))) None ∷ []) (nm "A" 129 130) ∷ []); args = []; cells = []; message = (33 ∷ 0 ∷ 3 ∷ 0 ∷ []); wanted = accepts 4 [] (0 ∷ 1 ∷ 2 ∷ 3 ∷ []) } ∷
    -- leading_fields_end_at_a_size_of_this
    -- entrypoint typedef struct _A { UINT8 a; UINT8 z[:byte-size sizeof(this)]; UINT8 b { b == sizeof(this) }; } A;  bytes 000001
    -- accept 3
    record { definitions = (entry_struct (nm "_A" 26 28) [] (field (little One 31 36) (nm "a" 37 38) ∷ sized (little One 40 45) (nm "z" 46 47) (extent.ByteSize (tree.Sizeof (sp 59 71) (sp 59 65) operand.This (sp 66 70))) ∷ tested (little One 74 79) (nm "b" 80 81) (binary operator.Equal 86 88 (named "b" 84 85) (tree.Sizeof (sp 89 101) (sp 89 95) operand.This (sp 96 100))) ∷ []) (nm "A" 107 108) ∷ []); args = []; cells = []; message = (0 ∷ 0 ∷ 1 ∷ []); wanted = accepts 3 [] (2 ∷ []) } ∷
    -- item_fails_at_the_array
    -- UINT8 enum E { A = 1 } entrypoint typedef struct _J { UINT8 h; E e[:byte-size 2]; } J;  bytes 000102
    -- reject constraint 1; frame J.e 1
    record { definitions = (enum_of (number_at One LittleEndian 0 5) (nm "E" 11 12) (item (nm "A" 15 16) (Some (constant.Number (literal 1 Decimal 19 20))) ∷ []) ∷ entry_struct (nm "_J" 49 51) [] (field (little One 54 59) (nm "h" 60 61) ∷ sized (type_at (type.Named (codes "E") []) 63 64) (nm "e" 65 66) (extent.ByteSize (written 2 78 79)) ∷ []) (nm "J" 84 85) ∷ []); args = []; cells = []; message = (0 ∷ 1 ∷ 2 ∷ []); wanted = rejects Constraint 1 (frame "J" "e" 1 ∷ []) [] (1 ∷ 2 ∷ []) } ∷
    -- padding_fails_at_the_byte
    -- entrypoint typedef struct _J { UINT8 h; all_zeros z[:byte-size-single-element-array 2]; } J;  bytes 000001
    -- reject padding 2; frame J.z 1
    record { definitions = (entry_struct (nm "_J" 26 28) [] (field (little One 31 36) (nm "h" 37 38) ∷ sized (type_at type.AllZeros 40 49) (nm "z" 50 51) (extent.SingleElement (written 2 84 85)) ∷ []) (nm "J" 90 91) ∷ []); args = []; cells = []; message = (0 ∷ 0 ∷ 1 ∷ []); wanted = rejects Padding 2 (frame "J" "z" 1 ∷ []) [] (1 ∷ 2 ∷ []) } ∷
    -- refinement_that_names_nothing
    -- entrypoint typedef struct _A { UINT8 a { true }; UINT8 b; } A;  bytes 0500
    -- accept 2
    record { definitions = (entry_struct (nm "_A" 26 28) [] (tested (little One 31 36) (nm "a" 37 38) (tree.Truth (sp 41 45) true) ∷ field (little One 49 54) (nm "b" 55 56) ∷ []) (nm "A" 60 61) ∷ []); args = []; cells = []; message = (5 ∷ 0 ∷ []); wanted = accepts 2 [] (0 ∷ []) } ∷
    -- named_after_the_failure
    -- entrypoint typedef struct _A { UINT8 a; UINT8 b { b == 1 }; UINT8 c { c == a }; } A;  bytes 050200
    -- reject constraint 1; frame A.b 1
    record { definitions = (entry_struct (nm "_A" 26 28) [] (field (little One 31 36) (nm "a" 37 38) ∷ tested (little One 40 45) (nm "b" 46 47) (binary operator.Equal 52 54 (named "b" 50 51) (written 1 55 56)) ∷ tested (little One 60 65) (nm "c" 66 67) (binary operator.Equal 72 74 (named "c" 70 71) (named "a" 75 76)) ∷ []) (nm "A" 82 83) ∷ []); args = []; cells = []; message = (5 ∷ 2 ∷ 0 ∷ []); wanted = rejects Constraint 1 (frame "A" "b" 1 ∷ []) [] (0 ∷ 1 ∷ []) } ∷
    -- return_on_no_path
    -- entrypoint typedef struct _A { UINT8 a {:check if (a == 1) { return true; } else { abort; } return 1 == 2;}; } A;  bytes 01
    -- accept 1
    record { definitions = (entry_struct (nm "_A" 26 28) [] (whole_field (little One 31 36) (nm "a" 37 38) None None (Some (action Check 39 46 (IfElse (sp 47 91) (binary operator.Equal 53 55 (named "a" 51 52) (written 1 56 57)) (block_of (Return (sp 61 73) (tree.Truth (sp 68 72) true) ∷ [])) (block_of (Abort (sp 83 89) ∷ [])) ∷ Return (sp 92 106) (binary operator.Equal 101 103 (written 1 99 100) (written 2 104 105)) ∷ []))) ∷ []) (nm "A" 111 112) ∷ []); args = []; cells = []; message = (1 ∷ []); wanted = accepts 1 [] (0 ∷ []) } ∷
    -- where_that_holds
    -- entrypoint typedef struct _N(UINT8 k) where (k >= 2) { UINT8 a { a == k }; } N;  args [2]  bytes 02
    -- accept 1
    record { definitions = (struct_with true (nm "_N" 26 28) (param.Value (plain.Number (number_at One LittleEndian 29 34)) (nm "k" 35 36) ∷ []) (Some (in_parens 44 52 (binary operator.GreaterEqual 47 49 (named "k" 45 46) (written 2 50 51)))) (tested (little One 55 60) (nm "a" 61 62) (binary operator.Equal 67 69 (named "a" 65 66) (named "k" 70 71)) ∷ []) (nm "N" 77 78) ∷ []); args = (2 ∷ []); cells = []; message = (2 ∷ []); wanted = accepts 1 [] (0 ∷ []) } ∷
    -- where_that_fails
    -- entrypoint typedef struct _N(UINT8 k) where (k >= 2) { UINT8 a { a == k }; } N;  args [1]  bytes 02
    -- reject constraint 0; frame N.where 0
    record { definitions = (struct_with true (nm "_N" 26 28) (param.Value (plain.Number (number_at One LittleEndian 29 34)) (nm "k" 35 36) ∷ []) (Some (in_parens 44 52 (binary operator.GreaterEqual 47 49 (named "k" 45 46) (written 2 50 51)))) (tested (little One 55 60) (nm "a" 61 62) (binary operator.Equal 67 69 (named "a" 65 66) (named "k" 70 71)) ∷ []) (nm "N" 77 78) ∷ []); args = (1 ∷ []); cells = []; message = (2 ∷ []); wanted = rejects Constraint 0 (frame "N" "where" 0 ∷ []) [] [] } ∷
    []
