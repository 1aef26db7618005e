-- Texts, and the nodes, the depth and the weight of the last definition.
use Rattle.std.specs.Prelude.{List, [], ◌∷◌, Some, None, codes}
use Rattle.td_test_rows.specs.Imports.{One, LittleEndian, Decimal, FieldPtr, Act}
use Rattle.td_ast.specs.declared.expressions.BinaryOperator.TheVariants as operator
use Rattle.td_ast.specs.declared.expressions.SizeofOperand.TheVariants as operand
use Rattle.td_ast.specs.Trees as tree
use Rattle.td_ast.specs.Statements.{Store}
use Rattle.td_ast.specs.declared.names.ConstTree.TheVariants as constant
use Rattle.td_ast.specs.declared.names.PlainTree.TheVariants as plain
use Rattle.td_ast.specs.declared.parameters.TargetTree.TheVariants as target
use Rattle.td_ast.specs.declared.parameters.ParamTree.TheVariants as param
use Rattle.td_ast.specs.declared.fields.TypeKind.TheVariants as type
use Rattle.td_ast.specs.declared.fields.ExtentTree.TheVariants as extent
use Rattle.td_ast.specs.declared.definitions.SlotKind.TheVariants as slot
use Rattle.td_test_rows.specs.Rows.{sp, nm, number}
use Rattle.td_test_rows.specs.Makers.{literal, number_at, written, named, binary, type_at, little, action, whole_field, field, tested, sized, define, item, enum_of, alias, struct, case_of, casetype, slot_of, output}
use Rattle.td_test_rows.specs.Findings.{SizeRow}

abbrev pub measured : List SizeRow
measured =
    -- default_counts_by_its_fields
    -- casetype _C(UINT8 t) { switch (t) { case 1: UINT8 a; default: UINT8 b; } } C;
    -- 6 nodes, depth 1, weight 120
    ((casetype (nm "_C" 9 11) (param.Value (plain.Number (number_at One LittleEndian 12 17)) (nm "t" 18 19) ∷ []) (named "t" 31 32) (case_of (constant.Number (literal 1 Decimal 41 42)) (field (little One 44 49) (nm "a" 50 51) ∷ []) ∷ []) (Some (field (little One 62 67) (nm "b" 68 69) ∷ [])) (nm "C" 75 76) ∷ []), (6, (1, 120))) ∷
    -- record_weighs_by_its_slots
    -- output typedef struct _O { UINT8 x; UINT8 y; } O;
    -- 3 nodes, depth 1, weight 96
    ((output (nm "_O" 22 24) (slot_of (slot.Number (number_at One LittleEndian 27 32)) (nm "x" 33 34) ∷ slot_of (slot.Number (number_at One LittleEndian 36 41)) (nm "y" 42 43) ∷ []) (nm "O" 47 48) ∷ []), (3, (1, 96))) ∷
    -- values_of_items_are_no_nodes
    -- UINT8 enum E { A = 1, B }
    -- 3 nodes, depth 1, weight 32
    ((enum_of (number_at One LittleEndian 0 5) (nm "E" 11 12) (item (nm "A" 15 16) (Some (constant.Number (literal 1 Decimal 19 20))) ∷ item (nm "B" 22 23) None ∷ []) ∷ []), (3, (1, 32))) ∷
    -- constants_of_cases_are_no_nodes
    -- casetype _C(UINT8 t) { switch (t) { case 1: UINT8 a; } } C;
    -- 5 nodes, depth 1, weight 88
    ((casetype (nm "_C" 9 11) (param.Value (plain.Number (number_at One LittleEndian 12 17)) (nm "t" 18 19) ∷ []) (named "t" 31 32) (case_of (constant.Number (literal 1 Decimal 41 42)) (field (little One 44 49) (nm "a" 50 51) ∷ []) ∷ []) None (nm "C" 57 58) ∷ []), (5, (1, 88))) ∷
    -- bit_widths_are_no_nodes
    -- typedef struct _A { UINT8 a : 4; UINT8 b : 4; } A;
    -- 3 nodes, depth 1, weight 96
    ((struct (nm "_A" 15 17) [] (sized (little One 20 25) (nm "a" 26 27) (extent.Bits (literal 4 Decimal 30 31)) ∷ sized (little One 33 38) (nm "b" 39 40) (extent.Bits (literal 4 Decimal 43 44)) ∷ []) (nm "A" 48 49) ∷ []), (3, (1, 96))) ∷
    -- field_ptr_is_no_node
    -- typedef struct _A(mutable PUINT8 *p) { UINT8 a {:act *p = field_ptr;}; } A;
    -- 4 nodes, depth 1, weight 80
    ((struct (nm "_A" 15 17) (param.Mutable (target.Pointer (sp 26 32)) (nm "p" 34 35) ∷ []) (whole_field (little One 39 44) (nm "a" 45 46) None None (Some (action Act 47 52 (Store (sp 53 68) (nm "p" 54 55) (FieldPtr (sp 58 67)) ∷ []))) ∷ []) (nm "A" 73 74) ∷ []), (4, (1, 80))) ∷
    -- operand_of_sizeof_is_no_node
    -- typedef struct _A { UINT8 a { sizeof(UINT8) == 1 }; } A;
    -- 5 nodes, depth 1, weight 88
    ((struct (nm "_A" 15 17) [] (tested (little One 20 25) (nm "a" 26 27) (binary operator.Equal 44 46 (tree.Sizeof (sp 30 43) (sp 30 36) (operand.Number (number One LittleEndian)) (sp 37 42)) (written 1 47 48)) ∷ []) (nm "A" 54 55) ∷ []), (5, (1, 88))) ∷
    -- member_names_no_definition
    -- UINT8 enum E { M } casetype _C(UINT8 t) { switch (t) { case M: UINT8 a; } } C;
    -- 5 nodes, depth 1, weight 88
    ((enum_of (number_at One LittleEndian 0 5) (nm "E" 11 12) (item (nm "M" 15 16) None ∷ []) ∷ casetype (nm "_C" 28 30) (param.Value (plain.Number (number_at One LittleEndian 31 36)) (nm "t" 37 38) ∷ []) (named "t" 50 51) (case_of (constant.Named (nm "M" 60 61)) (field (little One 63 68) (nm "a" 69 70) ∷ []) ∷ []) None (nm "C" 76 77) ∷ []), (5, (1, 88))) ∷
    -- enum_is_named
    -- UINT8 enum E { M } typedef struct _S { E e; } S;
    -- 2 nodes, depth 2, weight 96
    ((enum_of (number_at One LittleEndian 0 5) (nm "E" 11 12) (item (nm "M" 15 16) None ∷ []) ∷ struct (nm "_S" 34 36) [] (field (type_at (type.Named (codes "E") []) 39 40) (nm "e" 41 42) ∷ []) (nm "S" 46 47) ∷ []), (2, (2, 96))) ∷
    -- constant_is_named
    -- #define K 1 typedef struct _S { UINT8 a { a == K }; } S;
    -- 5 nodes, depth 2, weight 88
    ((define (nm "K" 8 9) (literal 1 Decimal 10 11) ∷ struct (nm "_S" 27 29) [] (tested (little One 32 37) (nm "a" 38 39) (binary operator.Equal 44 46 (named "a" 42 43) (named "K" 47 48)) ∷ []) (nm "S" 54 55) ∷ []), (5, (2, 88))) ∷
    -- named_in_sizeof
    -- typedef UINT8 U; typedef struct _S { UINT8 a { a == sizeof(U) }; } S;
    -- 5 nodes, depth 2, weight 88
    ((alias (plain.Number (number_at One LittleEndian 8 13)) (nm "U" 14 15) ∷ struct (nm "_S" 32 34) [] (tested (little One 37 42) (nm "a" 43 44) (binary operator.Equal 49 51 (named "a" 47 48) (tree.Sizeof (sp 52 61) (sp 52 58) (operand.Name (codes "U")) (sp 59 60))) ∷ []) (nm "S" 67 68) ∷ []), (5, (2, 88))) ∷
    -- array_weighs_twice_and_64
    -- typedef struct _S { UINT8 a[4]; } S;
    -- 3 nodes, depth 1, weight 176
    ((struct (nm "_S" 15 17) [] (sized (little One 20 25) (nm "a" 26 27) (extent.Bytes (written 4 28 29)) ∷ []) (nm "S" 34 35) ∷ []), (3, (1, 176))) ∷
    -- single_element_is_an_array
    -- typedef struct _S { UINT8 a[:byte-size-single-element-array 4]; } S;
    -- 3 nodes, depth 1, weight 176
    ((struct (nm "_S" 15 17) [] (sized (little One 20 25) (nm "a" 26 27) (extent.SingleElement (written 4 60 61)) ∷ []) (nm "S" 66 67) ∷ []), (3, (1, 176))) ∷
    -- alias_weighs_what_it_names
    -- typedef UINT8 U; typedef U V;
    -- 1 nodes, depth 2, weight 64
    ((alias (plain.Number (number_at One LittleEndian 8 13)) (nm "U" 14 15) ∷ alias (plain.Named (nm "U" 25 26)) (nm "V" 27 28) ∷ []), (1, (2, 64))) ∷
    []
