-- Texts and their first breaches: copy buffers and copied fields.
use Rattle.std.specs.Prelude.{List, [], ◌∷◌, Some, None, codes}
use Rattle.td_test_rows.specs.Imports.{One, Two, LittleEndian, Decimal, Value, Act, Unknown, Twice, WrongArgs, Mismatch, Narrowing, NotConstant, BadAction}
use Rattle.td_ast.specs.declared.expressions.BinaryOperator.TheVariants as operator
use Rattle.td_ast.specs.Statements.{Store}
use Rattle.td_ast.specs.declared.names.ConstTree.TheVariants as constant
use Rattle.td_ast.specs.declared.names.PlainTree.TheVariants as plain
use Rattle.td_ast.specs.declared.parameters.TargetTree.TheVariants as target
use Rattle.td_ast.specs.declared.parameters.ParamTree.TheVariants as param
use Rattle.td_ast.specs.declared.fields.TypeKind.TheVariants as type
use Rattle.td_ast.specs.declared.fields.ExtentTree.TheVariants as extent
use Rattle.td_test_rows.specs.Rows.{Row, sp, nm}
use Rattle.td_test_rows.specs.Findings.{RoomRow}
use Rattle.td_test_rows.specs.Makers.{literal, number_at, written, named, binary, type_at, little, big, action, copy, whole_field, alias, struct}

abbrev pub copies : List Row
copies =
    -- typedef struct _C(mutable UINT8 *b[8]) { UINT8 d[2] {:copy b}; } C;
    -- no breach
    (struct (nm "_C" 15 17) (param.Bytes (nm "b" 33 34) (constant.Number (literal 8 Decimal 35 36)) ∷ []) (whole_field (little One 41 46) (nm "d" 47 48) (Some (extent.Bytes (written 2 49 50))) None (Some (copy 52 58 (nm "b" 59 60))) ∷ []) (nm "C" 65 66) ∷ [], None) ∷
    -- typedef struct _C(mutable UINT8 *b[65536]) { UINT8 d[:byte-size 2] {:copy b}; } C;
    -- no breach
    (struct (nm "_C" 15 17) (param.Bytes (nm "b" 33 34) (constant.Number (literal 65536 Decimal 35 40)) ∷ []) (whole_field (little One 45 50) (nm "d" 51 52) (Some (extent.ByteSize (written 2 64 65))) None (Some (copy 67 73 (nm "b" 74 75))) ∷ []) (nm "C" 80 81) ∷ [], None) ∷
    -- typedef struct _C(mutable UINT8 *b[0]) { UINT8 a; } C;
    -- Y2 at byte 35
    (struct (nm "_C" 15 17) (param.Bytes (nm "b" 33 34) (constant.Number (literal 0 Decimal 35 36)) ∷ []) (whole_field (little One 41 46) (nm "a" 47 48) None None None ∷ []) (nm "C" 52 53) ∷ [], Some (Narrowing, 35)) ∷
    -- typedef struct _C(mutable UINT8 *b[65537]) { UINT8 a; } C;
    -- Y2 at byte 35
    (struct (nm "_C" 15 17) (param.Bytes (nm "b" 33 34) (constant.Number (literal 65537 Decimal 35 40)) ∷ []) (whole_field (little One 45 50) (nm "a" 51 52) None None None ∷ []) (nm "C" 56 57) ∷ [], Some (Narrowing, 35)) ∷
    -- typedef struct _C(mutable UINT8 *b[zz]) { UINT8 a; } C;
    -- N1 at byte 35
    (struct (nm "_C" 15 17) (param.Bytes (nm "b" 33 34) (constant.Named (nm "zz" 35 37)) ∷ []) (whole_field (little One 42 47) (nm "a" 48 49) None None None ∷ []) (nm "C" 53 54) ∷ [], Some (Unknown, 35)) ∷
    -- typedef struct _C(mutable UINT8 *b[b]) { UINT8 a; } C;
    -- N1 at byte 35
    (struct (nm "_C" 15 17) (param.Bytes (nm "b" 33 34) (constant.Named (nm "b" 35 36)) ∷ []) (whole_field (little One 41 46) (nm "a" 47 48) None None None ∷ []) (nm "C" 52 53) ∷ [], Some (Unknown, 35)) ∷
    -- typedef struct _C(UINT8 n, mutable UINT8 *b[n]) { UINT8 a; } C;
    -- Y3 at byte 44
    (struct (nm "_C" 15 17) (param.Value (plain.Number (number_at One LittleEndian 18 23)) (nm "n" 24 25) ∷ param.Bytes (nm "b" 42 43) (constant.Named (nm "n" 44 45)) ∷ []) (whole_field (little One 50 55) (nm "a" 56 57) None None None ∷ []) (nm "C" 61 62) ∷ [], Some (NotConstant, 44)) ∷
    -- typedef struct _C(mutable UINT8 *b[8], mutable UINT8 *b[8]) { UINT8 a; } C;
    -- N2 at byte 54
    (struct (nm "_C" 15 17) (param.Bytes (nm "b" 33 34) (constant.Number (literal 8 Decimal 35 36)) ∷ param.Bytes (nm "b" 54 55) (constant.Number (literal 8 Decimal 56 57)) ∷ []) (whole_field (little One 62 67) (nm "a" 68 69) None None None ∷ []) (nm "C" 73 74) ∷ [], Some (Twice, 54)) ∷
    -- typedef struct _C(mutable UINT8 *b[8]) { UINT16 d[:byte-size 2] {:copy b}; } C;
    -- Y4 at byte 64
    (struct (nm "_C" 15 17) (param.Bytes (nm "b" 33 34) (constant.Number (literal 8 Decimal 35 36)) ∷ []) (whole_field (little Two 41 47) (nm "d" 48 49) (Some (extent.ByteSize (written 2 61 62))) None (Some (copy 64 70 (nm "b" 71 72))) ∷ []) (nm "C" 77 78) ∷ [], Some (BadAction, 64)) ∷
    -- typedef struct _C(mutable UINT8 *b[8]) { UINT8BE d[:byte-size 2] {:copy b}; } C;
    -- Y4 at byte 65
    (struct (nm "_C" 15 17) (param.Bytes (nm "b" 33 34) (constant.Number (literal 8 Decimal 35 36)) ∷ []) (whole_field (big One 41 48) (nm "d" 49 50) (Some (extent.ByteSize (written 2 62 63))) None (Some (copy 65 71 (nm "b" 72 73))) ∷ []) (nm "C" 78 79) ∷ [], Some (BadAction, 65)) ∷
    -- typedef struct _C(mutable UINT8 *b[8]) { UINT8 d {:copy b}; } C;
    -- Y4 at byte 49
    (struct (nm "_C" 15 17) (param.Bytes (nm "b" 33 34) (constant.Number (literal 8 Decimal 35 36)) ∷ []) (whole_field (little One 41 46) (nm "d" 47 48) None None (Some (copy 49 55 (nm "b" 56 57))) ∷ []) (nm "C" 62 63) ∷ [], Some (BadAction, 49)) ∷
    -- typedef struct _C(mutable UINT8 *b[8]) { UINT8 d[:byte-size-single-element-array 1] {:copy b}; } C;
    -- Y4 at byte 84
    (struct (nm "_C" 15 17) (param.Bytes (nm "b" 33 34) (constant.Number (literal 8 Decimal 35 36)) ∷ []) (whole_field (little One 41 46) (nm "d" 47 48) (Some (extent.SingleElement (written 1 81 82))) None (Some (copy 84 90 (nm "b" 91 92))) ∷ []) (nm "C" 97 98) ∷ [], Some (BadAction, 84)) ∷
    -- typedef UINT8 U; typedef struct _C(mutable UINT8 *b[8]) { U d[2] {:copy b}; } C;
    -- no breach
    (alias (plain.Number (number_at One LittleEndian 8 13)) (nm "U" 14 15) ∷ struct (nm "_C" 32 34) (param.Bytes (nm "b" 50 51) (constant.Number (literal 8 Decimal 52 53)) ∷ []) (whole_field (type_at (type.Named (codes "U") []) 58 59) (nm "d" 60 61) (Some (extent.Bytes (written 2 62 63))) None (Some (copy 65 71 (nm "b" 72 73))) ∷ []) (nm "C" 78 79) ∷ [], None) ∷
    -- typedef struct _C(mutable UINT8 *b[8]) { UINT8 d[2] {:copy zz}; } C;
    -- N1 at byte 59
    (struct (nm "_C" 15 17) (param.Bytes (nm "b" 33 34) (constant.Number (literal 8 Decimal 35 36)) ∷ []) (whole_field (little One 41 46) (nm "d" 47 48) (Some (extent.Bytes (written 2 49 50))) None (Some (copy 52 58 (nm "zz" 59 61))) ∷ []) (nm "C" 66 67) ∷ [], Some (Unknown, 59)) ∷
    -- typedef struct _C(mutable UINT8 *b[8]) { UINT8 d[2] {:copy d}; } C;
    -- N4 at byte 59
    (struct (nm "_C" 15 17) (param.Bytes (nm "b" 33 34) (constant.Number (literal 8 Decimal 35 36)) ∷ []) (whole_field (little One 41 46) (nm "d" 47 48) (Some (extent.Bytes (written 2 49 50))) None (Some (copy 52 58 (nm "d" 59 60))) ∷ []) (nm "C" 65 66) ∷ [], Some (WrongArgs, 59)) ∷
    -- typedef struct _C(mutable UINT8 *p) { UINT8 d[2] {:copy p}; } C;
    -- N4 at byte 56
    (struct (nm "_C" 15 17) (param.Mutable (target.Number (number_at One LittleEndian 26 31)) (nm "p" 33 34) ∷ []) (whole_field (little One 38 43) (nm "d" 44 45) (Some (extent.Bytes (written 2 46 47))) None (Some (copy 49 55 (nm "p" 56 57))) ∷ []) (nm "C" 62 63) ∷ [], Some (WrongArgs, 56)) ∷
    -- typedef struct _C(mutable UINT8 *b[8]) { UINT8 d[2] {:copy b}; UINT8 a {:act *b = 1;}; } C;
    -- N4 at byte 78
    (struct (nm "_C" 15 17) (param.Bytes (nm "b" 33 34) (constant.Number (literal 8 Decimal 35 36)) ∷ []) (whole_field (little One 41 46) (nm "d" 47 48) (Some (extent.Bytes (written 2 49 50))) None (Some (copy 52 58 (nm "b" 59 60))) ∷ whole_field (little One 63 68) (nm "a" 69 70) None None (Some (action Act 71 76 (Store (sp 77 84) (nm "b" 78 79) (Value (written 1 82 83)) ∷ []))) ∷ []) (nm "C" 89 90) ∷ [], Some (WrongArgs, 78)) ∷
    -- typedef struct _C(mutable UINT8 *b[8]) { UINT8 a { a == b }; } C;
    -- Y1 at byte 56
    (struct (nm "_C" 15 17) (param.Bytes (nm "b" 33 34) (constant.Number (literal 8 Decimal 35 36)) ∷ []) (whole_field (little One 41 46) (nm "a" 47 48) None (Some (binary operator.Equal 53 55 (named "a" 51 52) (named "b" 56 57))) None ∷ []) (nm "C" 63 64) ∷ [], Some (Mismatch, 56)) ∷
    -- typedef struct _I(mutable UINT8 *b[8]) { UINT8 d[2] {:copy b}; } I; typedef struct _C(mutable UINT8 *c[8]) { I(c) i; } C;
    -- no breach
    (struct (nm "_I" 15 17) (param.Bytes (nm "b" 33 34) (constant.Number (literal 8 Decimal 35 36)) ∷ []) (whole_field (little One 41 46) (nm "d" 47 48) (Some (extent.Bytes (written 2 49 50))) None (Some (copy 52 58 (nm "b" 59 60))) ∷ []) (nm "I" 65 66) ∷ struct (nm "_C" 83 85) (param.Bytes (nm "c" 101 102) (constant.Number (literal 8 Decimal 103 104)) ∷ []) (whole_field (type_at (type.Named (codes "I") ((named "c" 111 112) ∷ [])) 109 110) (nm "i" 114 115) None None None ∷ []) (nm "C" 119 120) ∷ [], None) ∷
    -- typedef struct _I(mutable UINT8 *b[8]) { UINT8 d[2] {:copy b}; } I; typedef struct _C(mutable UINT8 *c[4]) { I(c) i; } C;
    -- N4 at byte 109
    (struct (nm "_I" 15 17) (param.Bytes (nm "b" 33 34) (constant.Number (literal 8 Decimal 35 36)) ∷ []) (whole_field (little One 41 46) (nm "d" 47 48) (Some (extent.Bytes (written 2 49 50))) None (Some (copy 52 58 (nm "b" 59 60))) ∷ []) (nm "I" 65 66) ∷ struct (nm "_C" 83 85) (param.Bytes (nm "c" 101 102) (constant.Number (literal 4 Decimal 103 104)) ∷ []) (whole_field (type_at (type.Named (codes "I") ((named "c" 111 112) ∷ [])) 109 110) (nm "i" 114 115) None None None ∷ []) (nm "C" 119 120) ∷ [], Some (WrongArgs, 109)) ∷
    -- typedef struct _I(mutable UINT8 *b[8]) { UINT8 d[2] {:copy b}; } I; typedef struct _C(mutable UINT8 *c) { I(c) i; } C;
    -- N4 at byte 106
    (struct (nm "_I" 15 17) (param.Bytes (nm "b" 33 34) (constant.Number (literal 8 Decimal 35 36)) ∷ []) (whole_field (little One 41 46) (nm "d" 47 48) (Some (extent.Bytes (written 2 49 50))) None (Some (copy 52 58 (nm "b" 59 60))) ∷ []) (nm "I" 65 66) ∷ struct (nm "_C" 83 85) (param.Mutable (target.Number (number_at One LittleEndian 94 99)) (nm "c" 101 102) ∷ []) (whole_field (type_at (type.Named (codes "I") ((named "c" 108 109) ∷ [])) 106 107) (nm "i" 111 112) None None None ∷ []) (nm "C" 116 117) ∷ [], Some (WrongArgs, 106)) ∷
    -- typedef struct _I(mutable UINT8 *p) { UINT8 a; } I; typedef struct _C(mutable UINT8 *c[8]) { I(c) i; } C;
    -- N4 at byte 93
    (struct (nm "_I" 15 17) (param.Mutable (target.Number (number_at One LittleEndian 26 31)) (nm "p" 33 34) ∷ []) (whole_field (little One 38 43) (nm "a" 44 45) None None None ∷ []) (nm "I" 49 50) ∷ struct (nm "_C" 67 69) (param.Bytes (nm "c" 85 86) (constant.Number (literal 8 Decimal 87 88)) ∷ []) (whole_field (type_at (type.Named (codes "I") ((named "c" 95 96) ∷ [])) 93 94) (nm "i" 98 99) None None None ∷ []) (nm "C" 103 104) ∷ [], Some (WrongArgs, 93)) ∷
    []

abbrev pub rooms : List RoomRow
rooms =
    -- typedef struct _C(mutable UINT8 *b[8]) { UINT8 n; UINT8 d[n] {:copy b}; } C;
    -- A2 at byte 61
    (struct (nm "_C" 15 17) (param.Bytes (nm "b" 33 34) (constant.Number (literal 8 Decimal 35 36)) ∷ []) (whole_field (little One 41 46) (nm "n" 47 48) None None None ∷ whole_field (little One 50 55) (nm "d" 56 57) (Some (extent.Bytes (named "n" 58 59))) None (Some (copy 61 67 (nm "b" 68 69))) ∷ []) (nm "C" 74 75) ∷ [], Some 61) ∷
    -- typedef struct _C(mutable UINT8 *b[8]) { UINT8 n { n <= 8 }; UINT8 d[n] {:copy b}; } C;
    -- no copy lacks room
    (struct (nm "_C" 15 17) (param.Bytes (nm "b" 33 34) (constant.Number (literal 8 Decimal 35 36)) ∷ []) (whole_field (little One 41 46) (nm "n" 47 48) None (Some (binary operator.LessEqual 53 55 (named "n" 51 52) (written 8 56 57))) None ∷ whole_field (little One 61 66) (nm "d" 67 68) (Some (extent.Bytes (named "n" 69 70))) None (Some (copy 72 78 (nm "b" 79 80))) ∷ []) (nm "C" 85 86) ∷ [], None) ∷
    -- typedef struct _C(mutable UINT8 *b[8]) { UINT8 d[8] {:copy b}; } C;
    -- no copy lacks room
    (struct (nm "_C" 15 17) (param.Bytes (nm "b" 33 34) (constant.Number (literal 8 Decimal 35 36)) ∷ []) (whole_field (little One 41 46) (nm "d" 47 48) (Some (extent.Bytes (written 8 49 50))) None (Some (copy 52 58 (nm "b" 59 60))) ∷ []) (nm "C" 65 66) ∷ [], None) ∷
    -- typedef struct _C(mutable UINT8 *b[8]) { UINT8 d[9] {:copy b}; } C;
    -- A2 at byte 52
    (struct (nm "_C" 15 17) (param.Bytes (nm "b" 33 34) (constant.Number (literal 8 Decimal 35 36)) ∷ []) (whole_field (little One 41 46) (nm "d" 47 48) (Some (extent.Bytes (written 9 49 50))) None (Some (copy 52 58 (nm "b" 59 60))) ∷ []) (nm "C" 65 66) ∷ [], Some 52) ∷
    []
