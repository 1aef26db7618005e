-- Texts and their first breaches: sizes.
use Rattle.std.specs.Prelude.{true, false, List, [], ◌∷◌, Some, None, codes}
use Rattle.td_test_rows.specs.Imports.{One, Eight, LittleEndian, BigEndian, Decimal, Define, Alias, Struct, Unknown, NotReadable, Mismatch, Narrowing, NotConstant}
use Rattle.td_ast.specs.declared.expressions.BinaryOperator.TheVariants as operator
use Rattle.td_ast.specs.declared.expressions.SizeofOperand.TheVariants as operand
use Rattle.td_ast.specs.Trees as tree
use Rattle.td_ast.specs.declared.names.PlainTree.TheVariants as plain
use Rattle.td_ast.specs.declared.parameters.ParamTree.TheVariants as param
use Rattle.td_ast.specs.declared.fields.TypeKind.TheVariants as type
use Rattle.td_ast.specs.declared.fields.ExtentTree.TheVariants as extent
use Rattle.td_test_rows.specs.Rows.{Row, sp, nm, number}

abbrev pub sizes : List Row
sizes =
    -- typedef struct _A { UINT8 a { sizeof(zz) == 1 }; } A;
    -- N1 at byte 37
    ((Struct (record { entry = false; tag = (nm "_A" 15 17); head = (record { params = []; condition = None }); fields = (record { type_tree = (record { span = (sp 20 25); kind = type.Number (number One LittleEndian) }); name = (nm "a" 26 27); extent = None; refinement = (Some (tree.Binary (sp 30 45) operator.Equal (sp 41 43) (tree.Sizeof (sp 30 40) (sp 30 36) (operand.Name (codes "zz")) (sp 37 39)) (tree.Number (sp 44 45) 1 Decimal))); action = None } ∷ []); name = (nm "A" 51 52) }) ∷ []), Some (Unknown, 37)) ∷
    -- #define K 1 typedef struct _A { UINT8 a { sizeof(K) == 1 }; } A;
    -- Y1 at byte 49
    ((Define (record { name = (nm "K" 8 9); value = (record { value = 1; base = Decimal; span = (sp 10 11) }) }) ∷ Struct (record { entry = false; tag = (nm "_A" 27 29); head = (record { params = []; condition = None }); fields = (record { type_tree = (record { span = (sp 32 37); kind = type.Number (number One LittleEndian) }); name = (nm "a" 38 39); extent = None; refinement = (Some (tree.Binary (sp 42 56) operator.Equal (sp 52 54) (tree.Sizeof (sp 42 51) (sp 42 48) (operand.Name (codes "K")) (sp 49 50)) (tree.Number (sp 55 56) 1 Decimal))); action = None } ∷ []); name = (nm "A" 62 63) }) ∷ []), Some (Mismatch, 49)) ∷
    -- typedef struct _P(UINT8 n) { UINT8 q[n]; } P; typedef struct _A { UINT8 a { sizeof(P) == 1 }; } A;
    -- Y3 at byte 76
    ((Struct (record { entry = false; tag = (nm "_P" 15 17); head = (record { params = (param.Value (plain.Number (record { number = (number One LittleEndian); span = (sp 18 23) })) (nm "n" 24 25) ∷ []); condition = None }); fields = (record { type_tree = (record { span = (sp 29 34); kind = type.Number (number One LittleEndian) }); name = (nm "q" 35 36); extent = (Some (extent.Bytes (tree.Name (sp 37 38) (nm "n" 37 38)))); refinement = None; action = None } ∷ []); name = (nm "P" 43 44) }) ∷ Struct (record { entry = false; tag = (nm "_A" 61 63); head = (record { params = []; condition = None }); fields = (record { type_tree = (record { span = (sp 66 71); kind = type.Number (number One LittleEndian) }); name = (nm "a" 72 73); extent = None; refinement = (Some (tree.Binary (sp 76 90) operator.Equal (sp 86 88) (tree.Sizeof (sp 76 85) (sp 76 82) (operand.Name (codes "P")) (sp 83 84)) (tree.Number (sp 89 90) 1 Decimal))); action = None } ∷ []); name = (nm "A" 96 97) }) ∷ []), Some (NotConstant, 76)) ∷
    -- typedef struct _P(UINT8 n) { UINT8 q; } P; typedef struct _A { UINT8 a { sizeof(P) == 1 }; } A;
    -- no breach
    ((Struct (record { entry = false; tag = (nm "_P" 15 17); head = (record { params = (param.Value (plain.Number (record { number = (number One LittleEndian); span = (sp 18 23) })) (nm "n" 24 25) ∷ []); condition = None }); fields = (record { type_tree = (record { span = (sp 29 34); kind = type.Number (number One LittleEndian) }); name = (nm "q" 35 36); extent = None; refinement = None; action = None } ∷ []); name = (nm "P" 40 41) }) ∷ Struct (record { entry = false; tag = (nm "_A" 58 60); head = (record { params = []; condition = None }); fields = (record { type_tree = (record { span = (sp 63 68); kind = type.Number (number One LittleEndian) }); name = (nm "a" 69 70); extent = None; refinement = (Some (tree.Binary (sp 73 87) operator.Equal (sp 83 85) (tree.Sizeof (sp 73 82) (sp 73 79) (operand.Name (codes "P")) (sp 80 81)) (tree.Number (sp 86 87) 1 Decimal))); action = None } ∷ []); name = (nm "A" 93 94) }) ∷ []), None) ∷
    -- typedef struct _A where sizeof(this) == 1 { UINT8 a; } A;
    -- no breach
    ((Struct (record { entry = false; tag = (nm "_A" 15 17); head = (record { params = []; condition = (Some (tree.Binary (sp 24 41) operator.Equal (sp 37 39) (tree.Sizeof (sp 24 36) (sp 24 30) operand.This (sp 31 35)) (tree.Number (sp 40 41) 1 Decimal))) }); fields = (record { type_tree = (record { span = (sp 44 49); kind = type.Number (number One LittleEndian) }); name = (nm "a" 50 51); extent = None; refinement = None; action = None } ∷ []); name = (nm "A" 55 56) }) ∷ []), None) ∷
    -- typedef UINT8 U; typedef struct _A { U a[2]; } A;
    -- no breach
    ((Alias (record { target = (plain.Number (record { number = (number One LittleEndian); span = (sp 8 13) })); name = (nm "U" 14 15) }) ∷ Struct (record { entry = false; tag = (nm "_A" 32 34); head = (record { params = []; condition = None }); fields = (record { type_tree = (record { span = (sp 37 38); kind = type.Named (codes "U") [] }); name = (nm "a" 39 40); extent = (Some (extent.Bytes (tree.Number (sp 41 42) 2 Decimal))); refinement = None; action = None } ∷ []); name = (nm "A" 47 48) }) ∷ []), None) ∷
    -- typedef struct _A { UINT8BE a[2]; } A;
    -- Y1 at byte 20
    ((Struct (record { entry = false; tag = (nm "_A" 15 17); head = (record { params = []; condition = None }); fields = (record { type_tree = (record { span = (sp 20 27); kind = type.Number (number One BigEndian) }); name = (nm "a" 28 29); extent = (Some (extent.Bytes (tree.Number (sp 30 31) 2 Decimal))); refinement = None; action = None } ∷ []); name = (nm "A" 36 37) }) ∷ []), Some (Mismatch, 20)) ∷
    -- typedef struct _A { UINT8 a { a == 1 ? true : 3 }; } A;
    -- Y1 at byte 37
    ((Struct (record { entry = false; tag = (nm "_A" 15 17); head = (record { params = []; condition = None }); fields = (record { type_tree = (record { span = (sp 20 25); kind = type.Number (number One LittleEndian) }); name = (nm "a" 26 27); extent = None; refinement = (Some (tree.Choice (sp 30 47) (sp 37 38) (tree.Binary (sp 30 36) operator.Equal (sp 32 34) (tree.Name (sp 30 31) (nm "a" 30 31)) (tree.Number (sp 35 36) 1 Decimal)) (tree.Truth (sp 39 43) true) (tree.Number (sp 46 47) 3 Decimal))); action = None } ∷ []); name = (nm "A" 53 54) }) ∷ []), Some (Mismatch, 37)) ∷
    -- typedef struct _A { UINT8 a[:byte-size 3] { a == 1 }; } A;
    -- N3 at byte 26
    ((Struct (record { entry = false; tag = (nm "_A" 15 17); head = (record { params = []; condition = None }); fields = (record { type_tree = (record { span = (sp 20 25); kind = type.Number (number One LittleEndian) }); name = (nm "a" 26 27); extent = (Some (extent.ByteSize (tree.Number (sp 39 40) 3 Decimal))); refinement = (Some (tree.Binary (sp 44 50) operator.Equal (sp 46 48) (tree.Name (sp 44 45) (nm "a" 44 45)) (tree.Number (sp 49 50) 1 Decimal))); action = None } ∷ []); name = (nm "A" 56 57) }) ∷ []), Some (NotReadable, 26)) ∷
    -- typedef struct _A { UINT8 a[:byte-size 3]; UINT8 b { a == 1 }; } A;
    -- N3 at byte 53
    ((Struct (record { entry = false; tag = (nm "_A" 15 17); head = (record { params = []; condition = None }); fields = (record { type_tree = (record { span = (sp 20 25); kind = type.Number (number One LittleEndian) }); name = (nm "a" 26 27); extent = (Some (extent.ByteSize (tree.Number (sp 39 40) 3 Decimal))); refinement = None; action = None } ∷ record { type_tree = (record { span = (sp 43 48); kind = type.Number (number One LittleEndian) }); name = (nm "b" 49 50); extent = None; refinement = (Some (tree.Binary (sp 53 59) operator.Equal (sp 55 57) (tree.Name (sp 53 54) (nm "a" 53 54)) (tree.Number (sp 58 59) 1 Decimal))); action = None } ∷ []); name = (nm "A" 65 66) }) ∷ []), Some (NotReadable, 53)) ∷
    -- typedef struct _A { UINT8 a : 9; } A;
    -- Y3 at byte 30
    ((Struct (record { entry = false; tag = (nm "_A" 15 17); head = (record { params = []; condition = None }); fields = (record { type_tree = (record { span = (sp 20 25); kind = type.Number (number One LittleEndian) }); name = (nm "a" 26 27); extent = (Some (extent.Bits (record { value = 9; base = Decimal; span = (sp 30 31) }))); refinement = None; action = None } ∷ []); name = (nm "A" 35 36) }) ∷ []), Some (NotConstant, 30)) ∷
    -- typedef struct _A { unit a : 1; } A;
    -- Y1 at byte 20
    ((Struct (record { entry = false; tag = (nm "_A" 15 17); head = (record { params = []; condition = None }); fields = (record { type_tree = (record { span = (sp 20 24); kind = type.Unit }); name = (nm "a" 25 26); extent = (Some (extent.Bits (record { value = 1; base = Decimal; span = (sp 29 30) }))); refinement = None; action = None } ∷ []); name = (nm "A" 34 35) }) ∷ []), Some (Mismatch, 20)) ∷
    -- typedef struct _P(UINT8 n) { UINT8 q; } P; typedef struct _A { P(sizeof(this)) p; UINT8 big[:byte-size 254]; zz b; } A;
    -- N1 at byte 109
    ((Struct (record { entry = false; tag = (nm "_P" 15 17); head = (record { params = (param.Value (plain.Number (record { number = (number One LittleEndian); span = (sp 18 23) })) (nm "n" 24 25) ∷ []); condition = None }); fields = (record { type_tree = (record { span = (sp 29 34); kind = type.Number (number One LittleEndian) }); name = (nm "q" 35 36); extent = None; refinement = None; action = None } ∷ []); name = (nm "P" 40 41) }) ∷ Struct (record { entry = false; tag = (nm "_A" 58 60); head = (record { params = []; condition = None }); fields = (record { type_tree = (record { span = (sp 63 64); kind = type.Named (codes "P") ((tree.Sizeof (sp 65 77) (sp 65 71) operand.This (sp 72 76)) ∷ []) }); name = (nm "p" 79 80); extent = None; refinement = None; action = None } ∷ record { type_tree = (record { span = (sp 82 87); kind = type.Number (number One LittleEndian) }); name = (nm "big" 88 91); extent = (Some (extent.ByteSize (tree.Number (sp 103 106) 254 Decimal))); refinement = None; action = None } ∷ record { type_tree = (record { span = (sp 109 111); kind = type.Named (codes "zz") [] }); name = (nm "b" 112 113); extent = None; refinement = None; action = None } ∷ []); name = (nm "A" 117 118) }) ∷ []), Some (Unknown, 109)) ∷
    -- typedef struct _P(UINT8 n) { UINT8 q; } P; typedef struct _A { P(sizeof(this)) p; UINT8 big[:byte-size 255]; } A;
    -- Y2 at byte 65
    ((Struct (record { entry = false; tag = (nm "_P" 15 17); head = (record { params = (param.Value (plain.Number (record { number = (number One LittleEndian); span = (sp 18 23) })) (nm "n" 24 25) ∷ []); condition = None }); fields = (record { type_tree = (record { span = (sp 29 34); kind = type.Number (number One LittleEndian) }); name = (nm "q" 35 36); extent = None; refinement = None; action = None } ∷ []); name = (nm "P" 40 41) }) ∷ Struct (record { entry = false; tag = (nm "_A" 58 60); head = (record { params = []; condition = None }); fields = (record { type_tree = (record { span = (sp 63 64); kind = type.Named (codes "P") ((tree.Sizeof (sp 65 77) (sp 65 71) operand.This (sp 72 76)) ∷ []) }); name = (nm "p" 79 80); extent = None; refinement = None; action = None } ∷ record { type_tree = (record { span = (sp 82 87); kind = type.Number (number One LittleEndian) }); name = (nm "big" 88 91); extent = (Some (extent.ByteSize (tree.Number (sp 103 106) 255 Decimal))); refinement = None; action = None } ∷ []); name = (nm "A" 111 112) }) ∷ []), Some (Narrowing, 65)) ∷
    -- typedef struct _I { UINT8 a[4294967296]; } I; typedef struct _J { UINT64 b { b == sizeof(I) }; } J;
    -- no breach
    ((Struct (record { entry = false; tag = (nm "_I" 15 17); head = (record { params = []; condition = None }); fields = (record { type_tree = (record { span = (sp 20 25); kind = type.Number (number One LittleEndian) }); name = (nm "a" 26 27); extent = (Some (extent.Bytes (tree.Number (sp 28 38) 4294967296 Decimal))); refinement = None; action = None } ∷ []); name = (nm "I" 43 44) }) ∷ Struct (record { entry = false; tag = (nm "_J" 61 63); head = (record { params = []; condition = None }); fields = (record { type_tree = (record { span = (sp 66 72); kind = type.Number (number Eight LittleEndian) }); name = (nm "b" 73 74); extent = None; refinement = (Some (tree.Binary (sp 77 91) operator.Equal (sp 79 81) (tree.Name (sp 77 78) (nm "b" 77 78)) (tree.Sizeof (sp 82 91) (sp 82 88) (operand.Name (codes "I")) (sp 89 90)))); action = None } ∷ []); name = (nm "J" 97 98) }) ∷ []), None) ∷
    -- typedef struct _I { UINT8 a[4294967297]; } I; typedef struct _J { UINT64 b { b == sizeof(I) }; } J;
    -- Y3 at byte 82
    ((Struct (record { entry = false; tag = (nm "_I" 15 17); head = (record { params = []; condition = None }); fields = (record { type_tree = (record { span = (sp 20 25); kind = type.Number (number One LittleEndian) }); name = (nm "a" 26 27); extent = (Some (extent.Bytes (tree.Number (sp 28 38) 4294967297 Decimal))); refinement = None; action = None } ∷ []); name = (nm "I" 43 44) }) ∷ Struct (record { entry = false; tag = (nm "_J" 61 63); head = (record { params = []; condition = None }); fields = (record { type_tree = (record { span = (sp 66 72); kind = type.Number (number Eight LittleEndian) }); name = (nm "b" 73 74); extent = None; refinement = (Some (tree.Binary (sp 77 91) operator.Equal (sp 79 81) (tree.Name (sp 77 78) (nm "b" 77 78)) (tree.Sizeof (sp 82 91) (sp 82 88) (operand.Name (codes "I")) (sp 89 90)))); action = None } ∷ []); name = (nm "J" 97 98) }) ∷ []), Some (NotConstant, 82)) ∷
    -- typedef struct _A { UINT8 a[true]; } A;
    -- Y1 at byte 28
    ((Struct (record { entry = false; tag = (nm "_A" 15 17); head = (record { params = []; condition = None }); fields = (record { type_tree = (record { span = (sp 20 25); kind = type.Number (number One LittleEndian) }); name = (nm "a" 26 27); extent = (Some (extent.Bytes (tree.Truth (sp 28 32) true))); refinement = None; action = None } ∷ []); name = (nm "A" 37 38) }) ∷ []), Some (Mismatch, 28)) ∷
    -- typedef struct _Q(UINT8 n) { UINT8 z[:byte-size 200]; } Q; typedef struct _P(UINT8 n) { UINT8 q; } P; typedef struct _A { P(sizeof(this)) p; Q(1, 2) q; Q(1) r; } A;
    -- Y2 at byte 124
    ((Struct (record { entry = false; tag = (nm "_Q" 15 17); head = (record { params = (param.Value (plain.Number (record { number = (number One LittleEndian); span = (sp 18 23) })) (nm "n" 24 25) ∷ []); condition = None }); fields = (record { type_tree = (record { span = (sp 29 34); kind = type.Number (number One LittleEndian) }); name = (nm "z" 35 36); extent = (Some (extent.ByteSize (tree.Number (sp 48 51) 200 Decimal))); refinement = None; action = None } ∷ []); name = (nm "Q" 56 57) }) ∷ Struct (record { entry = false; tag = (nm "_P" 74 76); head = (record { params = (param.Value (plain.Number (record { number = (number One LittleEndian); span = (sp 77 82) })) (nm "n" 83 84) ∷ []); condition = None }); fields = (record { type_tree = (record { span = (sp 88 93); kind = type.Number (number One LittleEndian) }); name = (nm "q" 94 95); extent = None; refinement = None; action = None } ∷ []); name = (nm "P" 99 100) }) ∷ Struct (record { entry = false; tag = (nm "_A" 117 119); head = (record { params = []; condition = None }); fields = (record { type_tree = (record { span = (sp 122 123); kind = type.Named (codes "P") ((tree.Sizeof (sp 124 136) (sp 124 130) operand.This (sp 131 135)) ∷ []) }); name = (nm "p" 138 139); extent = None; refinement = None; action = None } ∷ record { type_tree = (record { span = (sp 141 142); kind = type.Named (codes "Q") ((tree.Number (sp 143 144) 1 Decimal) ∷ (tree.Number (sp 146 147) 2 Decimal) ∷ []) }); name = (nm "q" 149 150); extent = None; refinement = None; action = None } ∷ record { type_tree = (record { span = (sp 152 153); kind = type.Named (codes "Q") ((tree.Number (sp 154 155) 1 Decimal) ∷ []) }); name = (nm "r" 157 158); extent = None; refinement = None; action = None } ∷ []); name = (nm "A" 162 163) }) ∷ []), Some (Narrowing, 124)) ∷
    -- typedef struct _A { UINT8 x; UINT8 y; UINT8 a { a > (x == 1 ? x < y : 3) }; } A;
    -- Y1 at byte 60
    ((Struct (record { entry = false; tag = (nm "_A" 15 17); head = (record { params = []; condition = None }); fields = (record { type_tree = (record { span = (sp 20 25); kind = type.Number (number One LittleEndian) }); name = (nm "x" 26 27); extent = None; refinement = None; action = None } ∷ record { type_tree = (record { span = (sp 29 34); kind = type.Number (number One LittleEndian) }); name = (nm "y" 35 36); extent = None; refinement = None; action = None } ∷ record { type_tree = (record { span = (sp 38 43); kind = type.Number (number One LittleEndian) }); name = (nm "a" 44 45); extent = None; refinement = (Some (tree.Binary (sp 48 72) operator.Greater (sp 50 51) (tree.Name (sp 48 49) (nm "a" 48 49)) (tree.Choice (sp 52 72) (sp 60 61) (tree.Binary (sp 53 59) operator.Equal (sp 55 57) (tree.Name (sp 53 54) (nm "x" 53 54)) (tree.Number (sp 58 59) 1 Decimal)) (tree.Binary (sp 62 67) operator.Less (sp 64 65) (tree.Name (sp 62 63) (nm "x" 62 63)) (tree.Name (sp 66 67) (nm "y" 66 67))) (tree.Number (sp 70 71) 3 Decimal)))); action = None } ∷ []); name = (nm "A" 78 79) }) ∷ []), Some (Mismatch, 60)) ∷
    []
