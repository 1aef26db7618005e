-- Texts and their first breaches: parameters.
use Rattle.std.specs.Prelude.{false, List, [], ◌∷◌, Some, None, codes}
use Rattle.td_test_rows.specs.Imports.{One, Two, LittleEndian, BigEndian, Decimal, Define, Alias, Struct, Output, Unknown, Twice, WrongArgs, Mismatch}
use Rattle.td_ast.specs.declared.expressions.BinaryOperator.TheVariants as operator
use Rattle.td_ast.specs.Trees as tree
use Rattle.td_ast.specs.declared.names.PlainTree.TheVariants as plain
use Rattle.td_ast.specs.declared.parameters.TargetTree.TheVariants as target
use Rattle.td_ast.specs.declared.parameters.ParamTree.TheVariants as param
use Rattle.td_ast.specs.declared.fields.TypeKind.TheVariants as type
use Rattle.td_ast.specs.declared.definitions.SlotKind.TheVariants as slot
use Rattle.td_test_rows.specs.Rows.{Row, sp, nm, number}

abbrev pub parameters : List Row
parameters =
    -- typedef struct _P(mutable UINT8 *p) { UINT8 a; } P; typedef struct _A { P(zz) d; } A;
    -- N4 at byte 72
    ((Struct (record { entry = false; tag = (nm "_P" 15 17); head = (record { params = (param.Mutable (target.Number (record { number = (number One LittleEndian); span = (sp 26 31) })) (nm "p" 33 34) ∷ []); condition = None }); fields = (record { type_tree = (record { span = (sp 38 43); kind = type.Number (number One LittleEndian) }); name = (nm "a" 44 45); extent = None; refinement = None; action = None } ∷ []); name = (nm "P" 49 50) }) ∷ Struct (record { entry = false; tag = (nm "_A" 67 69); head = (record { params = []; condition = None }); fields = (record { type_tree = (record { span = (sp 72 73); kind = type.Named (codes "P") ((tree.Name (sp 74 76) (nm "zz" 74 76)) ∷ []) }); name = (nm "d" 78 79); extent = None; refinement = None; action = None } ∷ []); name = (nm "A" 83 84) }) ∷ []), Some (WrongArgs, 72)) ∷
    -- typedef struct _P(UINT8 p) { UINT8 a; } P; typedef struct _A { P(zz) d; } A;
    -- N1 at byte 65
    ((Struct (record { entry = false; tag = (nm "_P" 15 17); head = (record { params = (param.Value (plain.Number (record { number = (number One LittleEndian); span = (sp 18 23) })) (nm "p" 24 25) ∷ []); condition = None }); fields = (record { type_tree = (record { span = (sp 29 34); kind = type.Number (number One LittleEndian) }); name = (nm "a" 35 36); extent = None; refinement = None; action = None } ∷ []); name = (nm "P" 40 41) }) ∷ Struct (record { entry = false; tag = (nm "_A" 58 60); head = (record { params = []; condition = None }); fields = (record { type_tree = (record { span = (sp 63 64); kind = type.Named (codes "P") ((tree.Name (sp 65 67) (nm "zz" 65 67)) ∷ []) }); name = (nm "d" 69 70); extent = None; refinement = None; action = None } ∷ []); name = (nm "A" 74 75) }) ∷ []), Some (Unknown, 65)) ∷
    -- output typedef struct _O { UINT8 x; } O; typedef O R;
    -- Y1 at byte 49
    ((Output (record { tag = (nm "_O" 22 24); slots = (record { kind = slot.Number (record { number = (number One LittleEndian); span = (sp 27 32) }); name = (nm "x" 33 34) } ∷ []); name = (nm "O" 38 39) }) ∷ Alias (record { target = (plain.Named (nm "O" 49 50)); name = (nm "R" 51 52) }) ∷ []), Some (Mismatch, 49)) ∷
    -- typedef struct _P(UINT8 n) { UINT8 q; } P; typedef P R;
    -- Y1 at byte 51
    ((Struct (record { entry = false; tag = (nm "_P" 15 17); head = (record { params = (param.Value (plain.Number (record { number = (number One LittleEndian); span = (sp 18 23) })) (nm "n" 24 25) ∷ []); condition = None }); fields = (record { type_tree = (record { span = (sp 29 34); kind = type.Number (number One LittleEndian) }); name = (nm "q" 35 36); extent = None; refinement = None; action = None } ∷ []); name = (nm "P" 40 41) }) ∷ Alias (record { target = (plain.Named (nm "P" 51 52)); name = (nm "R" 53 54) }) ∷ []), Some (Mismatch, 51)) ∷
    -- typedef struct _P(mutable UINT16 *p) { UINT8 a; } P; typedef struct _A(mutable UINT16BE *q) { P(q) d; } A;
    -- N4 at byte 94
    ((Struct (record { entry = false; tag = (nm "_P" 15 17); head = (record { params = (param.Mutable (target.Number (record { number = (number Two LittleEndian); span = (sp 26 32) })) (nm "p" 34 35) ∷ []); condition = None }); fields = (record { type_tree = (record { span = (sp 39 44); kind = type.Number (number One LittleEndian) }); name = (nm "a" 45 46); extent = None; refinement = None; action = None } ∷ []); name = (nm "P" 50 51) }) ∷ Struct (record { entry = false; tag = (nm "_A" 68 70); head = (record { params = (param.Mutable (target.Number (record { number = (number Two BigEndian); span = (sp 79 87) })) (nm "q" 89 90) ∷ []); condition = None }); fields = (record { type_tree = (record { span = (sp 94 95); kind = type.Named (codes "P") ((tree.Name (sp 96 97) (nm "q" 96 97)) ∷ []) }); name = (nm "d" 99 100); extent = None; refinement = None; action = None } ∷ []); name = (nm "A" 104 105) }) ∷ []), Some (WrongArgs, 94)) ∷
    -- typedef struct _P(mutable UINT16 *p) { UINT8 a; } P; typedef struct _A(mutable UINT16 *q) { P((q)) d; } A;
    -- no breach
    ((Struct (record { entry = false; tag = (nm "_P" 15 17); head = (record { params = (param.Mutable (target.Number (record { number = (number Two LittleEndian); span = (sp 26 32) })) (nm "p" 34 35) ∷ []); condition = None }); fields = (record { type_tree = (record { span = (sp 39 44); kind = type.Number (number One LittleEndian) }); name = (nm "a" 45 46); extent = None; refinement = None; action = None } ∷ []); name = (nm "P" 50 51) }) ∷ Struct (record { entry = false; tag = (nm "_A" 68 70); head = (record { params = (param.Mutable (target.Number (record { number = (number Two LittleEndian); span = (sp 79 85) })) (nm "q" 87 88) ∷ []); condition = None }); fields = (record { type_tree = (record { span = (sp 92 93); kind = type.Named (codes "P") ((tree.Name (sp 94 97) (nm "q" 95 96)) ∷ []) }); name = (nm "d" 99 100); extent = None; refinement = None; action = None } ∷ []); name = (nm "A" 104 105) }) ∷ []), None) ∷
    -- output typedef struct _O { UINT8 x; } O; typedef struct _A(mutable O *r) { UINT8 a { r == 1 }; } A;
    -- Y1 at byte 85
    ((Output (record { tag = (nm "_O" 22 24); slots = (record { kind = slot.Number (record { number = (number One LittleEndian); span = (sp 27 32) }); name = (nm "x" 33 34) } ∷ []); name = (nm "O" 38 39) }) ∷ Struct (record { entry = false; tag = (nm "_A" 56 58); head = (record { params = (param.Mutable (target.Named (nm "O" 67 68)) (nm "r" 70 71) ∷ []); condition = None }); fields = (record { type_tree = (record { span = (sp 75 80); kind = type.Number (number One LittleEndian) }); name = (nm "a" 81 82); extent = None; refinement = (Some (tree.Binary (sp 85 91) operator.Equal (sp 87 89) (tree.Name (sp 85 86) (nm "r" 85 86)) (tree.Number (sp 90 91) 1 Decimal))); action = None } ∷ []); name = (nm "A" 97 98) }) ∷ []), Some (Mismatch, 85)) ∷
    -- output typedef struct _O { UINT8 x; } O; typedef struct _A { O a; } A;
    -- Y1 at byte 61
    ((Output (record { tag = (nm "_O" 22 24); slots = (record { kind = slot.Number (record { number = (number One LittleEndian); span = (sp 27 32) }); name = (nm "x" 33 34) } ∷ []); name = (nm "O" 38 39) }) ∷ Struct (record { entry = false; tag = (nm "_A" 56 58); head = (record { params = []; condition = None }); fields = (record { type_tree = (record { span = (sp 61 62); kind = type.Named (codes "O") [] }); name = (nm "a" 63 64); extent = None; refinement = None; action = None } ∷ []); name = (nm "A" 68 69) }) ∷ []), Some (Mismatch, 61)) ∷
    -- typedef UINT8 U; typedef struct _A(UINT8 U, U x) { UINT8 a; } A;
    -- Y1 at byte 44
    ((Alias (record { target = (plain.Number (record { number = (number One LittleEndian); span = (sp 8 13) })); name = (nm "U" 14 15) }) ∷ Struct (record { entry = false; tag = (nm "_A" 32 34); head = (record { params = (param.Value (plain.Number (record { number = (number One LittleEndian); span = (sp 35 40) })) (nm "U" 41 42) ∷ param.Value (plain.Named (nm "U" 44 45)) (nm "x" 46 47) ∷ []); condition = None }); fields = (record { type_tree = (record { span = (sp 51 56); kind = type.Number (number One LittleEndian) }); name = (nm "a" 57 58); extent = None; refinement = None; action = None } ∷ []); name = (nm "A" 62 63) }) ∷ []), Some (Mismatch, 44)) ∷
    -- #define x 1 output typedef struct _O { UINT8 x; } O;
    -- N2 at byte 45
    ((Define (record { name = (nm "x" 8 9); value = (record { value = 1; base = Decimal; span = (sp 10 11) }) }) ∷ Output (record { tag = (nm "_O" 34 36); slots = (record { kind = slot.Number (record { number = (number One LittleEndian); span = (sp 39 44) }); name = (nm "x" 45 46) } ∷ []); name = (nm "O" 50 51) }) ∷ []), Some (Twice, 45)) ∷
    []
