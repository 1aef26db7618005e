-- Texts and their first breaches: actions.
use Rattle.std.specs.Prelude.{true, false, List, [], ◌∷◌, Some, None}
use Rattle.td_test_rows.specs.Imports.{One, Two, LittleEndian, Decimal, Value, FieldPtr, Act, Check, OnSuccess, Done, Struct, Casetype, Output, Unknown, Twice, WrongArgs, Mismatch, Narrowing, BadAction}
use Rattle.td_ast.specs.declared.expressions.BinaryOperator.TheVariants as operator
use Rattle.td_ast.specs.declared.expressions.SizeofOperand.TheVariants as operand
use Rattle.td_ast.specs.Trees as tree
use Rattle.td_ast.specs.Statements.{Store, StoreField, Var, If, IfElse, Return, Abort, block_of}
use Rattle.td_ast.specs.declared.names.ConstTree.TheVariants as constant
use Rattle.td_ast.specs.declared.names.PlainTree.TheVariants as plain
use Rattle.td_ast.specs.declared.parameters.TargetTree.TheVariants as target
use Rattle.td_ast.specs.declared.parameters.ParamTree.TheVariants as param
use Rattle.td_ast.specs.declared.fields.TypeKind.TheVariants as type
use Rattle.td_ast.specs.declared.fields.ExtentTree.TheVariants as extent
use Rattle.td_ast.specs.declared.definitions.SlotKind.TheVariants as slot
use Rattle.td_test_rows.specs.Rows.{Row, sp, nm, number}

abbrev pub actions : List Row
actions =
    -- typedef struct _A(mutable PUINT8 *p) { UINT8 a {:act var x = *p;}; } A;
    -- Y1 at byte 61
    ((Struct (record { entry = false; tag = (nm "_A" 15 17); head = (record { params = (param.Mutable (target.Pointer (sp 26 32)) (nm "p" 34 35) ∷ []); condition = None }); fields = (record { type_tree = (record { span = (sp 39 44); kind = type.Number (number One LittleEndian) }); name = (nm "a" 45 46); extent = None; refinement = None; action = (Some (Done Act (sp 47 52) (Var (sp 53 64) (nm "x" 57 58) (sp 61 62) (nm "p" 62 63) ∷ []))) } ∷ []); name = (nm "A" 69 70) }) ∷ []), Some (Mismatch, 61)) ∷
    -- typedef struct _A(UINT8 p) { UINT8 a {:act *p = 1;}; } A;
    -- N4 at byte 44
    ((Struct (record { entry = false; tag = (nm "_A" 15 17); head = (record { params = (param.Value (plain.Number (record { number = (number One LittleEndian); span = (sp 18 23) })) (nm "p" 24 25) ∷ []); condition = None }); fields = (record { type_tree = (record { span = (sp 29 34); kind = type.Number (number One LittleEndian) }); name = (nm "a" 35 36); extent = None; refinement = None; action = (Some (Done Act (sp 37 42) (Store (sp 43 50) (nm "p" 44 45) (Value (tree.Number (sp 48 49) 1 Decimal)) ∷ []))) } ∷ []); name = (nm "A" 55 56) }) ∷ []), Some (WrongArgs, 44)) ∷
    -- typedef struct _A { UINT8 a {:act *p = 1;}; } A;
    -- N1 at byte 35
    ((Struct (record { entry = false; tag = (nm "_A" 15 17); head = (record { params = []; condition = None }); fields = (record { type_tree = (record { span = (sp 20 25); kind = type.Number (number One LittleEndian) }); name = (nm "a" 26 27); extent = None; refinement = None; action = (Some (Done Act (sp 28 33) (Store (sp 34 41) (nm "p" 35 36) (Value (tree.Number (sp 39 40) 1 Decimal)) ∷ []))) } ∷ []); name = (nm "A" 46 47) }) ∷ []), Some (Unknown, 35)) ∷
    -- typedef struct _A(mutable UINT8 *p) { UINT8 a {:act *p = 256 - 255;}; } A;
    -- Y2 at byte 57
    ((Struct (record { entry = false; tag = (nm "_A" 15 17); head = (record { params = (param.Mutable (target.Number (record { number = (number One LittleEndian); span = (sp 26 31) })) (nm "p" 33 34) ∷ []); condition = None }); fields = (record { type_tree = (record { span = (sp 38 43); kind = type.Number (number One LittleEndian) }); name = (nm "a" 44 45); extent = None; refinement = None; action = (Some (Done Act (sp 46 51) (Store (sp 52 67) (nm "p" 53 54) (Value (tree.Binary (sp 57 66) operator.Subtract (sp 61 62) (tree.Number (sp 57 60) 256 Decimal) (tree.Number (sp 63 66) 255 Decimal))) ∷ []))) } ∷ []); name = (nm "A" 72 73) }) ∷ []), Some (Narrowing, 57)) ∷
    -- typedef struct _A(mutable UINT8 *p) { UINT16 a : 4 {:act *p = a;}; } A;
    -- Y2 at byte 62
    ((Struct (record { entry = false; tag = (nm "_A" 15 17); head = (record { params = (param.Mutable (target.Number (record { number = (number One LittleEndian); span = (sp 26 31) })) (nm "p" 33 34) ∷ []); condition = None }); fields = (record { type_tree = (record { span = (sp 38 44); kind = type.Number (number Two LittleEndian) }); name = (nm "a" 45 46); extent = (Some (extent.Bits (record { value = 4; base = Decimal; span = (sp 49 50) }))); refinement = None; action = (Some (Done Act (sp 51 56) (Store (sp 57 64) (nm "p" 58 59) (Value (tree.Name (sp 62 63) (nm "a" 62 63))) ∷ []))) } ∷ []); name = (nm "A" 69 70) }) ∷ []), Some (Narrowing, 62)) ∷
    -- typedef struct _A(mutable UINT8 *p) { UINT8 a {:act *p = field_ptr;}; } A;
    -- Y1 at byte 57
    ((Struct (record { entry = false; tag = (nm "_A" 15 17); head = (record { params = (param.Mutable (target.Number (record { number = (number One LittleEndian); span = (sp 26 31) })) (nm "p" 33 34) ∷ []); condition = None }); fields = (record { type_tree = (record { span = (sp 38 43); kind = type.Number (number One LittleEndian) }); name = (nm "a" 44 45); extent = None; refinement = None; action = (Some (Done Act (sp 46 51) (Store (sp 52 67) (nm "p" 53 54) (FieldPtr (sp 57 66)) ∷ []))) } ∷ []); name = (nm "A" 72 73) }) ∷ []), Some (Mismatch, 57)) ∷
    -- typedef struct _A(mutable PUINT8 *p) { UINT8 a {:act *p = a;}; } A;
    -- Y1 at byte 58
    ((Struct (record { entry = false; tag = (nm "_A" 15 17); head = (record { params = (param.Mutable (target.Pointer (sp 26 32)) (nm "p" 34 35) ∷ []); condition = None }); fields = (record { type_tree = (record { span = (sp 39 44); kind = type.Number (number One LittleEndian) }); name = (nm "a" 45 46); extent = None; refinement = None; action = (Some (Done Act (sp 47 52) (Store (sp 53 60) (nm "p" 54 55) (Value (tree.Name (sp 58 59) (nm "a" 58 59))) ∷ []))) } ∷ []); name = (nm "A" 65 66) }) ∷ []), Some (Mismatch, 58)) ∷
    -- typedef struct _A { UINT8 a {:act return true;}; } A;
    -- Y4 at byte 28
    ((Struct (record { entry = false; tag = (nm "_A" 15 17); head = (record { params = []; condition = None }); fields = (record { type_tree = (record { span = (sp 20 25); kind = type.Number (number One LittleEndian) }); name = (nm "a" 26 27); extent = None; refinement = None; action = (Some (Done Act (sp 28 33) (Return (sp 34 46) (tree.Truth (sp 41 45) true) ∷ []))) } ∷ []); name = (nm "A" 51 52) }) ∷ []), Some (BadAction, 28)) ∷
    -- typedef struct _A { UINT8 a {:check if (a == 1) { return true; } else { abort; }}; } A;
    -- no breach
    ((Struct (record { entry = false; tag = (nm "_A" 15 17); head = (record { params = []; condition = None }); fields = (record { type_tree = (record { span = (sp 20 25); kind = type.Number (number One LittleEndian) }); name = (nm "a" 26 27); extent = None; refinement = None; action = (Some (Done Check (sp 28 35) (IfElse (sp 36 80) (tree.Binary (sp 40 46) operator.Equal (sp 42 44) (tree.Name (sp 40 41) (nm "a" 40 41)) (tree.Number (sp 45 46) 1 Decimal)) (block_of (Return (sp 50 62) (tree.Truth (sp 57 61) true) ∷ [])) (block_of (Abort (sp 72 78) ∷ [])) ∷ []))) } ∷ []); name = (nm "A" 85 86) }) ∷ []), None) ∷
    -- typedef struct _A { UINT8 a {:check if (a == 1) { return true; }}; } A;
    -- Y4 at byte 28
    ((Struct (record { entry = false; tag = (nm "_A" 15 17); head = (record { params = []; condition = None }); fields = (record { type_tree = (record { span = (sp 20 25); kind = type.Number (number One LittleEndian) }); name = (nm "a" 26 27); extent = None; refinement = None; action = (Some (Done Check (sp 28 35) (If (sp 36 64) (tree.Binary (sp 40 46) operator.Equal (sp 42 44) (tree.Name (sp 40 41) (nm "a" 40 41)) (tree.Number (sp 45 46) 1 Decimal)) (block_of (Return (sp 50 62) (tree.Truth (sp 57 61) true) ∷ [])) ∷ []))) } ∷ []); name = (nm "A" 69 70) }) ∷ []), Some (BadAction, 28)) ∷
    -- typedef struct _A { UINT8 a {:on-success if (a == 1) { return true; }}; } A;
    -- Y4 at byte 28
    ((Struct (record { entry = false; tag = (nm "_A" 15 17); head = (record { params = []; condition = None }); fields = (record { type_tree = (record { span = (sp 20 25); kind = type.Number (number One LittleEndian) }); name = (nm "a" 26 27); extent = None; refinement = None; action = (Some (Done OnSuccess (sp 28 40) (If (sp 41 69) (tree.Binary (sp 45 51) operator.Equal (sp 47 49) (tree.Name (sp 45 46) (nm "a" 45 46)) (tree.Number (sp 50 51) 1 Decimal)) (block_of (Return (sp 55 67) (tree.Truth (sp 62 66) true) ∷ [])) ∷ []))) } ∷ []); name = (nm "A" 74 75) }) ∷ []), Some (BadAction, 28)) ∷
    -- typedef struct _A { UINT8 a {:act abort; abort;}; } A;
    -- Y4 at byte 28
    ((Struct (record { entry = false; tag = (nm "_A" 15 17); head = (record { params = []; condition = None }); fields = (record { type_tree = (record { span = (sp 20 25); kind = type.Number (number One LittleEndian) }); name = (nm "a" 26 27); extent = None; refinement = None; action = (Some (Done Act (sp 28 33) (Abort (sp 34 40) ∷ Abort (sp 41 47) ∷ []))) } ∷ []); name = (nm "A" 52 53) }) ∷ []), Some (BadAction, 28)) ∷
    -- typedef struct _A { UINT8 a {:check if (a == 1) { return true; } else { abort; } return 1 == 1;}; } A;
    -- no breach
    ((Struct (record { entry = false; tag = (nm "_A" 15 17); head = (record { params = []; condition = None }); fields = (record { type_tree = (record { span = (sp 20 25); kind = type.Number (number One LittleEndian) }); name = (nm "a" 26 27); extent = None; refinement = None; action = (Some (Done Check (sp 28 35) (IfElse (sp 36 80) (tree.Binary (sp 40 46) operator.Equal (sp 42 44) (tree.Name (sp 40 41) (nm "a" 40 41)) (tree.Number (sp 45 46) 1 Decimal)) (block_of (Return (sp 50 62) (tree.Truth (sp 57 61) true) ∷ [])) (block_of (Abort (sp 72 78) ∷ [])) ∷ Return (sp 81 95) (tree.Binary (sp 88 94) operator.Equal (sp 90 92) (tree.Number (sp 88 89) 1 Decimal) (tree.Number (sp 93 94) 1 Decimal)) ∷ []))) } ∷ []); name = (nm "A" 100 101) }) ∷ []), None) ∷
    -- casetype _C(UINT8 t, mutable UINT8 *p) { switch (t) { case 1: UINT8 a {:act var x = *p;}; case 2: UINT8 x; } } C;
    -- N2 at byte 104
    ((Casetype (record { entry = false; tag = (nm "_C" 9 11); head = (record { params = (param.Value (plain.Number (record { number = (number One LittleEndian); span = (sp 12 17) })) (nm "t" 18 19) ∷ param.Mutable (target.Number (record { number = (number One LittleEndian); span = (sp 29 34) })) (nm "p" 36 37) ∷ []); condition = None }); subject = (tree.Name (sp 49 50) (nm "t" 49 50)); cases = (record { constant = (constant.Number (record { value = 1; base = Decimal; span = (sp 59 60) })); fields = (record { type_tree = (record { span = (sp 62 67); kind = type.Number (number One LittleEndian) }); name = (nm "a" 68 69); extent = None; refinement = None; action = (Some (Done Act (sp 70 75) (Var (sp 76 87) (nm "x" 80 81) (sp 84 85) (nm "p" 85 86) ∷ []))) } ∷ []) } ∷ record { constant = (constant.Number (record { value = 2; base = Decimal; span = (sp 95 96) })); fields = (record { type_tree = (record { span = (sp 98 103); kind = type.Number (number One LittleEndian) }); name = (nm "x" 104 105); extent = None; refinement = None; action = None } ∷ []) } ∷ []); default = None; name = (nm "C" 111 112) }) ∷ []), Some (Twice, 104)) ∷
    -- typedef struct _A(mutable UINT8 *p) { UINT8 a {:act if (a == 1) { var x = *p; } else { var x = *p; }}; } A;
    -- N2 at byte 91
    ((Struct (record { entry = false; tag = (nm "_A" 15 17); head = (record { params = (param.Mutable (target.Number (record { number = (number One LittleEndian); span = (sp 26 31) })) (nm "p" 33 34) ∷ []); condition = None }); fields = (record { type_tree = (record { span = (sp 38 43); kind = type.Number (number One LittleEndian) }); name = (nm "a" 44 45); extent = None; refinement = None; action = (Some (Done Act (sp 46 51) (IfElse (sp 52 100) (tree.Binary (sp 56 62) operator.Equal (sp 58 60) (tree.Name (sp 56 57) (nm "a" 56 57)) (tree.Number (sp 61 62) 1 Decimal)) (block_of (Var (sp 66 77) (nm "x" 70 71) (sp 74 75) (nm "p" 75 76) ∷ [])) (block_of (Var (sp 87 98) (nm "x" 91 92) (sp 95 96) (nm "p" 96 97) ∷ [])) ∷ []))) } ∷ []); name = (nm "A" 105 106) }) ∷ []), Some (Twice, 91)) ∷
    -- output typedef struct _O { UINT8 x; } O; typedef struct _A(mutable O *r) { UINT8 a {:act r->x = a; r->y = a;}; } A;
    -- N4 at byte 99
    ((Output (record { tag = (nm "_O" 22 24); slots = (record { kind = slot.Number (record { number = (number One LittleEndian); span = (sp 27 32) }); name = (nm "x" 33 34) } ∷ []); name = (nm "O" 38 39) }) ∷ Struct (record { entry = false; tag = (nm "_A" 56 58); head = (record { params = (param.Mutable (target.Named (nm "O" 67 68)) (nm "r" 70 71) ∷ []); condition = None }); fields = (record { type_tree = (record { span = (sp 75 80); kind = type.Number (number One LittleEndian) }); name = (nm "a" 81 82); extent = None; refinement = None; action = (Some (Done Act (sp 83 88) (StoreField (sp 89 98) (nm "r" 89 90) (nm "x" 92 93) (Value (tree.Name (sp 96 97) (nm "a" 96 97))) ∷ StoreField (sp 99 108) (nm "r" 99 100) (nm "y" 102 103) (Value (tree.Name (sp 106 107) (nm "a" 106 107))) ∷ []))) } ∷ []); name = (nm "A" 113 114) }) ∷ []), Some (WrongArgs, 99)) ∷
    -- typedef struct _A(mutable UINT8 *p) { UINT8 a {:act if (a == 1) { var x = *p; } *p = x;}; } A;
    -- N1 at byte 85
    ((Struct (record { entry = false; tag = (nm "_A" 15 17); head = (record { params = (param.Mutable (target.Number (record { number = (number One LittleEndian); span = (sp 26 31) })) (nm "p" 33 34) ∷ []); condition = None }); fields = (record { type_tree = (record { span = (sp 38 43); kind = type.Number (number One LittleEndian) }); name = (nm "a" 44 45); extent = None; refinement = None; action = (Some (Done Act (sp 46 51) (If (sp 52 79) (tree.Binary (sp 56 62) operator.Equal (sp 58 60) (tree.Name (sp 56 57) (nm "a" 56 57)) (tree.Number (sp 61 62) 1 Decimal)) (block_of (Var (sp 66 77) (nm "x" 70 71) (sp 74 75) (nm "p" 75 76) ∷ [])) ∷ Store (sp 80 87) (nm "p" 81 82) (Value (tree.Name (sp 85 86) (nm "x" 85 86))) ∷ []))) } ∷ []); name = (nm "A" 92 93) }) ∷ []), Some (Unknown, 85)) ∷
    -- typedef struct _A(mutable UINT8 *p) { UINT8 x {:act *p = (x == 1 ? x : x == 2);}; } A;
    -- Y1 at byte 65
    ((Struct (record { entry = false; tag = (nm "_A" 15 17); head = (record { params = (param.Mutable (target.Number (record { number = (number One LittleEndian); span = (sp 26 31) })) (nm "p" 33 34) ∷ []); condition = None }); fields = (record { type_tree = (record { span = (sp 38 43); kind = type.Number (number One LittleEndian) }); name = (nm "x" 44 45); extent = None; refinement = None; action = (Some (Done Act (sp 46 51) (Store (sp 52 79) (nm "p" 53 54) (Value (tree.Choice (sp 57 78) (sp 65 66) (tree.Binary (sp 58 64) operator.Equal (sp 60 62) (tree.Name (sp 58 59) (nm "x" 58 59)) (tree.Number (sp 63 64) 1 Decimal)) (tree.Name (sp 67 68) (nm "x" 67 68)) (tree.Binary (sp 71 77) operator.Equal (sp 73 75) (tree.Name (sp 71 72) (nm "x" 71 72)) (tree.Number (sp 76 77) 2 Decimal)))) ∷ []))) } ∷ []); name = (nm "A" 84 85) }) ∷ []), Some (Mismatch, 65)) ∷
    -- typedef struct _A(mutable UINT16 *p) { UINT8 x {:act *p = sizeof(this) >> 4294967295;}; } A;
    -- Y2 at byte 58
    ((Struct (record { entry = false; tag = (nm "_A" 15 17); head = (record { params = (param.Mutable (target.Number (record { number = (number Two LittleEndian); span = (sp 26 32) })) (nm "p" 34 35) ∷ []); condition = None }); fields = (record { type_tree = (record { span = (sp 39 44); kind = type.Number (number One LittleEndian) }); name = (nm "x" 45 46); extent = None; refinement = None; action = (Some (Done Act (sp 47 52) (Store (sp 53 85) (nm "p" 54 55) (Value (tree.Binary (sp 58 84) operator.ShiftRight (sp 71 73) (tree.Sizeof (sp 58 70) (sp 58 64) operand.This (sp 65 69)) (tree.Number (sp 74 84) 4294967295 Decimal))) ∷ []))) } ∷ []); name = (nm "A" 90 91) }) ∷ []), Some (Narrowing, 58)) ∷
    []
