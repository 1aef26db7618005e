-- Texts and their first breaches: expressions.
use Rattle.std.specs.Prelude.{true, false, List, [], ◌∷◌, Some, None}
use Rattle.td_test_rows.specs.Imports.{One, LittleEndian, Decimal, Struct, Unknown, Mismatch, BadAction}
use Rattle.td_ast.specs.declared.expressions.BinaryOperator.TheVariants as operator
use Rattle.td_ast.specs.Trees as tree
use Rattle.td_ast.specs.declared.fields.TypeKind.TheVariants as type
use Rattle.td_test_rows.specs.Rows.{Row, sp, nm, number}

abbrev pub expressions : List Row
expressions =
    -- entrypoint typedef struct _R { UINT8 a; UINT8 b { b - a >= 2 }; } R;
    -- no breach
    ((Struct (record { entry = true; tag = (nm "_R" 26 28); head = (record { params = []; condition = None }); fields = (record { type_tree = (record { span = (sp 31 36); kind = type.Number (number One LittleEndian) }); name = (nm "a" 37 38); extent = None; refinement = None; action = None } ∷ record { type_tree = (record { span = (sp 40 45); kind = type.Number (number One LittleEndian) }); name = (nm "b" 46 47); extent = None; refinement = (Some (tree.Binary (sp 50 60) operator.GreaterEqual (sp 56 58) (tree.Binary (sp 50 55) operator.Subtract (sp 52 53) (tree.Name (sp 50 51) (nm "b" 50 51)) (tree.Name (sp 54 55) (nm "a" 54 55))) (tree.Number (sp 59 60) 2 Decimal))); action = None } ∷ []); name = (nm "R" 66 67) }) ∷ []), None) ∷
    -- entrypoint typedef struct _A { UINT8 a { a & 1 == 1 }; } A;
    -- Y1 at byte 41
    ((Struct (record { entry = true; tag = (nm "_A" 26 28); head = (record { params = []; condition = None }); fields = (record { type_tree = (record { span = (sp 31 36); kind = type.Number (number One LittleEndian) }); name = (nm "a" 37 38); extent = None; refinement = (Some (tree.Binary (sp 41 51) operator.BitAnd (sp 43 44) (tree.Name (sp 41 42) (nm "a" 41 42)) (tree.Binary (sp 45 51) operator.Equal (sp 47 49) (tree.Number (sp 45 46) 1 Decimal) (tree.Number (sp 50 51) 1 Decimal)))); action = None } ∷ []); name = (nm "A" 57 58) }) ∷ []), Some (Mismatch, 41)) ∷
    -- entrypoint typedef struct _A { UINT8 a { 1 + zz }; } A;
    -- Y1 at byte 41
    ((Struct (record { entry = true; tag = (nm "_A" 26 28); head = (record { params = []; condition = None }); fields = (record { type_tree = (record { span = (sp 31 36); kind = type.Number (number One LittleEndian) }); name = (nm "a" 37 38); extent = None; refinement = (Some (tree.Binary (sp 41 47) operator.Add (sp 43 44) (tree.Number (sp 41 42) 1 Decimal) (tree.Name (sp 45 47) (nm "zz" 45 47)))); action = None } ∷ []); name = (nm "A" 53 54) }) ∷ []), Some (Mismatch, 41)) ∷
    -- entrypoint typedef struct _A { UINT8 a { a < 1 == a > 2 }; } A;
    -- Y1 at byte 47
    ((Struct (record { entry = true; tag = (nm "_A" 26 28); head = (record { params = []; condition = None }); fields = (record { type_tree = (record { span = (sp 31 36); kind = type.Number (number One LittleEndian) }); name = (nm "a" 37 38); extent = None; refinement = (Some (tree.Binary (sp 41 55) operator.Equal (sp 47 49) (tree.Binary (sp 41 46) operator.Less (sp 43 44) (tree.Name (sp 41 42) (nm "a" 41 42)) (tree.Number (sp 45 46) 1 Decimal)) (tree.Binary (sp 50 55) operator.Greater (sp 52 53) (tree.Name (sp 50 51) (nm "a" 50 51)) (tree.Number (sp 54 55) 2 Decimal)))); action = None } ∷ []); name = (nm "A" 61 62) }) ∷ []), Some (Mismatch, 47)) ∷
    -- entrypoint typedef struct _A { UINT8 a { (a) }; } A;
    -- Y1 at byte 41
    ((Struct (record { entry = true; tag = (nm "_A" 26 28); head = (record { params = []; condition = None }); fields = (record { type_tree = (record { span = (sp 31 36); kind = type.Number (number One LittleEndian) }); name = (nm "a" 37 38); extent = None; refinement = (Some (tree.Name (sp 41 44) (nm "a" 42 43))); action = None } ∷ []); name = (nm "A" 50 51) }) ∷ []), Some (Mismatch, 41)) ∷
    -- typedef struct _A { UINT8 a { field_pos == 0 }; } A;
    -- Y4 at byte 30
    ((Struct (record { entry = false; tag = (nm "_A" 15 17); head = (record { params = []; condition = None }); fields = (record { type_tree = (record { span = (sp 20 25); kind = type.Number (number One LittleEndian) }); name = (nm "a" 26 27); extent = None; refinement = (Some (tree.Binary (sp 30 44) operator.Equal (sp 40 42) (tree.FieldPos (sp 30 39) (sp 30 39)) (tree.Number (sp 43 44) 0 Decimal))); action = None } ∷ []); name = (nm "A" 50 51) }) ∷ []), Some (BadAction, 30)) ∷
    -- typedef struct _A { UINT8 a { true }; UINT8 b { a }; } A;
    -- Y1 at byte 48
    ((Struct (record { entry = false; tag = (nm "_A" 15 17); head = (record { params = []; condition = None }); fields = (record { type_tree = (record { span = (sp 20 25); kind = type.Number (number One LittleEndian) }); name = (nm "a" 26 27); extent = None; refinement = (Some (tree.Truth (sp 30 34) true)); action = None } ∷ record { type_tree = (record { span = (sp 38 43); kind = type.Number (number One LittleEndian) }); name = (nm "b" 44 45); extent = None; refinement = (Some (tree.Name (sp 48 49) (nm "a" 48 49))); action = None } ∷ []); name = (nm "A" 55 56) }) ∷ []), Some (Mismatch, 48)) ∷
    -- typedef struct _A { UINT8 a { (zz) == 1 }; } A;
    -- N1 at byte 31
    ((Struct (record { entry = false; tag = (nm "_A" 15 17); head = (record { params = []; condition = None }); fields = (record { type_tree = (record { span = (sp 20 25); kind = type.Number (number One LittleEndian) }); name = (nm "a" 26 27); extent = None; refinement = (Some (tree.Binary (sp 30 39) operator.Equal (sp 35 37) (tree.Name (sp 30 34) (nm "zz" 31 33)) (tree.Number (sp 38 39) 1 Decimal))); action = None } ∷ []); name = (nm "A" 45 46) }) ∷ []), Some (Unknown, 31)) ∷
    -- typedef struct _A { UINT8 a { (field_pos) == 1 }; } A;
    -- Y4 at byte 31
    ((Struct (record { entry = false; tag = (nm "_A" 15 17); head = (record { params = []; condition = None }); fields = (record { type_tree = (record { span = (sp 20 25); kind = type.Number (number One LittleEndian) }); name = (nm "a" 26 27); extent = None; refinement = (Some (tree.Binary (sp 30 46) operator.Equal (sp 42 44) (tree.FieldPos (sp 30 41) (sp 31 40)) (tree.Number (sp 45 46) 1 Decimal))); action = None } ∷ []); name = (nm "A" 52 53) }) ∷ []), Some (BadAction, 31)) ∷
    []
