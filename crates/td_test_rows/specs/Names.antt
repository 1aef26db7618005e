-- Texts and their first breaches: names.
use Rattle.std.specs.Prelude.{false, List, [], ◌∷◌, Some, None, codes}
use Rattle.td_test_rows.specs.Imports.{One, LittleEndian, Decimal, Define, Alias, Struct, Twice, WrongArgs, Mismatch}
use Rattle.td_ast.specs.Trees as tree
use Rattle.td_ast.specs.declared.names.PlainTree.TheVariants as plain
use Rattle.td_ast.specs.declared.fields.TypeKind.TheVariants as type
use Rattle.td_test_rows.specs.Rows.{Row, sp, nm, number}

abbrev pub names : List Row
names =
    -- typedef struct _A { UINT8 a; } A; #define a 1
    -- N2 at byte 42
    ((Struct (record { entry = false; tag = (nm "_A" 15 17); head = (record { params = []; condition = None }); fields = (record { type_tree = (record { span = (sp 20 25); kind = type.Number (number One LittleEndian) }); name = (nm "a" 26 27); extent = None; refinement = None; action = None } ∷ []); name = (nm "A" 31 32) }) ∷ Define (record { name = (nm "a" 42 43); value = (record { value = 1; base = Decimal; span = (sp 44 45) }) }) ∷ []), Some (Twice, 42)) ∷
    -- typedef UINT8 U; typedef struct _A { U(1) a; } A;
    -- N4 at byte 37
    ((Alias (record { target = (plain.Number (record { number = (number One LittleEndian); span = (sp 8 13) })); name = (nm "U" 14 15) }) ∷ Struct (record { entry = false; tag = (nm "_A" 32 34); head = (record { params = []; condition = None }); fields = (record { type_tree = (record { span = (sp 37 38); kind = type.Named (codes "U") ((tree.Number (sp 39 40) 1 Decimal) ∷ []) }); name = (nm "a" 42 43); extent = None; refinement = None; action = None } ∷ []); name = (nm "A" 47 48) }) ∷ []), Some (WrongArgs, 37)) ∷
    -- #define K 1 typedef struct _A { K a; } A;
    -- Y1 at byte 32
    ((Define (record { name = (nm "K" 8 9); value = (record { value = 1; base = Decimal; span = (sp 10 11) }) }) ∷ Struct (record { entry = false; tag = (nm "_A" 27 29); head = (record { params = []; condition = None }); fields = (record { type_tree = (record { span = (sp 32 33); kind = type.Named (codes "K") [] }); name = (nm "a" 34 35); extent = None; refinement = None; action = None } ∷ []); name = (nm "A" 39 40) }) ∷ []), Some (Mismatch, 32)) ∷
    -- typedef UINT8 U; typedef struct _A { U U; U b; } A;
    -- Y1 at byte 42
    ((Alias (record { target = (plain.Number (record { number = (number One LittleEndian); span = (sp 8 13) })); name = (nm "U" 14 15) }) ∷ Struct (record { entry = false; tag = (nm "_A" 32 34); head = (record { params = []; condition = None }); fields = (record { type_tree = (record { span = (sp 37 38); kind = type.Named (codes "U") [] }); name = (nm "U" 39 40); extent = None; refinement = None; action = None } ∷ record { type_tree = (record { span = (sp 42 43); kind = type.Named (codes "U") [] }); name = (nm "b" 44 45); extent = None; refinement = None; action = None } ∷ []); name = (nm "A" 49 50) }) ∷ []), Some (Mismatch, 42)) ∷
    -- typedef struct _A { UINT8 a; UINT8 a; } A;
    -- N2 at byte 35
    ((Struct (record { entry = false; tag = (nm "_A" 15 17); head = (record { params = []; condition = None }); fields = (record { type_tree = (record { span = (sp 20 25); kind = type.Number (number One LittleEndian) }); name = (nm "a" 26 27); extent = None; refinement = None; action = None } ∷ record { type_tree = (record { span = (sp 29 34); kind = type.Number (number One LittleEndian) }); name = (nm "a" 35 36); extent = None; refinement = None; action = None } ∷ []); name = (nm "A" 40 41) }) ∷ []), Some (Twice, 35)) ∷
    -- typedef struct _A { UINT8 a; } A; typedef struct _B { UINT8 a; } A;
    -- N2 at byte 65
    ((Struct (record { entry = false; tag = (nm "_A" 15 17); head = (record { params = []; condition = None }); fields = (record { type_tree = (record { span = (sp 20 25); kind = type.Number (number One LittleEndian) }); name = (nm "a" 26 27); extent = None; refinement = None; action = None } ∷ []); name = (nm "A" 31 32) }) ∷ Struct (record { entry = false; tag = (nm "_B" 49 51); head = (record { params = []; condition = None }); fields = (record { type_tree = (record { span = (sp 54 59); kind = type.Number (number One LittleEndian) }); name = (nm "a" 60 61); extent = None; refinement = None; action = None } ∷ []); name = (nm "A" 65 66) }) ∷ []), Some (Twice, 65)) ∷
    []
