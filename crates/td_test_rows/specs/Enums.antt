-- Texts and their first breaches: enums.
use Rattle.std.specs.Prelude.{false, List, [], ◌∷◌, Some, None, codes}
use Rattle.td_test_rows.specs.Imports.{One, Two, LittleEndian, Decimal, Value, Act, Done, Enum, Struct, Twice, WrongArgs, Narrowing}
use Rattle.td_ast.specs.Trees as tree
use Rattle.td_ast.specs.Statements.{Store}
use Rattle.td_ast.specs.declared.names.ConstTree.TheVariants as constant
use Rattle.td_ast.specs.declared.parameters.TargetTree.TheVariants as target
use Rattle.td_ast.specs.declared.parameters.ParamTree.TheVariants as param
use Rattle.td_ast.specs.declared.fields.TypeKind.TheVariants as type
use Rattle.td_test_rows.specs.Rows.{Row, sp, nm, number}

abbrev pub enums : List Row
enums =
    -- UINT8 enum E { A = 1, B = 0, C }
    -- N2 at byte 29
    ((Enum (record { base = (record { number = (number One LittleEndian); span = (sp 0 5) }); name = (nm "E" 11 12); items = (record { name = (nm "A" 15 16); value = (Some (constant.Number (record { value = 1; base = Decimal; span = (sp 19 20) }))) } ∷ record { name = (nm "B" 22 23); value = (Some (constant.Number (record { value = 0; base = Decimal; span = (sp 26 27) }))) } ∷ record { name = (nm "C" 29 30); value = None } ∷ []) }) ∷ []), Some (Twice, 29)) ∷
    -- UINT8 enum E { A = 256 }
    -- Y2 at byte 19
    ((Enum (record { base = (record { number = (number One LittleEndian); span = (sp 0 5) }); name = (nm "E" 11 12); items = (record { name = (nm "A" 15 16); value = (Some (constant.Number (record { value = 256; base = Decimal; span = (sp 19 22) }))) } ∷ []) }) ∷ []), Some (Narrowing, 19)) ∷
    -- UINT8 enum E { A = 255, B }
    -- Y2 at byte 24
    ((Enum (record { base = (record { number = (number One LittleEndian); span = (sp 0 5) }); name = (nm "E" 11 12); items = (record { name = (nm "A" 15 16); value = (Some (constant.Number (record { value = 255; base = Decimal; span = (sp 19 22) }))) } ∷ record { name = (nm "B" 24 25); value = None } ∷ []) }) ∷ []), Some (Narrowing, 24)) ∷
    -- UINT8 enum E { E }
    -- N2 at byte 15
    ((Enum (record { base = (record { number = (number One LittleEndian); span = (sp 0 5) }); name = (nm "E" 11 12); items = (record { name = (nm "E" 15 16); value = None } ∷ []) }) ∷ []), Some (Twice, 15)) ∷
    -- typedef struct _A { UINT8 a; } A; UINT8 enum E { a }
    -- N2 at byte 49
    ((Struct (record { entry = false; tag = (nm "_A" 15 17); head = (record { params = []; condition = None }); fields = (record { type_tree = (record { span = (sp 20 25); kind = type.Number (number One LittleEndian) }); name = (nm "a" 26 27); extent = None; refinement = None; action = None } ∷ []); name = (nm "A" 31 32) }) ∷ Enum (record { base = (record { number = (number One LittleEndian); span = (sp 34 39) }); name = (nm "E" 45 46); items = (record { name = (nm "a" 49 50); value = None } ∷ []) }) ∷ []), Some (Twice, 49)) ∷
    -- UINT8 enum E { A } typedef struct _S { E(1) e; } S;
    -- N4 at byte 39
    ((Enum (record { base = (record { number = (number One LittleEndian); span = (sp 0 5) }); name = (nm "E" 11 12); items = (record { name = (nm "A" 15 16); value = None } ∷ []) }) ∷ Struct (record { entry = false; tag = (nm "_S" 34 36); head = (record { params = []; condition = None }); fields = (record { type_tree = (record { span = (sp 39 40); kind = type.Named (codes "E") ((tree.Number (sp 41 42) 1 Decimal) ∷ []) }); name = (nm "e" 44 45); extent = None; refinement = None; action = None } ∷ []); name = (nm "S" 49 50) }) ∷ []), Some (WrongArgs, 39)) ∷
    -- UINT16 enum E { A = 300 } typedef struct _S(mutable UINT8 *p) { E e {:act *p = e;}; } S;
    -- Y2 at byte 79
    ((Enum (record { base = (record { number = (number Two LittleEndian); span = (sp 0 6) }); name = (nm "E" 12 13); items = (record { name = (nm "A" 16 17); value = (Some (constant.Number (record { value = 300; base = Decimal; span = (sp 20 23) }))) } ∷ []) }) ∷ Struct (record { entry = false; tag = (nm "_S" 41 43); head = (record { params = (param.Mutable (target.Number (record { number = (number One LittleEndian); span = (sp 52 57) })) (nm "p" 59 60) ∷ []); condition = None }); fields = (record { type_tree = (record { span = (sp 64 65); kind = type.Named (codes "E") [] }); name = (nm "e" 66 67); extent = None; refinement = None; action = (Some (Done Act (sp 68 73) (Store (sp 74 81) (nm "p" 75 76) (Value (tree.Name (sp 79 80) (nm "e" 79 80))) ∷ []))) } ∷ []); name = (nm "S" 86 87) }) ∷ []), Some (Narrowing, 79)) ∷
    []
