-- Texts and their first breaches: casetypes.
use Rattle.std.specs.Prelude.{false, List, [], ◌∷◌, Some, None}
use Rattle.td_test_rows.specs.Imports.{One, LittleEndian, Decimal, Hexadecimal, Casetype, Unknown, Twice, Narrowing, NotConstant}
use Rattle.td_ast.specs.declared.expressions.BinaryOperator.TheVariants as operator
use Rattle.td_ast.specs.declared.expressions.SizeofOperand.TheVariants as operand
use Rattle.td_ast.specs.Trees as tree
use Rattle.td_ast.specs.declared.names.ConstTree.TheVariants as constant
use Rattle.td_ast.specs.declared.names.PlainTree.TheVariants as plain
use Rattle.td_ast.specs.declared.parameters.ParamTree.TheVariants as param
use Rattle.td_ast.specs.declared.fields.TypeKind.TheVariants as type
use Rattle.td_test_rows.specs.Rows.{Row, sp, nm, number}

abbrev pub casetypes : List Row
casetypes =
    -- casetype _C(UINT8 t) { switch (t) { case 1: UINT8 a { sizeof(this) == 1 }; } } C;
    -- Y3 at byte 54
    ((Casetype (record { entry = false; tag = (nm "_C" 9 11); head = (record { params = (param.Value (plain.Number (record { number = (number One LittleEndian); span = (sp 12 17) })) (nm "t" 18 19) ∷ []); condition = None }); subject = (tree.Name (sp 31 32) (nm "t" 31 32)); cases = (record { constant = (constant.Number (record { value = 1; base = Decimal; span = (sp 41 42) })); fields = (record { type_tree = (record { span = (sp 44 49); kind = type.Number (number One LittleEndian) }); name = (nm "a" 50 51); extent = None; refinement = (Some (tree.Binary (sp 54 71) operator.Equal (sp 67 69) (tree.Sizeof (sp 54 66) (sp 54 60) operand.This (sp 61 65)) (tree.Number (sp 70 71) 1 Decimal))); action = None } ∷ []) } ∷ []); default = None; name = (nm "C" 79 80) }) ∷ []), Some (NotConstant, 54)) ∷
    -- casetype _C(UINT8 t) { switch (t) { case 1: UINT8 a; case 0x1: UINT8 b; } } C;
    -- N2 at byte 58
    ((Casetype (record { entry = false; tag = (nm "_C" 9 11); head = (record { params = (param.Value (plain.Number (record { number = (number One LittleEndian); span = (sp 12 17) })) (nm "t" 18 19) ∷ []); condition = None }); subject = (tree.Name (sp 31 32) (nm "t" 31 32)); cases = (record { constant = (constant.Number (record { value = 1; base = Decimal; span = (sp 41 42) })); fields = (record { type_tree = (record { span = (sp 44 49); kind = type.Number (number One LittleEndian) }); name = (nm "a" 50 51); extent = None; refinement = None; action = None } ∷ []) } ∷ record { constant = (constant.Number (record { value = 1; base = Hexadecimal; span = (sp 58 61) })); fields = (record { type_tree = (record { span = (sp 63 68); kind = type.Number (number One LittleEndian) }); name = (nm "b" 69 70); extent = None; refinement = None; action = None } ∷ []) } ∷ []); default = None; name = (nm "C" 76 77) }) ∷ []), Some (Twice, 58)) ∷
    -- casetype _C(UINT8 t) { switch (t) { case 256: UINT8 a; } } C;
    -- Y2 at byte 41
    ((Casetype (record { entry = false; tag = (nm "_C" 9 11); head = (record { params = (param.Value (plain.Number (record { number = (number One LittleEndian); span = (sp 12 17) })) (nm "t" 18 19) ∷ []); condition = None }); subject = (tree.Name (sp 31 32) (nm "t" 31 32)); cases = (record { constant = (constant.Number (record { value = 256; base = Decimal; span = (sp 41 44) })); fields = (record { type_tree = (record { span = (sp 46 51); kind = type.Number (number One LittleEndian) }); name = (nm "a" 52 53); extent = None; refinement = None; action = None } ∷ []) } ∷ []); default = None; name = (nm "C" 59 60) }) ∷ []), Some (Narrowing, 41)) ∷
    -- casetype _C(UINT8 t) { switch (t) { case t: UINT8 a; } } C;
    -- Y3 at byte 41
    ((Casetype (record { entry = false; tag = (nm "_C" 9 11); head = (record { params = (param.Value (plain.Number (record { number = (number One LittleEndian); span = (sp 12 17) })) (nm "t" 18 19) ∷ []); condition = None }); subject = (tree.Name (sp 31 32) (nm "t" 31 32)); cases = (record { constant = (constant.Named (nm "t" 41 42)); fields = (record { type_tree = (record { span = (sp 44 49); kind = type.Number (number One LittleEndian) }); name = (nm "a" 50 51); extent = None; refinement = None; action = None } ∷ []) } ∷ []); default = None; name = (nm "C" 57 58) }) ∷ []), Some (NotConstant, 41)) ∷
    -- casetype _C(UINT8 t) { switch (t) { case 1: UINT8 a; case 2: UINT8 a; } } C;
    -- no breach
    ((Casetype (record { entry = false; tag = (nm "_C" 9 11); head = (record { params = (param.Value (plain.Number (record { number = (number One LittleEndian); span = (sp 12 17) })) (nm "t" 18 19) ∷ []); condition = None }); subject = (tree.Name (sp 31 32) (nm "t" 31 32)); cases = (record { constant = (constant.Number (record { value = 1; base = Decimal; span = (sp 41 42) })); fields = (record { type_tree = (record { span = (sp 44 49); kind = type.Number (number One LittleEndian) }); name = (nm "a" 50 51); extent = None; refinement = None; action = None } ∷ []) } ∷ record { constant = (constant.Number (record { value = 2; base = Decimal; span = (sp 58 59) })); fields = (record { type_tree = (record { span = (sp 61 66); kind = type.Number (number One LittleEndian) }); name = (nm "a" 67 68); extent = None; refinement = None; action = None } ∷ []) } ∷ []); default = None; name = (nm "C" 74 75) }) ∷ []), None) ∷
    -- casetype _C(UINT8 t) { switch (t) { case 1: UINT8 a; case 2: UINT8 b { a == 1 }; } } C;
    -- N1 at byte 71
    ((Casetype (record { entry = false; tag = (nm "_C" 9 11); head = (record { params = (param.Value (plain.Number (record { number = (number One LittleEndian); span = (sp 12 17) })) (nm "t" 18 19) ∷ []); condition = None }); subject = (tree.Name (sp 31 32) (nm "t" 31 32)); cases = (record { constant = (constant.Number (record { value = 1; base = Decimal; span = (sp 41 42) })); fields = (record { type_tree = (record { span = (sp 44 49); kind = type.Number (number One LittleEndian) }); name = (nm "a" 50 51); extent = None; refinement = None; action = None } ∷ []) } ∷ record { constant = (constant.Number (record { value = 2; base = Decimal; span = (sp 58 59) })); fields = (record { type_tree = (record { span = (sp 61 66); kind = type.Number (number One LittleEndian) }); name = (nm "b" 67 68); extent = None; refinement = (Some (tree.Binary (sp 71 77) operator.Equal (sp 73 75) (tree.Name (sp 71 72) (nm "a" 71 72)) (tree.Number (sp 76 77) 1 Decimal))); action = None } ∷ []) } ∷ []); default = None; name = (nm "C" 85 86) }) ∷ []), Some (Unknown, 71)) ∷
    []
