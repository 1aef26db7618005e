-- Texts and the first refusal of a kind.
use Rattle.std.specs.Prelude.{List, [], ◌∷◌, Some, None, codes}
use Rattle.td_test_rows.specs.Imports.{One, LittleEndian, Decimal}
use Rattle.td_ast.specs.declared.expressions.BinaryOperator.TheVariants as operator
use Rattle.td_ast.specs.declared.names.ConstTree.TheVariants as constant
use Rattle.td_ast.specs.declared.names.PlainTree.TheVariants as plain
use Rattle.td_ast.specs.declared.parameters.ParamTree.TheVariants as param
use Rattle.td_ast.specs.declared.fields.TypeKind.TheVariants as type
use Rattle.td_ast.specs.declared.fields.ExtentTree.TheVariants as extent
use Rattle.td_kinds.specs.declared.error.KindFault.TheVariants.{ZeroElement, RestNotLast}
use Rattle.td_test_rows.specs.Rows.{sp, nm}
use Rattle.td_test_rows.specs.Makers.{literal, number_at, written, named, binary, in_parens, type_at, little, field, sized, struct, entry_struct, case_of, casetype}
use Rattle.td_test_rows.specs.Findings.{KindRow}

abbrev pub kinds : List KindRow
kinds =
    -- element_may_be_empty
    -- typedef struct _U { unit u[:byte-size 4]; } U;
    -- K1 at byte 25
    ((struct (nm "_U" 15 17) [] (sized (type_at type.Unit 20 24) (nm "u" 25 26) (extent.ByteSize (written 4 38 39)) ∷ []) (nm "U" 44 45) ∷ []), Some (ZeroElement (sp 25 26))) ∷
    -- struct_takes_the_rest
    -- typedef struct _A { all_bytes x; } A; entrypoint typedef struct _B { A a; UINT8 b; } B;
    -- K2 at byte 71
    ((struct (nm "_A" 15 17) [] (field (type_at type.AllBytes 20 29) (nm "x" 30 31) ∷ []) (nm "A" 35 36) ∷ entry_struct (nm "_B" 64 66) [] (field (type_at (type.Named (codes "A") []) 69 70) (nm "a" 71 72) ∷ field (little One 74 79) (nm "b" 80 81) ∷ []) (nm "B" 85 86) ∷ []), Some (RestNotLast (sp 71 72))) ∷
    -- casetype_takes_the_rest
    -- casetype _C(UINT8 t) { switch (t) { case 1: UINT8 a; default: all_zeros z; } } C; typedef struct _B { C(1) c; UINT8 b; } B;
    -- K2 at byte 107
    ((casetype (nm "_C" 9 11) (param.Value (plain.Number (number_at One LittleEndian 12 17)) (nm "t" 18 19) ∷ []) (named "t" 31 32) (case_of (constant.Number (literal 1 Decimal 41 42)) (field (little One 44 49) (nm "a" 50 51) ∷ []) ∷ []) (Some (field (type_at type.AllZeros 62 71) (nm "z" 72 73) ∷ [])) (nm "C" 79 80) ∷ struct (nm "_B" 97 99) [] (field (type_at (type.Named (codes "C") ((written 1 104 105) ∷ [])) 102 103) (nm "c" 107 108) ∷ field (little One 110 115) (nm "b" 116 117) ∷ []) (nm "B" 121 122) ∷ []), Some (RestNotLast (sp 107 108))) ∷
    -- element_takes_the_rest
    -- typedef struct _I { UINT8 a; all_bytes r; } I; typedef struct _J { I i[:byte-size 6]; } J;
    -- K2 at byte 69
    ((struct (nm "_I" 15 17) [] (field (little One 20 25) (nm "a" 26 27) ∷ field (type_at type.AllBytes 29 38) (nm "r" 39 40) ∷ []) (nm "I" 44 45) ∷ struct (nm "_J" 62 64) [] (sized (type_at (type.Named (codes "I") []) 67 68) (nm "i" 69 70) (extent.ByteSize (written 6 82 83)) ∷ []) (nm "J" 88 89) ∷ []), Some (RestNotLast (sp 69 70))) ∷
    -- empty_before_rest
    -- typedef struct _A { all_bytes x; } A; typedef struct _B { A a[:byte-size 4]; UINT8 b; } B;
    -- K1 at byte 60
    ((struct (nm "_A" 15 17) [] (field (type_at type.AllBytes 20 29) (nm "x" 30 31) ∷ []) (nm "A" 35 36) ∷ struct (nm "_B" 53 55) [] (sized (type_at (type.Named (codes "A") []) 58 59) (nm "a" 60 61) (extent.ByteSize (written 4 73 74)) ∷ field (little One 77 82) (nm "b" 83 84) ∷ []) (nm "B" 88 89) ∷ []), Some (ZeroElement (sp 60 61))) ∷
    -- constant_of_a_sum
    -- typedef struct _I { UINT8 a[2 + 2]; } I; typedef struct _J { I i[:byte-size 6]; } J;
    -- no refusal
    ((struct (nm "_I" 15 17) [] (sized (little One 20 25) (nm "a" 26 27) (extent.Bytes (binary operator.Add 30 31 (written 2 28 29) (written 2 32 33))) ∷ []) (nm "I" 38 39) ∷ struct (nm "_J" 56 58) [] (sized (type_at (type.Named (codes "I") []) 61 62) (nm "i" 63 64) (extent.ByteSize (written 6 76 77)) ∷ []) (nm "J" 82 83) ∷ []), None) ∷
    -- constant_of_a_shift_is_zero
    -- typedef struct _I { UINT8 a[(1 + 1) << 256]; } I; typedef struct _J { I i[:byte-size 4]; } J;
    -- K1 at byte 72
    ((struct (nm "_I" 15 17) [] (sized (little One 20 25) (nm "a" 26 27) (extent.Bytes (binary operator.ShiftLeft 36 38 (in_parens 28 35 (binary operator.Add 31 32 (written 1 29 30) (written 1 33 34))) (written 256 39 42))) ∷ []) (nm "I" 47 48) ∷ struct (nm "_J" 65 67) [] (sized (type_at (type.Named (codes "I") []) 70 71) (nm "i" 72 73) (extent.ByteSize (written 4 85 86)) ∷ []) (nm "J" 91 92) ∷ []), Some (ZeroElement (sp 72 73))) ∷
    -- element_with_a_first_byte
    -- typedef struct _I { UINT8 n; UINT8 a[n]; } I; typedef struct _J { I i[:byte-size 6]; } J;
    -- no refusal
    ((struct (nm "_I" 15 17) [] (field (little One 20 25) (nm "n" 26 27) ∷ sized (little One 29 34) (nm "a" 35 36) (extent.Bytes (named "n" 37 38)) ∷ []) (nm "I" 43 44) ∷ struct (nm "_J" 61 63) [] (sized (type_at (type.Named (codes "I") []) 66 67) (nm "i" 68 69) (extent.ByteSize (written 6 81 82)) ∷ []) (nm "J" 87 88) ∷ []), None) ∷
    -- element_of_an_argument
    -- typedef struct _I(UINT8 n) { UINT8 a[n]; } I; typedef struct _J { I(2) i[:byte-size 6]; } J;
    -- K1 at byte 71
    ((struct (nm "_I" 15 17) (param.Value (plain.Number (number_at One LittleEndian 18 23)) (nm "n" 24 25) ∷ []) (sized (little One 29 34) (nm "a" 35 36) (extent.Bytes (named "n" 37 38)) ∷ []) (nm "I" 43 44) ∷ struct (nm "_J" 61 63) [] (sized (type_at (type.Named (codes "I") ((written 2 68 69) ∷ [])) 66 67) (nm "i" 71 72) (extent.ByteSize (written 6 84 85)) ∷ []) (nm "J" 90 91) ∷ []), Some (ZeroElement (sp 71 72))) ∷
    -- single_element_may_be_empty
    -- typedef struct _I(UINT8 n) { UINT8 a[n]; } I; typedef struct _J { I(2) i[:byte-size-single-element-array 6]; } J;
    -- no refusal
    ((struct (nm "_I" 15 17) (param.Value (plain.Number (number_at One LittleEndian 18 23)) (nm "n" 24 25) ∷ []) (sized (little One 29 34) (nm "a" 35 36) (extent.Bytes (named "n" 37 38)) ∷ []) (nm "I" 43 44) ∷ struct (nm "_J" 61 63) [] (sized (type_at (type.Named (codes "I") ((written 2 68 69) ∷ [])) 66 67) (nm "i" 71 72) (extent.SingleElement (written 6 105 106)) ∷ []) (nm "J" 111 112) ∷ []), None) ∷
    []
