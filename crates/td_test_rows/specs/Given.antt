-- Texts of fields without bytes: the first breach, the first value that may not fit its field, and what texts say of messages.
use Rattle.std.specs.Prelude.{List, [], ◌∷◌, Some, None, codes}
use Rattle.td_test_rows.specs.Imports.{One, Two, Four, Eight, LittleEndian, Unknown, Twice, NotReadable, WrongArgs, Mismatch, Narrowing, Constraint}
use Rattle.td_ast.specs.declared.expressions.BinaryOperator.TheVariants as operator
use Rattle.td_ast.specs.declared.names.PlainTree.TheVariants as plain
use Rattle.td_ast.specs.declared.parameters.TargetTree.TheVariants as target
use Rattle.td_ast.specs.declared.parameters.ParamTree.TheVariants as param
use Rattle.td_ast.specs.declared.fields.TypeKind.TheVariants as type
use Rattle.td_ast.specs.declared.fields.ExtentTree.TheVariants as extent
use Rattle.td_test_rows.specs.Rows.{Row, sp, nm}
use Rattle.td_test_rows.specs.Findings.{ValueRow}
use Rattle.td_test_rows.specs.Messages.{MessageRow, accepts, rejects, frame}
use Rattle.td_test_rows.specs.Makers.{number_at, written, named, binary, choice, in_parens, type_at, little, whole_field, struct, entry_struct}

abbrev pub given : List Row
given =
    -- typedef struct _S { UINT8 n; UINT32 m = n { m >= 2 }; } S;
    -- no breach
    ((struct (nm "_S" 15 17) [] (whole_field (little One 20 25) (nm "n" 26 27) None None None ∷ whole_field (little Four 29 35) (nm "m" 36 37) (Some (extent.Given (named "n" 40 41))) (Some (binary operator.GreaterEqual 46 48 (named "m" 44 45) (written 2 49 50))) None ∷ []) (nm "S" 56 57) ∷ []), None) ∷
    -- typedef struct _S { UINT8 n; unit m = n; } S;
    -- Y1 at byte 29
    ((struct (nm "_S" 15 17) [] (whole_field (little One 20 25) (nm "n" 26 27) None None None ∷ whole_field (type_at type.Unit 29 33) (nm "m" 34 35) (Some (extent.Given (named "n" 38 39))) None None ∷ []) (nm "S" 43 44) ∷ []), Some (Mismatch, 29)) ∷
    -- typedef struct _S { UINT8 n; UINT8 m = n == 1; } S;
    -- Y1 at byte 39
    ((struct (nm "_S" 15 17) [] (whole_field (little One 20 25) (nm "n" 26 27) None None None ∷ whole_field (little One 29 34) (nm "m" 35 36) (Some (extent.Given (binary operator.Equal 41 43 (named "n" 39 40) (written 1 44 45)))) None None ∷ []) (nm "S" 49 50) ∷ []), Some (Mismatch, 39)) ∷
    -- typedef struct _S { UINT8 n; UINT8 m = k; UINT8 k; } S;
    -- N1 at byte 39
    ((struct (nm "_S" 15 17) [] (whole_field (little One 20 25) (nm "n" 26 27) None None None ∷ whole_field (little One 29 34) (nm "m" 35 36) (Some (extent.Given (named "k" 39 40))) None None ∷ whole_field (little One 42 47) (nm "k" 48 49) None None None ∷ []) (nm "S" 53 54) ∷ []), Some (Unknown, 39)) ∷
    -- typedef struct _S { UINT8 m = m; } S;
    -- N1 at byte 30
    ((struct (nm "_S" 15 17) [] (whole_field (little One 20 25) (nm "m" 26 27) (Some (extent.Given (named "m" 30 31))) None None ∷ []) (nm "S" 35 36) ∷ []), Some (Unknown, 30)) ∷
    -- typedef struct _S { UINT8 m; UINT8 m = 1; } S;
    -- N2 at byte 35
    ((struct (nm "_S" 15 17) [] (whole_field (little One 20 25) (nm "m" 26 27) None None None ∷ whole_field (little One 29 34) (nm "m" 35 36) (Some (extent.Given (written 1 39 40))) None None ∷ []) (nm "S" 44 45) ∷ []), Some (Twice, 35)) ∷
    -- typedef struct _S { UINT8 n[2]; UINT8 m = n; } S;
    -- N3 at byte 42
    ((struct (nm "_S" 15 17) [] (whole_field (little One 20 25) (nm "n" 26 27) (Some (extent.Bytes (written 2 28 29))) None None ∷ whole_field (little One 32 37) (nm "m" 38 39) (Some (extent.Given (named "n" 42 43))) None None ∷ []) (nm "S" 47 48) ∷ []), Some (NotReadable, 42)) ∷
    -- typedef struct _S { UINT32 m = bytes_left; } S;
    -- no breach
    ((struct (nm "_S" 15 17) [] (whole_field (little Four 20 26) (nm "m" 27 28) (Some (extent.Given (named "bytes_left" 31 41))) None None ∷ []) (nm "S" 45 46) ∷ []), None) ∷
    -- typedef struct _S { UINT16 m = (bytes_left); } S;
    -- Y2 at byte 31
    ((struct (nm "_S" 15 17) [] (whole_field (little Two 20 26) (nm "m" 27 28) (Some (extent.Given (in_parens 31 43 (named "bytes_left" 32 42)))) None None ∷ []) (nm "S" 47 48) ∷ []), Some (Narrowing, 31)) ∷
    -- typedef struct _S { UINT32 m = bytes_left + 1; } S;
    -- N1 at byte 31
    ((struct (nm "_S" 15 17) [] (whole_field (little Four 20 26) (nm "m" 27 28) (Some (extent.Given (binary operator.Add 42 43 (named "bytes_left" 31 41) (written 1 44 45)))) None None ∷ []) (nm "S" 49 50) ∷ []), Some (Unknown, 31)) ∷
    -- typedef struct _S(UINT8 bytes_left) { UINT64 m = bytes_left { m > bytes_left }; } S;
    -- no breach
    ((struct (nm "_S" 15 17) (param.Value (plain.Number (number_at One LittleEndian 18 23)) (nm "bytes_left" 24 34) ∷ []) (whole_field (little Eight 38 44) (nm "m" 45 46) (Some (extent.Given (named "bytes_left" 49 59))) (Some (binary operator.Greater 64 65 (named "m" 62 63) (named "bytes_left" 66 76))) None ∷ []) (nm "S" 82 83) ∷ []), None) ∷
    -- typedef struct _S(mutable UINT16 *p) { UINT16 m = *p; } S;
    -- no breach
    ((struct (nm "_S" 15 17) (param.Mutable (target.Number (number_at Two LittleEndian 26 32)) (nm "p" 34 35) ∷ []) (whole_field (little Two 39 45) (nm "m" 46 47) (Some (extent.OfCell (sp 50 51) (nm "p" 51 52))) None None ∷ []) (nm "S" 56 57) ∷ []), None) ∷
    -- typedef struct _S(mutable UINT16 *p) { UINT8 m = *p; } S;
    -- Y2 at byte 49
    ((struct (nm "_S" 15 17) (param.Mutable (target.Number (number_at Two LittleEndian 26 32)) (nm "p" 34 35) ∷ []) (whole_field (little One 39 44) (nm "m" 45 46) (Some (extent.OfCell (sp 49 50) (nm "p" 50 51))) None None ∷ []) (nm "S" 55 56) ∷ []), Some (Narrowing, 49)) ∷
    -- typedef struct _S(mutable PUINT8 *p) { UINT64 m = *p; } S;
    -- Y1 at byte 50
    ((struct (nm "_S" 15 17) (param.Mutable (target.Pointer (sp 26 32)) (nm "p" 34 35) ∷ []) (whole_field (little Eight 39 45) (nm "m" 46 47) (Some (extent.OfCell (sp 50 51) (nm "p" 51 52))) None None ∷ []) (nm "S" 56 57) ∷ []), Some (Mismatch, 50)) ∷
    -- typedef struct _S(UINT16 p) { UINT16 m = *p; } S;
    -- N4 at byte 42
    ((struct (nm "_S" 15 17) (param.Value (plain.Number (number_at Two LittleEndian 18 24)) (nm "p" 25 26) ∷ []) (whole_field (little Two 30 36) (nm "m" 37 38) (Some (extent.OfCell (sp 41 42) (nm "p" 42 43))) None None ∷ []) (nm "S" 47 48) ∷ []), Some (WrongArgs, 42)) ∷
    -- typedef struct _S { UINT16 m = *p; } S;
    -- N1 at byte 32
    ((struct (nm "_S" 15 17) [] (whole_field (little Two 20 26) (nm "m" 27 28) (Some (extent.OfCell (sp 31 32) (nm "p" 32 33))) None None ∷ []) (nm "S" 37 38) ∷ []), Some (Unknown, 32)) ∷
    []

abbrev pub values : List ValueRow
values =
    -- typedef struct _S { UINT16 n; UINT8 m = n; } S;
    -- A1 at byte 40
    ((struct (nm "_S" 15 17) [] (whole_field (little Two 20 26) (nm "n" 27 28) None None None ∷ whole_field (little One 30 35) (nm "m" 36 37) (Some (extent.Given (named "n" 40 41))) None None ∷ []) (nm "S" 45 46) ∷ []), Some 40) ∷
    -- typedef struct _S { UINT16 n { n <= 255 }; UINT8 m = n; } S;
    -- each value fits
    ((struct (nm "_S" 15 17) [] (whole_field (little Two 20 26) (nm "n" 27 28) None (Some (binary operator.LessEqual 33 35 (named "n" 31 32) (written 255 36 39))) None ∷ whole_field (little One 43 48) (nm "m" 49 50) (Some (extent.Given (named "n" 53 54))) None None ∷ []) (nm "S" 58 59) ∷ []), None) ∷
    -- typedef struct _S { UINT16 n; UINT8 m = n & 255; } S;
    -- each value fits
    ((struct (nm "_S" 15 17) [] (whole_field (little Two 20 26) (nm "n" 27 28) None None None ∷ whole_field (little One 30 35) (nm "m" 36 37) (Some (extent.Given (binary operator.BitAnd 42 43 (named "n" 40 41) (written 255 44 47)))) None None ∷ []) (nm "S" 51 52) ∷ []), None) ∷
    -- typedef struct _S { UINT8 n; UINT64 m = n; UINT8 k = m; } S;
    -- each value fits
    ((struct (nm "_S" 15 17) [] (whole_field (little One 20 25) (nm "n" 26 27) None None None ∷ whole_field (little Eight 29 35) (nm "m" 36 37) (Some (extent.Given (named "n" 40 41))) None None ∷ whole_field (little One 43 48) (nm "k" 49 50) (Some (extent.Given (named "m" 53 54))) None None ∷ []) (nm "S" 58 59) ∷ []), None) ∷
    -- typedef struct _S { UINT8 n; UINT64 m = n; UINT8 k = m + 1; } S;
    -- A1 at byte 53
    ((struct (nm "_S" 15 17) [] (whole_field (little One 20 25) (nm "n" 26 27) None None None ∷ whole_field (little Eight 29 35) (nm "m" 36 37) (Some (extent.Given (named "n" 40 41))) None None ∷ whole_field (little One 43 48) (nm "k" 49 50) (Some (extent.Given (binary operator.Add 55 56 (named "m" 53 54) (written 1 57 58)))) None None ∷ []) (nm "S" 62 63) ∷ []), Some 53) ∷
    -- typedef struct _S { UINT16 n; UINT8 m = (n) | 1; } S;
    -- A1 at byte 40
    ((struct (nm "_S" 15 17) [] (whole_field (little Two 20 26) (nm "n" 27 28) None None None ∷ whole_field (little One 30 35) (nm "m" 36 37) (Some (extent.Given (binary operator.BitOr 44 45 (in_parens 40 43 (named "n" 41 42)) (written 1 46 47)))) None None ∷ []) (nm "S" 51 52) ∷ []), Some 40) ∷
    -- typedef struct _S { UINT16 n; UINT8 m = n < 256 ? n : 0; } S;
    -- each value fits
    ((struct (nm "_S" 15 17) [] (whole_field (little Two 20 26) (nm "n" 27 28) None None None ∷ whole_field (little One 30 35) (nm "m" 36 37) (Some (extent.Given (choice 48 49 (binary operator.Less 42 43 (named "n" 40 41) (written 256 44 47)) (named "n" 50 51) (written 0 54 55)))) None None ∷ []) (nm "S" 59 60) ∷ []), None) ∷
    -- typedef struct _S { UINT16 n; UINT8 m = n < 257 ? n : 0; } S;
    -- A1 at byte 40
    ((struct (nm "_S" 15 17) [] (whole_field (little Two 20 26) (nm "n" 27 28) None None None ∷ whole_field (little One 30 35) (nm "m" 36 37) (Some (extent.Given (choice 48 49 (binary operator.Less 42 43 (named "n" 40 41) (written 257 44 47)) (named "n" 50 51) (written 0 54 55)))) None None ∷ []) (nm "S" 59 60) ∷ []), Some 40) ∷
    -- typedef struct _S { UINT8 a; UINT8 b { a <= 255 - b }; UINT8 c = a + b; } S;
    -- each value fits
    ((struct (nm "_S" 15 17) [] (whole_field (little One 20 25) (nm "a" 26 27) None None None ∷ whole_field (little One 29 34) (nm "b" 35 36) None (Some (binary operator.LessEqual 41 43 (named "a" 39 40) (binary operator.Subtract 48 49 (written 255 44 47) (named "b" 50 51)))) None ∷ whole_field (little One 55 60) (nm "c" 61 62) (Some (extent.Given (binary operator.Add 67 68 (named "a" 65 66) (named "b" 69 70)))) None None ∷ []) (nm "S" 74 75) ∷ []), None) ∷
    -- typedef struct _S { UINT16 a; UINT16 b { a <= 65535 - b }; UINT8 c = a + b; } S;
    -- A1 at byte 69
    ((struct (nm "_S" 15 17) [] (whole_field (little Two 20 26) (nm "a" 27 28) None None None ∷ whole_field (little Two 30 36) (nm "b" 37 38) None (Some (binary operator.LessEqual 43 45 (named "a" 41 42) (binary operator.Subtract 52 53 (written 65535 46 51) (named "b" 54 55)))) None ∷ whole_field (little One 59 64) (nm "c" 65 66) (Some (extent.Given (binary operator.Add 71 72 (named "a" 69 70) (named "b" 73 74)))) None None ∷ []) (nm "S" 78 79) ∷ []), Some 69) ∷
    -- typedef struct _S(UINT8 k) { unit u; UINT8 n { n <= 9 }; UINT16 m = n * 8; UINT8 d = m; } S;
    -- each value fits
    ((struct (nm "_S" 15 17) (param.Value (plain.Number (number_at One LittleEndian 18 23)) (nm "k" 24 25) ∷ []) (whole_field (type_at type.Unit 29 33) (nm "u" 34 35) None None None ∷ whole_field (little One 37 42) (nm "n" 43 44) None (Some (binary operator.LessEqual 49 51 (named "n" 47 48) (written 9 52 53))) None ∷ whole_field (little Two 57 63) (nm "m" 64 65) (Some (extent.Given (binary operator.Multiply 70 71 (named "n" 68 69) (written 8 72 73)))) None None ∷ whole_field (little One 75 80) (nm "d" 81 82) (Some (extent.Given (named "m" 85 86))) None None ∷ []) (nm "S" 90 91) ∷ []), None) ∷
    -- typedef struct _S(UINT8 k) { unit u; UINT8 n { n <= 9 }; UINT16 w = n; UINT16 m = w * 29; UINT8 d = m; } S;
    -- A1 at byte 100
    ((struct (nm "_S" 15 17) (param.Value (plain.Number (number_at One LittleEndian 18 23)) (nm "k" 24 25) ∷ []) (whole_field (type_at type.Unit 29 33) (nm "u" 34 35) None None None ∷ whole_field (little One 37 42) (nm "n" 43 44) None (Some (binary operator.LessEqual 49 51 (named "n" 47 48) (written 9 52 53))) None ∷ whole_field (little Two 57 63) (nm "w" 64 65) (Some (extent.Given (named "n" 68 69))) None None ∷ whole_field (little Two 71 77) (nm "m" 78 79) (Some (extent.Given (binary operator.Multiply 84 85 (named "w" 82 83) (written 29 86 88)))) None None ∷ whole_field (little One 90 95) (nm "d" 96 97) (Some (extent.Given (named "m" 100 101))) None None ∷ []) (nm "S" 105 106) ∷ []), Some 100) ∷
    -- typedef struct _S { UINT16 n { n >= 300 && n <= 5 }; UINT8 m = n; UINT8 k = m + 1; UINT16 h; UINT8 j = h; } S;
    -- A1 at byte 103
    ((struct (nm "_S" 15 17) [] (whole_field (little Two 20 26) (nm "n" 27 28) None (Some (binary operator.And 40 42 (binary operator.GreaterEqual 33 35 (named "n" 31 32) (written 300 36 39)) (binary operator.LessEqual 45 47 (named "n" 43 44) (written 5 48 49)))) None ∷ whole_field (little One 53 58) (nm "m" 59 60) (Some (extent.Given (named "n" 63 64))) None None ∷ whole_field (little One 66 71) (nm "k" 72 73) (Some (extent.Given (binary operator.Add 78 79 (named "m" 76 77) (written 1 80 81)))) None None ∷ whole_field (little Two 83 89) (nm "h" 90 91) None None None ∷ whole_field (little One 93 98) (nm "j" 99 100) (Some (extent.Given (named "h" 103 104))) None None ∷ []) (nm "S" 108 109) ∷ []), Some 103) ∷
    []

abbrev pub given_messages : List MessageRow
given_messages =
    -- entrypoint typedef struct _P { UINT8 k; UINT32 left = bytes_left { left == 2 }; UINT8 d[left]; } P;  bytes 070809
    -- accept 3
    record { definitions = (entry_struct (nm "_P" 26 28) [] (whole_field (little One 31 36) (nm "k" 37 38) None None None ∷ whole_field (little Four 40 46) (nm "left" 47 51) (Some (extent.Given (named "bytes_left" 54 64))) (Some (binary operator.Equal 72 74 (named "left" 67 71) (written 2 75 76))) None ∷ whole_field (little One 80 85) (nm "d" 86 87) (Some (extent.Bytes (named "left" 88 92))) None None ∷ []) (nm "P" 97 98) ∷ []); args = []; cells = []; message = (7 ∷ 8 ∷ 9 ∷ []); wanted = accepts 3 [] [] } ∷
    -- entrypoint typedef struct _P { UINT8 k; UINT32 left = bytes_left { left == 2 }; UINT8 d[left]; } P;  bytes 07080909
    -- reject constraint 1; frame P.left 1
    record { definitions = (entry_struct (nm "_P" 26 28) [] (whole_field (little One 31 36) (nm "k" 37 38) None None None ∷ whole_field (little Four 40 46) (nm "left" 47 51) (Some (extent.Given (named "bytes_left" 54 64))) (Some (binary operator.Equal 72 74 (named "left" 67 71) (written 2 75 76))) None ∷ whole_field (little One 80 85) (nm "d" 86 87) (Some (extent.Bytes (named "left" 88 92))) None None ∷ []) (nm "P" 97 98) ∷ []); args = []; cells = []; message = (7 ∷ 8 ∷ 9 ∷ 9 ∷ []); wanted = rejects Constraint 1 (frame "P" "left" 1 ∷ []) [] [] } ∷
    -- typedef struct _I { UINT8 k; UINT32 left = bytes_left { left == k }; } I; entrypoint typedef struct _P { UINT8 n; I i[:byte-size n]; UINT32 left = bytes_left { left == 1 }; } P;  bytes 02010009
    -- accept 3
    record { definitions = (struct (nm "_I" 15 17) [] (whole_field (little One 20 25) (nm "k" 26 27) None None None ∷ whole_field (little Four 29 35) (nm "left" 36 40) (Some (extent.Given (named "bytes_left" 43 53))) (Some (binary operator.Equal 61 63 (named "left" 56 60) (named "k" 64 65))) None ∷ []) (nm "I" 71 72) ∷ entry_struct (nm "_P" 100 102) [] (whole_field (little One 105 110) (nm "n" 111 112) None None None ∷ whole_field (type_at (type.Named (codes "I") []) 114 115) (nm "i" 116 117) (Some (extent.ByteSize (named "n" 129 130))) None None ∷ whole_field (little Four 133 139) (nm "left" 140 144) (Some (extent.Given (named "bytes_left" 147 157))) (Some (binary operator.Equal 165 167 (named "left" 160 164) (written 1 168 169))) None ∷ []) (nm "P" 175 176) ∷ []); args = []; cells = []; message = (2 ∷ 1 ∷ 0 ∷ 9 ∷ []); wanted = accepts 3 [] (0 ∷ 1 ∷ 2 ∷ []) } ∷
    -- typedef struct _I { UINT8 k; UINT32 left = bytes_left { left == k }; } I; entrypoint typedef struct _P { UINT8 n; I i[:byte-size n]; UINT32 left = bytes_left { left == 1 }; } P;  bytes 02010109
    -- reject constraint 3; frame I.left 3; frame P.i 1
    record { definitions = (struct (nm "_I" 15 17) [] (whole_field (little One 20 25) (nm "k" 26 27) None None None ∷ whole_field (little Four 29 35) (nm "left" 36 40) (Some (extent.Given (named "bytes_left" 43 53))) (Some (binary operator.Equal 61 63 (named "left" 56 60) (named "k" 64 65))) None ∷ []) (nm "I" 71 72) ∷ entry_struct (nm "_P" 100 102) [] (whole_field (little One 105 110) (nm "n" 111 112) None None None ∷ whole_field (type_at (type.Named (codes "I") []) 114 115) (nm "i" 116 117) (Some (extent.ByteSize (named "n" 129 130))) None None ∷ whole_field (little Four 133 139) (nm "left" 140 144) (Some (extent.Given (named "bytes_left" 147 157))) (Some (binary operator.Equal 165 167 (named "left" 160 164) (written 1 168 169))) None ∷ []) (nm "P" 175 176) ∷ []); args = []; cells = []; message = (2 ∷ 1 ∷ 1 ∷ 9 ∷ []); wanted = rejects Constraint 3 (frame "I" "left" 3 ∷ frame "P" "i" 1 ∷ []) [] (0 ∷ 1 ∷ 2 ∷ []) } ∷
    -- entrypoint typedef struct _P(mutable UINT16 *p) { UINT32 m = *p { m == 5 }; UINT16 w { w <= 255 }; UINT8 n = w; UINT8 d[n]; } P;  cells [5]  bytes 010009
    -- accept 3
    record { definitions = (entry_struct (nm "_P" 26 28) (param.Mutable (target.Number (number_at Two LittleEndian 37 43)) (nm "p" 45 46) ∷ []) (whole_field (little Four 50 56) (nm "m" 57 58) (Some (extent.OfCell (sp 61 62) (nm "p" 62 63))) (Some (binary operator.Equal 68 70 (named "m" 66 67) (written 5 71 72))) None ∷ whole_field (little Two 76 82) (nm "w" 83 84) None (Some (binary operator.LessEqual 89 91 (named "w" 87 88) (written 255 92 95))) None ∷ whole_field (little One 99 104) (nm "n" 105 106) (Some (extent.Given (named "w" 109 110))) None None ∷ whole_field (little One 112 117) (nm "d" 118 119) (Some (extent.Bytes (named "n" 120 121))) None None ∷ []) (nm "P" 126 127) ∷ []); args = []; cells = (5 ∷ []); message = (1 ∷ 0 ∷ 9 ∷ []); wanted = accepts 3 (5 ∷ []) (0 ∷ 1 ∷ []) } ∷
    -- entrypoint typedef struct _P(mutable UINT16 *p) { UINT32 m = *p { m == 5 }; UINT16 w { w <= 255 }; UINT8 n = w; UINT8 d[n]; } P;  cells [6]  bytes 010009
    -- reject constraint 0; frame P.m 0
    record { definitions = (entry_struct (nm "_P" 26 28) (param.Mutable (target.Number (number_at Two LittleEndian 37 43)) (nm "p" 45 46) ∷ []) (whole_field (little Four 50 56) (nm "m" 57 58) (Some (extent.OfCell (sp 61 62) (nm "p" 62 63))) (Some (binary operator.Equal 68 70 (named "m" 66 67) (written 5 71 72))) None ∷ whole_field (little Two 76 82) (nm "w" 83 84) None (Some (binary operator.LessEqual 89 91 (named "w" 87 88) (written 255 92 95))) None ∷ whole_field (little One 99 104) (nm "n" 105 106) (Some (extent.Given (named "w" 109 110))) None None ∷ whole_field (little One 112 117) (nm "d" 118 119) (Some (extent.Bytes (named "n" 120 121))) None None ∷ []) (nm "P" 126 127) ∷ []); args = []; cells = (6 ∷ []); message = (1 ∷ 0 ∷ 9 ∷ []); wanted = rejects Constraint 0 (frame "P" "m" 0 ∷ []) (6 ∷ []) [] } ∷
    []
