-- Texts and the first operator that is not safe.
use Rattle.std.specs.Prelude.{List, [], ◌∷◌, Some, None, codes}
use Rattle.td_test_rows.specs.Imports.{One, Two, Four, Eight, LittleEndian, Decimal, Not, Value, Act, Check}
use Rattle.td_ast.specs.declared.expressions.BinaryOperator.TheVariants as operator
use Rattle.td_ast.specs.declared.expressions.SizeofOperand.TheVariants as operand
use Rattle.td_ast.specs.Trees as tree
use Rattle.td_ast.specs.Statements.{Store, If, Return, Abort, block_of}
use Rattle.td_ast.specs.declared.names.ConstTree.TheVariants as constant
use Rattle.td_ast.specs.declared.names.PlainTree.TheVariants as plain
use Rattle.td_ast.specs.declared.parameters.TargetTree.TheVariants as target
use Rattle.td_ast.specs.declared.parameters.ParamTree.TheVariants as param
use Rattle.td_ast.specs.declared.fields.TypeKind.TheVariants as type
use Rattle.td_ast.specs.declared.fields.ExtentTree.TheVariants as extent
use Rattle.td_core.specs.declared.expressions.Binary.TheVariants.{Add, Subtract, Multiply, Divide, ShiftLeft}
use Rattle.td_test_rows.specs.Rows.{sp, nm}
use Rattle.td_test_rows.specs.Makers.{literal, number_at, written, named, binary, choice, in_parens, type_at, little, action, whole_field, field, tested, sized, define, item, enum_of, struct, entry_struct, guarded_struct, case_of, casetype}
use Rattle.td_test_rows.specs.Findings.{SafetyRow}

abbrev pub safety : List SafetyRow
safety =
    -- difference_without_a_fact
    -- entrypoint typedef struct _R { UINT8 a; UINT8 b { b - a >= 2 }; } R;
    -- A1 at byte 52: -
    ((entry_struct (nm "_R" 26 28) [] (field (little One 31 36) (nm "a" 37 38) ∷ tested (little One 40 45) (nm "b" 46 47) (binary operator.GreaterEqual 56 58 (binary operator.Subtract 52 53 (named "b" 50 51) (named "a" 54 55)) (written 2 59 60)) ∷ []) (nm "R" 66 67) ∷ []), Some (Subtract, 52)) ∷
    -- difference_with_the_other_fact
    -- entrypoint typedef struct _R { UINT8 a; UINT8 b { b <= a && b - a >= 2 }; } R;
    -- A1 at byte 62: -
    ((entry_struct (nm "_R" 26 28) [] (field (little One 31 36) (nm "a" 37 38) ∷ tested (little One 40 45) (nm "b" 46 47) (binary operator.And 57 59 (binary operator.LessEqual 52 54 (named "b" 50 51) (named "a" 55 56)) (binary operator.GreaterEqual 66 68 (binary operator.Subtract 62 63 (named "b" 60 61) (named "a" 64 65)) (written 2 69 70))) ∷ []) (nm "R" 76 77) ∷ []), Some (Subtract, 62)) ∷
    -- difference_with_its_fact
    -- entrypoint typedef struct _R { UINT8 a; UINT8 b { a <= b && b - a >= 2 }; } R;
    -- no unsafe operator
    ((entry_struct (nm "_R" 26 28) [] (field (little One 31 36) (nm "a" 37 38) ∷ tested (little One 40 45) (nm "b" 46 47) (binary operator.And 57 59 (binary operator.LessEqual 52 54 (named "a" 50 51) (named "b" 55 56)) (binary operator.GreaterEqual 66 68 (binary operator.Subtract 62 63 (named "b" 60 61) (named "a" 64 65)) (written 2 69 70))) ∷ []) (nm "R" 76 77) ∷ []), None) ∷
    -- sum_without_a_fact
    -- entrypoint typedef struct _X { UINT8 a; UINT8 b { b == a + 1 }; } X;
    -- A1 at byte 57: +
    ((entry_struct (nm "_X" 26 28) [] (field (little One 31 36) (nm "a" 37 38) ∷ tested (little One 40 45) (nm "b" 46 47) (binary operator.Equal 52 54 (named "b" 50 51) (binary operator.Add 57 58 (named "a" 55 56) (written 1 59 60))) ∷ []) (nm "X" 66 67) ∷ []), Some (Add, 57)) ∷
    -- sum_with_its_fact
    -- entrypoint typedef struct _X { UINT8 a; UINT8 b { a < 255 && b == a + 1 }; } X;
    -- no unsafe operator
    ((entry_struct (nm "_X" 26 28) [] (field (little One 31 36) (nm "a" 37 38) ∷ tested (little One 40 45) (nm "b" 46 47) (binary operator.And 58 60 (binary operator.Less 52 53 (named "a" 50 51) (written 255 54 57)) (binary operator.Equal 63 65 (named "b" 61 62) (binary operator.Add 68 69 (named "a" 66 67) (written 1 70 71)))) ∷ []) (nm "X" 77 78) ∷ []), None) ∷
    -- facts_at_a_part_are_the_outer_ones
    -- typedef struct _A { UINT8 a; UINT8 b { is_range_okay(b, b - a, a) }; } A;
    -- A1 at byte 58: -
    ((struct (nm "_A" 15 17) [] (field (little One 20 25) (nm "a" 26 27) ∷ tested (little One 29 34) (nm "b" 35 36) (tree.RangeOkay (sp 39 65) (named "b" 53 54) (binary operator.Subtract 58 59 (named "b" 56 57) (named "a" 60 61)) (named "a" 63 64)) ∷ []) (nm "A" 71 72) ∷ []), Some (Subtract, 58)) ∷
    -- facts_after_and
    -- typedef struct _A { UINT8 a; UINT8 b { a <= b && b - a <= b - a }; } A;
    -- no unsafe operator
    ((struct (nm "_A" 15 17) [] (field (little One 20 25) (nm "a" 26 27) ∷ tested (little One 29 34) (nm "b" 35 36) (binary operator.And 46 48 (binary operator.LessEqual 41 43 (named "a" 39 40) (named "b" 44 45)) (binary operator.LessEqual 55 57 (binary operator.Subtract 51 52 (named "b" 49 50) (named "a" 53 54)) (binary operator.Subtract 60 61 (named "b" 58 59) (named "a" 62 63)))) ∷ []) (nm "A" 69 70) ∷ []), None) ∷
    -- turned_comparison_is_another_tree
    -- typedef struct _A { UINT8 a; UINT8 x; UINT8 b { (a > x ? a : x) <= b && b - (x < a ? a : x) >= 1 }; } A;
    -- A1 at byte 74: -
    ((struct (nm "_A" 15 17) [] (field (little One 20 25) (nm "a" 26 27) ∷ field (little One 29 34) (nm "x" 35 36) ∷ tested (little One 38 43) (nm "b" 44 45) (binary operator.And 69 71 (binary operator.LessEqual 64 66 (in_parens 48 63 (choice 55 56 (binary operator.Greater 51 52 (named "a" 49 50) (named "x" 53 54)) (named "a" 57 58) (named "x" 61 62))) (named "b" 67 68)) (binary operator.GreaterEqual 92 94 (binary operator.Subtract 74 75 (named "b" 72 73) (in_parens 76 91 (choice 83 84 (binary operator.Less 79 80 (named "x" 77 78) (named "a" 81 82)) (named "a" 85 86) (named "x" 89 90)))) (written 1 95 96))) ∷ []) (nm "A" 102 103) ∷ []), Some (Subtract, 74)) ∷
    -- same_tree_is_known
    -- typedef struct _A { UINT8 a; UINT8 x; UINT8 b { (a > x ? a : x) <= b && b - (a > x ? a : x) >= 1 }; } A;
    -- no unsafe operator
    ((struct (nm "_A" 15 17) [] (field (little One 20 25) (nm "a" 26 27) ∷ field (little One 29 34) (nm "x" 35 36) ∷ tested (little One 38 43) (nm "b" 44 45) (binary operator.And 69 71 (binary operator.LessEqual 64 66 (in_parens 48 63 (choice 55 56 (binary operator.Greater 51 52 (named "a" 49 50) (named "x" 53 54)) (named "a" 57 58) (named "x" 61 62))) (named "b" 67 68)) (binary operator.GreaterEqual 92 94 (binary operator.Subtract 74 75 (named "b" 72 73) (in_parens 76 91 (choice 83 84 (binary operator.Greater 79 80 (named "a" 77 78) (named "x" 81 82)) (named "a" 85 86) (named "x" 89 90)))) (written 1 95 96))) ∷ []) (nm "A" 102 103) ∷ []), None) ∷
    -- literal_has_the_width_of_the_amount
    -- typedef struct _A { UINT32 a { a < 32 }; UINT32 b { b == 1 << a }; } A;
    -- no unsafe operator
    ((struct (nm "_A" 15 17) [] (tested (little Four 20 26) (nm "a" 27 28) (binary operator.Less 33 34 (named "a" 31 32) (written 32 35 37)) ∷ tested (little Four 41 47) (nm "b" 48 49) (binary operator.Equal 54 56 (named "b" 52 53) (binary operator.ShiftLeft 59 61 (written 1 57 58) (named "a" 62 63))) ∷ []) (nm "A" 69 70) ∷ []), None) ∷
    -- left_side_is_not_widened
    -- typedef struct _A { UINT8 a; UINT32 b { b < 9 && a << b == 1 }; } A;
    -- A1 at byte 51: <<
    ((struct (nm "_A" 15 17) [] (field (little One 20 25) (nm "a" 26 27) ∷ tested (little Four 29 35) (nm "b" 36 37) (binary operator.And 46 48 (binary operator.Less 42 43 (named "b" 40 41) (written 9 44 45)) (binary operator.Equal 56 58 (binary operator.ShiftLeft 51 53 (named "a" 49 50) (named "b" 54 55)) (written 1 59 60))) ∷ []) (nm "A" 66 67) ∷ []), Some (ShiftLeft, 51)) ∷
    -- amount_below_the_left_side
    -- typedef struct _A { UINT8 a; UINT32 b { b < 8 && a << b == 1 }; } A;
    -- no unsafe operator
    ((struct (nm "_A" 15 17) [] (field (little One 20 25) (nm "a" 26 27) ∷ tested (little Four 29 35) (nm "b" 36 37) (binary operator.And 46 48 (binary operator.Less 42 43 (named "b" 40 41) (written 8 44 45)) (binary operator.Equal 56 58 (binary operator.ShiftLeft 51 53 (named "a" 49 50) (named "b" 54 55)) (written 1 59 60))) ∷ []) (nm "A" 66 67) ∷ []), None) ∷
    -- constant_of_another_width_is_another
    -- typedef struct _A(UINT16 s) { UINT32 o { is_range_okay(s, o, 4) }; UINT32 p { p == o + 4 }; } A;
    -- A1 at byte 85: +
    ((struct (nm "_A" 15 17) (param.Value (plain.Number (number_at Two LittleEndian 18 24)) (nm "s" 25 26) ∷ []) (tested (little Four 30 36) (nm "o" 37 38) (tree.RangeOkay (sp 41 63) (named "s" 55 56) (named "o" 58 59) (written 4 61 62)) ∷ tested (little Four 67 73) (nm "p" 74 75) (binary operator.Equal 80 82 (named "p" 78 79) (binary operator.Add 85 86 (named "o" 83 84) (written 4 87 88))) ∷ []) (nm "A" 94 95) ∷ []), Some (Add, 85)) ∷
    -- constant_of_the_same_width
    -- typedef struct _A(UINT32 s) { UINT32 o { is_range_okay(s, o, 4) }; UINT32 p { p == o + 4 }; } A;
    -- no unsafe operator
    ((struct (nm "_A" 15 17) (param.Value (plain.Number (number_at Four LittleEndian 18 24)) (nm "s" 25 26) ∷ []) (tested (little Four 30 36) (nm "o" 37 38) (tree.RangeOkay (sp 41 63) (named "s" 55 56) (named "o" 58 59) (written 4 61 62)) ∷ tested (little Four 67 73) (nm "p" 74 75) (binary operator.Equal 80 82 (named "p" 78 79) (binary operator.Add 85 86 (named "o" 83 84) (written 4 87 88))) ∷ []) (nm "A" 94 95) ∷ []), None) ∷
    -- fact_of_a_sum_is_not_mirrored
    -- typedef struct _A { UINT8 a; UINT8 b; UINT8 c { b <= c && c - b >= a && a + b == c }; } A;
    -- A1 at byte 74: +
    ((struct (nm "_A" 15 17) [] (field (little One 20 25) (nm "a" 26 27) ∷ field (little One 29 34) (nm "b" 35 36) ∷ tested (little One 38 43) (nm "c" 44 45) (binary operator.And 69 71 (binary operator.And 55 57 (binary operator.LessEqual 50 52 (named "b" 48 49) (named "c" 53 54)) (binary operator.GreaterEqual 64 66 (binary operator.Subtract 60 61 (named "c" 58 59) (named "b" 62 63)) (named "a" 67 68))) (binary operator.Equal 78 80 (binary operator.Add 74 75 (named "a" 72 73) (named "b" 76 77)) (named "c" 81 82))) ∷ []) (nm "A" 88 89) ∷ []), Some (Add, 74)) ∷
    -- strict_fact_of_a_sum_is_none
    -- typedef struct _A { UINT8 a; UINT8 b; UINT8 c { b <= c && a < c - b && a + b == c }; } A;
    -- A1 at byte 73: +
    ((struct (nm "_A" 15 17) [] (field (little One 20 25) (nm "a" 26 27) ∷ field (little One 29 34) (nm "b" 35 36) ∷ tested (little One 38 43) (nm "c" 44 45) (binary operator.And 68 70 (binary operator.And 55 57 (binary operator.LessEqual 50 52 (named "b" 48 49) (named "c" 53 54)) (binary operator.Less 60 61 (named "a" 58 59) (binary operator.Subtract 64 65 (named "c" 62 63) (named "b" 66 67)))) (binary operator.Equal 77 79 (binary operator.Add 73 74 (named "a" 71 72) (named "b" 75 76)) (named "c" 80 81))) ∷ []) (nm "A" 87 88) ∷ []), Some (Add, 73)) ∷
    -- fact_of_a_sum
    -- typedef struct _A { UINT8 a; UINT8 b; UINT8 c { b <= c && a <= c - b && a + b == c }; } A;
    -- no unsafe operator
    ((struct (nm "_A" 15 17) [] (field (little One 20 25) (nm "a" 26 27) ∷ field (little One 29 34) (nm "b" 35 36) ∷ tested (little One 38 43) (nm "c" 44 45) (binary operator.And 69 71 (binary operator.And 55 57 (binary operator.LessEqual 50 52 (named "b" 48 49) (named "c" 53 54)) (binary operator.LessEqual 60 62 (named "a" 58 59) (binary operator.Subtract 65 66 (named "c" 63 64) (named "b" 67 68)))) (binary operator.Equal 78 80 (binary operator.Add 74 75 (named "a" 72 73) (named "b" 76 77)) (named "c" 81 82))) ∷ []) (nm "A" 88 89) ∷ []), None) ∷
    -- fact_of_a_sum_turned
    -- typedef struct _A { UINT8 a; UINT8 b; UINT8 c { b <= c && !(a > c - b) && a + b == c }; } A;
    -- no unsafe operator
    ((struct (nm "_A" 15 17) [] (field (little One 20 25) (nm "a" 26 27) ∷ field (little One 29 34) (nm "b" 35 36) ∷ tested (little One 38 43) (nm "c" 44 45) (binary operator.And 71 73 (binary operator.And 55 57 (binary operator.LessEqual 50 52 (named "b" 48 49) (named "c" 53 54)) (tree.Unary (sp 58 70) Not (sp 58 59) (in_parens 59 70 (binary operator.Greater 62 63 (named "a" 60 61) (binary operator.Subtract 66 67 (named "c" 64 65) (named "b" 68 69)))))) (binary operator.Equal 80 82 (binary operator.Add 76 77 (named "a" 74 75) (named "b" 78 79)) (named "c" 83 84))) ∷ []) (nm "A" 90 91) ∷ []), None) ∷
    -- quotient_by_a_constant_zero
    -- typedef struct _A { UINT8 f[1 / 0]; } A;
    -- A1 at byte 30: /
    ((struct (nm "_A" 15 17) [] (sized (little One 20 25) (nm "f" 26 27) (extent.Bytes (binary operator.Divide 30 31 (written 1 28 29) (written 0 32 33))) ∷ []) (nm "A" 38 39) ∷ []), Some (Divide, 30)) ∷
    -- sum_of_literals_too_wide
    -- typedef struct _A { UINT8 a[200 + 100]; } A;
    -- A1 at byte 32: +
    ((struct (nm "_A" 15 17) [] (sized (little One 20 25) (nm "a" 26 27) (extent.Bytes (binary operator.Add 32 33 (written 200 28 31) (written 100 34 37))) ∷ []) (nm "A" 42 43) ∷ []), Some (Add, 32)) ∷
    -- enum_has_the_range_of_its_base
    -- UINT8 enum E { A = 1 } typedef struct _S { E e; UINT8 x { x == e + 1 }; } S;
    -- A1 at byte 65: +
    ((enum_of (number_at One LittleEndian 0 5) (nm "E" 11 12) (item (nm "A" 15 16) (Some (constant.Number (literal 1 Decimal 19 20))) ∷ []) ∷ struct (nm "_S" 38 40) [] (field (type_at (type.Named (codes "E") []) 43 44) (nm "e" 45 46) ∷ tested (little One 48 53) (nm "x" 54 55) (binary operator.Equal 60 62 (named "x" 58 59) (binary operator.Add 65 66 (named "e" 63 64) (written 1 67 68))) ∷ []) (nm "S" 74 75) ∷ []), Some (Add, 65)) ∷
    -- empty_range_that_fits
    -- typedef struct _A { UINT8 a { a > 5 && a < 3 && a + 253 == 1 }; } A;
    -- no unsafe operator
    ((struct (nm "_A" 15 17) [] (tested (little One 20 25) (nm "a" 26 27) (binary operator.And 45 47 (binary operator.And 36 38 (binary operator.Greater 32 33 (named "a" 30 31) (written 5 34 35)) (binary operator.Less 41 42 (named "a" 39 40) (written 3 43 44))) (binary operator.Equal 56 58 (binary operator.Add 50 51 (named "a" 48 49) (written 253 52 55)) (written 1 59 60))) ∷ []) (nm "A" 66 67) ∷ []), None) ∷
    -- empty_range_too_wide
    -- typedef struct _A { UINT8 a { a > 5 && a < 3 && a + 254 == 1 }; } A;
    -- A1 at byte 50: +
    ((struct (nm "_A" 15 17) [] (tested (little One 20 25) (nm "a" 26 27) (binary operator.And 45 47 (binary operator.And 36 38 (binary operator.Greater 32 33 (named "a" 30 31) (written 5 34 35)) (binary operator.Less 41 42 (named "a" 39 40) (written 3 43 44))) (binary operator.Equal 56 58 (binary operator.Add 50 51 (named "a" 48 49) (written 254 52 55)) (written 1 59 60))) ∷ []) (nm "A" 66 67) ∷ []), Some (Add, 50)) ∷
    -- constant_is_cut
    -- typedef struct _A { UINT8 a { 5 < 3 && 5 + 253 == a }; } A;
    -- no unsafe operator
    ((struct (nm "_A" 15 17) [] (tested (little One 20 25) (nm "a" 26 27) (binary operator.And 36 38 (binary operator.Less 32 33 (written 5 30 31) (written 3 34 35)) (binary operator.Equal 47 49 (binary operator.Add 41 42 (written 5 39 40) (written 253 43 46)) (named "a" 50 51))) ∷ []) (nm "A" 57 58) ∷ []), None) ∷
    -- constant_without_a_fact
    -- typedef struct _A { UINT8 a { 5 + 253 == a }; } A;
    -- A1 at byte 32: +
    ((struct (nm "_A" 15 17) [] (tested (little One 20 25) (nm "a" 26 27) (binary operator.Equal 38 40 (binary operator.Add 32 33 (written 5 30 31) (written 253 34 37)) (named "a" 41 42)) ∷ []) (nm "A" 48 49) ∷ []), Some (Add, 32)) ∷
    -- return_of_a_check_is_no_fact
    -- typedef struct _A { UINT8 a {:check return a >= 1;}; UINT8 b { b == a - 1 }; } A;
    -- A1 at byte 70: -
    ((struct (nm "_A" 15 17) [] (whole_field (little One 20 25) (nm "a" 26 27) None None (Some (action Check 28 35 (Return (sp 36 50) (binary operator.GreaterEqual 45 47 (named "a" 43 44) (written 1 48 49)) ∷ []))) ∷ tested (little One 53 58) (nm "b" 59 60) (binary operator.Equal 65 67 (named "b" 63 64) (binary operator.Subtract 70 71 (named "a" 68 69) (written 1 72 73))) ∷ []) (nm "A" 79 80) ∷ []), Some (Subtract, 70)) ∷
    -- abort_leaves_no_fact
    -- typedef struct _A(mutable UINT8 *p) { UINT8 a {:act if (a < 1) { abort; } *p = a - 1;}; } A;
    -- A1 at byte 81: -
    ((struct (nm "_A" 15 17) (param.Mutable (target.Number (number_at One LittleEndian 26 31)) (nm "p" 33 34) ∷ []) (whole_field (little One 38 43) (nm "a" 44 45) None None (Some (action Act 46 51 (If (sp 52 73) (binary operator.Less 58 59 (named "a" 56 57) (written 1 60 61)) (block_of (Abort (sp 65 71) ∷ [])) ∷ Store (sp 74 85) (nm "p" 75 76) (Value (binary operator.Subtract 81 82 (named "a" 79 80) (written 1 83 84))) ∷ []))) ∷ []) (nm "A" 90 91) ∷ []), Some (Subtract, 81)) ∷
    -- case_leaves_no_fact
    -- casetype _C(UINT8 t) { switch (t) { case 5: UINT8 a[t - 5]; } } C;
    -- A1 at byte 54: -
    ((casetype (nm "_C" 9 11) (param.Value (plain.Number (number_at One LittleEndian 12 17)) (nm "t" 18 19) ∷ []) (named "t" 31 32) (case_of (constant.Number (literal 5 Decimal 41 42)) (sized (little One 44 49) (nm "a" 50 51) (extent.Bytes (binary operator.Subtract 54 55 (named "t" 52 53) (written 5 56 57))) ∷ []) ∷ []) None (nm "C" 64 65) ∷ []), Some (Subtract, 54)) ∷
    -- caller_leaves_no_fact
    -- typedef struct _A(UINT8 n) { UINT8 a[n - 4]; } A; typedef struct _B { UINT8 n { n >= 4 }; A(n) a; } B;
    -- A1 at byte 39: -
    ((struct (nm "_A" 15 17) (param.Value (plain.Number (number_at One LittleEndian 18 23)) (nm "n" 24 25) ∷ []) (sized (little One 29 34) (nm "a" 35 36) (extent.Bytes (binary operator.Subtract 39 40 (named "n" 37 38) (written 4 41 42))) ∷ []) (nm "A" 47 48) ∷ struct (nm "_B" 65 67) [] (tested (little One 70 75) (nm "n" 76 77) (binary operator.GreaterEqual 82 84 (named "n" 80 81) (written 4 85 86)) ∷ field (type_at (type.Named (codes "A") ((named "n" 92 93) ∷ [])) 90 91) (nm "a" 95 96) ∷ []) (nm "B" 100 101) ∷ []), Some (Subtract, 39)) ∷
    -- negated_and_leaves_no_fact
    -- typedef struct _A { UINT8 a { !(a < 1 && a < 2) && a - 1 == 0 }; } A;
    -- A1 at byte 53: -
    ((struct (nm "_A" 15 17) [] (tested (little One 20 25) (nm "a" 26 27) (binary operator.And 48 50 (tree.Unary (sp 30 47) Not (sp 30 31) (in_parens 31 47 (binary operator.And 38 40 (binary operator.Less 34 35 (named "a" 32 33) (written 1 36 37)) (binary operator.Less 43 44 (named "a" 41 42) (written 2 45 46))))) (binary operator.Equal 57 59 (binary operator.Subtract 53 54 (named "a" 51 52) (written 1 55 56)) (written 0 60 61))) ∷ []) (nm "A" 67 68) ∷ []), Some (Subtract, 53)) ∷
    -- negated_or_leaves_facts
    -- typedef struct _A { UINT8 a { !(a < 1 || a < 2) && a - 1 == 0 }; } A;
    -- no unsafe operator
    ((struct (nm "_A" 15 17) [] (tested (little One 20 25) (nm "a" 26 27) (binary operator.And 48 50 (tree.Unary (sp 30 47) Not (sp 30 31) (in_parens 31 47 (binary operator.Or 38 40 (binary operator.Less 34 35 (named "a" 32 33) (written 1 36 37)) (binary operator.Less 43 44 (named "a" 41 42) (written 2 45 46))))) (binary operator.Equal 57 59 (binary operator.Subtract 53 54 (named "a" 51 52) (written 1 55 56)) (written 0 60 61))) ∷ []) (nm "A" 67 68) ∷ []), None) ∷
    -- two_literals_have_8_bits
    -- #define N 100 typedef struct _A { UINT16 a { a == N * 4 }; } A;
    -- A1 at byte 52: *
    ((define (nm "N" 8 9) (literal 100 Decimal 10 13) ∷ struct (nm "_A" 29 31) [] (tested (little Two 34 40) (nm "a" 41 42) (binary operator.Equal 47 49 (named "a" 45 46) (binary operator.Multiply 52 53 (named "N" 50 51) (written 4 54 55))) ∷ []) (nm "A" 61 62) ∷ []), Some (Multiply, 52)) ∷
    -- two_literals_of_which_one_has_16
    -- #define N 300 typedef struct _A { UINT16 a { a == N * 4 }; } A;
    -- no unsafe operator
    ((define (nm "N" 8 9) (literal 300 Decimal 10 13) ∷ struct (nm "_A" 29 31) [] (tested (little Two 34 40) (nm "a" 41 42) (binary operator.Equal 47 49 (named "a" 45 46) (binary operator.Multiply 52 53 (named "N" 50 51) (written 4 54 55))) ∷ []) (nm "A" 61 62) ∷ []), None) ∷
    -- ends_have_no_bound
    -- typedef struct _A { UINT64 x; UINT64 y; UINT64 z { x + ((1 - 3) * y * y + z * z * z) == 1 }; } A;
    -- A1 at byte 53: +
    ((struct (nm "_A" 15 17) [] (field (little Eight 20 26) (nm "x" 27 28) ∷ field (little Eight 30 36) (nm "y" 37 38) ∷ tested (little Eight 40 46) (nm "z" 47 48) (binary operator.Equal 85 87 (binary operator.Add 53 54 (named "x" 51 52) (in_parens 55 84 (binary operator.Add 72 73 (binary operator.Multiply 68 69 (binary operator.Multiply 64 65 (in_parens 56 63 (binary operator.Subtract 59 60 (written 1 57 58) (written 3 61 62))) (named "y" 66 67)) (named "y" 70 71)) (binary operator.Multiply 80 81 (binary operator.Multiply 76 77 (named "z" 74 75) (named "z" 78 79)) (named "z" 82 83))))) (written 1 88 89)) ∷ []) (nm "A" 95 96) ∷ []), Some (Add, 53)) ∷
    -- amount_modulo_its_own_width
    -- typedef struct _A { UINT8 x { x + ((1 + 1) << 256) == 1 }; } A;
    -- A1 at byte 43: <<
    ((struct (nm "_A" 15 17) [] (tested (little One 20 25) (nm "x" 26 27) (binary operator.Equal 51 53 (binary operator.Add 32 33 (named "x" 30 31) (in_parens 34 50 (binary operator.ShiftLeft 43 45 (in_parens 35 42 (binary operator.Add 38 39 (written 1 36 37) (written 1 40 41))) (written 256 46 49)))) (written 1 54 55)) ∷ []) (nm "A" 61 62) ∷ []), Some (ShiftLeft, 43)) ∷
    -- shift_of_literals
    -- typedef struct _I { UINT8 a[(1 + 1) << 256]; } I;
    -- A1 at byte 36: <<
    ((struct (nm "_I" 15 17) [] (sized (little One 20 25) (nm "a" 26 27) (extent.Bytes (binary operator.ShiftLeft 36 38 (in_parens 28 35 (binary operator.Add 31 32 (written 1 29 30) (written 1 33 34))) (written 256 39 42))) ∷ []) (nm "I" 47 48) ∷ []), Some (ShiftLeft, 36)) ∷
    -- negative_end_is_below
    -- typedef struct _A { UINT8 a { 1 + (1 - 3) == a }; } A;
    -- A1 at byte 37: -
    ((struct (nm "_A" 15 17) [] (tested (little One 20 25) (nm "a" 26 27) (binary operator.Equal 42 44 (binary operator.Add 32 33 (written 1 30 31) (in_parens 34 41 (binary operator.Subtract 37 38 (written 1 35 36) (written 3 39 40)))) (named "a" 45 46)) ∷ []) (nm "A" 52 53) ∷ []), Some (Subtract, 37)) ∷
    -- negative_end_in_dead_code
    -- typedef struct _A { UINT8 a; UINT8 b { a < 0 && a + 0 == b }; } A;
    -- no unsafe operator
    ((struct (nm "_A" 15 17) [] (field (little One 20 25) (nm "a" 26 27) ∷ tested (little One 29 34) (nm "b" 35 36) (binary operator.And 45 47 (binary operator.Less 41 42 (named "a" 39 40) (written 0 43 44)) (binary operator.Equal 54 56 (binary operator.Add 50 51 (named "a" 48 49) (written 0 52 53)) (named "b" 57 58))) ∷ []) (nm "A" 64 65) ∷ []), None) ∷
    -- sizeof_this_is_not_cut
    -- typedef struct _A { UINT8 x[4294967296]; UINT8 b; UINT64 c { c <= 18446744069414584310 && c + sizeof(this) == 1 }; } A;
    -- no unsafe operator
    ((struct (nm "_A" 15 17) [] (sized (little One 20 25) (nm "x" 26 27) (extent.Bytes (written 4294967296 28 38)) ∷ field (little One 41 46) (nm "b" 47 48) ∷ tested (little Eight 50 56) (nm "c" 57 58) (binary operator.And 87 89 (binary operator.LessEqual 63 65 (named "c" 61 62) (written 18446744069414584310 66 86)) (binary operator.Equal 107 109 (binary operator.Add 92 93 (named "c" 90 91) (tree.Sizeof (sp 94 106) (sp 94 100) operand.This (sp 101 105))) (written 1 110 111))) ∷ []) (nm "A" 117 118) ∷ []), None) ∷
    -- sizeof_this_past_the_cap
    -- typedef struct _A { UINT8 x[4294967296]; UINT8 b; UINT64 c { c <= 18446744069414584311 && c + sizeof(this) == 1 }; } A;
    -- A1 at byte 92: +
    ((struct (nm "_A" 15 17) [] (sized (little One 20 25) (nm "x" 26 27) (extent.Bytes (written 4294967296 28 38)) ∷ field (little One 41 46) (nm "b" 47 48) ∷ tested (little Eight 50 56) (nm "c" 57 58) (binary operator.And 87 89 (binary operator.LessEqual 63 65 (named "c" 61 62) (written 18446744069414584311 66 86)) (binary operator.Equal 107 109 (binary operator.Add 92 93 (named "c" 90 91) (tree.Sizeof (sp 94 106) (sp 94 100) operand.This (sp 101 105))) (written 1 110 111))) ∷ []) (nm "A" 117 118) ∷ []), Some (Add, 92)) ∷
    -- where_is_a_fact
    -- typedef struct _A(UINT8 n) where (n >= 4) { UINT8 a[n - 4]; } A;
    -- no unsafe operator
    ((guarded_struct (nm "_A" 15 17) (param.Value (plain.Number (number_at One LittleEndian 18 23)) (nm "n" 24 25) ∷ []) (in_parens 33 41 (binary operator.GreaterEqual 36 38 (named "n" 34 35) (written 4 39 40))) (sized (little One 44 49) (nm "a" 50 51) (extent.Bytes (binary operator.Subtract 54 55 (named "n" 52 53) (written 4 56 57))) ∷ []) (nm "A" 62 63) ∷ []), None) ∷
    []
