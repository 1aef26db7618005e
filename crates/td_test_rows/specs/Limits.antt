-- Texts and the first limit that is passed.
use Rattle.std.specs.Prelude.{List, [], ◌∷◌, Some, None, replicate}
use Rattle.td_test_rows.specs.Imports.{One, LittleEndian, Decimal}
use Rattle.td_ast.specs.declared.names.ConstTree.TheVariants as constant
use Rattle.td_ast.specs.declared.names.PlainTree.TheVariants as plain
use Rattle.td_ast.specs.declared.parameters.ParamTree.TheVariants as param
use Rattle.td_ast.specs.declared.definitions.SlotKind.TheVariants as slot
use Rattle.td_limits.specs.declared.limits.Limit.TheVariants.{Fields, Cases, Depth}
use Rattle.td_test_rows.specs.Rows.{nm}
use Rattle.td_test_rows.specs.Makers.{literal, number_at, named, little, field, alias, case_of, casetype, slot_of, output}
use Rattle.td_test_rows.specs.Findings.{LimitRow}

abbrev pub limits : List LimitRow
limits =
    -- alias_chain_within
    -- typedef UINT8 U1; typedef U1 U2; typedef U2 U3; typedef U3 U4; typedef U4 U5; typedef U5 U6; typedef U6 U7; typedef U7 U8; typedef U8 U9; typedef U9 U10; typedef U10 U11; typedef U11 U12; typedef U12 U13; typedef U13 U14; typedef U14 U15; typedef U15 U16; typedef U16 U17; typedef U17 U18; typedef U18 U19; typedef U19 U20; typedef U20 U21; typedef U21 U22; typedef U22 U23; typedef U23 U24; typedef U24 U25; typedef U25 U26; typedef U26 U27; typedef U27 U28; typedef U28 U29; typedef U29 U30; typedef U30 U31; typedef U31 U32;
    -- within the limits
    ((alias (plain.Number (number_at One LittleEndian 8 13)) (nm "U1" 14 16) ∷ alias (plain.Named (nm "U1" 26 28)) (nm "U2" 29 31) ∷ alias (plain.Named (nm "U2" 41 43)) (nm "U3" 44 46) ∷ alias (plain.Named (nm "U3" 56 58)) (nm "U4" 59 61) ∷ alias (plain.Named (nm "U4" 71 73)) (nm "U5" 74 76) ∷ alias (plain.Named (nm "U5" 86 88)) (nm "U6" 89 91) ∷ alias (plain.Named (nm "U6" 101 103)) (nm "U7" 104 106) ∷ alias (plain.Named (nm "U7" 116 118)) (nm "U8" 119 121) ∷ alias (plain.Named (nm "U8" 131 133)) (nm "U9" 134 136) ∷ alias (plain.Named (nm "U9" 146 148)) (nm "U10" 149 152) ∷ alias (plain.Named (nm "U10" 162 165)) (nm "U11" 166 169) ∷ alias (plain.Named (nm "U11" 179 182)) (nm "U12" 183 186) ∷ alias (plain.Named (nm "U12" 196 199)) (nm "U13" 200 203) ∷ alias (plain.Named (nm "U13" 213 216)) (nm "U14" 217 220) ∷ alias (plain.Named (nm "U14" 230 233)) (nm "U15" 234 237) ∷ alias (plain.Named (nm "U15" 247 250)) (nm "U16" 251 254) ∷ alias (plain.Named (nm "U16" 264 267)) (nm "U17" 268 271) ∷ alias (plain.Named (nm "U17" 281 284)) (nm "U18" 285 288) ∷ alias (plain.Named (nm "U18" 298 301)) (nm "U19" 302 305) ∷ alias (plain.Named (nm "U19" 315 318)) (nm "U20" 319 322) ∷ alias (plain.Named (nm "U20" 332 335)) (nm "U21" 336 339) ∷ alias (plain.Named (nm "U21" 349 352)) (nm "U22" 353 356) ∷ alias (plain.Named (nm "U22" 366 369)) (nm "U23" 370 373) ∷ alias (plain.Named (nm "U23" 383 386)) (nm "U24" 387 390) ∷ alias (plain.Named (nm "U24" 400 403)) (nm "U25" 404 407) ∷ alias (plain.Named (nm "U25" 417 420)) (nm "U26" 421 424) ∷ alias (plain.Named (nm "U26" 434 437)) (nm "U27" 438 441) ∷ alias (plain.Named (nm "U27" 451 454)) (nm "U28" 455 458) ∷ alias (plain.Named (nm "U28" 468 471)) (nm "U29" 472 475) ∷ alias (plain.Named (nm "U29" 485 488)) (nm "U30" 489 492) ∷ alias (plain.Named (nm "U30" 502 505)) (nm "U31" 506 509) ∷ alias (plain.Named (nm "U31" 519 522)) (nm "U32" 523 526) ∷ []), None) ∷
    -- alias_chain_too_deep
    -- typedef UINT8 U1; typedef U1 U2; typedef U2 U3; typedef U3 U4; typedef U4 U5; typedef U5 U6; typedef U6 U7; typedef U7 U8; typedef U8 U9; typedef U9 U10; typedef U10 U11; typedef U11 U12; typedef U12 U13; typedef U13 U14; typedef U14 U15; typedef U15 U16; typedef U16 U17; typedef U17 U18; typedef U18 U19; typedef U19 U20; typedef U20 U21; typedef U21 U22; typedef U22 U23; typedef U23 U24; typedef U24 U25; typedef U25 U26; typedef U26 U27; typedef U27 U28; typedef U28 U29; typedef U29 U30; typedef U30 U31; typedef U31 U32; typedef U32 U33;
    -- Depth at byte 540
    ((alias (plain.Number (number_at One LittleEndian 8 13)) (nm "U1" 14 16) ∷ alias (plain.Named (nm "U1" 26 28)) (nm "U2" 29 31) ∷ alias (plain.Named (nm "U2" 41 43)) (nm "U3" 44 46) ∷ alias (plain.Named (nm "U3" 56 58)) (nm "U4" 59 61) ∷ alias (plain.Named (nm "U4" 71 73)) (nm "U5" 74 76) ∷ alias (plain.Named (nm "U5" 86 88)) (nm "U6" 89 91) ∷ alias (plain.Named (nm "U6" 101 103)) (nm "U7" 104 106) ∷ alias (plain.Named (nm "U7" 116 118)) (nm "U8" 119 121) ∷ alias (plain.Named (nm "U8" 131 133)) (nm "U9" 134 136) ∷ alias (plain.Named (nm "U9" 146 148)) (nm "U10" 149 152) ∷ alias (plain.Named (nm "U10" 162 165)) (nm "U11" 166 169) ∷ alias (plain.Named (nm "U11" 179 182)) (nm "U12" 183 186) ∷ alias (plain.Named (nm "U12" 196 199)) (nm "U13" 200 203) ∷ alias (plain.Named (nm "U13" 213 216)) (nm "U14" 217 220) ∷ alias (plain.Named (nm "U14" 230 233)) (nm "U15" 234 237) ∷ alias (plain.Named (nm "U15" 247 250)) (nm "U16" 251 254) ∷ alias (plain.Named (nm "U16" 264 267)) (nm "U17" 268 271) ∷ alias (plain.Named (nm "U17" 281 284)) (nm "U18" 285 288) ∷ alias (plain.Named (nm "U18" 298 301)) (nm "U19" 302 305) ∷ alias (plain.Named (nm "U19" 315 318)) (nm "U20" 319 322) ∷ alias (plain.Named (nm "U20" 332 335)) (nm "U21" 336 339) ∷ alias (plain.Named (nm "U21" 349 352)) (nm "U22" 353 356) ∷ alias (plain.Named (nm "U22" 366 369)) (nm "U23" 370 373) ∷ alias (plain.Named (nm "U23" 383 386)) (nm "U24" 387 390) ∷ alias (plain.Named (nm "U24" 400 403)) (nm "U25" 404 407) ∷ alias (plain.Named (nm "U25" 417 420)) (nm "U26" 421 424) ∷ alias (plain.Named (nm "U26" 434 437)) (nm "U27" 438 441) ∷ alias (plain.Named (nm "U27" 451 454)) (nm "U28" 455 458) ∷ alias (plain.Named (nm "U28" 468 471)) (nm "U29" 472 475) ∷ alias (plain.Named (nm "U29" 485 488)) (nm "U30" 489 492) ∷ alias (plain.Named (nm "U30" 502 505)) (nm "U31" 506 509) ∷ alias (plain.Named (nm "U31" 519 522)) (nm "U32" 523 526) ∷ alias (plain.Named (nm "U32" 536 539)) (nm "U33" 540 543) ∷ []), Some (Depth, 540)) ∷
    -- slots_are_fields
    -- output typedef struct _O { UINT8 x; } O;  with 257 slots
    -- Fields at byte 38
    ((output (nm "_O" 22 24) (replicate 257 (slot_of (slot.Number (number_at One LittleEndian 27 32)) (nm "x" 33 34))) (nm "O" 38 39) ∷ []), Some (Fields, 38)) ∷
    -- slots_within
    -- output typedef struct _O { UINT8 x; } O;  with 256 slots
    -- within the limits
    ((output (nm "_O" 22 24) (replicate 256 (slot_of (slot.Number (number_at One LittleEndian 27 32)) (nm "x" 33 34))) (nm "O" 38 39) ∷ []), None) ∷
    -- default_is_no_case
    -- casetype _C(UINT8 t) { switch (t) { case 1: UINT8 a; default: UINT8 b; } } C;  with 256 cases
    -- within the limits
    ((casetype (nm "_C" 9 11) (param.Value (plain.Number (number_at One LittleEndian 12 17)) (nm "t" 18 19) ∷ []) (named "t" 31 32) (replicate 256 (case_of (constant.Number (literal 1 Decimal 41 42)) (field (little One 44 49) (nm "a" 50 51) ∷ []))) (Some (field (little One 62 67) (nm "b" 68 69) ∷ [])) (nm "C" 75 76) ∷ []), None) ∷
    -- one_case_too_many
    -- casetype _C(UINT8 t) { switch (t) { case 1: UINT8 a; } } C;  with 257 cases
    -- Cases at byte 57
    ((casetype (nm "_C" 9 11) (param.Value (plain.Number (number_at One LittleEndian 12 17)) (nm "t" 18 19) ∷ []) (named "t" 31 32) (replicate 257 (case_of (constant.Number (literal 1 Decimal 41 42)) (field (little One 44 49) (nm "a" 50 51) ∷ []))) None (nm "C" 57 58) ∷ []), Some (Cases, 57)) ∷
    -- fields_of_default
    -- casetype _C(UINT8 t) { switch (t) { case 1: UINT8 a; default: UINT8 b; } } C;  with 257 fields after `default`
    -- Fields at byte 75
    ((casetype (nm "_C" 9 11) (param.Value (plain.Number (number_at One LittleEndian 12 17)) (nm "t" 18 19) ∷ []) (named "t" 31 32) (case_of (constant.Number (literal 1 Decimal 41 42)) (field (little One 44 49) (nm "a" 50 51) ∷ []) ∷ []) (Some (replicate 257 (field (little One 62 67) (nm "b" 68 69)))) (nm "C" 75 76) ∷ []), Some (Fields, 75)) ∷
    []
