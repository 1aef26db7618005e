-- The trees of the worked texts.
use Rattle.std.specs.Prelude.{true, false, [], ◌∷◌, Some, None, codes}
use Rattle.td_test_rows.specs.Imports.{One, Two, Four, Eight, LittleEndian, BigEndian, Decimal, Hexadecimal, Value, Act, Check, Done, Enum, Struct, Casetype, ModuleTree}
use Rattle.td_ast.specs.declared.expressions.BinaryOperator.TheVariants as operator
use Rattle.td_ast.specs.Trees as tree
use Rattle.td_ast.specs.Statements.{Store, Return}
use Rattle.td_ast.specs.declared.names.ConstTree.TheVariants as constant
use Rattle.td_ast.specs.declared.names.PlainTree.TheVariants as plain
use Rattle.td_ast.specs.declared.parameters.TargetTree.TheVariants as target
use Rattle.td_ast.specs.declared.parameters.ParamTree.TheVariants as param
use Rattle.td_ast.specs.declared.fields.TypeKind.TheVariants as type
use Rattle.td_ast.specs.declared.fields.ExtentTree.TheVariants as extent
use Rattle.td_test_rows.specs.Rows.{sp, nm, number}
use Rattle.td_test_rows.specs.Makers.{literal, number_at, written, named, binary, type_at, little, action, copy, whole_field, field, tested, struct, entry_struct}

-- entrypoint typedef struct _P { UINT16 x; UINT16BE y { y >= 3 }; } P;
abbrev pub refined_tree : ModuleTree
refined_tree = record { definitions = (Struct (record { entry = true; tag = (nm "_P" 26 28); head = (record { params = []; condition = None }); fields = (record { type_tree = (record { span = (sp 31 37); kind = type.Number (number Two LittleEndian) }); name = (nm "x" 38 39); extent = None; refinement = None; action = None } ∷ record { type_tree = (record { span = (sp 41 49); kind = type.Number (number Two BigEndian) }); name = (nm "y" 50 51); extent = None; refinement = (Some (tree.Binary (sp 54 60) operator.GreaterEqual (sp 56 58) (tree.Name (sp 54 55) (nm "y" 54 55)) (tree.Number (sp 59 60) 3 Decimal))); action = None } ∷ []); name = (nm "P" 66 67) }) ∷ []) }

-- entrypoint typedef struct _Q(mutable UINT32 *end) { UINT8 n; UINT8 pad[7]; UINT8 body[n] {:act *end = field_pos;}; } Q;
abbrev pub counted_tree : ModuleTree
counted_tree = record { definitions = (Struct (record { entry = true; tag = (nm "_Q" 26 28); head = (record { params = (param.Mutable (target.Number (record { number = (number Four LittleEndian); span = (sp 37 43) })) (nm "end" 45 48) ∷ []); condition = None }); fields = (record { type_tree = (record { span = (sp 52 57); kind = type.Number (number One LittleEndian) }); name = (nm "n" 58 59); extent = None; refinement = None; action = None } ∷ record { type_tree = (record { span = (sp 61 66); kind = type.Number (number One LittleEndian) }); name = (nm "pad" 67 70); extent = (Some (extent.Bytes (tree.Number (sp 71 72) 7 Decimal))); refinement = None; action = None } ∷ record { type_tree = (record { span = (sp 75 80); kind = type.Number (number One LittleEndian) }); name = (nm "body" 81 85); extent = (Some (extent.Bytes (tree.Name (sp 86 87) (nm "n" 86 87)))); refinement = None; action = (Some (Done Act (sp 89 94) (Store (sp 95 112) (nm "end" 96 99) (Value (tree.FieldPos (sp 102 111) (sp 102 111))) ∷ []))) } ∷ []); name = (nm "Q" 117 118) }) ∷ []) }

-- entrypoint typedef struct _S(mutable UINT32 *got) { UINT8 a[6]; UINT32 v { v == 0x44332211 } {:act *got = v;}; } S;
abbrev pub two_words_tree : ModuleTree
two_words_tree = record { definitions = (Struct (record { entry = true; tag = (nm "_S" 26 28); head = (record { params = (param.Mutable (target.Number (record { number = (number Four LittleEndian); span = (sp 37 43) })) (nm "got" 45 48) ∷ []); condition = None }); fields = (record { type_tree = (record { span = (sp 52 57); kind = type.Number (number One LittleEndian) }); name = (nm "a" 58 59); extent = (Some (extent.Bytes (tree.Number (sp 60 61) 6 Decimal))); refinement = None; action = None } ∷ record { type_tree = (record { span = (sp 64 70); kind = type.Number (number Four LittleEndian) }); name = (nm "v" 71 72); extent = None; refinement = (Some (tree.Binary (sp 75 90) operator.Equal (sp 77 79) (tree.Name (sp 75 76) (nm "v" 75 76)) (tree.Number (sp 80 90) 1144201745 Hexadecimal))); action = (Some (Done Act (sp 93 98) (Store (sp 99 108) (nm "got" 100 103) (Value (tree.Name (sp 106 107) (nm "v" 106 107))) ∷ []))) } ∷ []); name = (nm "S" 113 114) }) ∷ []) }

-- entrypoint typedef struct _W { UINT64 a; UINT64 b; UINT64 c { c > 0 }; } W;
abbrev pub last_word_tree : ModuleTree
last_word_tree = record { definitions = (Struct (record { entry = true; tag = (nm "_W" 26 28); head = (record { params = []; condition = None }); fields = (record { type_tree = (record { span = (sp 31 37); kind = type.Number (number Eight LittleEndian) }); name = (nm "a" 38 39); extent = None; refinement = None; action = None } ∷ record { type_tree = (record { span = (sp 41 47); kind = type.Number (number Eight LittleEndian) }); name = (nm "b" 48 49); extent = None; refinement = None; action = None } ∷ record { type_tree = (record { span = (sp 51 57); kind = type.Number (number Eight LittleEndian) }); name = (nm "c" 58 59); extent = None; refinement = (Some (tree.Binary (sp 62 67) operator.Greater (sp 64 65) (tree.Name (sp 62 63) (nm "c" 62 63)) (tree.Number (sp 66 67) 0 Decimal))); action = None } ∷ []); name = (nm "W" 73 74) }) ∷ []) }

-- entrypoint typedef struct _V(mutable UINT8 *got) { UINT8 x { x <= 10 } {:act *got = x;}; UINT8 gap[7]; UINT8 z { z == 0 }; } V;
abbrev pub gap_tree : ModuleTree
gap_tree = record { definitions = (Struct (record { entry = true; tag = (nm "_V" 26 28); head = (record { params = (param.Mutable (target.Number (record { number = (number One LittleEndian); span = (sp 37 42) })) (nm "got" 44 47) ∷ []); condition = None }); fields = (record { type_tree = (record { span = (sp 51 56); kind = type.Number (number One LittleEndian) }); name = (nm "x" 57 58); extent = None; refinement = (Some (tree.Binary (sp 61 68) operator.LessEqual (sp 63 65) (tree.Name (sp 61 62) (nm "x" 61 62)) (tree.Number (sp 66 68) 10 Decimal))); action = (Some (Done Act (sp 71 76) (Store (sp 77 86) (nm "got" 78 81) (Value (tree.Name (sp 84 85) (nm "x" 84 85))) ∷ []))) } ∷ record { type_tree = (record { span = (sp 89 94); kind = type.Number (number One LittleEndian) }); name = (nm "gap" 95 98); extent = (Some (extent.Bytes (tree.Number (sp 99 100) 7 Decimal))); refinement = None; action = None } ∷ record { type_tree = (record { span = (sp 103 108); kind = type.Number (number One LittleEndian) }); name = (nm "z" 109 110); extent = None; refinement = (Some (tree.Binary (sp 113 119) operator.Equal (sp 115 117) (tree.Name (sp 113 114) (nm "z" 113 114)) (tree.Number (sp 118 119) 0 Decimal))); action = None } ∷ []); name = (nm "V" 125 126) }) ∷ []) }

-- entrypoint typedef struct _L { UINT32 n; UINT8 d[:byte-size n]; } L;
abbrev pub long_tree : ModuleTree
long_tree = record { definitions = (Struct (record { entry = true; tag = (nm "_L" 26 28); head = (record { params = []; condition = None }); fields = (record { type_tree = (record { span = (sp 31 37); kind = type.Number (number Four LittleEndian) }); name = (nm "n" 38 39); extent = None; refinement = None; action = None } ∷ record { type_tree = (record { span = (sp 41 46); kind = type.Number (number One LittleEndian) }); name = (nm "d" 47 48); extent = (Some (extent.ByteSize (tree.Name (sp 60 61) (nm "n" 60 61)))); refinement = None; action = None } ∷ []); name = (nm "L" 66 67) }) ∷ []) }

-- typedef struct _U { unit u[:byte-size 4]; } U;
abbrev pub units_tree : ModuleTree
units_tree = record { definitions = (Struct (record { entry = false; tag = (nm "_U" 15 17); head = (record { params = []; condition = None }); fields = (record { type_tree = (record { span = (sp 20 24); kind = type.Unit }); name = (nm "u" 25 26); extent = (Some (extent.ByteSize (tree.Number (sp 38 39) 4 Decimal))); refinement = None; action = None } ∷ []); name = (nm "U" 44 45) }) ∷ []) }

-- entrypoint typedef struct _A { UINT32 a[:byte-size 6]; } A;
abbrev pub undivided_tree : ModuleTree
undivided_tree = record { definitions = (Struct (record { entry = true; tag = (nm "_A" 26 28); head = (record { params = []; condition = None }); fields = (record { type_tree = (record { span = (sp 31 37); kind = type.Number (number Four LittleEndian) }); name = (nm "a" 38 39); extent = (Some (extent.ByteSize (tree.Number (sp 51 52) 6 Decimal))); refinement = None; action = None } ∷ []); name = (nm "A" 57 58) }) ∷ []) }

-- casetype _C(UINT8 tag) { switch (tag) { case 1: UINT8 a; case 2: UINT16 b; } } C; entrypoint typedef struct _T { UINT8 tag; C(tag) body; } T;
abbrev pub casetype_tree : ModuleTree
casetype_tree = record { definitions = (Casetype (record { entry = false; tag = (nm "_C" 9 11); head = (record { params = (param.Value (plain.Number (record { number = (number One LittleEndian); span = (sp 12 17) })) (nm "tag" 18 21) ∷ []); condition = None }); subject = (tree.Name (sp 33 36) (nm "tag" 33 36)); cases = (record { constant = (constant.Number (record { value = 1; base = Decimal; span = (sp 45 46) })); fields = (record { type_tree = (record { span = (sp 48 53); kind = type.Number (number One LittleEndian) }); name = (nm "a" 54 55); extent = None; refinement = None; action = None } ∷ []) } ∷ record { constant = (constant.Number (record { value = 2; base = Decimal; span = (sp 62 63) })); fields = (record { type_tree = (record { span = (sp 65 71); kind = type.Number (number Two LittleEndian) }); name = (nm "b" 72 73); extent = None; refinement = None; action = None } ∷ []) } ∷ []); default = None; name = (nm "C" 79 80) }) ∷ Struct (record { entry = true; tag = (nm "_T" 108 110); head = (record { params = []; condition = None }); fields = (record { type_tree = (record { span = (sp 113 118); kind = type.Number (number One LittleEndian) }); name = (nm "tag" 119 122); extent = None; refinement = None; action = None } ∷ record { type_tree = (record { span = (sp 124 125); kind = type.Named (codes "C") ((tree.Name (sp 126 129) (nm "tag" 126 129)) ∷ []) }); name = (nm "body" 131 135); extent = None; refinement = None; action = None } ∷ []); name = (nm "T" 139 140) }) ∷ []) }

-- entrypoint typedef struct _Z { UINT16 s[:zeroterm-byte-size-at-most 4]; } Z;
abbrev pub terminated_tree : ModuleTree
terminated_tree = record { definitions = (Struct (record { entry = true; tag = (nm "_Z" 26 28); head = (record { params = []; condition = None }); fields = (record { type_tree = (record { span = (sp 31 37); kind = type.Number (number Two LittleEndian) }); name = (nm "s" 38 39); extent = (Some (extent.Zeroterm (tree.Number (sp 68 69) 4 Decimal))); refinement = None; action = None } ∷ []); name = (nm "Z" 74 75) }) ∷ []) }

-- entrypoint typedef struct _K(mutable UINT8 *p) { UINT8 a {:act *p = 9;}; UINT8 b {:check return b == 1;}; } K;
abbrev pub checked_tree : ModuleTree
checked_tree = record { definitions = (Struct (record { entry = true; tag = (nm "_K" 26 28); head = (record { params = (param.Mutable (target.Number (record { number = (number One LittleEndian); span = (sp 37 42) })) (nm "p" 44 45) ∷ []); condition = None }); fields = (record { type_tree = (record { span = (sp 49 54); kind = type.Number (number One LittleEndian) }); name = (nm "a" 55 56); extent = None; refinement = None; action = (Some (Done Act (sp 57 62) (Store (sp 63 70) (nm "p" 64 65) (Value (tree.Number (sp 68 69) 9 Decimal)) ∷ []))) } ∷ record { type_tree = (record { span = (sp 73 78); kind = type.Number (number One LittleEndian) }); name = (nm "b" 79 80); extent = None; refinement = None; action = (Some (Done Check (sp 81 88) (Return (sp 89 103) (tree.Binary (sp 96 102) operator.Equal (sp 98 100) (tree.Name (sp 96 97) (nm "b" 96 97)) (tree.Number (sp 101 102) 1 Decimal)) ∷ []))) } ∷ []); name = (nm "K" 108 109) }) ∷ []) }

-- typedef struct _D(mutable UINT8 *q, mutable UINT8 *r) { UINT8 a {:act *q = 1; *r = 2;}; } D; entrypoint typedef struct _E(mutable UINT8 *p) { D(p, p) d; } E;
abbrev pub one_cell_tree : ModuleTree
one_cell_tree = record { definitions = (Struct (record { entry = false; tag = (nm "_D" 15 17); head = (record { params = (param.Mutable (target.Number (record { number = (number One LittleEndian); span = (sp 26 31) })) (nm "q" 33 34) ∷ param.Mutable (target.Number (record { number = (number One LittleEndian); span = (sp 44 49) })) (nm "r" 51 52) ∷ []); condition = None }); fields = (record { type_tree = (record { span = (sp 56 61); kind = type.Number (number One LittleEndian) }); name = (nm "a" 62 63); extent = None; refinement = None; action = (Some (Done Act (sp 64 69) (Store (sp 70 77) (nm "q" 71 72) (Value (tree.Number (sp 75 76) 1 Decimal)) ∷ Store (sp 78 85) (nm "r" 79 80) (Value (tree.Number (sp 83 84) 2 Decimal)) ∷ []))) } ∷ []); name = (nm "D" 90 91) }) ∷ Struct (record { entry = true; tag = (nm "_E" 119 121); head = (record { params = (param.Mutable (target.Number (record { number = (number One LittleEndian); span = (sp 130 135) })) (nm "p" 137 138) ∷ []); condition = None }); fields = (record { type_tree = (record { span = (sp 142 143); kind = type.Named (codes "D") ((tree.Name (sp 144 145) (nm "p" 144 145)) ∷ (tree.Name (sp 147 148) (nm "p" 147 148)) ∷ []) }); name = (nm "d" 150 151); extent = None; refinement = None; action = None } ∷ []); name = (nm "E" 155 156) }) ∷ []) }

-- entrypoint typedef struct _B(mutable UINT8 *p, mutable UINT8 *q) { UINT8 a : 4 {:act *p = a;}; UINT8 b : 4; UINT8BE c : 4 {:act *q = c;}; UINT8BE d : 4; } B;
abbrev pub bit_fields_tree : ModuleTree
bit_fields_tree = record { definitions = (Struct (record { entry = true; tag = (nm "_B" 26 28); head = (record { params = (param.Mutable (target.Number (record { number = (number One LittleEndian); span = (sp 37 42) })) (nm "p" 44 45) ∷ param.Mutable (target.Number (record { number = (number One LittleEndian); span = (sp 55 60) })) (nm "q" 62 63) ∷ []); condition = None }); fields = (record { type_tree = (record { span = (sp 67 72); kind = type.Number (number One LittleEndian) }); name = (nm "a" 73 74); extent = (Some (extent.Bits (record { value = 4; base = Decimal; span = (sp 77 78) }))); refinement = None; action = (Some (Done Act (sp 79 84) (Store (sp 85 92) (nm "p" 86 87) (Value (tree.Name (sp 90 91) (nm "a" 90 91))) ∷ []))) } ∷ record { type_tree = (record { span = (sp 95 100); kind = type.Number (number One LittleEndian) }); name = (nm "b" 101 102); extent = (Some (extent.Bits (record { value = 4; base = Decimal; span = (sp 105 106) }))); refinement = None; action = None } ∷ record { type_tree = (record { span = (sp 108 115); kind = type.Number (number One BigEndian) }); name = (nm "c" 116 117); extent = (Some (extent.Bits (record { value = 4; base = Decimal; span = (sp 120 121) }))); refinement = None; action = (Some (Done Act (sp 122 127) (Store (sp 128 135) (nm "q" 129 130) (Value (tree.Name (sp 133 134) (nm "c" 133 134))) ∷ []))) } ∷ record { type_tree = (record { span = (sp 138 145); kind = type.Number (number One BigEndian) }); name = (nm "d" 146 147); extent = (Some (extent.Bits (record { value = 4; base = Decimal; span = (sp 150 151) }))); refinement = None; action = None } ∷ []); name = (nm "B" 155 156) }) ∷ []) }

-- UINT8 enum E { A = 1, B, C = 42 } entrypoint typedef struct _F { E e; E f; } F;
abbrev pub enum_values_tree : ModuleTree
enum_values_tree = record { definitions = (Enum (record { base = (record { number = (number One LittleEndian); span = (sp 0 5) }); name = (nm "E" 11 12); items = (record { name = (nm "A" 15 16); value = (Some (constant.Number (record { value = 1; base = Decimal; span = (sp 19 20) }))) } ∷ record { name = (nm "B" 22 23); value = None } ∷ record { name = (nm "C" 25 26); value = (Some (constant.Number (record { value = 42; base = Decimal; span = (sp 29 31) }))) } ∷ []) }) ∷ Struct (record { entry = true; tag = (nm "_F" 60 62); head = (record { params = []; condition = None }); fields = (record { type_tree = (record { span = (sp 65 66); kind = type.Named (codes "E") [] }); name = (nm "e" 67 68); extent = None; refinement = None; action = None } ∷ record { type_tree = (record { span = (sp 70 71); kind = type.Named (codes "E") [] }); name = (nm "f" 72 73); extent = None; refinement = None; action = None } ∷ []); name = (nm "F" 77 78) }) ∷ []) }

-- entrypoint typedef struct _O { UINT8 n; all_zeros z; } O;
abbrev pub padding_tree : ModuleTree
padding_tree = record { definitions = (Struct (record { entry = true; tag = (nm "_O" 26 28); head = (record { params = []; condition = None }); fields = (record { type_tree = (record { span = (sp 31 36); kind = type.Number (number One LittleEndian) }); name = (nm "n" 37 38); extent = None; refinement = None; action = None } ∷ record { type_tree = (record { span = (sp 40 49); kind = type.AllZeros }); name = (nm "z" 50 51); extent = None; refinement = None; action = None } ∷ []); name = (nm "O" 55 56) }) ∷ []) }

-- typedef struct _I { UINT8 k; UINT8 d[k]; } I; entrypoint typedef struct _J { I i[:byte-size-single-element-array 4]; } J;
abbrev pub single_tree : ModuleTree
single_tree = record { definitions = (Struct (record { entry = false; tag = (nm "_I" 15 17); head = (record { params = []; condition = None }); fields = (record { type_tree = (record { span = (sp 20 25); kind = type.Number (number One LittleEndian) }); name = (nm "k" 26 27); extent = None; refinement = None; action = None } ∷ record { type_tree = (record { span = (sp 29 34); kind = type.Number (number One LittleEndian) }); name = (nm "d" 35 36); extent = (Some (extent.Bytes (tree.Name (sp 37 38) (nm "k" 37 38)))); refinement = None; action = None } ∷ []); name = (nm "I" 43 44) }) ∷ Struct (record { entry = true; tag = (nm "_J" 72 74); head = (record { params = []; condition = None }); fields = (record { type_tree = (record { span = (sp 77 78); kind = type.Named (codes "I") [] }); name = (nm "i" 79 80); extent = (Some (extent.SingleElement (tree.Number (sp 113 114) 4 Decimal))); refinement = None; action = None } ∷ []); name = (nm "J" 119 120) }) ∷ []) }

-- typedef struct _D(mutable UINT8 *b[8]) { UINT8 n { n <= 4 }; UINT8 d[n] {:copy b}; } D; entrypoint typedef struct _C(mutable UINT32 *p, mutable UINT8 *c[8]) { D(c) d; UINT8 e {:act *p = e;}; } C;
abbrev pub copied_tree : ModuleTree
copied_tree = record { definitions = struct (nm "_D" 15 17) (param.Bytes (nm "b" 33 34) (constant.Number (literal 8 Decimal 35 36)) ∷ []) (tested (little One 41 46) (nm "n" 47 48) (binary operator.LessEqual 53 55 (named "n" 51 52) (written 4 56 57)) ∷ whole_field (little One 61 66) (nm "d" 67 68) (Some (extent.Bytes (named "n" 69 70))) None (Some (copy 72 78 (nm "b" 79 80))) ∷ []) (nm "D" 85 86) ∷ entry_struct (nm "_C" 114 116) (param.Mutable (target.Number (number_at Four LittleEndian 125 131)) (nm "p" 133 134) ∷ param.Bytes (nm "c" 151 152) (constant.Number (literal 8 Decimal 153 154)) ∷ []) (field (type_at (type.Named (codes "D") (named "c" 161 162 ∷ [])) 159 160) (nm "d" 164 165) ∷ whole_field (little One 167 172) (nm "e" 173 174) None None (Some (action Act 175 180 (Store (sp 181 188) (nm "p" 182 183) (Value (named "e" 186 187)) ∷ []))) ∷ []) (nm "C" 193 194) ∷ [] }
