-- The modules of the worked texts, written by hand. Names are numbered as they are seen first: parameters, fields, and then
-- the definition's own.
use Rattle.std.specs.Prelude.{ℕ, List, [], ◌∷◌, Some, None, codes}
use Rattle.td_test_rows.specs.Imports.{Width, LittleEndian, BigEndian, Span, Module}
use Rattle.td_num.specs.declared.number.Width.TheVariants as width
use Rattle.td_core.specs.declared.expressions.Scalar.TheVariants.{Eight, Sixteen, ThirtyTwo, SixtyFour}
use Rattle.td_core.specs.declared.expressions.Relation.TheVariants.{Equal, Greater, GreaterEqual, LessEqual}
use Rattle.td_core.specs.Term.{number, name, compare, done, set, answer}
use Rattle.td_core.specs.declared.module.Element.{Element}
use Rattle.td_core.specs.declared.module.Element.TheVariants.{Number, Listed, Named, Unit as UnitElement, Zeros}
use Rattle.td_core.specs.declared.module.Extent.{Extent}
use Rattle.td_core.specs.declared.module.Extent.TheVariants.{Once, Filling, OnceFilling, UpToZero}
use Rattle.td_core.specs.declared.module.CellKind.TheVariants.{Number as NumberCell}
use Rattle.td_core.specs.declared.module.Cell.{Cell}
use Rattle.td_core.specs.declared.module.Buffer.{Buffer}
use Rattle.td_core.specs.declared.module.Param.{Param}
use Rattle.td_core.specs.declared.module.Part.{Part}
use Rattle.td_core.specs.declared.module.Field.{Field}
use Rattle.td_core.specs.declared.module.Body.{Body}
use Rattle.td_core.specs.declared.module.Body.TheVariants.{Struct, Casetype}
use Rattle.td_core.specs.declared.module.TypeDef.{TypeDef}
use Rattle.td_meaning.specs.Rows.{id, part_of}
use Rattle.td_test_rows.specs.Rows.{sp}

abbrev little : Width → Element
little w = Number (record { width = w; order = LittleEndian })

abbrev big : Width → Element
big w = Number (record { width = w; order = BigEndian })

abbrev field_at : Element → Extent → List Part → Span → Field
field_at element extent parts place = record { element = element; extent = extent; copy = None; parts = parts; place = place }

abbrev param_of : ℕ → Width → Param
param_of n w = record { name = id n; width = w }

abbrev cell_of : ℕ → Width → Cell
cell_of n w = record { name = id n; field = None; kind = NumberCell w }

abbrev buffer_of : ℕ → ℕ → Buffer
buffer_of n room = record { name = id n; room = room }

abbrev definition_from : ℕ → List Param → List Cell → Body → TypeDef
definition_from n params cells body = record { name = id n; params = params; cells = cells; buffers = []; guard = None; body = body }

-- written definitions, names, values of enums, definitions, entry points
abbrev module_from : ℕ → List (List ℕ) → List (List ℕ) → List TypeDef → List ℕ → Module
module_from written names listed definitions entries = record { written = written; names = names; listed = listed; definitions = definitions; entries = entries }

-- entrypoint typedef struct _P { UINT16 x; UINT16BE y { y >= 3 }; } P;
abbrev pub refined : Module
refined = module_from 1 (codes "x" ∷ codes "y" ∷ codes "P" ∷ []) [] (definition_from 2 [] [] (Struct (field_at (little width.Two) Once (part_of 0 None None None ∷ []) (sp 38 39) ∷ field_at (big width.Two) Once (part_of 1 None (Some (compare GreaterEqual (name 1 Sixteen 65535) (number 3 Sixteen))) None ∷ []) (sp 50 51) ∷ [])) ∷ []) (0 ∷ [])

-- entrypoint typedef struct _Q(mutable UINT32 *end) { UINT8 n; UINT8 pad[7]; UINT8 body[n] {:act *end = field_pos;}; } Q;
abbrev pub counted : Module
counted = module_from 1 (codes "end" ∷ codes "n" ∷ codes "pad" ∷ codes "body" ∷ codes "Q" ∷ []) [] (definition_from 4 [] (cell_of 0 width.Four ∷ []) (Struct (field_at (little width.One) Once (part_of 1 None None None ∷ []) (sp 58 59) ∷ field_at (little width.One) (Filling (number 7 Eight) (Some 1)) (part_of 2 None None None ∷ []) (sp 67 70) ∷ field_at (little width.One) (Filling (name 0 Eight 255) (Some 1)) (part_of 3 None None (Some (set 0 (name 3 ThirtyTwo 4294967295) done)) ∷ []) (sp 81 85) ∷ [])) ∷ []) (0 ∷ [])

-- entrypoint typedef struct _S(mutable UINT32 *got) { UINT8 a[6]; UINT32 v { v == 0x44332211 } {:act *got = v;}; } S;
abbrev pub two_words : Module
two_words = module_from 1 (codes "got" ∷ codes "a" ∷ codes "v" ∷ codes "S" ∷ []) [] (definition_from 3 [] (cell_of 0 width.Four ∷ []) (Struct (field_at (little width.One) (Filling (number 6 Eight) (Some 1)) (part_of 1 None None None ∷ []) (sp 58 59) ∷ field_at (little width.Four) Once (part_of 2 None (Some (compare Equal (name 1 ThirtyTwo 4294967295) (number 1144201745 ThirtyTwo))) (Some (set 0 (name 1 ThirtyTwo 4294967295) done)) ∷ []) (sp 71 72) ∷ [])) ∷ []) (0 ∷ [])

-- entrypoint typedef struct _W { UINT64 a; UINT64 b; UINT64 c { c > 0 }; } W;
abbrev pub last_word : Module
last_word = module_from 1 (codes "a" ∷ codes "b" ∷ codes "c" ∷ codes "W" ∷ []) [] (definition_from 3 [] [] (Struct (field_at (little width.Eight) Once (part_of 0 None None None ∷ []) (sp 38 39) ∷ field_at (little width.Eight) Once (part_of 1 None None None ∷ []) (sp 48 49) ∷ field_at (little width.Eight) Once (part_of 2 None (Some (compare Greater (name 2 SixtyFour 18446744073709551615) (number 0 SixtyFour))) None ∷ []) (sp 58 59) ∷ [])) ∷ []) (0 ∷ [])

-- entrypoint typedef struct _V(mutable UINT8 *got) { UINT8 x { x <= 10 } {:act *got = x;}; UINT8 gap[7]; UINT8 z { z == 0 }; } V;
abbrev pub gap : Module
gap = module_from 1 (codes "got" ∷ codes "x" ∷ codes "gap" ∷ codes "z" ∷ codes "V" ∷ []) [] (definition_from 4 [] (cell_of 0 width.One ∷ []) (Struct (field_at (little width.One) Once (part_of 1 None (Some (compare LessEqual (name 0 Eight 255) (number 10 Eight))) (Some (set 0 (name 0 Eight 255) done)) ∷ []) (sp 57 58) ∷ field_at (little width.One) (Filling (number 7 Eight) (Some 1)) (part_of 2 None None None ∷ []) (sp 95 98) ∷ field_at (little width.One) Once (part_of 3 None (Some (compare Equal (name 2 Eight 255) (number 0 Eight))) None ∷ []) (sp 109 110) ∷ [])) ∷ []) (0 ∷ [])

-- entrypoint typedef struct _L { UINT32 n; UINT8 d[:byte-size n]; } L;
abbrev pub long : Module
long = module_from 1 (codes "n" ∷ codes "d" ∷ codes "L" ∷ []) [] (definition_from 2 [] [] (Struct (field_at (little width.Four) Once (part_of 0 None None None ∷ []) (sp 38 39) ∷ field_at (little width.One) (Filling (name 0 ThirtyTwo 4294967295) (Some 1)) (part_of 1 None None None ∷ []) (sp 47 48) ∷ [])) ∷ []) (0 ∷ [])

-- typedef struct _U { unit u[:byte-size 4]; } U;
abbrev pub units : Module
units = module_from 1 (codes "u" ∷ codes "U" ∷ []) [] (definition_from 1 [] [] (Struct (field_at UnitElement (Filling (number 4 Eight) (Some 0)) (part_of 0 None None None ∷ []) (sp 25 26) ∷ [])) ∷ []) []

-- entrypoint typedef struct _A { UINT32 a[:byte-size 6]; } A;
abbrev pub undivided : Module
undivided = module_from 1 (codes "a" ∷ codes "A" ∷ []) [] (definition_from 1 [] [] (Struct (field_at (little width.Four) (Filling (number 6 Eight) (Some 4)) (part_of 0 None None None ∷ []) (sp 38 39) ∷ [])) ∷ []) (0 ∷ [])

-- casetype _C(UINT8 tag) { switch (tag) { case 1: UINT8 a; case 2: UINT16 b; } } C; entrypoint typedef struct _T { UINT8 tag; C(tag) body; } T;
abbrev pub casetype : Module
casetype = module_from 2 (codes "tag" ∷ codes "a" ∷ codes "b" ∷ codes "C" ∷ codes "body" ∷ codes "T" ∷ []) [] (definition_from 3 (param_of 0 width.One ∷ []) [] (Casetype (name 0 Eight 255) (record { value = 1; fields = (field_at (little width.One) Once (part_of 1 None None None ∷ []) (sp 54 55) ∷ []) } ∷ record { value = 2; fields = (field_at (little width.Two) Once (part_of 2 None None None ∷ []) (sp 72 73) ∷ []) } ∷ []) None) ∷ definition_from 5 [] [] (Struct (field_at (little width.One) Once (part_of 0 None None None ∷ []) (sp 119 122) ∷ field_at (Named 0 ((name 0 Eight 255) ∷ []) []) Once (part_of 4 None None None ∷ []) (sp 131 135) ∷ [])) ∷ []) (1 ∷ [])

-- entrypoint typedef struct _Z { UINT16 s[:zeroterm-byte-size-at-most 4]; } Z;
abbrev pub terminated : Module
terminated = module_from 1 (codes "s" ∷ codes "Z" ∷ []) [] (definition_from 1 [] [] (Struct (field_at (little width.Two) (UpToZero (number 4 Eight)) (part_of 0 None None None ∷ []) (sp 38 39) ∷ [])) ∷ []) (0 ∷ [])

-- entrypoint typedef struct _K(mutable UINT8 *p) { UINT8 a {:act *p = 9;}; UINT8 b {:check return b == 1;}; } K;
abbrev pub checked : Module
checked = module_from 1 (codes "p" ∷ codes "a" ∷ codes "b" ∷ codes "K" ∷ []) [] (definition_from 3 [] (cell_of 0 width.One ∷ []) (Struct (field_at (little width.One) Once (part_of 1 None None (Some (set 0 (number 9 Eight) done)) ∷ []) (sp 55 56) ∷ field_at (little width.One) Once (part_of 2 None None (Some (answer (compare Equal (name 1 Eight 255) (number 1 Eight)))) ∷ []) (sp 79 80) ∷ [])) ∷ []) (0 ∷ [])

-- typedef struct _D(mutable UINT8 *q, mutable UINT8 *r) { UINT8 a {:act *q = 1; *r = 2;}; } D; entrypoint typedef struct _E(mutable UINT8 *p) { D(p, p) d; } E;
abbrev pub one_cell : Module
one_cell = module_from 2 (codes "q" ∷ codes "r" ∷ codes "a" ∷ codes "D" ∷ codes "p" ∷ codes "d" ∷ codes "E" ∷ []) [] (definition_from 3 [] (cell_of 0 width.One ∷ cell_of 1 width.One ∷ []) (Struct (field_at (little width.One) Once (part_of 2 None None (Some (set 0 (number 1 Eight) (set 1 (number 2 Eight) done))) ∷ []) (sp 62 63) ∷ [])) ∷ definition_from 6 [] (cell_of 4 width.One ∷ []) (Struct (field_at (Named 0 [] (0 ∷ 0 ∷ [])) Once (part_of 5 None None None ∷ []) (sp 150 151) ∷ [])) ∷ []) (1 ∷ [])

-- entrypoint typedef struct _B(mutable UINT8 *p, mutable UINT8 *q) { UINT8 a : 4 {:act *p = a;}; UINT8 b : 4; UINT8BE c : 4 {:act *q = c;}; UINT8BE d : 4; } B;
abbrev pub bit_fields : Module
bit_fields = module_from 1 (codes "p" ∷ codes "q" ∷ codes "a" ∷ codes "b" ∷ codes "c" ∷ codes "d" ∷ codes "B" ∷ []) [] (definition_from 6 [] (cell_of 0 width.One ∷ cell_of 1 width.One ∷ []) (Struct (field_at (little width.One) Once (part_of 2 (Some (record { low = 0; width = 4 })) None (Some (set 0 (name 0 Eight 15) done)) ∷ part_of 3 (Some (record { low = 4; width = 4 })) None None ∷ []) (sp 73 74) ∷ field_at (big width.One) Once (part_of 4 (Some (record { low = 4; width = 4 })) None (Some (set 1 (name 2 Eight 15) done)) ∷ part_of 5 (Some (record { low = 0; width = 4 })) None None ∷ []) (sp 116 117) ∷ [])) ∷ []) (0 ∷ [])

-- UINT8 enum E { A = 1, B, C = 42 } entrypoint typedef struct _F { E e; E f; } F;
abbrev pub enum_values : Module
enum_values = module_from 2 (codes "e" ∷ codes "f" ∷ codes "F" ∷ []) ((1 ∷ 2 ∷ 42 ∷ []) ∷ []) (definition_from 2 [] [] (Struct (field_at (Listed (record { width = width.One; order = LittleEndian }) 0) Once (part_of 0 None None None ∷ []) (sp 67 68) ∷ field_at (Listed (record { width = width.One; order = LittleEndian }) 0) Once (part_of 1 None None None ∷ []) (sp 72 73) ∷ [])) ∷ []) (0 ∷ [])

-- entrypoint typedef struct _O { UINT8 n; all_zeros z; } O;
abbrev pub padding : Module
padding = module_from 1 (codes "n" ∷ codes "z" ∷ codes "O" ∷ []) [] (definition_from 2 [] [] (Struct (field_at (little width.One) Once (part_of 0 None None None ∷ []) (sp 37 38) ∷ field_at Zeros Once (part_of 1 None None None ∷ []) (sp 50 51) ∷ [])) ∷ []) (0 ∷ [])

-- typedef struct _I { UINT8 k; UINT8 d[k]; } I; entrypoint typedef struct _J { I i[:byte-size-single-element-array 4]; } J;
abbrev pub single : Module
single = module_from 2 (codes "k" ∷ codes "d" ∷ codes "I" ∷ codes "i" ∷ codes "J" ∷ []) [] (definition_from 2 [] [] (Struct (field_at (little width.One) Once (part_of 0 None None None ∷ []) (sp 26 27) ∷ field_at (little width.One) (Filling (name 0 Eight 255) (Some 1)) (part_of 1 None None None ∷ []) (sp 35 36) ∷ [])) ∷ definition_from 4 [] [] (Struct (field_at (Named 0 [] []) (OnceFilling (number 4 Eight) None) (part_of 3 None None None ∷ []) (sp 79 80) ∷ [])) ∷ []) (1 ∷ [])

-- typedef struct _D(mutable UINT8 *b[8]) { UINT8 n { n <= 4 }; UINT8 d[n] {:copy b}; } D; entrypoint typedef struct _C(mutable UINT32 *p, mutable UINT8 *c[8]) { D(c) d; UINT8 e {:act *p = e;}; } C;
abbrev pub copied : Module
copied = module_from 2 (codes "b" ∷ codes "n" ∷ codes "d" ∷ codes "D" ∷ codes "p" ∷ codes "c" ∷ codes "e" ∷ codes "C" ∷ []) [] (record { name = id 3; params = []; cells = []; buffers = buffer_of 0 8 ∷ []; guard = None; body = Struct (field_at (little width.One) Once (part_of 1 None (Some (compare LessEqual (name 0 Eight 255) (number 4 Eight))) None ∷ []) (sp 47 48) ∷ record { element = little width.One; extent = Filling (name 0 Eight 255) (Some 1); copy = Some (record { buffer = 0; cell = 0; room = 8; span = sp 72 78 }); parts = part_of 2 None None None ∷ []; place = (sp 67 68) } ∷ []) } ∷ record { name = id 7; params = []; cells = cell_of 4 width.Four ∷ []; buffers = buffer_of 5 8 ∷ []; guard = None; body = Struct (field_at (Named 0 [] (1 ∷ 2 ∷ [])) Once (part_of 2 None None None ∷ []) (sp 164 165) ∷ field_at (little width.One) Once (part_of 6 None None (Some (set 0 (name 1 Eight 255) done)) ∷ []) (sp 173 174) ∷ []) } ∷ []) (1 ∷ [])
