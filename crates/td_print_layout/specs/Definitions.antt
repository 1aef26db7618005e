-- The canonical text of an input (own rule): a module, or parts.
use Rattle.std.specs.Prelude.{ℕ, Bool, true, false, List, [], ◌∷◌, ◌++◌, flat_map, codes}
use Rattle.td_ast.specs.declared.token.TokenKind.TheVariants as kinds
use Rattle.td_ast.specs.declared.names.Name.{Name}
use Rattle.td_ast.specs.declared.names.ConstTree.{ConstTree}
use Rattle.td_ast.specs.declared.fields.FieldTree.{FieldTree}
use Rattle.td_ast.specs.declared.definitions.DefineTree.{DefineTree}
use Rattle.td_ast.specs.declared.definitions.ItemTree.{ItemTree}
use Rattle.td_ast.specs.declared.definitions.EnumTree.{EnumTree}
use Rattle.td_ast.specs.declared.definitions.AliasTree.{AliasTree}
use Rattle.td_ast.specs.declared.definitions.StructTree.{StructTree}
use Rattle.td_ast.specs.declared.definitions.CaseTree.{CaseTree}
use Rattle.td_ast.specs.declared.definitions.CasetypeTree.{CasetypeTree}
use Rattle.td_ast.specs.declared.definitions.SlotKind.{SlotKind}
use Rattle.td_ast.specs.declared.definitions.SlotKind.TheVariants as slots
use Rattle.td_ast.specs.declared.definitions.SlotTree.{SlotTree}
use Rattle.td_ast.specs.declared.definitions.OutputTree.{OutputTree}
use Rattle.td_ast.specs.declared.definitions.Def.{Def}
use Rattle.td_ast.specs.declared.definitions.Def.TheVariants as defs
use Rattle.td_ast.specs.declared.parts.PartTree.{PartTree}
use Rattle.td_ast.specs.declared.parts.InputTree.{InputTree}
use Rattle.td_ast.specs.declared.parts.InputTree.TheVariants.{Module, Parts}
use Rattle.td_ast.specs.Trees.{Tree}
use Rattle.td_print_layout.specs.Pieces.{Piece, Word, Blank, LineEnd, text_of}
use Rattle.td_print_layout.specs.Sequences.{name_piece, literal_piece, number_piece, indented, parted_by, optional}
use Rattle.td_print_layout.specs.Names.{constant_pieces, plain_pieces}
use Rattle.td_print_layout.specs.Expressions.{expression_pieces}
use Rattle.td_print_layout.specs.Parameters.{head_pieces}
use Rattle.td_print_layout.specs.Fields.{field_line}

-- `#define K 1`
abbrev pub define_pieces : DefineTree → List Piece
define_pieces define = Word kinds.Define ∷ Blank ∷ name_piece define.name ∷ Blank ∷ literal_piece define.value ∷ LineEnd ∷ []

-- ` = 1`
abbrev pub value_pieces : ConstTree → List Piece
value_pieces value = Blank ∷ Word kinds.Assign ∷ Blank ∷ constant_pieces value

-- `A = 1`
abbrev pub item_pieces : ItemTree → List Piece
item_pieces item = name_piece item.name ∷ optional value_pieces item.value

-- an item a line, all but the last with a comma
abbrev pub item_lines : List ItemTree → List Piece
item_lines [] = []
item_lines (item ∷ []) = indented 1 (item_pieces item ++ LineEnd ∷ [])
item_lines (item ∷ other ∷ others) = indented 1 (item_pieces item ++ Word kinds.Comma ∷ LineEnd ∷ item_lines (other ∷ others))

-- `T enum N {`, the items, `}`
abbrev pub enum_pieces : EnumTree → List Piece
enum_pieces enum =
    number_piece enum.base ∷ Blank ∷ Word kinds.Enum ∷ Blank ∷ name_piece enum.name ∷ Blank ∷ Word kinds.OpenBrace ∷ LineEnd
    ∷ (item_lines enum.items ++ Word kinds.CloseBrace ∷ LineEnd ∷ [])

-- `typedef T U;`
abbrev pub alias_pieces : AliasTree → List Piece
alias_pieces alias = Word kinds.Typedef ∷ Blank ∷ (plain_pieces alias.target ++ Blank ∷ name_piece alias.name ∷ Word kinds.Semicolon ∷ LineEnd ∷ [])

-- `entrypoint ` where it is one
abbrev pub entry_pieces : Bool → List Piece
entry_pieces true = Word kinds.Entrypoint ∷ Blank ∷ []
entry_pieces false = []

-- `} N;`
abbrev pub closing_pieces : Name → List Piece
closing_pieces name = Word kinds.CloseBrace ∷ Blank ∷ name_piece name ∷ Word kinds.Semicolon ∷ LineEnd ∷ []

-- `_N(..) where e {`, the fields, `} N;`
abbrev pub struct_body : StructTree → List Piece
struct_body struct =
    name_piece struct.tag ∷ (head_pieces struct.head ++ Blank ∷ Word kinds.OpenBrace ∷ LineEnd ∷ (flat_map (field_line 1) struct.fields ++ closing_pieces struct.name))

-- `typedef struct _N(..) where e {`, the fields, `} N;`
abbrev pub struct_pieces : StructTree → List Piece
struct_pieces struct = entry_pieces struct.entry ++ Word kinds.Typedef ∷ Blank ∷ Word kinds.Struct ∷ Blank ∷ struct_body struct

-- `switch (e) {`
abbrev pub subject_pieces : Tree → List Piece
subject_pieces subject =
    indented 1 (Word kinds.Switch ∷ Blank ∷ Word kinds.OpenParen ∷ (expression_pieces subject ++ Word kinds.CloseParen ∷ Blank ∷ Word kinds.OpenBrace ∷ LineEnd ∷ []))

-- `case K:` and its fields
abbrev pub case_lines : CaseTree → List Piece
case_lines case_tree = indented 2 (Word kinds.Case ∷ Blank ∷ (constant_pieces case_tree.constant ++ Word kinds.Colon ∷ LineEnd ∷ flat_map (field_line 3) case_tree.fields))

-- `default:` and its fields
abbrev pub default_lines : List FieldTree → List Piece
default_lines fields = indented 2 (Word kinds.Default ∷ Word kinds.Colon ∷ LineEnd ∷ flat_map (field_line 3) fields)

-- `switch (e) {`, the cases, `}`
abbrev pub cases_lines : CasetypeTree → List Piece
cases_lines casetype =
    subject_pieces casetype.subject ++ (flat_map case_lines casetype.cases ++ (optional default_lines casetype.default ++ indented 1 (Word kinds.CloseBrace ∷ LineEnd ∷ [])))

-- `casetype _N(..) where e {`, `switch (e) {`, the cases, `}`, `} N;`
abbrev pub casetype_pieces : CasetypeTree → List Piece
casetype_pieces casetype =
    entry_pieces casetype.entry ++ Word kinds.Casetype ∷ Blank ∷ name_piece casetype.tag ∷ (head_pieces casetype.head ++ Blank ∷ Word kinds.OpenBrace ∷ LineEnd
    ∷ (cases_lines casetype ++ closing_pieces casetype.name))

abbrev pub slot_piece : SlotKind → Piece
slot_piece (slots.Number type) = number_piece type
slot_piece (slots.Pointer span) = Word kinds.Pointer

-- `T a;` on a line
abbrev pub slot_line : SlotTree → List Piece
slot_line slot = indented 1 (slot_piece slot.kind ∷ Blank ∷ name_piece slot.name ∷ Word kinds.Semicolon ∷ LineEnd ∷ [])

-- `output typedef struct _N {`, the slots, `} N;`
abbrev pub output_pieces : OutputTree → List Piece
output_pieces output =
    Word kinds.Output ∷ Blank ∷ Word kinds.Typedef ∷ Blank ∷ Word kinds.Struct ∷ Blank ∷ name_piece output.tag ∷ Blank ∷ Word kinds.OpenBrace ∷ LineEnd
    ∷ (flat_map slot_line output.slots ++ closing_pieces output.name)

abbrev pub definition_pieces : Def → List Piece
definition_pieces (defs.Define define) = define_pieces define
definition_pieces (defs.Enum enum) = enum_pieces enum
definition_pieces (defs.Alias alias) = alias_pieces alias
definition_pieces (defs.Struct struct) = struct_pieces struct
definition_pieces (defs.Casetype casetype) = casetype_pieces casetype
definition_pieces (defs.Output output) = output_pieces output

-- definitions, with an empty line between two
abbrev pub definition_lines : List Def → List Piece
definition_lines definitions = parted_by (LineEnd ∷ []) definition_pieces definitions

-- `module M`, an empty line, its definitions
abbrev pub part_lines : PartTree → List Piece
part_lines part = Word (kinds.Name (codes "module")) ∷ Blank ∷ name_piece part.name ∷ LineEnd ∷ LineEnd ∷ definition_lines part.definitions

-- the pieces of an input's canonical text: a module's definitions, or the parts with an empty line between two
abbrev pub layout : InputTree → List Piece
layout (Module tree) = definition_lines tree.definitions
layout (Parts parts) = parted_by (LineEnd ∷ []) part_lines parts

-- the canonical text of an input, its bytes
abbrev pub canonical_text : InputTree → List ℕ
canonical_text input = text_of (layout input)
