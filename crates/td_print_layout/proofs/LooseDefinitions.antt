-- The pieces of an input glue to nothing.
use Rattle.std.proofs.Common.{◌≡◌, ℕ, Bool, true, false, List, [], ◌∷◌, ◌++◌, Option, Some, None, refl, sym, ap, subst, ◌∙◌, append_assoc}
use Rattle.std.specs.Prelude.{flat_map}
use Rattle.std.proofs.lemmas.List.{append-nil}
use Rattle.td_ast.specs.declared.token.TokenKind.TheVariants as kinds
use Rattle.td_ast.specs.declared.names.Name.{Name}
use Rattle.td_ast.specs.declared.names.ConstTree.{ConstTree}
use Rattle.td_ast.specs.declared.names.ConstTree.TheVariants as constants
use Rattle.td_ast.specs.declared.names.PlainTree.{PlainTree}
use Rattle.td_ast.specs.declared.names.PlainTree.TheVariants as plains
use Rattle.td_ast.specs.declared.parameters.HeadTree.{HeadTree}
use Rattle.td_ast.specs.declared.fields.FieldTree.{FieldTree}
use Rattle.td_ast.specs.declared.definitions.DefineTree.{DefineTree}
use Rattle.td_ast.specs.declared.definitions.ItemTree.{ItemTree}
use Rattle.td_ast.specs.declared.definitions.EnumTree.{EnumTree}
use Rattle.td_ast.specs.declared.definitions.AliasTree.{AliasTree}
use Rattle.td_ast.specs.declared.definitions.StructTree.{StructTree}
use Rattle.td_ast.specs.declared.definitions.CaseTree.{CaseTree}
use Rattle.td_ast.specs.declared.definitions.CasetypeTree.{CasetypeTree}
use Rattle.td_ast.specs.declared.definitions.SlotKind.{SlotKind}
use Rattle.td_ast.specs.declared.definitions.SlotKind.TheVariants as slots
use Rattle.td_ast.specs.declared.definitions.SlotTree.{SlotTree}
use Rattle.td_ast.specs.declared.definitions.OutputTree.{OutputTree}
use Rattle.td_ast.specs.declared.definitions.Def.{Def}
use Rattle.td_ast.specs.declared.definitions.Def.TheVariants as defs
use Rattle.td_ast.specs.declared.parts.PartTree.{PartTree}
use Rattle.td_ast.specs.declared.parts.InputTree.{InputTree}
use Rattle.td_ast.specs.declared.parts.InputTree.TheVariants.{Module, Parts}
use Rattle.td_ast.specs.Trees.{Tree}
use Rattle.td_print_layout.specs.Pieces.{Piece, Word, Blank, LineEnd}
use Rattle.td_print_layout.specs.Joining.{glues_to}
use Rattle.td_print_layout.specs.Sequences.{name_piece, indented, optional, parted_by}
use Rattle.td_print_layout.specs.Names.{constant_pieces, plain_pieces}
use Rattle.td_print_layout.specs.Expressions.{expression_pieces}
use Rattle.td_print_layout.specs.Parameters.{head_pieces}
use Rattle.td_print_layout.specs.Fields.{field_line}
use Rattle.td_print_layout.specs.Definitions.{define_pieces, value_pieces, item_pieces, item_lines, enum_pieces, alias_pieces, entry_pieces, closing_pieces, struct_pieces, subject_pieces, case_lines, default_lines, cases_lines, casetype_pieces, slot_piece, slot_line, output_pieces, definition_pieces, definition_lines, part_lines, layout}
use Rattle.td_print_layout.proofs.Loose.{IsLoose, Closes, before_blank, before_line, before_sign, qualified_loose, qualified_then, each_closes, parted_loose}
use Rattle.td_print_layout.proofs.LooseExpressions.{inner_loose, expression_loose}
use Rattle.td_print_layout.proofs.LooseActions.{before_body}
use Rattle.td_print_layout.proofs.LooseFields.{head_closes, line_one, line_three}

-- ---- names and types

constant_loose : (constant : ConstTree) (after : List Piece) → Closes after → IsLoose (constant_pieces constant ++ after)
constant_loose (constants.Number literal) after closes = (closes.words (kinds.Number literal.value literal.base) refl, closes.loose)
constant_loose (constants.Named name) after closes = qualified_loose name.text after closes

constant_then : (constant : ConstTree) (rest after : List Piece) → Closes (rest ++ after) → IsLoose ((constant_pieces constant ++ rest) ++ after)
constant_then (constants.Number literal) rest after closes = (closes.words (kinds.Number literal.value literal.base) refl, closes.loose)
constant_then (constants.Named name) rest after closes = qualified_then name.text rest after closes

plain_then : (plain : PlainTree) (rest after : List Piece) → Closes (rest ++ after) → IsLoose ((plain_pieces plain ++ rest) ++ after)
plain_then (plains.Number type) rest after closes = (closes.words (kinds.Int type.number) refl, closes.loose)
plain_then (plains.Named name) rest after closes = qualified_then name.text rest after closes

slot_loose : (kind : SlotKind) (after : List Piece) → Closes after → IsLoose (slot_piece kind ∷ after)
slot_loose (slots.Number type) after closes = (closes.words (kinds.Int type.number) refl, closes.loose)
slot_loose (slots.Pointer span) after closes = (closes.words kinds.Pointer refl, closes.loose)

-- ---- lines

-- `;` at the end of a line
line_ends : (after : List Piece) → IsLoose after → IsLoose (Word kinds.Semicolon ∷ LineEnd ∷ after)
line_ends after loose = (refl, loose)

closing_loose : (name : Name) (after : List Piece) → IsLoose after → IsLoose (closing_pieces name ++ after)
closing_loose name after loose = (refl, (refl, (refl, loose)))

closing_closes : (name : Name) (after : List Piece) → IsLoose after → Closes (closing_pieces name ++ after)
closing_closes name after loose = before_sign kinds.CloseBrace (Blank ∷ name_piece name ∷ Word kinds.Semicolon ∷ LineEnd ∷ after) refl refl refl refl refl refl (closing_loose name after loose)

define_loose : (define : DefineTree) (after : List Piece) → IsLoose after → IsLoose (define_pieces define ++ after)
define_loose define after loose = (refl, (refl, (refl, loose)))

alias_loose : (alias : AliasTree) (after : List Piece) → IsLoose after → IsLoose (alias_pieces alias ++ after)
alias_loose alias after loose =
    (refl, plain_then alias.target (Blank ∷ name_piece alias.name ∷ Word kinds.Semicolon ∷ LineEnd ∷ []) after (before_blank (name_piece alias.name ∷ Word kinds.Semicolon ∷ LineEnd ∷ after) (refl, (refl, loose))))

value_closes : (value : Option ConstTree) (after : List Piece) → Closes after → Closes (optional value_pieces value ++ after)
value_closes None after closes = closes
value_closes (Some value) after closes = before_blank (Word kinds.Assign ∷ Blank ∷ (constant_pieces value ++ after)) (refl, constant_loose value after closes)

item_loose : (item : ItemTree) (after : List Piece) → Closes after → IsLoose (item_pieces item ++ after)
item_loose item after closes = let value = value_closes item.value after closes in (value.words (kinds.Name item.name.text) refl, value.loose)

items_loose : (items : List ItemTree) (after : List Piece) → IsLoose after → IsLoose (item_lines items ++ after)
items_loose [] after loose = loose
items_loose (item ∷ []) after loose = subst IsLoose (sym (append_assoc (item_pieces item) (LineEnd ∷ []) after)) (item_loose item (LineEnd ∷ after) (before_line after loose))
items_loose (item ∷ other ∷ others) after loose =
    let more = item_lines (other ∷ others) in
    let rest = items_loose (other ∷ others) after loose in
    subst IsLoose (sym (append_assoc (item_pieces item) (Word kinds.Comma ∷ LineEnd ∷ more) after))
    (item_loose item (Word kinds.Comma ∷ LineEnd ∷ (more ++ after)) (before_sign kinds.Comma (LineEnd ∷ (more ++ after)) refl refl refl refl refl refl (refl, rest)))

enum_loose : (enum : EnumTree) (after : List Piece) → IsLoose after → IsLoose (enum_pieces enum ++ after)
enum_loose enum after loose =
    let items = items_loose enum.items (Word kinds.CloseBrace ∷ LineEnd ∷ after) (refl, loose) in
    rw (append_assoc (item_lines enum.items) (Word kinds.CloseBrace ∷ LineEnd ∷ []) after) (refl, (refl, (refl, (refl, items))))

-- ---- structs and casetypes

entry_loose : (entry : Bool) (after : List Piece) → IsLoose after → IsLoose (entry_pieces entry ++ after)
entry_loose true after loose = (refl, loose)
entry_loose false after loose = loose

-- the first name of a definition, its head and the opening brace
begun_loose : (tag : Name) (head : HeadTree) (after : List Piece) → IsLoose after → IsLoose (name_piece tag ∷ (head_pieces head ++ Blank ∷ Word kinds.OpenBrace ∷ LineEnd ∷ after))
begun_loose tag head after loose =
    let all = head_closes head (Blank ∷ Word kinds.OpenBrace ∷ LineEnd ∷ after) (before_blank (Word kinds.OpenBrace ∷ LineEnd ∷ after) (refl, loose)) in
    (all.words (kinds.Name tag.text) refl, all.loose)

struct_loose : (struct : StructTree) (after : List Piece) → IsLoose after → IsLoose (struct_pieces struct ++ after)
struct_loose struct after loose =
    let last = closing_pieces struct.name ++ after in
    let fields = each_closes (field_line 1) line_one struct.fields last (closing_closes struct.name after loose) in
    let head = begun_loose struct.tag struct.head (flat_map (field_line 1) struct.fields ++ last) fields.loose in
    let lines = flat_map (field_line 1) struct.fields in
    let name = closing_pieces struct.name in
    let body : List Piece = Blank ∷ Word kinds.OpenBrace ∷ LineEnd ∷ (lines ++ name) in
    let front = Word kinds.Typedef ∷ Blank ∷ Word kinds.Struct ∷ Blank ∷ name_piece struct.tag ∷ (head_pieces struct.head ++ body) in
    let regrouped : struct_pieces struct ++ after
    ≡ entry_pieces struct.entry ++ Word kinds.Typedef ∷ Blank ∷ Word kinds.Struct ∷ Blank ∷ name_piece struct.tag ∷ (head_pieces struct.head ++ Blank ∷ Word kinds.OpenBrace ∷ LineEnd ∷ (lines ++ last)) =
    append_assoc (entry_pieces struct.entry) front after
    ∙ ap (λ (l : List Piece). entry_pieces struct.entry ++ Word kinds.Typedef ∷ Blank ∷ Word kinds.Struct ∷ Blank ∷ name_piece struct.tag ∷ l)
    (append_assoc (head_pieces struct.head) body after ∙ ap (λ (l : List Piece). head_pieces struct.head ++ Blank ∷ Word kinds.OpenBrace ∷ LineEnd ∷ l) (append_assoc lines name after)) in
    subst IsLoose (sym regrouped)
    (entry_loose struct.entry (Word kinds.Typedef ∷ Blank ∷ Word kinds.Struct ∷ Blank ∷ name_piece struct.tag ∷ (head_pieces struct.head ++ Blank ∷ Word kinds.OpenBrace ∷ LineEnd ∷ (lines ++ last))) (refl, (refl, head)))

case_closes : (case_tree : CaseTree) (after : List Piece) → Closes after → Closes (case_lines case_tree ++ after)
case_closes case_tree after closes =
    let fields = each_closes (field_line 3) line_three case_tree.fields after closes in
    let colon = before_sign kinds.Colon (LineEnd ∷ (flat_map (field_line 3) case_tree.fields ++ after)) refl refl refl refl refl refl (refl, fields.loose) in
    before_blank (Blank ∷ Blank ∷ Blank ∷ Blank ∷ Blank ∷ Blank ∷ Blank ∷ Word kinds.Case ∷ Blank ∷ ((constant_pieces case_tree.constant ++ Word kinds.Colon ∷ LineEnd ∷ flat_map (field_line 3) case_tree.fields) ++ after))
    (refl, constant_then case_tree.constant (Word kinds.Colon ∷ LineEnd ∷ flat_map (field_line 3) case_tree.fields) after colon)

default_closes : (default : Option (List FieldTree)) (after : List Piece) → Closes after → Closes (optional default_lines default ++ after)
default_closes None after closes = closes
default_closes (Some fields) after closes =
    let lines = each_closes (field_line 3) line_three fields after closes in
    before_blank (Blank ∷ Blank ∷ Blank ∷ Blank ∷ Blank ∷ Blank ∷ Blank ∷ Word kinds.Default ∷ Word kinds.Colon ∷ LineEnd ∷ (flat_map (field_line 3) fields ++ after)) (refl, (refl, lines.loose))

subject_loose : (subject : Tree) (after : List Piece) → IsLoose after → IsLoose (subject_pieces subject ++ after)
subject_loose subject after loose =
    let last = Word kinds.CloseParen ∷ Blank ∷ Word kinds.OpenBrace ∷ LineEnd ∷ after in
    let test = inner_loose subject (expression_loose subject) last (before_body (Word kinds.OpenBrace ∷ LineEnd ∷ after) (refl, loose)) in
    rw (append_assoc (expression_pieces subject) (Word kinds.CloseParen ∷ Blank ∷ Word kinds.OpenBrace ∷ LineEnd ∷ []) after) (refl, test)

casetype_loose : (casetype : CasetypeTree) (after : List Piece) → IsLoose after → IsLoose (casetype_pieces casetype ++ after)
casetype_loose casetype after loose =
    let closing = closing_pieces casetype.name ++ after in
    let inner_end = indented 1 (Word kinds.CloseBrace ∷ LineEnd ∷ []) ++ closing in
    let end_closes = before_blank (Blank ∷ Blank ∷ Blank ∷ Word kinds.CloseBrace ∷ LineEnd ∷ closing) (refl, closing_loose casetype.name after loose) in
    let defaults = optional default_lines casetype.default ++ inner_end in
    let default_close = default_closes casetype.default inner_end end_closes in
    let cases = flat_map case_lines casetype.cases ++ defaults in
    let cases_close = each_closes case_lines case_closes casetype.cases defaults default_close in
    let subject = subject_loose casetype.subject cases cases_close.loose in
    let head = begun_loose casetype.tag casetype.head (subject_pieces casetype.subject ++ cases) subject in
    let name = closing_pieces casetype.name in
    let end : List Piece = indented 1 (Word kinds.CloseBrace ∷ LineEnd ∷ []) in
    let body : List Piece = Blank ∷ Word kinds.OpenBrace ∷ LineEnd ∷ (cases_lines casetype ++ name) in
    let front = Word kinds.Casetype ∷ Blank ∷ name_piece casetype.tag ∷ (head_pieces casetype.head ++ body) in
    let inside : (cases_lines casetype ++ name) ++ after ≡ subject_pieces casetype.subject ++ cases =
    append_assoc (cases_lines casetype) name after
    ∙ (append_assoc (subject_pieces casetype.subject) (flat_map case_lines casetype.cases ++ (optional default_lines casetype.default ++ end)) closing
    ∙ ap (λ (l : List Piece). subject_pieces casetype.subject ++ l)
    (append_assoc (flat_map case_lines casetype.cases) (optional default_lines casetype.default ++ end) closing
    ∙ ap (λ (l : List Piece). flat_map case_lines casetype.cases ++ l) (append_assoc (optional default_lines casetype.default) end closing))) in
    let regrouped : casetype_pieces casetype ++ after
    ≡ entry_pieces casetype.entry ++ Word kinds.Casetype ∷ Blank ∷ name_piece casetype.tag ∷ (head_pieces casetype.head ++ Blank ∷ Word kinds.OpenBrace ∷ LineEnd ∷ (subject_pieces casetype.subject ++ cases)) =
    append_assoc (entry_pieces casetype.entry) front after
    ∙ ap (λ (l : List Piece). entry_pieces casetype.entry ++ Word kinds.Casetype ∷ Blank ∷ name_piece casetype.tag ∷ l)
    (append_assoc (head_pieces casetype.head) body after ∙ ap (λ (l : List Piece). head_pieces casetype.head ++ Blank ∷ Word kinds.OpenBrace ∷ LineEnd ∷ l) inside) in
    subst IsLoose (sym regrouped)
    (entry_loose casetype.entry (Word kinds.Casetype ∷ Blank ∷ name_piece casetype.tag ∷ (head_pieces casetype.head ++ Blank ∷ Word kinds.OpenBrace ∷ LineEnd ∷ (subject_pieces casetype.subject ++ cases))) (refl, head))

-- ---- output records

slot_closes : (slot : SlotTree) (after : List Piece) → Closes after → Closes (slot_line slot ++ after)
slot_closes slot after closes =
    let rest = Blank ∷ name_piece slot.name ∷ Word kinds.Semicolon ∷ LineEnd ∷ after in
    let named = slot_loose slot.kind rest (before_blank (name_piece slot.name ∷ Word kinds.Semicolon ∷ LineEnd ∷ after) (refl, (refl, closes.loose))) in
    before_blank (Blank ∷ Blank ∷ Blank ∷ slot_piece slot.kind ∷ rest) named

output_loose : (output : OutputTree) (after : List Piece) → IsLoose after → IsLoose (output_pieces output ++ after)
output_loose output after loose =
    let last = closing_pieces output.name ++ after in
    let slots = each_closes slot_line slot_closes output.slots last (closing_closes output.name after loose) in
    rw (append_assoc (flat_map slot_line output.slots) (closing_pieces output.name) after) (refl, (refl, (refl, (refl, (refl, slots.loose)))))

-- ---- inputs

definition_loose : (definition : Def) (after : List Piece) → IsLoose after → IsLoose (definition_pieces definition ++ after)
definition_loose (defs.Define define) after loose = define_loose define after loose
definition_loose (defs.Enum enum) after loose = enum_loose enum after loose
definition_loose (defs.Alias alias) after loose = alias_loose alias after loose
definition_loose (defs.Struct struct) after loose = struct_loose struct after loose
definition_loose (defs.Casetype casetype) after loose = casetype_loose casetype after loose
definition_loose (defs.Output output) after loose = output_loose output after loose

definitions_loose : (definitions : List Def) (after : List Piece) → IsLoose after → IsLoose (definition_lines definitions ++ after)
definitions_loose definitions after loose = parted_loose definition_pieces definition_loose definitions after loose

part_loose : (part : PartTree) (after : List Piece) → IsLoose after → IsLoose (part_lines part ++ after)
part_loose part after loose = (refl, (refl, definitions_loose part.definitions after loose))

pub layout_loose : (input : InputTree) → IsLoose (layout input)
layout_loose (Module tree) = subst IsLoose (append-nil (definition_lines tree.definitions)) (definitions_loose tree.definitions [] tt)
layout_loose (Parts parts) = subst IsLoose (append-nil (parted_by (LineEnd ∷ []) part_lines parts)) (parted_loose part_lines part_loose parts [] tt)
