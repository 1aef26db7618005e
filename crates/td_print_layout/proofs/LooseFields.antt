-- The pieces of heads and fields glue to nothing.
use Rattle.std.proofs.Common.{◌≡◌, ℕ, zero, suc, List, [], ◌∷◌, ◌++◌, Option, Some, None, false, refl, append_assoc}
use Rattle.td_ast.specs.declared.token.TokenKind.{TokenKind}
use Rattle.td_ast.specs.declared.token.TokenKind.TheVariants as kinds
use Rattle.td_ast.specs.declared.names.ConstTree.{ConstTree}
use Rattle.td_ast.specs.declared.names.ConstTree.TheVariants as constants
use Rattle.td_ast.specs.declared.names.PlainTree.TheVariants as plains
use Rattle.td_ast.specs.declared.parameters.TargetTree.TheVariants as targets
use Rattle.td_ast.specs.declared.parameters.ParamTree.{ParamTree}
use Rattle.td_ast.specs.declared.parameters.ParamTree.TheVariants as params
use Rattle.td_ast.specs.declared.parameters.HeadTree.{HeadTree}
use Rattle.td_ast.specs.declared.actions.ActionTree.{ActionTree}
use Rattle.td_ast.specs.declared.fields.TypeKind.{TypeKind}
use Rattle.td_ast.specs.declared.fields.TypeKind.TheVariants as types
use Rattle.td_ast.specs.declared.fields.ExtentTree.{ExtentTree}
use Rattle.td_ast.specs.declared.fields.ExtentTree.TheVariants as extents
use Rattle.td_ast.specs.declared.fields.FieldTree.{FieldTree}
use Rattle.td_ast.specs.Trees.{Tree}
use Rattle.td_print_layout.specs.Pieces.{Piece, Word, Blank, LineEnd}
use Rattle.td_print_layout.specs.Joining.{glues_to}
use Rattle.td_print_layout.specs.Sequences.{name_piece, indented, in_parentheses, optional}
use Rattle.td_print_layout.specs.Expressions.{expression_pieces}
use Rattle.td_print_layout.specs.Actions.{action_pieces}
use Rattle.td_print_layout.specs.Parameters.{room_pieces, parameter_pieces, condition_pieces, head_pieces}
use Rattle.td_print_layout.specs.Fields.{type_pieces, extent_pieces, refinement_pieces, action_after, field_pieces, field_line}
use Rattle.td_print_layout.proofs.Loose.{IsLoose, Closes, before_blank, before_line, before_sign, qualified_then}
use Rattle.td_print_layout.proofs.LooseExpressions.{expression_begun, expression_loose, paren_opens, bracket_opens, parentheses_close}
use Rattle.td_print_layout.proofs.LooseActions.{before_semicolon, action_loose}

-- ---- parameters

parameter_begun : (parameter : ParamTree) (after : List Piece) → glues_to kinds.OpenParen (parameter_pieces parameter ++ after) ≡ false
parameter_begun (params.Value (plains.Number type) name) after = refl
parameter_begun (params.Value (plains.Named type) name) after = refl
parameter_begun (params.Mutable target name) after = refl
parameter_begun (params.Bytes name room) after = refl

-- a room in its brackets
room_loose : (room : ConstTree) (after : List Piece) → Closes after → IsLoose (room_pieces room ++ after)
room_loose (constants.Number literal) after closes = (refl, (refl, (closes.bracket, closes.loose)))
room_loose (constants.Named name) after closes =
    (refl, qualified_then name.text (Word kinds.CloseBracket ∷ []) after (before_sign kinds.CloseBracket after refl refl refl refl refl refl (closes.bracket, closes.loose)))

parameter_loose : (parameter : ParamTree) (after : List Piece) → Closes after → IsLoose (parameter_pieces parameter ++ after)
parameter_loose (params.Value (plains.Number type) name) after closes = (refl, (closes.words (kinds.Name name.text) refl, closes.loose))
parameter_loose (params.Value (plains.Named type) name) after closes =
    qualified_then type.text (Blank ∷ name_piece name ∷ []) after (before_blank (name_piece name ∷ after) (closes.words (kinds.Name name.text) refl, closes.loose))
parameter_loose (params.Mutable (targets.Number type) name) after closes = (refl, (refl, (refl, (closes.words (kinds.Name name.text) refl, closes.loose))))
parameter_loose (params.Mutable (targets.Pointer span) name) after closes = (refl, (refl, (refl, (closes.words (kinds.Name name.text) refl, closes.loose))))
parameter_loose (params.Mutable (targets.Named type) name) after closes =
    (refl, qualified_then type.text (Blank ∷ Word kinds.Star ∷ name_piece name ∷ []) after (before_blank (Word kinds.Star ∷ name_piece name ∷ after) (refl, (closes.words (kinds.Name name.text) refl, closes.loose))))
parameter_loose (params.Bytes name room) after closes = (refl, (refl, (refl, (refl, room_loose room after closes))))

condition_closes : (condition : Option Tree) (after : List Piece) → Closes after → Closes (optional condition_pieces condition ++ after)
condition_closes None after closes = closes
condition_closes (Some condition) after closes = before_blank (Word kinds.Where ∷ Blank ∷ (expression_pieces condition ++ after)) (refl, expression_loose condition after closes)

pub head_closes : (head : HeadTree) (after : List Piece) → Closes after → Closes (head_pieces head ++ after)
head_closes head after closes =
    rw (append_assoc (in_parentheses parameter_pieces head.params) (optional condition_pieces head.condition) after)
    (parentheses_close parameter_pieces parameter_begun parameter_loose head.params (optional condition_pieces head.condition ++ after) (condition_closes head.condition after closes))

-- ---- fields

type_loose : (kind : TypeKind) (after : List Piece) → Closes after → IsLoose (type_pieces kind ++ after)
type_loose (types.Number type) after closes = (closes.words (kinds.Int type) refl, closes.loose)
type_loose types.Unit after closes = (closes.words kinds.Unit refl, closes.loose)
type_loose types.AllBytes after closes = (closes.words kinds.AllBytes refl, closes.loose)
type_loose types.AllZeros after closes = (closes.words kinds.AllZeros refl, closes.loose)
type_loose (types.Named text arguments) after closes =
    qualified_then text (in_parentheses expression_pieces arguments) after (parentheses_close expression_pieces (expression_begun kinds.OpenParen paren_opens) expression_loose arguments after closes)

-- a size, and the bracket that closes it
size_loose : (size : Tree) (after : List Piece) → Closes after → IsLoose (expression_pieces size ++ Word kinds.CloseBracket ∷ after)
size_loose size after closes = expression_loose size (Word kinds.CloseBracket ∷ after) (before_sign kinds.CloseBracket after refl refl refl refl refl refl (closes.bracket, closes.loose))

extent_closes : (extent : Option ExtentTree) (after : List Piece) → Closes after → Closes (optional extent_pieces extent ++ after)
extent_closes None after closes = closes
extent_closes (Some (extents.Bytes size)) after closes =
    rw (append_assoc (expression_pieces size) (Word kinds.CloseBracket ∷ []) after)
    (before_sign kinds.OpenBracket (expression_pieces size ++ Word kinds.CloseBracket ∷ after) refl refl refl refl refl refl (expression_begun kinds.OpenBracket bracket_opens size (Word kinds.CloseBracket ∷ after), size_loose size after closes))
extent_closes (Some (extents.ByteSize size)) after closes =
    rw (append_assoc (expression_pieces size) (Word kinds.CloseBracket ∷ []) after)
    (before_sign kinds.ByteSize (Blank ∷ (expression_pieces size ++ Word kinds.CloseBracket ∷ after)) refl refl refl refl refl refl (refl, size_loose size after closes))
extent_closes (Some (extents.SingleElement size)) after closes =
    rw (append_assoc (expression_pieces size) (Word kinds.CloseBracket ∷ []) after)
    (before_sign kinds.SingleElement (Blank ∷ (expression_pieces size ++ Word kinds.CloseBracket ∷ after)) refl refl refl refl refl refl (refl, size_loose size after closes))
extent_closes (Some (extents.Zeroterm size)) after closes =
    rw (append_assoc (expression_pieces size) (Word kinds.CloseBracket ∷ []) after)
    (before_sign kinds.Zeroterm (Blank ∷ (expression_pieces size ++ Word kinds.CloseBracket ∷ after)) refl refl refl refl refl refl (refl, size_loose size after closes))
extent_closes (Some (extents.Bits width)) after closes =
    before_blank (Word kinds.Colon ∷ Blank ∷ Word (kinds.Number width.value width.base) ∷ after) (refl, (closes.words (kinds.Number width.value width.base) refl, closes.loose))
extent_closes (Some (extents.Given value)) after closes =
    before_blank (Word kinds.Assign ∷ Blank ∷ (expression_pieces value ++ after)) (refl, expression_loose value after closes)
extent_closes (Some (extents.OfCell star cell)) after closes =
    before_blank (Word kinds.Assign ∷ Blank ∷ Word kinds.Star ∷ name_piece cell ∷ after) (refl, (refl, (closes.words (kinds.Name cell.text) refl, closes.loose)))

refinement_closes : (refinement : Option Tree) (after : List Piece) → Closes after → Closes (optional refinement_pieces refinement ++ after)
refinement_closes None after closes = closes
refinement_closes (Some condition) after closes =
    let last = Blank ∷ Word kinds.CloseBrace ∷ after in
    let inner = expression_loose condition last (before_blank (Word kinds.CloseBrace ∷ after) (closes.brace, closes.loose)) in
    rw (append_assoc (expression_pieces condition) (Blank ∷ Word kinds.CloseBrace ∷ []) after)
    (before_blank (Word kinds.OpenBrace ∷ Blank ∷ (expression_pieces condition ++ last)) (refl, inner))

action_closes : (action : Option ActionTree) (after : List Piece) → Closes after → Closes (optional action_after action ++ after)
action_closes None after closes = closes
action_closes (Some action) after closes = before_blank (action_pieces action ++ after) (action_loose action after closes)

field_loose : (field : FieldTree) (after : List Piece) → IsLoose after → IsLoose (field_pieces field ++ LineEnd ∷ after)
field_loose field after loose =
    let end = Word kinds.Semicolon ∷ LineEnd ∷ after in
    let last = action_closes field.action end (before_semicolon (LineEnd ∷ after) (before_line after loose)) in
    let third = refinement_closes field.refinement (optional action_after field.action ++ end) last in
    let second = extent_closes field.extent (optional refinement_pieces field.refinement ++ (optional action_after field.action ++ end)) third in
    let named : IsLoose (name_piece field.name ∷ (optional extent_pieces field.extent ++ (optional refinement_pieces field.refinement ++ (optional action_after field.action ++ end)))) = (second.words (kinds.Name field.name.text) refl, second.loose) in
    let all = type_loose field.type_tree.kind (Blank ∷ name_piece field.name ∷ (optional extent_pieces field.extent ++ (optional refinement_pieces field.refinement ++ (optional action_after field.action ++ end)))) (before_blank (name_piece field.name ∷ (optional extent_pieces field.extent ++ (optional refinement_pieces field.refinement ++ (optional action_after field.action ++ end)))) named) in
    simp append_assoc all

-- lines begin with blanks, and glue to nothing
pub line_one : (field : FieldTree) (after : List Piece) → Closes after → Closes (field_line 1 field ++ after)
line_one field after closes =
    let all = field_loose field after closes.loose in
    rw (append_assoc (field_pieces field) (LineEnd ∷ []) after) (before_blank (Blank ∷ Blank ∷ Blank ∷ (field_pieces field ++ LineEnd ∷ after)) all)

pub line_three : (field : FieldTree) (after : List Piece) → Closes after → Closes (field_line 3 field ++ after)
line_three field after closes =
    let all = field_loose field after closes.loose in
    rw (append_assoc (field_pieces field) (LineEnd ∷ []) after)
    (before_blank (Blank ∷ Blank ∷ Blank ∷ Blank ∷ Blank ∷ Blank ∷ Blank ∷ Blank ∷ Blank ∷ Blank ∷ Blank ∷ (field_pieces field ++ LineEnd ∷ after)) all)
