-- The pieces of a field, which stands on one line (own rule).
use Rattle.std.specs.Prelude.{ℕ, List, [], ◌∷◌, ◌++◌}
use Rattle.td_ast.specs.declared.token.TokenKind.TheVariants as kinds
use Rattle.td_ast.specs.declared.actions.ActionTree.{ActionTree}
use Rattle.td_ast.specs.declared.fields.TypeKind.{TypeKind}
use Rattle.td_ast.specs.declared.fields.TypeKind.TheVariants as types
use Rattle.td_ast.specs.declared.fields.ExtentTree.{ExtentTree}
use Rattle.td_ast.specs.declared.fields.ExtentTree.TheVariants as extents
use Rattle.td_ast.specs.declared.fields.FieldTree.{FieldTree}
use Rattle.td_ast.specs.Trees.{Tree}
use Rattle.td_print_layout.specs.Pieces.{Piece, Word, Blank, LineEnd}
use Rattle.td_print_layout.specs.Sequences.{name_piece, literal_piece, indented, in_parentheses, optional}
use Rattle.td_print_layout.specs.Names.{qualified_pieces}
use Rattle.td_print_layout.specs.Expressions.{expression_pieces}
use Rattle.td_print_layout.specs.Actions.{action_pieces}

-- a type, the arguments directly after its name: `A(x, y)`
abbrev pub type_pieces : TypeKind → List Piece
type_pieces (types.Number type) = Word (kinds.Int type) ∷ []
type_pieces types.Unit = Word kinds.Unit ∷ []
type_pieces types.AllBytes = Word kinds.AllBytes ∷ []
type_pieces types.AllZeros = Word kinds.AllZeros ∷ []
type_pieces (types.Named text arguments) = qualified_pieces text ++ in_parentheses expression_pieces arguments

-- `[e]`, `[:byte-size e]` and the like, ` : 4`, ` = e`, ` = *p`
abbrev pub extent_pieces : ExtentTree → List Piece
extent_pieces (extents.Bytes size) = Word kinds.OpenBracket ∷ (expression_pieces size ++ Word kinds.CloseBracket ∷ [])
extent_pieces (extents.ByteSize size) = Word kinds.ByteSize ∷ Blank ∷ (expression_pieces size ++ Word kinds.CloseBracket ∷ [])
extent_pieces (extents.SingleElement size) = Word kinds.SingleElement ∷ Blank ∷ (expression_pieces size ++ Word kinds.CloseBracket ∷ [])
extent_pieces (extents.Zeroterm size) = Word kinds.Zeroterm ∷ Blank ∷ (expression_pieces size ++ Word kinds.CloseBracket ∷ [])
extent_pieces (extents.Bits width) = Blank ∷ Word kinds.Colon ∷ Blank ∷ literal_piece width ∷ []
extent_pieces (extents.Given value) = Blank ∷ Word kinds.Assign ∷ Blank ∷ expression_pieces value
extent_pieces (extents.OfCell star cell) = Blank ∷ Word kinds.Assign ∷ Blank ∷ Word kinds.Star ∷ name_piece cell ∷ []

-- ` { e }`
abbrev pub refinement_pieces : Tree → List Piece
refinement_pieces condition = Blank ∷ Word kinds.OpenBrace ∷ Blank ∷ (expression_pieces condition ++ Blank ∷ Word kinds.CloseBrace ∷ [])

-- an action with a blank before it
abbrev pub action_after : ActionTree → List Piece
action_after action = Blank ∷ action_pieces action

-- `type name[e] : 4 { e } {:act s s};`
abbrev pub field_pieces : FieldTree → List Piece
field_pieces field =
    type_pieces field.type_tree.kind ++ Blank ∷ name_piece field.name ∷ (optional extent_pieces field.extent ++ (optional refinement_pieces field.refinement
    ++ (optional action_after field.action ++ Word kinds.Semicolon ∷ [])))

-- on a line of its own, so many levels deep
abbrev pub field_line : ℕ → FieldTree → List Piece
field_line deep field = indented deep (field_pieces field ++ LineEnd ∷ [])
