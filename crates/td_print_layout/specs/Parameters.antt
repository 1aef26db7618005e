-- The pieces of what stands between the first name of a struct or casetype and its body (own rule).
use Rattle.std.specs.Prelude.{List, [], ◌∷◌, ◌++◌}
use Rattle.td_num.specs.declared.number.Width.TheVariants.{One}
use Rattle.td_num.specs.declared.number.ByteOrder.TheVariants.{LittleEndian}
use Rattle.td_ast.specs.declared.token.TokenKind.TheVariants as kinds
use Rattle.td_ast.specs.declared.names.ConstTree.{ConstTree}
use Rattle.td_ast.specs.declared.parameters.TargetTree.{TargetTree}
use Rattle.td_ast.specs.declared.parameters.TargetTree.TheVariants as targets
use Rattle.td_ast.specs.declared.parameters.ParamTree.{ParamTree}
use Rattle.td_ast.specs.declared.parameters.ParamTree.TheVariants as params
use Rattle.td_ast.specs.declared.parameters.HeadTree.{HeadTree}
use Rattle.td_ast.specs.Trees.{Tree}
use Rattle.td_print_layout.specs.Pieces.{Piece, Word, Blank}
use Rattle.td_print_layout.specs.Sequences.{name_piece, number_piece, in_parentheses, optional}
use Rattle.td_print_layout.specs.Names.{qualified_pieces, constant_pieces, plain_pieces}
use Rattle.td_print_layout.specs.Expressions.{expression_pieces}

abbrev pub target_pieces : TargetTree → List Piece
target_pieces (targets.Number type) = number_piece type ∷ []
target_pieces (targets.Pointer span) = Word kinds.Pointer ∷ []
target_pieces (targets.Named name) = qualified_pieces name.text

-- `UINT8`
abbrev pub byte_piece : Piece
byte_piece = Word (kinds.Int (record { width = One; order = LittleEndian }))

-- `[8]`
abbrev pub room_pieces : ConstTree → List Piece
room_pieces room = Word kinds.OpenBracket ∷ (constant_pieces room ++ Word kinds.CloseBracket ∷ [])

-- `UINT32 a`, `mutable O *r` or `mutable UINT8 *b[8]`
abbrev pub parameter_pieces : ParamTree → List Piece
parameter_pieces (params.Value type name) = plain_pieces type ++ Blank ∷ name_piece name ∷ []
parameter_pieces (params.Mutable target name) = Word kinds.Mutable ∷ Blank ∷ (target_pieces target ++ Blank ∷ Word kinds.Star ∷ name_piece name ∷ [])
parameter_pieces (params.Bytes name room) = Word kinds.Mutable ∷ Blank ∷ byte_piece ∷ Blank ∷ Word kinds.Star ∷ name_piece name ∷ room_pieces room

-- ` where e`
abbrev pub condition_pieces : Tree → List Piece
condition_pieces condition = Blank ∷ Word kinds.Where ∷ Blank ∷ expression_pieces condition

-- the parameters directly after the name, then the condition
abbrev pub head_pieces : HeadTree → List Piece
head_pieces head = in_parentheses parameter_pieces head.params ++ optional condition_pieces head.condition
