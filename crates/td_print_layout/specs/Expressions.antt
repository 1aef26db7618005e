-- The pieces of an expression (own rule). Parentheses stand only where the tree needs them: where an operand binds looser than its
-- place lets it.
use Rattle.std.specs.Prelude.{ℕ, nat_le, Bool, true, false, List, [], ◌∷◌, ◌++◌}
use Rattle.td_ast.specs.declared.token.TokenKind.{TokenKind}
use Rattle.td_ast.specs.declared.token.TokenKind.TheVariants as kinds
use Rattle.td_ast.specs.declared.expressions.SizeofOperand.{SizeofOperand}
use Rattle.td_ast.specs.declared.expressions.SizeofOperand.TheVariants as operands
use Rattle.td_ast.specs.Trees.{Tree, Number, Truth, Name, FieldPos, Sizeof, RangeOkay, Unary, Binary, Choice}
use Rattle.td_print_layout.specs.Pieces.{Piece, Word, Blank}
use Rattle.td_print_layout.specs.Operators.{unary_kind, binary_kind, level_of, left_of, right_of}
use Rattle.td_print_layout.specs.Names.{qualified_pieces}

-- how tightly a tree binds
abbrev pub tree_level : Tree → ℕ
tree_level (Number s n b) = 0
tree_level (Truth s b) = 0
tree_level (Name s n) = 0
tree_level (FieldPos s p) = 0
tree_level (Sizeof s w o p) = 0
tree_level (RangeOkay s a b c) = 0
tree_level (Unary s o p a) = 1
tree_level (Binary s o p a b) = level_of o
tree_level (Choice s p a b c) = 12

-- the pieces of a tree where it binds tightly enough, else in parentheses
abbrev pub in_group : Bool → List Piece → List Piece
in_group true pieces = pieces
in_group false pieces = Word kinds.OpenParen ∷ (pieces ++ Word kinds.CloseParen ∷ [])

-- the pieces of a tree at a place that takes this level or a tighter one
abbrev pub fitted : ℕ → Tree → List Piece → List Piece
fitted loosest tree pieces = in_group (nat_le (tree_level tree) loosest) pieces

abbrev pub truth_kind : Bool → TokenKind
truth_kind true = kinds.True
truth_kind false = kinds.False

abbrev pub operand_pieces : SizeofOperand → List Piece
operand_pieces (operands.Number type) = Word (kinds.Int type) ∷ []
operand_pieces (operands.Name text) = qualified_pieces text
operand_pieces operands.This = Word kinds.This ∷ []

-- Binary operators, `?` and `:` have a blank on both sides, unary ones none; a comma has one after it.
abbrev pub expression_pieces : Tree → List Piece
expression_pieces (Number s n b) = Word (kinds.Number n b) ∷ []
expression_pieces (Truth s b) = Word (truth_kind b) ∷ []
expression_pieces (Name s n) = qualified_pieces n.text
expression_pieces (FieldPos s p) = Word kinds.FieldPos ∷ []
expression_pieces (Sizeof s w o p) = Word kinds.Sizeof ∷ Word kinds.OpenParen ∷ (operand_pieces o ++ Word kinds.CloseParen ∷ [])
expression_pieces (RangeOkay s a b c) =
    Word kinds.IsRangeOkay ∷ Word kinds.OpenParen ∷ (expression_pieces a ++ Word kinds.Comma ∷ Blank ∷ (expression_pieces b
    ++ Word kinds.Comma ∷ Blank ∷ (expression_pieces c ++ Word kinds.CloseParen ∷ [])))
expression_pieces (Unary s o p a) = Word (unary_kind o) ∷ fitted 1 a (expression_pieces a)
expression_pieces (Binary s o p a b) =
    fitted (left_of o) a (expression_pieces a) ++ Blank ∷ Word (binary_kind o) ∷ Blank ∷ fitted (right_of o) b (expression_pieces b)
expression_pieces (Choice s p a b c) =
    fitted 11 a (expression_pieces a) ++ Blank ∷ Word kinds.Question ∷ Blank ∷ (expression_pieces b
    ++ Blank ∷ Word kinds.Colon ∷ Blank ∷ expression_pieces c)
