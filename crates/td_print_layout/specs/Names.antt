-- The pieces of a name that may be qualified (own rule). A qualified name is one text in the tree, and three tokens in the text.
use Rattle.std.specs.Prelude.{ℕ, List, [], ◌∷◌, Option, Some, None, if◌then◌else◌}
use Rattle.td_num.specs.Text.{is_dot}
use Rattle.td_ast.specs.declared.token.TokenKind.TheVariants as kinds
use Rattle.td_ast.specs.declared.names.ConstTree.{ConstTree}
use Rattle.td_ast.specs.declared.names.ConstTree.TheVariants as constants
use Rattle.td_ast.specs.declared.names.PlainTree.{PlainTree}
use Rattle.td_ast.specs.declared.names.PlainTree.TheVariants as plains
use Rattle.td_print_layout.specs.Pieces.{Piece, Word}
use Rattle.td_print_layout.specs.Sequences.{literal_piece, number_piece, optional}

-- what stands before the first dot, all where there is none
abbrev pub before_dot : List ℕ → List ℕ
before_dot [] = []
before_dot (b ∷ text) = if is_dot b then [] else b ∷ before_dot text

-- what stands after the first dot
abbrev pub after_dot : List ℕ → Option (List ℕ)
after_dot [] = None
after_dot (b ∷ text) = if is_dot b then Some text else after_dot text

-- `.x`
abbrev pub dotted_pieces : List ℕ → List Piece
dotted_pieces text = Word kinds.Dot ∷ Word (kinds.Name text) ∷ []

-- `x`, or `B.x` where the text has a dot
abbrev pub qualified_pieces : List ℕ → List Piece
qualified_pieces text = Word (kinds.Name (before_dot text)) ∷ optional dotted_pieces (after_dot text)

abbrev pub constant_pieces : ConstTree → List Piece
constant_pieces (constants.Number literal) = literal_piece literal ∷ []
constant_pieces (constants.Named name) = qualified_pieces name.text

abbrev pub plain_pieces : PlainTree → List Piece
plain_pieces (plains.Number type) = number_piece type ∷ []
plain_pieces (plains.Named name) = qualified_pieces name.text
