-- What is written, for the clauses of the functions that write them.
use Rattle.std.specs.Prelude.{ℕ, ◌<◌, List, [], ◌∷◌, length}
use Rattle.td_ast.specs.declared.token.TokenKind.TheVariants.{Comma}
use Rattle.td_ast.specs.declared.definitions.ItemTree.{ItemTree}
use Rattle.td_ast.specs.declared.parts.InputTree.{InputTree}
use Rattle.td_ast.specs.declared.parts.InputTree.TheVariants.{Module, Parts}
use Rattle.td_print_layout.specs.Pieces.{Piece, Word, Blank, LineEnd, spelling}
use Rattle.td_print_layout.specs.Sequences.{indented}
use Rattle.td_print_layout.specs.Definitions.{item_pieces}

-- the text of one piece
abbrev pub piece_text : Piece → List ℕ
piece_text (Word kind) = spelling kind
piece_text Blank = 32 ∷ []
piece_text LineEnd = 10 ∷ []

-- an item of an enum on a line of its own, after a comma
abbrev pub after_comma : ItemTree → List Piece
after_comma item = Word Comma ∷ LineEnd ∷ indented 1 (item_pieces item)

-- there is something to write: a definition, or a part
abbrev pub HasLines : InputTree → Type 0
HasLines (Module tree) = 0 < length tree.definitions
HasLines (Parts parts) = 0 < length parts
