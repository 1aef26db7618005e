-- Pieces that several constructs have (own rule).
use Rattle.std.specs.Prelude.{ℕ, zero, suc, List, [], ◌∷◌, ◌++◌, flat_map, Option, Some, None}
use Rattle.td_ast.specs.declared.token.TokenKind.TheVariants as kinds
use Rattle.td_ast.specs.declared.names.Name.{Name}
use Rattle.td_ast.specs.declared.names.Literal.{Literal}
use Rattle.td_ast.specs.declared.names.NumberTree.{NumberTree}
use Rattle.td_print_layout.specs.Pieces.{Piece, Word, Blank}

-- of a name that is never qualified: that of a definition, a local, a slot
abbrev pub name_piece : Name → Piece
name_piece name = Word (kinds.Name name.text)

abbrev pub literal_piece : Literal → Piece
literal_piece literal = Word (kinds.Number literal.value literal.base)

abbrev pub number_piece : NumberTree → Piece
number_piece type = Word (kinds.Int type.number)

-- a level of indentation is four blanks
abbrev pub indented : ℕ → List Piece → List Piece
indented zero pieces = pieces
indented (suc n) pieces = Blank ∷ Blank ∷ Blank ∷ Blank ∷ indented n pieces

-- with these pieces between two
abbrev pub parted_by : {A : Type 0} → List Piece → (A → List Piece) → List A → List Piece
parted_by between pieces [] = []
parted_by between pieces (x ∷ xs) = pieces x ++ flat_map (λ y. between ++ pieces y) xs

-- a comma and a blank
abbrev pub comma : List Piece
comma = Word kinds.Comma ∷ Blank ∷ []

-- `(a, b, c)`, or nothing where there is none
abbrev pub in_parentheses : {A : Type 0} → (A → List Piece) → List A → List Piece
in_parentheses pieces [] = []
in_parentheses pieces (x ∷ xs) = Word kinds.OpenParen ∷ (parted_by comma pieces (x ∷ xs) ++ Word kinds.CloseParen ∷ [])

-- a part that may be missing
abbrev pub optional : {A : Type 0} → (A → List Piece) → Option A → List Piece
optional pieces None = []
optional pieces (Some x) = pieces x
