-- The pieces of statements and actions (own rule). All of an action stands on its field's line.
use Rattle.std.specs.Prelude.{List, [], ◌∷◌, ◌++◌, flat_map}
use Rattle.td_ast.specs.declared.token.TokenKind.{TokenKind}
use Rattle.td_ast.specs.declared.token.TokenKind.TheVariants as kinds
use Rattle.td_ast.specs.declared.actions.Assigned.{Assigned}
use Rattle.td_ast.specs.declared.actions.Assigned.TheVariants.{Value, FieldPtr}
use Rattle.td_ast.specs.declared.actions.ActionKind.{ActionKind}
use Rattle.td_ast.specs.declared.actions.ActionKind.TheVariants as actions
use Rattle.td_ast.specs.declared.actions.ActionTree.{ActionTree}
use Rattle.td_ast.specs.declared.actions.ActionTree.TheVariants.{Done, Copied}
use Rattle.td_ast.specs.Statements.{Statement, Statements, Store, StoreField, Var, If, IfElse, Return, Abort, End, More}
use Rattle.td_print_layout.specs.Pieces.{Piece, Word, Blank}
use Rattle.td_print_layout.specs.Sequences.{name_piece}
use Rattle.td_print_layout.specs.Expressions.{expression_pieces}

abbrev pub assigned_pieces : Assigned → List Piece
assigned_pieces (Value value) = expression_pieces value
assigned_pieces (FieldPtr span) = Word kinds.FieldPtr ∷ []

-- `{ s s }` of statements that have a blank after each, and `{ }` of none
abbrev pub in_braces : List Piece → List Piece
in_braces pieces = Word kinds.OpenBrace ∷ Blank ∷ (pieces ++ Word kinds.CloseBrace ∷ [])

abbrev mutual
  -- `*p = e;`, `p->f = e;`, `var x = *p;`, `if (e) { s }`, `if (e) { s } else { s }`, `return e;` or `abort;`
  pub statement_pieces : Statement → List Piece
  statement_pieces (Store s cell value) =
      Word kinds.Star ∷ name_piece cell ∷ Blank ∷ Word kinds.Assign ∷ Blank ∷ (assigned_pieces value ++ Word kinds.Semicolon ∷ [])
  statement_pieces (StoreField s cell field value) =
      name_piece cell ∷ Word kinds.Arrow ∷ name_piece field ∷ Blank ∷ Word kinds.Assign ∷ Blank ∷ (assigned_pieces value ++ Word kinds.Semicolon ∷ [])
  statement_pieces (Var s local star cell) =
      Word kinds.Var ∷ Blank ∷ name_piece local ∷ Blank ∷ Word kinds.Assign ∷ Blank ∷ Word kinds.Star ∷ name_piece cell ∷ Word kinds.Semicolon ∷ []
  statement_pieces (If s condition block) =
      Word kinds.If ∷ Blank ∷ Word kinds.OpenParen ∷ (expression_pieces condition ++ Word kinds.CloseParen ∷ Blank ∷ in_braces (block_pieces block))
  statement_pieces (IfElse s condition block other) =
      Word kinds.If ∷ Blank ∷ Word kinds.OpenParen ∷ (expression_pieces condition ++ Word kinds.CloseParen ∷ Blank ∷ (in_braces (block_pieces block)
      ++ Blank ∷ Word kinds.Else ∷ Blank ∷ in_braces (block_pieces other)))
  statement_pieces (Return s value) = Word kinds.Return ∷ Blank ∷ (expression_pieces value ++ Word kinds.Semicolon ∷ [])
  statement_pieces (Abort s) = Word kinds.Abort ∷ Word kinds.Semicolon ∷ []

  -- each statement with a blank after it
  pub block_pieces : Statements → List Piece
  block_pieces End = []
  block_pieces (More statement others) = statement_pieces statement ++ Blank ∷ block_pieces others

abbrev pub action_kind : ActionKind → TokenKind
action_kind actions.Act = kinds.Act
action_kind actions.Check = kinds.Check
action_kind actions.OnSuccess = kinds.OnSuccess

-- with a blank before it
abbrev pub statement_after : Statement → List Piece
statement_after statement = Blank ∷ statement_pieces statement

-- `{:act s s}`, and `{:act}` where there are no statements; `{:copy b}`
abbrev pub action_pieces : ActionTree → List Piece
action_pieces (Done kind span statements) = Word (action_kind kind) ∷ (flat_map statement_after statements ++ Word kinds.CloseBrace ∷ [])
action_pieces (Copied span name) = Word kinds.Copy ∷ Blank ∷ name_piece name ∷ Word kinds.CloseBrace ∷ []
