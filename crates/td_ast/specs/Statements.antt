-- Statements as contracts see them (own rule). `StmtKind` in src/actions.rt says what each variant is.
use Rattle.std.specs.Prelude.{ℕ, ◌+◌, List, [], ◌∷◌}
use Rattle.td_ast.specs.declared.token.Span.{Span}
use Rattle.td_ast.specs.declared.names.Name.{Name}
use Rattle.td_ast.specs.declared.actions.Assigned.{Assigned}
use Rattle.td_ast.specs.Trees.{Tree}

-- The span of each is the statement's own. A block inside a statement is `Statements`; everywhere else it is a list.
mutual
  pub data Statement : Type 0 where
    Store : Span → Name → Assigned → Statement
    StoreField : Span → Name → Name → Assigned → Statement
    Var : Span → Name → Span → Name → Statement
    If : Span → Tree → Statements → Statement
    IfElse : Span → Tree → Statements → Statements → Statement
    Return : Span → Tree → Statement
    Abort : Span → Statement

  pub data Statements : Type 0 where
    End : Statements
    More : Statement → Statements → Statements

-- The block of these statements
abbrev pub block_of : List Statement → Statements
block_of [] = End
block_of (x ∷ xs) = More x (block_of xs)

-- How many statements and blocks it has, itself included.
abbrev mutual
  pub statement_size : Statement → ℕ
  statement_size (Store s n r) = 1
  statement_size (StoreField s n f r) = 1
  statement_size (Var s n t p) = 1
  statement_size (If s e b) = block_size b + 1
  statement_size (IfElse s e b c) = block_size b + block_size c + 1
  statement_size (Return s e) = 1
  statement_size (Abort s) = 1

  pub block_size : Statements → ℕ
  block_size End = 1
  block_size (More x xs) = statement_size x + block_size xs + 1

-- The size of the block of these statements.
abbrev pub list_size : List Statement → ℕ
list_size [] = 1
list_size (x ∷ xs) = statement_size x + list_size xs + 1
