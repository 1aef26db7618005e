-- A statement as contracts see it.
use Rattle.td_ast.specs.declared.token.Span.{Span}
use Rattle.td_ast.specs.declared.actions.StmtKind.{StmtKind}
use Rattle.td_ast.specs.declared.actions.StmtKind.TheVariants as kinds
use Rattle.td_ast.specs.Statements.{Statement, Store, StoreField, Var, If, IfElse, Return, Abort, block_of}

abbrev pub statement_at : Span → StmtKind → Statement
statement_at s (kinds.Store n r) = Store s n r
statement_at s (kinds.StoreField n f r) = StoreField s n f r
statement_at s (kinds.Var n t p) = Var s n t p
statement_at s (kinds.If e b) = If s e (block_of b)
statement_at s (kinds.IfElse e b c) = IfElse s e (block_of b) (block_of c)
statement_at s (kinds.Return e) = Return s e
statement_at s kinds.Abort = Abort s
