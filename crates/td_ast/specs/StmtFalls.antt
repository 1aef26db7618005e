-- Each block of a statement is smaller than the statement.
use Rattle.std.specs.Prelude.{◌≤◌, max}
use Rattle.std.proofs.Common.{arith}
use Rattle.td_ast.specs.declared.token.Span.{Span}
use Rattle.td_ast.specs.declared.actions.StmtKind.{StmtKind}
use Rattle.td_ast.specs.declared.actions.StmtKind.TheVariants as kinds
use Rattle.td_ast.specs.declared.actions.Block.TheDeep.{deep-StmtKind}
use Rattle.td_ast.specs.Statements.{statement_size}
use Rattle.td_ast.specs.StatementCode.{block_of_size}
use Rattle.td_ast.specs.StmtView.{statement_at}

pub blocks_smaller : (s : Span) (k : StmtKind) → max (deep-StmtKind k) 0 ≤ statement_size (statement_at s k)
blocks_smaller s (kinds.Store n r) = omega arith
blocks_smaller s (kinds.StoreField n f r) = omega arith
blocks_smaller s (kinds.Var n t p) = omega arith
blocks_smaller s (kinds.If e b) = omega (arith, block_of_size b)
blocks_smaller s (kinds.IfElse e b c) = omega (arith, block_of_size b, block_of_size c)
blocks_smaller s (kinds.Return e) = omega arith
blocks_smaller s kinds.Abort = omega arith
