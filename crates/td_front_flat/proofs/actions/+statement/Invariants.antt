use Rattle.std.proofs.Common.{◌≡◌, ◌+◌, ◌*◌, ◌++◌, drop}
use Rattle.td_ast.specs.Statements.{statement_size, list_size}
use Rattle.td_front_flat.specs.Expressions.{flat_statements, scope_behind}
use Rattle.td_front_flat.proofs.actions.+statement.Given as goal

abbrev pub decreases-flat_statement : goal.decreases-flat_statement
decreases-flat_statement l = 3 * statement_size l.statement.now

abbrev pub decreases-flat_statements : goal.decreases-flat_statements
decreases-flat_statements l = 3 * list_size l.statements.now + 1

abbrev pub decreases-flat_block : goal.decreases-flat_block
decreases-flat_block l = 3 * list_size l.block.now + 2

abbrev pub invariant-flat_statements-loop-statement : goal.invariant-flat_statements-loop-statement
invariant-flat_statements-loop-statement l = record {
  flat : l.flat ++ flat_statements l.own l.params l.scope (drop l.statement-index l.statements) ≡ flat_statements l.own l.params l.fn.scope l.statements;
  scope : scope_behind l.scope (drop l.statement-index l.statements) ≡ scope_behind l.fn.scope l.statements;
}
