use Rattle.std.proofs.Common.{◌≡◌, ◌+◌, ◌*◌, ◌++◌, drop, flat_map}
use Rattle.td_ast.specs.Statements.{statement_size, list_size}
use Rattle.td_front_flat.specs.Uses.{statement_uses}
use Rattle.td_front_flat.proofs.uses.+block.Given as goal

abbrev pub decreases-add_statement : goal.decreases-add_statement
decreases-add_statement l = 3 * statement_size l.statement.now

abbrev pub decreases-add_statements : goal.decreases-add_statements
decreases-add_statements l = 3 * list_size l.statements.now + 1

abbrev pub decreases-add_block : goal.decreases-add_block
decreases-add_block l = 3 * list_size l.block.now + 2

abbrev pub invariant-add_statements-loop-statement : goal.invariant-add_statements-loop-statement
invariant-add_statements-loop-statement l = l.uses ++ flat_map statement_uses (drop l.statement-index l.statements) ≡ l.fn.uses ++ flat_map statement_uses l.statements
