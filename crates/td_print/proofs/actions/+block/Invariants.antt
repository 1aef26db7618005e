use Rattle.std.proofs.Common.{◌≡◌, ◌++◌, ◌+◌, ◌*◌, take}
use Rattle.td_ast.specs.Statements.{statement_size, list_size, block_of}
use Rattle.td_print_layout.specs.Pieces.{text_of}
use Rattle.td_print_layout.specs.Actions.{block_pieces}
use Rattle.td_print.proofs.actions.+block.Given as goal

abbrev pub decreases-write_statement : goal.decreases-write_statement
decreases-write_statement l = 3 * statement_size l.statement.now

abbrev pub decreases-write_statements : goal.decreases-write_statements
decreases-write_statements l = 3 * list_size l.statements.now + 1

abbrev pub decreases-write_braced : goal.decreases-write_braced
decreases-write_braced l = 3 * list_size l.block.now + 2

abbrev pub invariant-write_statements-loop-statement : goal.invariant-write_statements-loop-statement
invariant-write_statements-loop-statement l = l.out ≡ l.fn.out ++ text_of (block_pieces (block_of (take l.statement-index l.statements)))
