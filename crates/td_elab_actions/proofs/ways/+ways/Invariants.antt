use Rattle.std.proofs.Common.{◌≡◌, ◌+◌, ◌*◌, drop}
use Rattle.td_ast.specs.Statements.{statement_size, list_size, block_of}
use Rattle.td_elab_rules.specs.Actions.{open_way, block_ways}
use Rattle.td_elab_actions.proofs.ways.+ways.Given as goal

abbrev pub decreases-statement_ways : goal.decreases-statement_ways
decreases-statement_ways l = 2 * statement_size l.statement.now

abbrev pub decreases-block_ways : goal.decreases-block_ways
decreases-block_ways l = 2 * list_size l.statements.now + 1

-- what is left of the statements decides
abbrev pub invariant-block_ways-loop-statement : goal.invariant-block_ways-loop-statement
invariant-block_ways-loop-statement l = block_ways l.ways (block_of (drop l.statement-index l.statements)) ≡ block_ways open_way (block_of l.statements)
