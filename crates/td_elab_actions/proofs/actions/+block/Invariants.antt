use Rattle.std.proofs.Common.{◌≡◌, ◌+◌, ◌*◌, ◌++◌, drop}
use Rattle.td_ast.specs.Statements.{statement_size, list_size, block_of}
use Rattle.td_elab_rules.specs.Breach.{first_of}
use Rattle.td_elab_rules.specs.Actions.{block_breaches, block_vars}
use Rattle.td_elab_actions.specs.Pieces.{pieces_of, block_scope}
use Rattle.td_elab_actions.proofs.actions.+block.Given as goal

abbrev pub decreases-piece : goal.decreases-piece
decreases-piece l = 5 * statement_size l.statement.now

abbrev pub decreases-if_piece : goal.decreases-if_piece
decreases-if_piece l = 5 * list_size l.one.now + 3

abbrev pub decreases-if_else_piece : goal.decreases-if_else_piece
decreases-if_else_piece l = 5 * (list_size l.one.now + list_size l.other.now) + 4

abbrev pub decreases-branches : goal.decreases-branches
decreases-branches l = 5 * (list_size l.one.now + list_size l.other.now) + 3

abbrev pub decreases-pieces : goal.decreases-pieces
decreases-pieces l = 5 * list_size l.statements.now + 1

abbrev pub decreases-block : goal.decreases-block
decreases-block l = 5 * list_size l.block.now + 2

-- what is left of the statements decides
abbrev pub invariant-pieces-loop-statement : goal.invariant-pieces-loop-statement
invariant-pieces-loop-statement l =
    let rest = block_of (drop l.statement-index l.statements) in
    let all = block_of l.statements in
    record {
      core : l.pieces.items ++ pieces_of l.known l.bindings.scope rest ≡ pieces_of l.known l.fn.bindings.scope all;
      first : first_of l.findings.first (block_breaches l.known l.bindings.taken l.bindings.scope rest) ≡ first_of l.fn.findings.first (block_breaches l.known l.fn.bindings.taken l.fn.bindings.scope all);
      taken : block_vars l.bindings.taken rest ≡ block_vars l.fn.bindings.taken all;
      scope : block_scope l.known l.bindings.scope rest ≡ block_scope l.known l.fn.bindings.scope all;
    }
