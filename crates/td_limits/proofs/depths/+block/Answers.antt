use Rattle.std.proofs.Common.{◌∙◌, ap, sym, map, List, arith}
use Rattle.td_ast.specs.Statements.{Statement}
use Rattle.td_ast.proofs.Sizes.{statement_below}
use Rattle.td_limits.specs.Excesses.{greatest}
use Rattle.td_limits.specs.Depths.{statement_depth}
use Rattle.td_limits.proofs.Folds.{greatest_more, block_greatest}
use Rattle.td_limits.proofs.depths.+block.Goals as goal

pub statements_depth-statement_depth-requires : goal.statements_depth-statement_depth-requires
statements_depth-statement_depth-requires t c =
    let small = statement_below c.args.statements.now c.loop-statement.statement-index c.statement-item.result (omega arith) c.statement-item.is in
    (omega arith, tt)

pub statements_depth-loop-statement-preserved : goal.statements_depth-loop-statement-preserved
statements_depth-loop-statement-preserved t c =
    let more = greatest_more (statement_depth c.args.known.now) c.args.statements.now c.loop-statement.statement-index c.statement-item.result (omega arith) c.statement-item.is in
    omega arith

pub block_depth-returns : goal.block_depth-returns
block_depth-returns t c =
    c.statements_depth.ensures ∙ ap (λ (l : List Statement). greatest (map (statement_depth c.args.known.now) l)) c.as_slice.ensures ∙ sym (block_greatest c.args.known.now c.args.block.now)
