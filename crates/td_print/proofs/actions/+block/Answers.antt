use Rattle.std.proofs.Common.{arith}
use Rattle.td_print.proofs.Texts.{texts, block_more}
use Rattle.td_print.proofs.actions.+block.Goals as goal
use Rattle.td_ast.proofs.Sizes.{statement_below as below}

pub write_statements-write_statement-requires : goal.write_statements-write_statement-requires
write_statements-write_statement-requires t c =
    let small = below c.args.statements.now c.loop-statement.statement-index c.statement-item.result (omega arith) c.statement-item.is in
    (omega arith, tt)

pub write_statements-loop-statement-preserved : goal.write_statements-loop-statement-preserved
write_statements-loop-statement-preserved t c =
    let more = block_more c.args.statements.now c.loop-statement.statement-index c.statement-item.result (omega arith) c.statement-item.is in
    grind (arith, texts, more)
