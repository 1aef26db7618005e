use Rattle.std.proofs.Common.{arith}
use Rattle.td_ast.proofs.Sizes.{statement_below}
use Rattle.td_front_flat.proofs.actions.+statement.Goals as goal

pub flat_statements-flat_statement-requires : goal.flat_statements-flat_statement-requires
flat_statements-flat_statement-requires t c =
    let small = statement_below c.args.statements.now c.loop-statement.statement-index c.statement-item.result (omega arith) c.statement-item.is in
    (omega arith, tt)
