use Rattle.std.proofs.Common.{arith}
use Rattle.td_elab_actions.proofs.Turns.{below}
use Rattle.td_elab_actions.proofs.ways.+ways.Goals as goal

pub block_ways-statement_ways-requires : goal.block_ways-statement_ways-requires
block_ways-statement_ways-requires t c =
    let small = below c.args.statements.now c.loop-statement.statement-index c.statement-item.result (omega arith) c.statement-item.is in
    (omega arith, tt)
