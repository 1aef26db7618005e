use Rattle.std.proofs.Common.{arith}
use Rattle.td_print_layout.specs.Actions.{statement_after}
use Rattle.td_print.proofs.Texts.{texts, text_more}
use Rattle.td_print.proofs.actions.write_after_blanks.Goals as goal

pub loop-statement-preserved : goal.loop-statement-preserved
loop-statement-preserved c =
    let more = text_more statement_after c.args.statements.now c.loop-statement.statement-index c.statement-item.result (omega arith) c.statement-item.is in
    grind (arith, texts, more)
