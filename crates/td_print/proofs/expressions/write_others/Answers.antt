use Rattle.std.proofs.Common.{◌++◌, arith}
use Rattle.td_print_layout.specs.Sequences.{comma}
use Rattle.td_print_layout.specs.Expressions.{expression_pieces}
use Rattle.td_print.proofs.Texts.{texts, text_more}
use Rattle.td_print.proofs.expressions.write_others.Goals as goal

pub loop-e-preserved : goal.loop-e-preserved
loop-e-preserved c =
    let more = text_more (λ e. comma ++ expression_pieces e) c.args.others.now c.loop-e.e-index c.e-item.result (omega arith) c.e-item.is in
    grind (arith, texts, more)
