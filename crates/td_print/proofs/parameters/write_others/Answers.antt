use Rattle.std.proofs.Common.{◌++◌, arith}
use Rattle.td_print_layout.specs.Sequences.{comma}
use Rattle.td_print_layout.specs.Parameters.{parameter_pieces}
use Rattle.td_print.proofs.Texts.{texts, text_more}
use Rattle.td_print.proofs.parameters.write_others.Goals as goal

pub loop-parameter-preserved : goal.loop-parameter-preserved
loop-parameter-preserved c =
    let more = text_more (λ parameter. comma ++ parameter_pieces parameter) c.args.others.now c.loop-parameter.parameter-index c.parameter-item.result (omega arith) c.parameter-item.is in
    grind (arith, texts, more)
