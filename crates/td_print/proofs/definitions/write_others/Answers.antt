use Rattle.std.proofs.Common.{[], ◌∷◌, ◌++◌, arith}
use Rattle.td_print_layout.specs.Pieces.{LineEnd}
use Rattle.td_print_layout.specs.Definitions.{definition_pieces}
use Rattle.td_print.proofs.Texts.{texts, text_more}
use Rattle.td_print.proofs.definitions.write_others.Goals as goal

pub loop-definition-preserved : goal.loop-definition-preserved
loop-definition-preserved c =
    let more = text_more (λ definition. (LineEnd ∷ []) ++ definition_pieces definition) c.args.others.now c.loop-definition.definition-index c.definition-item.result (omega arith) c.definition-item.is in
    grind (arith, texts, more)
