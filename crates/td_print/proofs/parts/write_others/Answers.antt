use Rattle.std.proofs.Common.{[], ◌∷◌, ◌++◌, arith}
use Rattle.td_print_layout.specs.Pieces.{LineEnd}
use Rattle.td_print_layout.specs.Definitions.{part_lines}
use Rattle.td_print.proofs.Texts.{texts, text_more}
use Rattle.td_print.proofs.parts.write_others.Goals as goal

pub loop-part-preserved : goal.loop-part-preserved
loop-part-preserved c =
    let more = text_more (λ part. (LineEnd ∷ []) ++ part_lines part) c.args.others.now c.loop-part.part-index c.part-item.result (omega arith) c.part-item.is in
    grind (arith, texts, more)
