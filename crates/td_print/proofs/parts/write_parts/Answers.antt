use Rattle.std.proofs.Common.{[], ◌∷◌, refl, append_assoc}
use Rattle.td_print_layout.specs.Pieces.{LineEnd}
use Rattle.td_print_layout.specs.Definitions.{part_lines}
use Rattle.td_print.proofs.Tails.{tail_whole}
use Rattle.td_print.proofs.Texts.{parted_text}
use Rattle.td_print.proofs.parts.write_parts.Goals as goal

pub returns-in_ok-write_others-in-len1-up-clause-text : goal.returns-in_ok-write_others-in-len1-up-clause-text
returns-in_ok-write_others-in-len1-up-clause-text c =
    let whole = parted_text (LineEnd ∷ []) part_lines c.args.parts.now c.first-item.result c.in-len1-up.len_at_least c.first-item.is in
    simp (c.in_ok-write_others-in-len1-up.ensures {u = tt}, c.in_ok-write_part-in-len1-up.ensures {u = tt}, tail_whole 1 c.args.parts.now, whole, append_assoc) refl
