use Rattle.std.proofs.Common.{[], ◌∷◌, refl, append_assoc}
use Rattle.td_print_layout.specs.Pieces.{LineEnd}
use Rattle.td_print_layout.specs.Definitions.{definition_pieces}
use Rattle.td_print.proofs.Tails.{tail_whole}
use Rattle.td_print.proofs.Texts.{parted_text}
use Rattle.td_print.proofs.definitions.write_definitions.Goals as goal

pub returns-in_ok-write_others-in-len1-up-clause-text : goal.returns-in_ok-write_others-in-len1-up-clause-text
returns-in_ok-write_others-in-len1-up-clause-text c =
    let whole = parted_text (LineEnd ∷ []) definition_pieces c.args.definitions.now c.first-item.result c.in-len1-up.len_at_least c.first-item.is in
    simp (c.in_ok-write_others-in-len1-up.ensures {u = tt}, c.in_ok-write_definition-in-len1-up.ensures {u = tt}, tail_whole 1 c.args.definitions.now, whole, append_assoc) refl
