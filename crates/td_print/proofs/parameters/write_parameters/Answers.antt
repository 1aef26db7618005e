use Rattle.std.proofs.Common.{refl, append_assoc}
use Rattle.td_print_layout.specs.Parameters.{parameter_pieces}
use Rattle.td_print.proofs.Tails.{tail_whole}
use Rattle.td_print.proofs.Texts.{parentheses_text}
use Rattle.td_print.proofs.parameters.write_parameters.Goals as goal

pub returns-in_ok-write-in-len1-up-2 : goal.returns-in_ok-write-in-len1-up-2
returns-in_ok-write-in-len1-up-2 c =
    let whole = parentheses_text parameter_pieces c.args.parameters.now c.first-item.result c.in-len1-up.len_at_least c.first-item.is in
    simp (c.in_ok-write-in-len1-up-2.ensures {u = tt}, c.in_ok-write_others-in-len1-up.ensures {u = tt}, c.in_ok-write_parameter-in-len1-up.ensures {u = tt}, c.in_ok-write-in-len1-up.ensures {u = tt}, tail_whole 1 c.args.parameters.now, whole, append_assoc) refl
