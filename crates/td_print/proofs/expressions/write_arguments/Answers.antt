use Rattle.std.proofs.Common.{refl, append_assoc}
use Rattle.td_print_layout.specs.Expressions.{expression_pieces}
use Rattle.td_print.proofs.Tails.{tail_whole}
use Rattle.td_print.proofs.Texts.{parentheses_text}
use Rattle.td_print.proofs.expressions.write_arguments.Goals as goal

pub returns-in_ok-write-in-len1-up-2 : goal.returns-in_ok-write-in-len1-up-2
returns-in_ok-write-in-len1-up-2 c =
    let whole = parentheses_text expression_pieces c.args.arguments.now c.first-item.result c.in-len1-up.len_at_least c.first-item.is in
    simp (c.in_ok-write-in-len1-up-2.ensures {u = tt}, c.in_ok-write_others-in-len1-up.ensures {u = tt}, c.in_ok-write_expression-in-len1-up.ensures {u = tt}, c.in_ok-write-in-len1-up.ensures {u = tt}, tail_whole 1 c.args.arguments.now, whole, append_assoc) refl
