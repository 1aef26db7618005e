use Rattle.std.proofs.Common.{refl, append_assoc}
use Rattle.td_print.proofs.Tails.{tail_whole}
use Rattle.td_print.proofs.Texts.{item_lines_text}
use Rattle.td_print.proofs.definitions.write_items.Goals as goal

pub returns-in_ok-write-in-len1-up-2 : goal.returns-in_ok-write-in-len1-up-2
returns-in_ok-write-in-len1-up-2 c =
    let whole = item_lines_text c.args.items.now c.first-item.result c.in-len1-up.len_at_least c.first-item.is in
    simp (c.in_ok-write-in-len1-up-2.ensures {u = tt}, c.in_ok-write_other_items-in-len1-up.ensures {u = tt}, c.in_ok-write_item-in-len1-up.ensures {u = tt}, c.in_ok-write-in-len1-up.ensures {u = tt}, tail_whole 1 c.args.items.now, whole, append_assoc) refl
