use Rattle.std.proofs.Common.{sym, ap, ◌∙◌, ◌+◌, drop, arith}
use Rattle.td_names.specs.Names.{with_name}
use Rattle.td_elab_rules.specs.Definitions.{with_names}
use Rattle.td_elab.proofs.definitions.see_names.Goals as goal
use Rattle.td_num.proofs.Lists.{drop_next as split}

pub loop-text-preserved : goal.loop-text-preserved
loop-text-preserved c =
    let l = c.loop-text in
    let x = c.text-item.result in
    let texts = c.as_slice-text-items.result.now in
    let rest = drop (l.text-index + 1) texts in
    ap (λ n. with_names n rest) c.in_ok-see.ensures.ok
    ∙ ap (λ t. with_names (with_name l.names t) rest) c.as_slice.ensures
    ∙ ap (λ r. with_names l.names r) (sym (split texts l.text-index x (omega arith) c.text-item.is))
    ∙ l.invariant
