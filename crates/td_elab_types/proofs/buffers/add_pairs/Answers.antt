use Rattle.std.proofs.Common.{sym, ap, ◌∙◌, ◌+◌, ◌*◌, [], ◌∷◌, ◌++◌, drop, get_or, append_assoc, arith}
use Rattle.std.proofs.lemmas.List.{append-nil, drop_more}
use Rattle.td_elab_rules.specs.Types.{buffer_cells}
use Rattle.td_elab_types.proofs.buffers.add_pairs.Goals as goal
use Rattle.td_num.proofs.Truths.{all_dropped as done}

pub loop-buffer-preserved : goal.loop-buffer-preserved
loop-buffer-preserved c =
    let l = c.loop-buffer in
    let buffers = c.args.buffers.now in
    let count = c.args.count in
    let first = count + 2 * get_or buffers l.buffer-index 0 in
    let later = buffer_cells count (drop (l.buffer-index + 1) buffers) in
    ap (λ t. t ++ later) c.in_ok-add_pair.ensures
    ∙ ap (λ x. ((l.cells ++ x ∷ []) ++ (x + 1) ∷ []) ++ later) c.in_ok-cell.ensures.cell.0
    ∙ append_assoc (l.cells ++ first ∷ []) ((first + 1) ∷ []) later
    ∙ append_assoc l.cells (first ∷ []) ((first + 1) ∷ later)
    ∙ ap (λ q. l.cells ++ buffer_cells count q) (sym (drop_more buffers l.buffer-index 0 c.loop-buffer-test.true))
    ∙ l.invariant

pub returns-clause-cells : goal.returns-clause-cells
returns-clause-cells c =
    let l = c.loop-buffer in
    sym (append-nil l.cells)
    ∙ ap (λ q. l.cells ++ buffer_cells c.args.count q) (sym (done c.args.buffers.now l.buffer-index (omega arith)))
    ∙ l.invariant
