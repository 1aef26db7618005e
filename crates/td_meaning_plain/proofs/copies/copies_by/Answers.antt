use Rattle.std.proofs.Common.{◌+◌, ◌*◌, ◌++◌, ◌∷◌, [], drop, sym, ap, ◌∙◌, append_assoc, arith}
use Rattle.std.proofs.lemmas.List.{append-nil}
use Rattle.td_core.specs.Outcome.{copies_by}
use Rattle.td_meaning_plain.proofs.Copied.{copies_next, copies_end}
use Rattle.td_meaning_plain.proofs.copies.copies_by.Goals as goal

pub loop-k-preserved : goal.loop-k-preserved
loop-k-preserved c =
    let b = c.args.message.now in
    let cells = c.args.cells.now in
    let k = c.loop-k.k in
    record {
      shown = ap (λ xs. xs ++ copies_by b (drop (2 * (k + 1)) cells)) c.in_ok-push.ensures.ok
          ∙ append_assoc c.loop-k.copies (c.in_ok-bytes_from.field-0 ∷ []) (copies_by b (drop (2 * (k + 1)) cells))
          ∙ ap (λ x. c.loop-k.copies ++ x ∷ copies_by b (drop (2 * (k + 1)) cells)) c.in_ok-bytes_from.ensures.ok
          ∙ sym (ap (λ xs. c.loop-k.copies ++ xs) (copies_next b cells k (omega (arith, c.loop-k-test.true, c.loop-k.invariant.few))))
          ∙ c.loop-k.invariant.shown;
      few = c.loop-k.invariant.few;
    }

pub returns-clause-ok : goal.returns-clause-ok
returns-clause-ok c =
    let b = c.args.message.now in
    let cells = c.args.cells.now in
    sym (append-nil c.loop-k.copies)
    ∙ sym (ap (λ xs. c.loop-k.copies ++ xs) (copies_end b cells c.loop-k.k (omega (arith, c.loop-k-test.false, c.loop-k.invariant.few))))
    ∙ c.loop-k.invariant.shown
