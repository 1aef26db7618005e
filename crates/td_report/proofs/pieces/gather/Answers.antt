use Rattle.std.proofs.Common.{◌++◌, List, [], ℕ, get_or, arith, sym, ap, ◌∙◌}
use Rattle.std.specs.Borrow.{Bor}
use Rattle.td_report.proofs.Composing.{each_more}
use Rattle.td_report.proofs.pieces.gather.Goals as goal

pub loop-piece-preserved : goal.loop-piece-preserved
loop-piece-preserved c =
    let text : Bor (List ℕ) → List ℕ = λ piece. piece.now in
    let empty : Bor (List ℕ) = record { ref_ptr = (0, 0); now = [] } in
    record {
      within = omega (arith, c.loop-piece.invariant.within, c.if-piece-room.false);
      line = c.put.ensures ∙ ap (λ (l : List ℕ). l ++ text (get_or c.args.pieces.now c.loop-piece.piece-index empty)) c.loop-piece.invariant.line ∙ sym (each_more text c.args.pieces.now c.loop-piece.piece-index empty c.loop-piece-test.true);
    }
