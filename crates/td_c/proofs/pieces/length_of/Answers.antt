use Rattle.std.proofs.Common.{rules, ◌≡◌, ℕ, zero, suc, ◌+◌, ◌<◌, List, [], ◌∷◌, length, take, get_or, ap, ◌∙◌, arith}
use Rattle.td_stream.specs.Layouts.{length_in}
use Rattle.td_foreign.specs.declared.pieces.TdPiece.{TdPiece}
use Rattle.td_foreign.specs.Pieces.{layout_of}
use Rattle.td_c.proofs.pieces.length_of.Goals as goal

-- the first k + 1 stretches have the bytes of the first k and those of stretch k
length_more : (l : List TdPiece) (k : ℕ) (d : TdPiece) → k < length l
    → length_in (layout_of (take (k + 1) l)) ≡ length_in (layout_of (take k l)) + (get_or l k d).size
length_more [] k d h = absurd (omega (arith, h))
length_more (s ∷ l) zero d h = omega arith
length_more (s ∷ l) (suc k) d h =
    let r = length_more l k d (omega (arith, h)) in
    let e : suc k + 1 ≡ suc (k + 1) = omega arith in
    ap (λ (n : ℕ). length_in (layout_of (take n (s ∷ l)))) e ∙ omega (arith, r)

pub loop-piece-preserved : goal.loop-piece-preserved
loop-piece-preserved c =
    let l = c.args.pieces.now in
    let i = c.loop-piece.piece-index in
    record {
      sum = omega (arith, c.loop-piece.invariant.sum, length_more l i c.piece-item.result c.loop-piece-test.true, ap (λ (p : TdPiece). p.size) c.piece-item.is);
      bound = search rules;
    }
