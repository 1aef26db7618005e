use Rattle.std.proofs.Common.{ℕ, ◌+◌, ◌*◌, ◌<◌, ◌≤◌, get_or}
use Rattle.td_foreign.specs.declared.pieces.TdPiece.{TdPiece}
use Rattle.td_c.proofs.pieces.are_whole.Given as goal

abbrev pub invariant-loop-piece : goal.invariant-loop-piece
invariant-loop-piece l = (k : ℕ) → k < l.piece-index → (d : TdPiece)
    → (get_or l.pieces k d).place + (get_or l.pieces k d).size ≤ 8 * (get_or l.pieces k d).words.count
