use Rattle.std.proofs.Common.{◌≡◌, take}
use Rattle.td_foreign.specs.Pieces.{layout_of}
use Rattle.td_c.proofs.pieces.stretches.Given as goal

abbrev pub invariant-loop-piece : goal.invariant-loop-piece
invariant-loop-piece l = l.list ≡ layout_of (take l.piece-index l.pieces)
