use Rattle.std.proofs.Common.{◌≡◌, ◌≤◌, ◌*◌, take}
use Rattle.td_stream.specs.Layouts.{length_in}
use Rattle.td_foreign.specs.Pieces.{layout_of}
use Rattle.td_c.proofs.pieces.length_of.Given as goal

abbrev pub invariant-loop-piece : goal.invariant-loop-piece
invariant-loop-piece l = record {
  sum : l.sum ≡ length_in (layout_of (take l.piece-index l.pieces));
  bound : l.sum ≤ 4294967296 * l.piece-index;
}
