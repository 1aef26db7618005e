use Rattle.std.proofs.Common.{◌≡◌, length}
use Rattle.td_c_chain.specs.Told.{piece_told}
use Rattle.td_c_chain.proofs.Written.{AreWritten}
use Rattle.td_c_chain.proofs.rows.put_pieces.Given as goal

-- the first i rows are written
abbrev pub invariant-loop-i : goal.invariant-loop-i
invariant-loop-i l = record {
  size : length l.rows ≡ length l.fn.rows;
  written : AreWritten piece_told l.pieces l.i l.fn.rows l.rows;
}
