use Rattle.std.proofs.Common.{◌≡◌, length}
use Rattle.td_c_chain.specs.Told.{load_told}
use Rattle.td_c_chain.proofs.Written.{AreWritten}
use Rattle.td_c_chain.proofs.rows.put_loads.Given as goal

-- the first i rows are written
abbrev pub invariant-loop-i : goal.invariant-loop-i
invariant-loop-i l = record {
  size : length l.rows ≡ length l.fn.rows;
  written : AreWritten load_told l.loads l.i l.fn.rows l.rows;
}
