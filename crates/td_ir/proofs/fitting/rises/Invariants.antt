use Rattle.std.proofs.Common.{ℕ, suc, ◌<◌, slice_index}
use Rattle.td_ir.proofs.fitting.rises.Given as goal

abbrev pub invariant-loop-j : goal.invariant-loop-j
invariant-loop-j l = (k : ℕ) → suc k < l.j → slice_index l.set k < slice_index l.set (suc k)
