use Rattle.std.proofs.Common.{ℕ, ◌<◌, slice_index}
use Rattle.td_verify.specs.Operands.{IsBufferOf}
use Rattle.td_verify.proofs.operands.are_given.Given as goal

abbrev pub invariant-loop-j : goal.invariant-loop-j
invariant-loop-j l = (i : ℕ) → i < l.j → IsBufferOf l.callers (slice_index l.numbers i) (slice_index l.callees i)
